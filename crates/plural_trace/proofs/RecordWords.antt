-- The words of an entry tell the entry.
use Rattle.std.proofs.Common.{◌≡◌, ◌+◌, ◌-◌, ◌*◌, ◌/◌, ◌%◌, ◌^◌, ◌<◌, false, eqb, refl, arith}
use Rattle.std.proofs.lemmas.Bool.{ne_eqb}
use Rattle.plural_core.specs.Ends.{IsEnd}
use Rattle.plural_core.specs.declared.end.End.{End}
use Rattle.plural_core.specs.declared.end.End.TheVariants as end
use Rattle.plural_trace.specs.RecordWords.{end_word, end_of_word, RecordRoundTrip}

end_back : (x : End) → IsEnd x → end_of_word (end_word x) ≡ x
end_back end.Code0 h = refl
end_back end.Code1 h = refl
end_back end.Exhausted h = refl
end_back (end.Trap cause pc) h =
    let w = cause * 2 ^ 32 + pc in
    let a = h.0 in
    let b = h.2 in
    let n0 : eqb w 0 ≡ false = ne_eqb w 0 (λ e. omega arith) in
    let n1 : eqb w 1 ≡ false = ne_eqb w 1 (λ e. omega arith) in
    let n2 : eqb w 2 ≡ false = ne_eqb w 2 (λ e. omega arith) in
    let c : w / 2 ^ 32 ≡ cause = omega arith in
    let p : w % 2 ^ 32 ≡ pc = omega arith in
    rw (n0, n1, n2) (λ i. end.Trap (c i) (p i))

end_small : (x : End) → IsEnd x → end_word x < 2 ^ 64
end_small end.Code0 h = omega arith
end_small end.Code1 h = omega arith
end_small end.Exhausted h = omega arith
end_small (end.Trap cause pc) h = let a = h.1 in let b = h.2 in omega arith

-- The words of an entry of a log tell this entry, and each of them is below 2^64.
pub record_round_trip : RecordRoundTrip
record_round_trip tasks e h =
    let ended = end_back e.rec.«end» h.ended in
    let back : 1 + e.end_at - 1 ≡ e.end_at = omega arith in (
      (λ i. record e { rec = record e.rec { «end» = ended i }; end_at = back i }),
      record {
        «end» = end_small e.rec.«end» h.ended;
        instructions = let l = h.instructions in omega arith;
        loads = let l = h.loads in omega arith;
        misses = let l = h.misses in omega arith;
        stores = let l = h.stores in omega arith;
        start = let l = h.start in omega arith;
        core = let l = h.core in omega arith;
        done = let l = h.end_at in omega arith;
      },
    )
