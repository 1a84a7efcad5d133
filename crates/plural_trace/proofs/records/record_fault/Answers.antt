use Rattle.std.proofs.Common.{◌≡◌, ◌∙◌, ◌+◌, Bool, length, not, ap, sym, arith, false}
use Rattle.std.specs.List.{list_all}
use Rattle.std.proofs.lemmas.List.{length-set, get_or_read}
use Rattle.plural_trace.specs.Least.{least}
use Rattle.plural_trace.specs.Rules.{breaks_records}
use Rattle.plural_trace.proofs.LeastPlaces.{least_next, least_found}
use Rattle.plural_trace.proofs.RecordPlaces.{breaks_when, breaks_by, breaks_after, tells_more}
use Rattle.plural_trace.proofs.records.record_fault.Goals as goal
use Rattle.plural_trace.proofs.records.record_fault.Goals.{in_default-via-in-Some+else-not-index, in_default-via-in_default}

-- The answer at `in_default` meets the clause `least`.
pub returns-in_default-clause-least : goal.returns-in_default-clause-least
returns-in_default-clause-least c =
    let rs = c.args.records.now in
    let es = c.args.entries.now in
    let i = c.loop-i.i in
    least_found (breaks_records rs es) i (length es + 1) (let l = c.loop-i-test.true in omega arith) c.loop-i.invariant.none
    (elim c.in_default.branch [
      | in_default-via-in-Some+else-not-index w ↦
          let p = w.in-Some.place in
          let h = w.in-Some.ensures in
          breaks_by c.requires.by_instance.0 rs es i p c.loop-i.seen.items c.requires.by_instance.1 c.loop-i-test.true h.within h.same c.loop-i.invariant.tells
          ∙ sym (get_or_read c.loop-i.seen.items p _ (let long = c.loop-i.invariant.long in let w = h.within in omega arith) w.index.ensures false) ∙ w.if-not-index.false
      | in_default-via-in_default w ↦ breaks_when rs es i c.loop-i-test.true w.in_default.ensures.none
    ])

-- A turn of `loop-i` keeps its invariant.
pub loop-i-preserved : goal.loop-i-preserved
loop-i-preserved c =
    let rs = c.args.records.now in
    let es = c.args.entries.now in
    let i = c.loop-i.i in
    let p = c.in-Some.place in
    record {
      long = simp length-set c.loop-i.invariant.long;
      none = least_next (breaks_records rs es) i c.loop-i.invariant.none
          (breaks_by c.requires.by_instance.0 rs es i p c.loop-i.seen.items c.requires.by_instance.1 c.loop-i-test.true c.in-Some.ensures.within c.in-Some.ensures.same c.loop-i.invariant.tells ∙ sym (get_or_read c.loop-i.seen.items p _ (let long = c.loop-i.invariant.long in let w = c.in-Some.ensures.within in omega arith) c.index.ensures false) ∙ c.if-not-index.true);
      tells = tells_more c.requires.by_instance.0 rs es i p c.loop-i.seen.items c.requires.by_instance.1 c.loop-i.invariant.long c.loop-i-test.true c.in-Some.ensures.within c.in-Some.ensures.same c.loop-i.invariant.tells;
    }

-- The answer at `then-not-all_seen` meets the clause `least`.
pub returns-then-not-all_seen-clause-least : goal.returns-then-not-all_seen-clause-least
returns-then-not-all_seen-clause-least c =
    let rs = c.args.records.now in
    let es = c.args.entries.now in
    let i = c.loop-i.i in
    let all : i ≡ length es = let a = c.loop-i-test.false in let b = c.loop-i.auto.i-end in omega arith in
    least_found (breaks_records rs es) (length es) (length es + 1) (omega arith) (ap (least (breaks_records rs es)) (sym all) ∙ c.loop-i.invariant.none)
    (breaks_after rs es i c.loop-i.seen.items c.loop-i.invariant.long c.loop-i-test.false c.loop-i.invariant.tells ∙ ap not (ap (list_all (λ (s : Bool). s)) (sym c.deref-2.ensures.value) ∙ sym c.all_seen.ensures ∙ c.if-not-all_seen.true))

-- The answer meets the clause `least`.
pub returns-clause-least : goal.returns-clause-least
returns-clause-least c =
    let rs = c.args.records.now in
    let es = c.args.entries.now in
    let i = c.loop-i.i in
    let all : i ≡ length es = let a = c.loop-i-test.false in let b = c.loop-i.auto.i-end in omega arith in
    sym (least_next (breaks_records rs es) (length es) (ap (least (breaks_records rs es)) (sym all) ∙ c.loop-i.invariant.none)
    (breaks_after rs es i c.loop-i.seen.items c.loop-i.invariant.long c.loop-i-test.false c.loop-i.invariant.tells ∙ ap not (ap (list_all (λ (s : Bool). s)) (sym c.deref-2.ensures.value) ∙ sym c.all_seen.ensures ∙ c.if-not-all_seen.false)))
