-- What the root knows while seats come back, the last core's first.
use Rattle.std.proofs.Common.{◌≡◌, ℕ, ◌+◌, ◌<◌, List, ◌∷◌, length, drop, get_or, Some, sym, ap, ◌∙◌}
use Rattle.std.proofs.lemmas.List.{get_or_default, drop_more}
use Rattle.std.proofs.Math.Seq.{drop-length}
use Rattle.plural_rule.specs.Steps.{joined}
use Rattle.plural_rule.specs.declared.view.View.{View}
use Rattle.plural_words.specs.Seen.{SeatSeen}
use Rattle.plural_cores.specs.Cores.{CoreSeen}
use Rattle.plural_machine.specs.Knowing.{all_joined, joined_with}

-- The core at place k of the list is this one.
abbrev pub IsStill : List CoreSeen → ℕ → CoreSeen → Type 0
IsStill cores k c = get_or cores k c ≡ c

-- So it is of the list's own.
pub still_first : (cores : List CoreSeen) (k : ℕ) (d : CoreSeen) → k < length cores → IsStill cores k (get_or cores k d)
still_first cores k d low = get_or_default cores k (get_or cores k d) d low

-- Before the first seat comes back the root knows what it knew.
pub none_back : (v : View) (cores : List CoreSeen) → v ≡ all_joined v (drop (length cores) cores)
none_back v cores = ap (all_joined v) (sym (drop-length cores))

-- After that of core j it knows what that seat knew.
pub one_back : (v : View) (cores : List CoreSeen) (j i : ℕ) (now : View) (s : SeatSeen) (c : CoreSeen) → i ≡ j + 1 → j < length cores → IsStill cores j c → c.seat ≡ Some s → now ≡ all_joined v (drop i cores)
    → joined now s.view ≡ all_joined v (drop j cores)
one_back v cores j i now s c next low still has at =
    let rest : now ≡ all_joined v (drop (j + 1) cores) = at ∙ ap (λ (n : ℕ). all_joined v (drop n cores)) next in
    let first : drop j cores ≡ c ∷ drop (j + 1) cores = drop_more cores j c low ∙ ap (λ (x : CoreSeen). x ∷ drop (j + 1) cores) still in
    ap (λ (x : View). joined x s.view) rest
    ∙ sym (ap (all_joined v) first ∙ ap (joined_with (all_joined v (drop (j + 1) cores))) has)
