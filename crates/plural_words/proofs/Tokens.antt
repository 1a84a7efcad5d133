-- What is known of a seat and of the words by their fields, and what is said of them after a step.
use Rattle.std.proofs.Common.{◌≡◌, length, sym, ap, ◌∙◌, subst}
use Rattle.plural_rule.specs.Opening.{Opening}
use Rattle.plural_rule.specs.Rule.{IsViewOf}
use Rattle.plural_rule.specs.declared.view.View.{View}
use Rattle.plural_rule.specs.declared.view.Role.TheVariants.{Seat}
use Rattle.plural_words.specs.Seen.{WordsSeen, SeatSeen, IsSeatOf}

-- The fields are those of a seat of these words.
pub inside_of : {w' w : WordsSeen} {s' s : SeatSeen} → w' ≡ w → s' ≡ s → IsSeatOf w s → IsSeatOf w' s'
inside_of {w'} {w} {s'} {s} e f is = subst (λ (x : WordsSeen). IsSeatOf x s') (sym e) (subst (λ (y : SeatSeen). IsSeatOf w y) (sym f) is)

-- What is said of the opening of the words is so of their key.
pub key_of : (P : Opening → Type 0) {w' w : WordsSeen} → w' ≡ w → P w.opening → P w'.opening
key_of P e p = subst (λ (x : WordsSeen). P x.opening) (sym e) p

-- A view is still of the opening if it has as many numbers as before.
pub view_kept : {o : Opening} {v w : View} → IsViewOf o v → w.opening ≡ v.opening → length w.found ≡ length v.found → length w.looks ≡ length v.looks → length w.losses ≡ length v.losses → IsViewOf o w
view_kept is opening found looks losses = record { opening = opening ∙ is.opening; found = found ∙ is.found; looks = looks ∙ is.looks; losses = losses ∙ is.losses }

-- The seat is still one of these words if its view is still of their opening, and of the same role.
pub seat_kept : {w' w : WordsSeen} {s' s n : SeatSeen} → w' ≡ w → s' ≡ s → IsSeatOf w s → n.table ≡ s'.table → n.core ≡ s'.core → (IsViewOf w.opening s'.view → IsViewOf w.opening n.view) → n.view.role ≡ s'.view.role → IsSeatOf w n
seat_kept {w'} {w} {s'} {s} {n} e f is table core view role = record {
  table = table ∙ (ap (λ (x : SeatSeen). x.table) f ∙ is.table);
  view = view (subst (λ (x : SeatSeen). IsViewOf w.opening x.view) (sym f) is.view);
  role = role ∙ (ap (λ (x : SeatSeen). x.view.role) f ∙ (is.role ∙ ap Seat (sym (core ∙ ap (λ (x : SeatSeen). x.core) f))));
}

-- What is said of the view of the seat is so of its token's.
pub view_of : (P : View → Type 0) {s' s : SeatSeen} → s' ≡ s → P s.view → P s'.view
view_of P e p = subst (λ (x : SeatSeen). P x.view) (sym e) p
