-- Texts that were appended one after the other.
use Rattle.std.proofs.Common.{◌≡◌, ℕ, List, ◌++◌, ap, ◌∙◌, append_assoc}

-- Four texts appended one after the other are appended at once.
pub append_four : (o r p b q : List ℕ) → (((o ++ r) ++ p) ++ b) ++ q ≡ o ++ (((r ++ p) ++ b) ++ q)
append_four o r p b q = ap (λ x. (x ++ b) ++ q) (append_assoc o r p) ∙ ap (λ x. x ++ q) (append_assoc o (r ++ p) b) ∙ append_assoc o ((r ++ p) ++ b) q
