-- The printed task lines, one more.
use Rattle.std.proofs.Common.{◌≡◌, ℕ, zero, suc, ◌+◌, ◌<◌, List, [], ◌∷◌, ◌++◌, length, take, get_or, refl, ap, sym, ◌∙◌, arith, append_assoc}
use Rattle.std.proofs.lemmas.List.{append-nil}
use Rattle.plural_map.specs.declared.outcome.Outcome.{Outcome}
use Rattle.plural_map.specs.Value.{TaskValue}
use Rattle.plural_log.specs.Print.{task_text, task_texts}

-- The lines of one more task.
pub texts_more : (ts : List TaskValue) (os : List Outcome) (i : ℕ) (d : TaskValue) (e : Outcome) → i < length ts → length os ≡ length ts
    → task_texts (take (i + 1) ts) (take (i + 1) os) ≡ task_texts (take i ts) (take i os) ++ task_text (get_or ts i d) (get_or os i e)
texts_more ts os i d e l n = ap (λ k. task_texts (take k ts) (take k os)) (let s : i + 1 ≡ suc i = omega arith in s) ∙ more ts os i l n
  where
    more : (ts : List TaskValue) (os : List Outcome) (i : ℕ) → i < length ts → length os ≡ length ts
        → task_texts (take (suc i) ts) (take (suc i) os) ≡ task_texts (take i ts) (take i os) ++ task_text (get_or ts i d) (get_or os i e)
    more [] os i l n = absurd (omega arith)
    more (t ∷ ts) [] i l n = absurd (omega arith)
    more (t ∷ ts) (o ∷ os) zero l n = append-nil (task_text t o)
    more (t ∷ ts) (o ∷ os) (suc i) l n = ap (λ x. task_text t o ++ x) (more ts os i (omega arith) (omega arith)) ∙ sym (append_assoc (task_text t o) (task_texts (take i ts) (take i os)) (task_text (get_or ts i d) (get_or os i e)))

-- The lines of one more task, by the task that was read.
pub texts_next : (ts : List TaskValue) (os : List Outcome) (i : ℕ) (t : TaskValue) (e : Outcome) → i < length ts → length os ≡ length ts → t ≡ get_or ts i t
    → task_texts (take (i + 1) ts) (take (i + 1) os) ≡ task_texts (take i ts) (take i os) ++ task_text t (get_or os i e)
texts_next ts os i t e l n same = texts_more ts os i t e l n ∙ ap (λ x. task_texts (take i ts) (take i os) ++ task_text x (get_or os i e)) (sym same)

-- Four texts put one after the other.
pub four_put : (out w x y z a b d e : List ℕ) → a ≡ out ++ w → b ≡ a ++ x → d ≡ b ++ y → e ≡ d ++ z → e ≡ out ++ (w ++ (x ++ (y ++ z)))
four_put out w x y z a b d e p q r s = s ∙ rw (r, q, p) (simp append_assoc refl)
