-- The entries of a serial run, one more.
use Rattle.std.proofs.Common.{◌≡◌, ℕ, zero, suc, ◌+◌, ◌<◌, List, [], ◌∷◌, ◌++◌, length, take, get_or, ap, ◌∙◌, arith}
use Rattle.plural_serial.specs.declared.record_.Record.{Record}
use Rattle.plural_trace.specs.declared.entry.Entry.{Entry}
use Rattle.plural_trace.specs.SerialLog.{serial_entry, serial_entries}

-- The entries of one more record.
pub entries_more : (rs : List Record) (i : ℕ) (d : Record) → i < length rs → serial_entries 0 (take (i + 1) rs) ≡ serial_entries 0 (take i rs) ++ serial_entry i (get_or rs i d) ∷ []
entries_more rs i d l =
    ap (λ n. serial_entries 0 (take n rs)) (let s : i + 1 ≡ suc i = omega arith in s) ∙ more 0 rs i l ∙ ap (λ n. serial_entries 0 (take i rs) ++ serial_entry n (get_or rs i d) ∷ []) (let z : 0 + i ≡ i = omega arith in z)
  where
    more : (j : ℕ) (rs : List Record) (i : ℕ) → i < length rs → serial_entries j (take (suc i) rs) ≡ serial_entries j (take i rs) ++ serial_entry (j + i) (get_or rs i d) ∷ []
    more j [] i l = absurd (let h : ⊥ = omega arith in h)
    more j (r ∷ rs) zero l = ap (λ n. serial_entry n r ∷ []) (let z : j ≡ j + 0 = omega arith in z)
    more j (r ∷ rs) (suc i) l =
        ap (λ (x : List Entry). serial_entry j r ∷ x) (more (j + 1) rs i (omega arith))
        ∙ ap (λ n. serial_entry j r ∷ (serial_entries (j + 1) (take i rs) ++ serial_entry n (get_or rs i d) ∷ [])) (let z : j + 1 + i ≡ j + suc i = omega arith in z)
