-- The line that tells the first fault of an input.
use Rattle.std.specs.Prelude.{ℕ, ◌≡◌, List, [], ◌∷◌, ◌++◌, codes, flat_map}
use Rattle.std.specs.Fmt.{decimal}
use Rattle.plural_bytes.specs.Lines.{TextLine}
use Rattle.plural_sections.specs.Faults.{IsFirstFault}
use Rattle.plural_asm.specs.declared.object.AsmKind.{AsmKind}
use Rattle.plural_asm.specs.declared.object.AsmKind.TheVariants as kinds
use Rattle.plural_sections.specs.declared.fault.Fault.{Fault}
use Rattle.plural_sections.specs.declared.fault.Fault.TheVariants as fault

-- The word for a kind of fault of kernel lines, and of words.
abbrev pub kind_text : AsmKind → List ℕ
kind_text kinds.Form = codes "form"
kind_text kinds.Number = codes "number"
kind_text kinds.Name = codes "name"
kind_text kinds.Count = codes "count"
kind_text kinds.Reach = codes "reach"

-- Names, each after a space.
abbrev pub names_text : List (List ℕ) → List ℕ
names_text names = flat_map (λ name. 32 ∷ name) names

-- The word for a fault of a bundle. A region that lies outside is told with the instance, a cycle with the names of its
-- tasks in its order.
abbrev pub bundle_fault_text : Fault → List ℕ
bundle_fault_text fault.Form = codes "form"
bundle_fault_text fault.Number = codes "number"
bundle_fault_text fault.Name = codes "name"
bundle_fault_text fault.Count = codes "count"
bundle_fault_text fault.Reach = codes "reach"
bundle_fault_text fault.Address = codes "address"
bundle_fault_text (fault.Outside k) = codes "outside " ++ decimal k
bundle_fault_text (fault.Cycle names) = codes "cycle" ++ names_text names

-- `fault: line L: ` with the word for the fault, and a line end.
abbrev pub fault_text : ℕ → List ℕ → List ℕ
fault_text line word = (((codes "fault: line " ++ decimal line) ++ codes ": ") ++ word) ++ 10 ∷ []

-- The answer to lines that have a fault: status 3, and the line that tells the first one.
pub record IsRefused {K : Type 0} (rank : K → ℕ) (word : K → List ℕ) (Breaks : List TextLine → List ℕ → K → Type 0)
    (lines : List TextLine) (status : ℕ) (text : List ℕ) : Type 0 where
  pub line : ℕ
  pub kind : K
  pub first : IsFirstFault rank Breaks lines line kind
  pub status_is : status ≡ 3
  pub text_is : text ≡ fault_text line (word kind)
