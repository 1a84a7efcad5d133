-- The faults of a text of sections: which kinds a line has, by how many sections the lines before it close.
use Rattle.std.specs.Prelude.{ℕ, ◌≡◌, ◌⊎◌, Bool, true, false, List, [], bytes_eq}
use Rattle.plural_bytes.specs.Lines.{TextLine, has_text}
use Rattle.plural_sections.specs.declared.fault.Fault.{Fault}
use Rattle.plural_sections.specs.declared.fault.Fault.TheVariants.{Form}
use Rattle.plural_sections.specs.Sections.{closes, closings, since}

-- A rule for lines: which kinds of fault a line has, by the lines before it and its own text.
abbrev pub LineRule : Type 0 → Type 1
LineRule K = List TextLine → List ℕ → K → Type 0

-- A fault of form: the text isn't the header that is due, alone on its line.
abbrev pub IsNot : (due : List ℕ) → List ℕ → Fault → Type 0
IsNot due text fault = (fault ≡ Form) × (bytes_eq text due ≡ false)

-- One of the kinds of a section's line, under the name that it has in the whole text.
abbrev pub Renamed : {K : Type 0} → (K → Fault) → (K → Type 0) → Fault → Type 0
Renamed {K} of Has fault = (kind : K) × (fault ≡ of kind) × Has kind

-- In a section, what holds of a line that closes it, or of another.
abbrev pub InSection : (closing : Bool) → (Closes Stays : Type 0) → Type 0
InSection true Closes Stays = Closes
InSection false Closes Stays = Stays

-- A line of a section: one that closes it is the header that is due, and another has the kinds of the section's rule.
abbrev pub PartBreaks : {K : Type 0} → (K → Fault) → (due : List ℕ) → LineRule K → LineRule Fault
PartBreaks of due Part before text fault =
    InSection (closes text) (IsNot due text fault) (Renamed of (λ k. Part before text k) fault)

-- The same of a section that has to be whole: the line that closes it, seen as a line without text, has the kinds of
-- the section's rule too.
abbrev pub WholePartBreaks : {K : Type 0} → (K → Fault) → (due : List ℕ) → LineRule K → LineRule Fault
WholePartBreaks of due Part before text fault =
    InSection (closes text)
    (IsNot due text fault ⊎ Renamed of (λ k. Part before [] k) fault)
    (Renamed of (λ k. Part before text k) fault)

-- After the last section no line has a text.
abbrev pub PastBreaks : List ℕ → Fault → Type 0
PastBreaks text fault = (fault ≡ Form) × (has_text text ≡ true)

-- A line of a text of sections has the kinds of its section, the one after as many as were closed before the line, by
-- the lines since.
abbrev pub TextBreaks : (ℕ → LineRule Fault) → LineRule Fault
TextBreaks Sections before text fault = Sections (closings before) (since before) text fault
