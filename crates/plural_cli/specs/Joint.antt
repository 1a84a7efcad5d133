-- The faults of a verifier's input, which is a bundle and the output of a run in one text, and what it spells.
use Rattle.std.specs.Prelude.{ℕ, Bool, true, false, List}
use Rattle.std.specs.List.{list_any, after_first}
use Rattle.plural_bytes.specs.Lines.{TextLine}
use Rattle.plural_sections.specs.declared.fault.Fault.{Fault}
use Rattle.plural_sections.specs.Faults.{IsFaultless, closed}
use Rattle.plural_sections.specs.Texts.{LineRule}
use Rattle.plural_map.specs.Value.{MapValue}
use Rattle.plural_bundle.specs.Rules as bundle
use Rattle.plural_bundle.specs.Value.{bundle_of}
use Rattle.plural_output.specs.Parts.{is_end}
use Rattle.plural_output.specs.Rules as output
use Rattle.plural_output.specs.Value.{OutputValue, output_of}

-- The map of the bundle with which lines begin.
abbrev pub map_in : List TextLine → MapValue
map_in lines = (bundle_of lines).program.map

-- What holds of a line that no `[end]` stands before, or of another.
abbrev pub OnceEnded : (ended : Bool) → (InBundle InOutput : Type 0) → Type 0
OnceEnded true InBundle InOutput = InOutput
OnceEnded false InBundle InOutput = InBundle

-- A line of an input of all these lines, after those before it: up to and with the first `[end]` it is one of a
-- bundle, and after it one of the output of a run of this bundle.
abbrev pub Breaks : (all : List TextLine) → LineRule Fault
Breaks all before text fault =
    OnceEnded (list_any is_end before)
    (bundle.Breaks all all before text fault)
    (output.Breaks (map_in all).tasks (map_in all).words (after_first is_end before) text fault)

-- The lines are a bundle and the output of a run of it: none has a fault, nor has the end of the text, which is seen
-- as a line without text of number `end`.
abbrev pub IsJoint : (lines : List TextLine) (end : ℕ) → Type 0
IsJoint lines end = IsFaultless (Breaks lines) (closed lines end)

-- The log and the memory that the lines after the first `[end]` spell.
abbrev pub output_in : List TextLine → OutputValue
output_in lines = output_of (map_in lines).tasks (map_in lines).words (after_first is_end lines)
