-- The fields of a record by their places. (This project's own.)
use Rattle.std.specs.Prelude.{ℕ}
use Rattle.plural_words.specs.declared.field.Field.{Field}
use Rattle.plural_words.specs.declared.field.Field.TheVariants as field

-- The place of a field in its record.
abbrev pub number_of : Field → ℕ
number_of field.End = 0
number_of field.Instructions = 1
number_of field.Loads = 2
number_of field.Misses = 3
number_of field.Stores = 4
number_of field.Start = 5
number_of field.Core = 6
number_of field.Done = 7
