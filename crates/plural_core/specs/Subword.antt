-- Bytes and halves of a word. Byte i of a word is its bits 8i + 7 to 8i. (RV32I 2.1, section 2.6, little-endian.)
use Rattle.std.specs.Prelude.{ℕ, ◌+◌, ◌*◌, ◌-◌, ◌/◌, ◌%◌, Bool, true, false, slice_index, slice_set, if◌then◌else◌, nat_lt}
use Rattle.std.specs.Int.{w32, to_le_bytes, from_le_bytes}
use Rattle.plural_core.specs.declared.subword.Width.{Width}
use Rattle.plural_core.specs.declared.subword.Width.TheVariants.{Byte, Half, Word}

-- The size of an access in bytes.
abbrev pub size_of : Width → ℕ
size_of Byte = 1
size_of Half = 2
size_of Word = 4

-- The byte of a word at a byte address, which counts modulo 4.
abbrev pub byte_at : ℕ → ℕ → ℕ
byte_at word address = slice_index (to_le_bytes w32 word) (address % 4)

-- A number below 2 · half as a word: as it is, or if the sign counts and it is at least half, less 2 · half.
abbrev pub widened : Bool → ℕ → ℕ → ℕ
widened false half n = n
widened true half n = if nat_lt n half then n else 0x100000000 - 2 * half + n

-- What a load at a byte address takes from the word there, with its sign or without.
abbrev pub part_of : Width → Bool → ℕ → ℕ → ℕ
part_of Byte sign word address = widened sign 0x80 (byte_at word address)
part_of Half sign word address = widened sign 0x8000 (byte_at word address + 256 * byte_at word (address + 1))
part_of Word sign word address = word

-- The word once a store at a byte address has put the low bytes of the value into it.
abbrev pub merged : Width → ℕ → ℕ → ℕ → ℕ
merged Byte word address value = from_le_bytes w32 (slice_set (to_le_bytes w32 word) (address % 4) (value % 256))
merged Half word address value =
    from_le_bytes w32 (slice_set (slice_set (to_le_bytes w32 word) (address % 4) (value % 256)) ((address + 1) % 4)
    (value / 256 % 256))
merged Word word address value = value
