-- The version of a first line by what reading its numeral answers.
use Rattle.std.proofs.Common.{◌≡◌, ℕ, Bool, true, false, cond, leb, Option, Some, None, Ok, Err, refl, ap}
use Rattle.plural_bytes.specs.declared.numerals.NumberError.TheVariants.{Range}
use Rattle.plural_bytes.specs.Numerals.{within}
use Rattle.plural_bundle.specs.FirstLine.{version_read}

-- A number that isn't above 2 is read as itself.
pub read_number : (o : Option ℕ) (n : ℕ) → Ok n ≡ within 2 o → version_read (Some n) ≡ version_read o
read_number None n e = absurd cc
read_number (Some m) n e = by (leb m 2) refl e
  where
    by : (b : Bool) → leb m 2 ≡ b → Ok n ≡ cond b (Ok m) (Err Range) → version_read (Some n) ≡ version_read (Some m)
    by true t h = let same : n ≡ m = cc in ap (λ (k : ℕ). version_read (Some k)) same
    by false t h = absurd cc
