-- How a name is kept: 24 bytes, of which those past its length are 0.
use Rattle.std.specs.Prelude.{◌≡◌, ℕ, ◌≤◌, ◌-◌, List, ◌++◌, take, drop, length, replicate, IsTrue}
use Rattle.plural_base.specs.Names.{is_name}
use Rattle.plural_base.specs.declared.names.Name.TheInside.{Inside}

-- The bytes of a name.
abbrev pub name_bytes : Inside → List ℕ
name_bytes n = take n.len n.bytes

-- Fields that keep a name.
pub record IsKept (n : Inside) : Type 0 where
  pub full : length n.bytes ≡ 24
  pub short : n.len ≤ 24
  pub named : IsTrue (is_name (take n.len n.bytes))
  pub padded : drop n.len n.bytes ≡ replicate (24 - n.len) 0

-- The fields that keep this name.
abbrev pub fields_of : List ℕ → Inside
fields_of text = record { bytes = text ++ replicate (24 - length text) 0; len = length text }
