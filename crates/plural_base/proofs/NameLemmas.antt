-- A name is short, and its padding is that of 24 zeros.
use Rattle.std.proofs.Common.{◌≡◌, ℕ, ◌≤◌, ◌-◌, true, ◌&&◌, leb, List, [], ◌∷◌, ◌++◌, length, drop, replicate, refl, arith}
use Rattle.std.specs.List.{list_all}
use Rattle.std.proofs.lemmas.Bool.{and_parts, leb-true}
use Rattle.std.proofs.lemmas.List.{take_at, drop_at, drop-replicate, length-append, length-replicate}
use Rattle.plural_base.specs.Names.{is_name, begins_name, continues_name}
use Rattle.plural_base.specs.NameFields.{IsKept}

name_short : (text : List ℕ) → is_name text ≡ true → length text ≤ 24
name_short [] e = omega arith
name_short (c ∷ cs) e =
    let p = leb-true (length cs) 23 (and_parts (leb (length cs) 23) (begins_name c) (and_parts (leb (length cs) 23 && begins_name c) (list_all continues_name cs) e).0).0 in
    omega (arith, p)

-- A name's bytes, padded with zeros, are the fields of that name.
pub kept : (text copied : List ℕ) → copied ≡ text → is_name text ≡ true → IsKept (record { bytes = copied ++ drop (length text) (replicate 24 0); len = length text })
kept text copied e named =
    let short = name_short text named in
    let tail = drop-replicate {X = ℕ} (length text) 24 0 in
    rw (e, tail) (record {
      full = omega (arith, length-append text (replicate (24 - length text) 0), length-replicate {A = ℕ} (24 - length text) 0);
      short = short;
      named = rw (take_at text (replicate (24 - length text) 0) (length text) refl) named;
      padded = drop_at text (replicate (24 - length text) 0) (length text) refl;
    })
