-- The fields of a name come back from its bytes.
use Rattle.std.specs.Prelude.{◌≡◌, ◌≤◌, ◌-◌, ◌++◌, take, length, replicate}
use Rattle.std.proofs.lemmas.List.{length-take-le, take-append-drop}
use Rattle.plural_base.specs.NameFields.{name_bytes, IsKept, fields_of}
use Rattle.plural_base.specs.declared.names.Name.TheInside.{Inside}

pub fields_back : (n : Inside) → IsKept n → fields_of (name_bytes n) ≡ n
fields_back n h =
    let inside : n.len ≤ length n.bytes = rw h.full h.short in
    let len : length (take n.len n.bytes) ≡ n.len = length-take-le n.len n.bytes inside in
    let bytes : take n.len n.bytes ++ replicate (24 - length (take n.len n.bytes)) 0 ≡ n.bytes =
    rw (len, ← h.padded) (take-append-drop n.len n.bytes) in
    λ i. record { bytes = bytes i; len = len i }
