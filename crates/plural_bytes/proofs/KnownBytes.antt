-- Known bytes over two calls.
use Rattle.std.specs.Prelude.{◌↔◌}
use Rattle.std.proofs.Common.{ℕ, ◌≡◌, ◌+◌, ◌-◌, ◌<◌, ◌≤◌, List, ◌++◌, length, take, drop, Option, Some, None, sym, ap, ◌∙◌, arith, append_assoc, take-append-drop, drop-drop, length-append}
use Rattle.std.proofs.lemmas.Grind.{common_steps}
use Rattle.std.specs.Io.KnownBytes.{Appends, Consumes, Keeps}
use Rattle.plural_bytes.specs.Streams.{AppendsPrefix}

-- What two calls appended in a row, both appended.
pub appends_more : (a b c : Option (List ℕ)) (xs ys : List ℕ) → Appends a b xs → Appends b c ys → Appends a c (xs ++ ys)
appends_more None b c xs ys h k = tt
appends_more (Some a) None c xs ys h k = absurd h
appends_more (Some a) (Some b) None xs ys h k = absurd k
appends_more (Some a) (Some b) (Some c) xs ys h k = k ∙ ap (λ l. l ++ ys) h ∙ append_assoc a xs ys

-- What two calls took in a row, both took.
pub consumes_more : (a b c : Option (List ℕ)) (xs ys : List ℕ) → Consumes a b xs → Consumes b c ys → Consumes a c (xs ++ ys)
consumes_more None b c xs ys h k = tt
consumes_more (Some a) None c xs ys h k = absurd h
consumes_more (Some a) (Some b) None xs ys h k = absurd k
consumes_more (Some a) (Some b) (Some c) xs ys h k = h ∙ ap (λ l. xs ++ l) k ∙ sym (append_assoc xs ys c)

-- How long what was taken before and in the last read is
taken_length : (xs into : List ℕ) (n : ℕ) → n ≤ length into → length (xs ++ take n into) ≡ length xs + n
taken_length xs into n h = grind (arith, common_steps)

-- What was taken with one more piece, in a call that answers this exactly if it is longer than the limit.
pub taken_with : (a b c : Option (List ℕ)) (xs into : List ℕ) (n limit : ℕ) (IsTooLong : Type 0) → Consumes a b xs → Consumes b c (take n into) → n ≤ length into → (IsTooLong ↔ limit < length xs + n)
    → (bytes : List ℕ) × Consumes a c bytes × (IsTooLong ↔ limit < length bytes)
taken_with a b c xs into n limit IsTooLong h k l long =
    let e = taken_length xs into n l in
    (xs ++ take n into, consumes_more a b c xs (take n into) h k, ((λ t. rw e (long.0 t)), (λ m. long.1 (rw e at m))))

-- A prefix of the rest after what is written is a prefix of all.
pub prefix_more : (a b c : Option (List ℕ)) (text prefix rest : List ℕ) → text ≡ prefix ++ rest → Appends a b prefix → AppendsPrefix b c rest → AppendsPrefix a c text
prefix_more a b c text prefix rest e h k =
    (prefix ++ k.0, k.1, e ∙ ap (λ l. prefix ++ l) k.2 ∙ sym (append_assoc prefix k.0 k.1), appends_more a b c prefix k.0 h k.3)

rest_of : (rest : List ℕ) (n : ℕ) → take (length rest - n) (drop n rest) ≡ drop n rest
rest_of rest n = grind (arith, common_steps)

-- N bytes of the rest are written, and `&rest[n..]` is left.
pub cut_more : (text prefix rest : List ℕ) (n : ℕ) → text ≡ prefix ++ rest → text ≡ (prefix ++ take n rest) ++ take (length rest - n) (drop n rest)
cut_more text prefix rest n e =
    rw (rest_of rest n) (e ∙ ap (λ l. prefix ++ l) (sym (take-append-drop n rest)) ∙ sym (append_assoc prefix (take n rest) (drop n rest)))

-- A text of which something is left isn't empty.
pub nothing_left : (text prefix rest : List ℕ) → text ≡ prefix ++ rest → 0 < length rest → length text ≡ 0 → ⊥
nothing_left text prefix rest e some none = omega (arith, ap length e, length-append prefix rest, some, none)

-- A call that keeps the bytes adds nothing to what was appended.
pub appends_kept : (a b c : Option (List ℕ)) (xs : List ℕ) → Appends a b xs → Keeps b c → Appends a c xs
appends_kept None b c xs h k = tt
appends_kept (Some a) None c xs h k = absurd h
appends_kept (Some a) (Some b) None xs h k = absurd k
appends_kept (Some a) (Some b) (Some c) xs h k = k ∙ h

-- The first n bytes of a piece are a prefix of it.
pub prefix_by_count : (a b : Option (List ℕ)) (piece : List ℕ) (n : ℕ) → Appends a b (take n piece) → AppendsPrefix a b piece
prefix_by_count a b piece n h = (take n piece, drop n piece, sym (take-append-drop n piece), h)

-- The first n bytes from a place, copied into a buffer.
pub given_is : (bytes into copied : List ℕ) (at n : ℕ) → copied ≡ take n (drop at bytes) → at + n ≤ length bytes → drop at bytes ≡ take n (copied ++ drop n into) ++ drop (at + n) bytes
given_is bytes into copied at n e h =
    let l : length copied ≡ n = grind (arith, common_steps) in
    let prefix : take n (copied ++ drop n into) ≡ copied = grind (arith, common_steps) in
    rw (prefix, e, ← drop-drop n at bytes) (sym (take-append-drop n (drop at bytes)))
