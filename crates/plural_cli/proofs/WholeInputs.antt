-- What was read, as a request's input.
use Rattle.std.proofs.Common.{ℕ, ◌≡◌, ◌<◌, ◌≤◌, List, ◌++◌, length, Option, Some, None, refl, ap, sym, subst, ◌∙◌, arith, append-nil}
use Rattle.std.proofs.lemmas.List.{length-append}
use Rattle.std.specs.Io.KnownBytes.{Consumes, IsAtEnd}
use Rattle.plural_cli.specs.declared.command.Request.{Request}
use Rattle.plural_finished.specs.Finishing.{FinishedValue}
use Rattle.plural_cli.specs.Kept.{IsKept}
use Rattle.plural_cli.specs.Output.{limit_of, too_long_of, Answers, IsAnswer, AnswersWith}
use Rattle.plural_cli.proofs.Machines.{kept_none}

short : (c : Request) (bytes : List ℕ) (status : ℕ) (text : List ℕ) → length bytes ≤ limit_of c → Answers c bytes status text → IsAnswer c bytes status text
short c bytes status text l r = record { too_long = λ m. absurd (omega (arith, m, l)); answered = λ _. r }

-- What the request answers to bytes that were read to the source's end is its answer to what the source held.
pub whole_input : (c : Request) (a b : Option (List ℕ)) (bytes : List ℕ) (status : ℕ) (text : List ℕ) (kept : Option FinishedValue) → Consumes a b bytes → IsAtEnd b → length bytes ≤ limit_of c
    → Answers c bytes status text → IsKept c bytes status text kept → AnswersWith c a status text kept
whole_input c None b bytes status text kept p q l r k =
    record { answer = record { bytes = bytes; held = tt; answer = short c bytes status text l r }; machine = k }
whole_input c (Some x) None bytes status text kept p q l r k = absurd p
whole_input c (Some x) (Some y) bytes status text kept p q l r k =
    record { answer = record { bytes = bytes; held = p ∙ ap (λ rest. bytes ++ rest) q ∙ append-nil bytes; answer = short c bytes status text l r }; machine = k }

long : (c : Request) (bytes : List ℕ) (status : ℕ) (text : List ℕ) → limit_of c < length bytes → status ≡ 3 → text ≡ too_long_of c → IsAnswer c bytes status text
long c bytes status text l s t = record { too_long = λ _. (s, t); answered = λ m. absurd (omega (arith, m, l)) }

-- The refusal of an input of which more bytes than the limit were read is the request's answer to what the source held,
-- and nothing is kept.
pub long_input : (c : Request) (a b : Option (List ℕ)) (bytes : List ℕ) (status : ℕ) (text : List ℕ) (kept : Option FinishedValue) → Consumes a b bytes → limit_of c < length bytes → status ≡ 3
    → text ≡ too_long_of c → kept ≡ None → AnswersWith c a status text kept
long_input c None b bytes status text kept p l s t k =
    record {
      answer = record { bytes = bytes; held = tt; answer = long c bytes status text l s t };
      machine = subst (IsKept c bytes status text) (sym k) (kept_none c bytes status text (omega (arith, s)));
    }
long_input c (Some x) None bytes status text kept p l s t k = absurd p
long_input c (Some x) (Some y) bytes status text kept p l s t k =
    let more : length x ≡ length (bytes ++ y) = ap length p in
    record {
      answer = record { bytes = x; held = refl; answer = long c x status text (omega (arith, l, more, length-append bytes y)) s t };
      machine = subst (IsKept c x status text) (sym k) (kept_none c x status text (omega (arith, s)));
    }
