-- Results whose errors have their kinds under other names.
use Rattle.std.proofs.Common.{◌≡◌, refl, sym, subst}
use Rattle.std.specs.Prelude.{Result, Ok, Err, MatchResult, IsErrAnd}
use Rattle.plural_sections.specs.declared.line_error.LineError.{LineError}
use Rattle.plural_sections.specs.declared.line_error.LineError.TheVariants.{At, Memory}
use Rattle.plural_sections.specs.Errors.{renamed, IsRenamed}

-- An error whose kind has the name that a function gives it is the error with this name.
renamed_is : {K L : Type 0} (of : K → L) (e : LineError K) (error : LineError L) → IsRenamed (λ k l. l ≡ of k) e error → error ≡ renamed of e
renamed_is of Memory Memory h = refl
renamed_is of Memory (At number kind) h = absurd h
renamed_is of (At n k) Memory h = absurd h
renamed_is of (At n k) (At number kind) h = λ i. At (h.0 i) (h.1 i)

-- What holds of a result holds of the value that was passed on.
pub value_passed : {V E : Type 0} (r : Result V E) (v : V) (P : V → Type 0) (Q : E → Type 0) → MatchResult r P Q → r ≡ Ok v → P v
value_passed r v P Q m e = subst (λ x. MatchResult x P Q) e m

-- An error that was passed on under other names is one of which the result tells.
pub error_passed : {V K L : Type 0} (of : K → L) (r : Result V (LineError K)) (error : LineError L) (P : V → Type 0) (Q : LineError K → Type 0) (R : LineError L → Type 0)
    → MatchResult r P Q → IsErrAnd r (λ e. IsRenamed (λ k l. l ≡ of k) e error) → ((e : LineError K) → Q e → R (renamed of e)) → R error
error_passed of (Ok v) error P Q R m h f = absurd h
error_passed of (Err e) error P Q R m h f = subst R (sym (renamed_is of e error h)) (f e m)

-- An error that was told for one of which the result tells.
pub told_by : {V E F : Type 0} (r : Result V E) (error : F) (P : V → Type 0) (Q : E → Type 0) (T : E → F → Type 0) (R : F → Type 0) → MatchResult r P Q → IsErrAnd r (λ e. T e error) → ((e : E) → Q e → T e error → R error) → R error
told_by (Ok v) error P Q T R m h f = absurd h
told_by (Err e) error P Q T R m h f = f e m h

-- An error that was answered is the one of which this holds.
pub answered : {V E : Type 0} (r : Result V E) (P : V → Type 0) (Q : E → Type 0) (e : E) → IsErrAnd r (λ x. x ≡ e) → Q e → MatchResult r P Q
answered (Ok v) P Q e h q = absurd h
answered (Err x) P Q e h q = subst Q (sym h) q
