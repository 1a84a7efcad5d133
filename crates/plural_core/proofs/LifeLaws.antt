-- The stores, the counts and the ends of lives.
use Rattle.std.proofs.Common.{ℕ, zero, suc, ◌≡◌, ◌+◌, ◌<◌, ◌≤◌, Bool, true, false, if◌then◌else◌, ◌==◌, List, [], ◌∷◌, ◌++◌, length, Option, Some, None, refl, sym, ap, ◌∙◌, arith, length-append}
use Rattle.std.specs.Prelude.{slice_set, IfSome}
use Rattle.plural_base.specs.Stores.{sets}
use Rattle.plural_core.specs.Act.{get}
use Rattle.plural_core.specs.Turn.{State, Place, Step, turn, spent, loads_of, code_of}
use Rattle.plural_core.specs.Life.{life, join, stay, unless_over}
use Rattle.plural_core.specs.Ends.{IsEnd}
use Rattle.plural_core.specs.Laws.{TurnsJoin, StoresSet, IsFew, FewInTurns, CausesKnown}
use Rattle.plural_core.specs.declared.end.End.{End}
use Rattle.plural_core.specs.declared.end.End.TheVariants as end
use Rattle.plural_core.specs.declared.subword.Width.{Width}
use Rattle.plural_core.specs.declared.subword.Width.TheVariants.{Byte, Half, Word}
use Rattle.plural_core.proofs.Lives.{join_assoc, life_over}
use Rattle.plural_core.proofs.TurnCases.{turn_each}

-- What holds of the turn and the rest of a life, and of a state that stays, holds of the life.
unless : (P : Step → Type 0) (o : Option End) (x y : Step) → P x → P y → P (unless_over o x y)
unless P None x y h k = h
unless P (Some e) x y h k = k

-- ---- turns one after another

-- The turns of a life are its first i and then its next j.
pub turns_join : TurnsJoin
unfolding life
turns_join zero j p s m = let e : 0 + j ≡ j = omega arith in ap (λ (n : ℕ). life n p s m) e
turns_join (suc i) j p s m =
    let e : suc i + j ≡ suc (i + j) = omega arith in
    ap (λ (n : ℕ). life n p s m) e ∙ by s.over refl (turns_join i j p (turn p s m).state (turn p s m).memory)
  where
    t : Step
    t = turn p s m

    by : (o : Option End) → s.over ≡ o → life (i + j) p t.state t.memory ≡ join (life i p t.state t.memory) (life j p (life i p t.state t.memory).state (life i p t.state t.memory).memory)
        → unless_over o (join t (life (i + j) p t.state t.memory)) (stay s m)
        ≡ join (unless_over o (join t (life i p t.state t.memory)) (stay s m)) (life j p (unless_over o (join t (life i p t.state t.memory)) (stay s m)).state (unless_over o (join t (life i p t.state t.memory)) (stay s m)).memory)
    by None e rest = ap (join t) rest ∙ sym (join_assoc t (life i p t.state t.memory) _)
    by (Some e) h rest = sym (ap (join (stay s m)) (life_over j p s m e h))

-- ---- stores

-- Stores one after another.
pub sets_append : (m : List ℕ) (xs ys : List (ℕ × ℕ)) → sets m (xs ++ ys) ≡ sets (sets m xs) ys
sets_append m [] ys = refl
sets_append m (x ∷ xs) ys = sets_append (slice_set m x.0 x.1) xs ys

-- The memory is the earlier one with the step's stores set in order.
abbrev IsSet : List ℕ → Step → Type 0
IsSet m x = x.memory ≡ sets m x.stores

set_turn : (p : Place) (s : State) (m : List ℕ) → IsSet m (turn p s m)
set_turn p s m = turn_each (IsSet m) p s m (record {
  goes = λ x pc l. refl;
  reads = λ address width sign rd. refl;
  writes = λ address width value. refl;
  ends = refl;
  traps = λ cause l h. refl;
})

-- A life leaves the memory with its stores set in order.
pub set_life : StoresSet
unfolding life
set_life zero p s m = refl
set_life (suc n) p s m =
    let t = turn p s m in
    let rest = life n p t.state t.memory in
    unless (IsSet m) s.over (join t rest) (stay s m)
    (set_life n p t.state t.memory ∙ (ap (λ (l : List ℕ). sets l rest.stores) (set_turn p s m) ∙ sym (sets_append m t.stores rest.stores)))
    refl

-- ---- counts

few_loads : (width : Width) (address : ℕ) → length (loads_of width address) ≤ 1
few_loads Byte address = omega arith
few_loads Half address = omega arith
few_loads Word address = omega arith

few_turn : (p : Place) (s : State) (m : List ℕ) → IsFew 1 s (turn p s m)
few_turn p s m = turn_each (IsFew 1 s) p s m (record {
  goes = λ x pc l. record { instructions = omega arith; loads = omega arith; stores = omega arith };
  reads = λ address width sign rd. record { instructions = omega arith; loads = omega arith; stores = omega arith };
  writes = λ address width value. record { instructions = omega arith; loads = few_loads width address; stores = omega arith };
  ends = record { instructions = omega arith; loads = omega arith; stores = omega arith };
  traps = λ cause l h. record { instructions = omega arith; loads = omega arith; stores = omega arith };
})

few_join : (n : ℕ) (s : State) (x y : Step) → IsFew 1 s x → IsFew n x.state y → IsFew (suc n) s (join x y)
few_join n s x y h k = record {
  instructions = omega (arith, h.instructions, k.instructions);
  loads = omega (arith, length-append x.loads y.loads, h.loads, k.loads);
  stores = omega (arith, length-append x.stores y.stores, h.stores, k.stores);
}

-- A life of n turns completes at most n instructions, and makes at most n load accesses and n stores.
pub few_life : FewInTurns
unfolding life
few_life zero p s m = record { instructions = omega arith; loads = omega arith; stores = omega arith }
few_life (suc n) p s m =
    let t = turn p s m in
    let rest = life n p t.state t.memory in
    unless (IsFew (suc n) s) s.over (join t rest) (stay s m) (few_join n s t rest (few_turn p s m) (few_life n p t.state t.memory))
    (record { instructions = omega arith; loads = omega arith; stores = omega arith })

-- ---- ends

-- The pc is below 2^32, and a trap that ended the instance is one of the nine.
record IsKnown (s : State) : Type 0 where
  pub pc : s.pc < 0x100000000
  pub over : IfSome s.over IsEnd

spent_known : (b c : ℕ) → IfSome (spent b c) IsEnd
spent_known b c = by (c == b)
  where
    by : (t : Bool) → IfSome (if t then Some end.Exhausted else None) IsEnd
    by true = tt
    by false = tt

code_known : (n : ℕ) → IsEnd (code_of n)
code_known zero = tt
code_known (suc n) = tt

known_turn : (p : Place) (s : State) (m : List ℕ) → s.pc < 0x100000000 → IsKnown (turn p s m).state
known_turn p s m h = turn_each (λ x. IsKnown x.state) p s m (record {
  goes = λ x pc l. record { pc = l; over = spent_known p.budget (s.count + 1) };
  reads = λ address width sign rd. record { pc = omega arith; over = spent_known p.budget (s.count + 1) };
  writes = λ address width value. record { pc = omega arith; over = spent_known p.budget (s.count + 1) };
  ends = record { pc = h; over = code_known (get s.registers 10) };
  traps = λ cause l k. record { pc = h; over = (l, k, h) };
})

known_life : (n : ℕ) (p : Place) (s : State) (m : List ℕ) → IsKnown s → IsKnown (life n p s m).state
unfolding life
known_life zero p s m h = h
known_life (suc n) p s m h =
    let t = turn p s m in
    unless (λ x. IsKnown x.state) s.over (join t (life n p t.state t.memory)) (stay s m) (known_life n p t.state t.memory (known_turn p s m h.pc)) h

-- A trap's cause is 1 to 9 and its pc below 2^32.
pub causes_known : CausesKnown
causes_known n p s m l h = (known_life n p s m (record { pc = l; over = h })).over
