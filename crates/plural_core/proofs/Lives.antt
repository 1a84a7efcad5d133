-- One turn after another.
use Rattle.std.proofs.Common.{ℕ, zero, suc, ◌≡◌, ◌≢◌, ◌+◌, ◌-◌, ◌/◌, ◌%◌, ◌<◌, ◌≤◌, Bool, true, false, if◌then◌else◌, ◌==◌, nat_le, List, ◌++◌, length, drop-drop, Option, Some, None, arith, refl, sym, ap, ◌∙◌, subst, append_assoc, append-nil, length-append}
use Rattle.std.proofs.Math.Seq.{drop-append_seam}
use Rattle.std.proofs.Math.ListN.{length-set}
use Rattle.std.proofs.lemmas.Bool.Decides.{nat_tests}
use Rattle.plural_core.specs.Turn.{State, Place, Step, Core, turn, spent, does, trapped, loaded, stored, loads_of}
use Rattle.plural_regions.specs.Rights.{may_read, may_write}
use Rattle.plural_core.specs.Subword.{size_of}
use Rattle.plural_core.specs.Act.{Act, act, get}
use Rattle.plural_core.specs.Act as a
use Rattle.plural_base.specs.Told.{Told, Counted, Expects, Foresees, after, told_after}
use Rattle.plural_core.specs.Port.{Makes}
use Rattle.plural_core.specs.Progress.{live, progress_of}
use Rattle.plural_core.specs.declared.progress.Progress.{Progress}
use Rattle.plural_core.specs.Life.{unless_over, life, join, stay}
use Rattle.plural_core.specs.declared.end.End.{End}
use Rattle.plural_core.specs.declared.subword.Width.{Width}
use Rattle.plural_core.specs.declared.subword.Width.TheVariants.{Byte, Half, Word}

life_going : (n : ℕ) (p : Place) (s : State) (m : List ℕ) → s.over ≡ None → life (suc n) p s m ≡ join (turn p s m) (life n p (turn p s m).state (turn p s m).memory)
unfolding life
life_going n p s m h = rw h refl

-- A state with an end stays.
pub life_over : (n : ℕ) (p : Place) (s : State) (m : List ℕ) (e : End) → s.over ≡ Some e → life n p s m ≡ stay s m
unfolding life
life_over zero p s m e h = refl
life_over (suc n) p s m e h = rw h refl

-- A turn that goes on has counted one, and makes at most one access of each kind.
pub record IsFine (b : ℕ) (s : State) (m : List ℕ) (t : Step) : Type 0 where
  pub below : t.state.over ≡ None → t.state.count ≢ b
  pub goes : t.state.over ≡ None → t.state.count ≡ s.count + 1
  pub few_loads : length t.loads ≤ 1
  pub few_stores : length t.stores ≤ 1
  pub words : length t.memory ≡ length m

either : (n : ℕ) (s : State) (m : List ℕ) (b : Bool) (x y : Step) → IsFine n s m x → IsFine n s m y → IsFine n s m (if b then x else y)
either n s m true x y h k = h
either n s m false x y h k = k

spent_same : (b c : ℕ) → c ≡ b → spent b c ≡ None → ⊥
spent_same b c e h = let t : (c == b) ≡ true = grind (arith, nat_tests) in (let k = rw t at h in (cc))

-- A count that is not spent is not the budget.
not_spent : (b c : ℕ) → spent b c ≡ None → c ≢ b
not_spent b c h = λ e. absurd (spent_same b c e h)

fine_trap : (b : ℕ) (s : State) (m : List ℕ) (cause : ℕ) → IsFine b s m (trapped s m cause)
fine_trap b s m cause = record { below = λ h. cc; goes = λ h. cc; few_loads = omega arith; few_stores = omega arith; words = refl }

few : (width : Width) (address : ℕ) → length (loads_of width address) ≤ 1
few Byte address = omega arith
few Half address = omega arith
few Word address = omega arith

fine_does : (p : Place) (s : State) (m : List ℕ) (act : Act) → IsFine p.budget s m (does p s m act)
fine_does p s m (a.Go x pc) = record { below = not_spent p.budget (s.count + 1); goes = λ h. refl; few_loads = omega arith; few_stores = omega arith; words = refl }
fine_does p s m (a.Read address width sign rd) =
    either p.budget s m (address % size_of width == 0) (if may_read p.regions p.k (address / 4) then loaded p s m address width sign rd else trapped s m 5) (trapped s m 4)
    (either p.budget s m (may_read p.regions p.k (address / 4)) (loaded p s m address width sign rd) (trapped s m 5)
    (record { below = not_spent p.budget (s.count + 1); goes = λ h. refl; few_loads = omega arith; few_stores = omega arith; words = refl }) (fine_trap p.budget s m 5)) (fine_trap p.budget s m 4)
fine_does p s m (a.Write address width value) =
    either p.budget s m (address % size_of width == 0) (if may_write p.regions p.k (address / 4) then stored p s m address width value else trapped s m 7) (trapped s m 6)
    (either p.budget s m (may_write p.regions p.k (address / 4)) (stored p s m address width value) (trapped s m 7)
    (record { below = not_spent p.budget (s.count + 1); goes = λ h. refl; few_loads = few width address; few_stores = omega arith; words = length-set _ _ _ }) (fine_trap p.budget s m 7)) (fine_trap p.budget s m 6)
fine_does p s m a.Finish =
    either p.budget s m (nat_le (get s.registers 10) 1) _ (trapped s m 9) (record { below = λ h. cc; goes = λ h. cc; few_loads = omega arith; few_stores = omega arith; words = refl }) (fine_trap p.budget s m 9)
fine_does p s m (a.Trap cause) = fine_trap p.budget s m cause

-- So it is of every turn.
pub fine_turn : (p : Place) (s : State) (m : List ℕ) → IsFine p.budget s m (turn p s m)
unfolding turn
fine_turn p s m = fine_does p s m (act p.code s.registers s.pc)

after-after : (i j : ℕ) (e : Option (List (ℕ × ℕ))) → after j (after i e) ≡ after (i + j) e
after-after i j None = refl
after-after i j (Some stores) = ap Some (drop-drop j i stores)

-- Three steps one after another.
pub join_assoc : (a b c : Step) → join (join a b) c ≡ join a (join b c)
join_assoc a b c = rw (append_assoc, append_assoc) refl

join_stay : (t : Step) → join t (stay t.state t.memory) ≡ t
join_stay t = rw (append-nil, append-nil) refl

-- A life of at least one turn.
pub life_split : (b : ℕ) (p : Place) (s : State) (m : List ℕ) → s.over ≡ None → s.count < b → life (b - s.count) p s m ≡ join (turn p s m) (life (b - (s.count + 1)) p (turn p s m).state (turn p s m).memory)
life_split b p s m h l = let e : b - s.count ≡ suc (b - (s.count + 1)) = omega arith in rw e (life_going (b - (s.count + 1)) p s m h)

-- One whose first turn goes on.
pub life_on : (b : ℕ) (p : Place) (s : State) (m : List ℕ) → s.over ≡ None → s.count < b → (turn p s m).state.over ≡ None → life (b - s.count) p s m ≡ join (turn p s m) (life (b - (turn p s m).state.count) p (turn p s m).state (turn p s m).memory)
life_on b p s m h l g = let e = (fine_turn p s m).goes g in rw e (life_split b p s m h l)

-- One whose first turn is the last.
pub life_last : (b : ℕ) (p : Place) (s : State) (m : List ℕ) (e : End) → s.over ≡ None → s.count < b → (turn p s m).state.over ≡ Some e → life (b - s.count) p s m ≡ turn p s m
life_last b p s m e h l g =
    life_split b p s m h l
    ∙ ap (join (turn p s m)) (life_over (b - (s.count + 1)) p (turn p s m).state (turn p s m).memory e g)
    ∙ join_stay (turn p s m)

-- The stores expected begin with those of the first turn.
pub foreseen : (b : ℕ) (p : Place) (s : State) (m : List ℕ) (e : Option (List (ℕ × ℕ))) → s.over ≡ None → s.count < b → Expects e (life (b - s.count) p s m).stores → Foresees e (turn p s m).stores
foreseen b p s m None h l x = tt
foreseen b p s m (Some stores) h l x = ((life (b - (s.count + 1)) p (turn p s m).state (turn p s m).memory).stores, x ∙ ap (λ t. t.stores) (life_split b p s m h l))

-- And go on with those of the rest.
pub expected_on : (b : ℕ) (p : Place) (s : State) (m : List ℕ) (e : Option (List (ℕ × ℕ))) → s.over ≡ None → s.count < b → (turn p s m).state.over ≡ None → Expects e (life (b - s.count) p s m).stores → Expects (after (length (turn p s m).stores) e) (life (b - (turn p s m).state.count) p (turn p s m).state (turn p s m).memory).stores
expected_on b p s m None h l g x = tt
expected_on b p s m (Some stores) h l g x =
    rw (x ∙ ap (λ t. t.stores) (life_on b p s m h l g)) (drop-append_seam (turn p s m).stores _)

-- No store more leaves what is expected.
pub after_none : (e : Option (List (ℕ × ℕ))) → e ≡ after 0 e
after_none None = refl
after_none (Some stores) = refl

-- What is told after one step and another is what is told after both.
told_twice : (i j : ℕ) (m n : List ℕ) (t : Told) → told_after j n (told_after i m t) ≡ told_after (i + j) n t
told_twice i j m n t = ap (λ e. let r : Told = record { words = n; lawful = t.lawful; expects = e } in r) (after-after i j t.expects)

-- What any port has made of steps.
module _ {P : Type 0} (told : P → Told) (counts : P → Counted) (stands_for : P → List ℕ → Type 0) (keeps : P → P → Type 0) (is_sound : P → Type 0) where
  abbrev Made : P → P → Step → Type 0
  Made x y t = Makes told counts stands_for keeps is_sound x y t

  -- The accesses of two steps.
  joined : (both : (x y z : P) → keeps x y → keeps y z → keeps x z) (x y z : P) (d t : Step) → Made x y d → Made y z t → Made x z (join d t)
  joined both x y z d t h k = record {
    stored = k.stored ∙ ap (told_after (length t.stores) t.memory) h.stored
        ∙ told_twice (length d.stores) (length t.stores) d.memory t.memory (told x)
        ∙ ap (λ n. told_after n t.memory (told x)) (sym (length-append d.stores t.stores));
    stands = λ l q. rw (← append_assoc) (k.stands (l ++ d.loads) (h.stands l q));
    read = omega (arith, h.read, k.read, length-append d.loads t.loads);
    written = omega (arith, h.written, k.written, length-append d.stores t.stores);
    kept = both x y z h.kept k.kept;
    sound = k.sound;
  }

  -- No accesses.
  pub idle : (x : P) (s : State) → keeps x x → is_sound x → Made x x (stay s (told x).words)
  idle x s none h = record {
    stored = ap (λ e. let r : Told = record { words = (told x).words; lawful = (told x).lawful; expects = e } in r) (after_none (told x).expects);
    stands = λ l q. rw append-nil q;
    read = omega arith;
    written = omega arith;
    kept = none;
    sound = h;
  }

  -- A turn more, after which the life goes on.
  pub more : (both : (x y z : P) → keeps x y → keeps y z → keeps x z) (x y z : P) (b : ℕ) (p : Place) (s : State) (d all : Step)
      → s.over ≡ None → s.count < b → (turn p s (told y).words).state.over ≡ None
      → Made x y d → Made y z (turn p s (told y).words) → join d (life (b - s.count) p s (told y).words) ≡ all
      → (e : Step) × Made x z e × (join e (life (b - (turn p s (told y).words).state.count) p (turn p s (told y).words).state (told z).words) ≡ all)
  more both x y z b p s d all h l g made k q =
      let t = turn p s (told y).words in (
        join d t,
        joined both x y z d t made k,
        rw k.stored (join_assoc d t (life (b - t.state.count) p t.state t.memory) ∙ ap (join d) (sym (life_on b p s (told y).words h l g)) ∙ q),
      )

  -- The last turn.
  pub last : (both : (x y z : P) → keeps x y → keeps y z → keeps x z) (x y z : P) (b : ℕ) (p : Place) (s : State) (d all : Step) (e : End)
      → s.over ≡ None → s.count < b → (turn p s (told y).words).state.over ≡ Some e
      → Made x y d → Made y z (turn p s (told y).words) → join d (life (b - s.count) p s (told y).words) ≡ all
      → Made x z all × (all.state ≡ (turn p s (told y).words).state)
  last both x y z b p s d all e h l g made k q =
      let t = turn p s (told y).words in
      let same : join d t ≡ all = ap (join d) (sym (life_last b p s (told y).words e h l g)) ∙ q in
      (subst (λ (a : Step). Made x z a) same (joined both x y z d t made k), ap (λ a. a.state) (sym same))

-- A core is the record of its parts.
pub core_is : (x : Core) (s : State) (k b : ℕ) → x.state ≡ s → x.k ≡ k → x.budget ≡ b → x ≡ record { state = s; k = k; budget = b }
core_is x s k b p q r = rw (← p, ← q, ← r) refl

-- A core that goes on is what its parts tell of it.
pub live_is : (c : Core) (at : Progress) (x : List ℕ) → at ≡ progress_of c → x ≡ c.state.registers → c.state.over ≡ None → live at x ≡ c
live_is c at x p q o = rw (p, q, ← o) refl

kept : (o : Option End) (x y : Step) (m : List ℕ) → length x.memory ≡ length m → length y.memory ≡ length m → length (unless_over o x y).memory ≡ length m
kept None x y m h k = h
kept (Some e) x y m h k = k

-- A life keeps the number of words.
pub words_kept : (n : ℕ) (p : Place) (s : State) (m : List ℕ) → length (life n p s m).memory ≡ length m
unfolding life
words_kept zero p s m = refl
words_kept (suc n) p s m = kept s.over (join (turn p s m) (life n p (turn p s m).state (turn p s m).memory)) (stay s m) m (words_kept n p (turn p s m).state (turn p s m).memory ∙ (fine_turn p s m).words) refl

-- The rest of a life that goes on, up to the budget, has an end.
pub life_ends : (n : ℕ) (p : Place) (s : State) (m : List ℕ) → s.over ≡ None → s.count + n ≡ p.budget → 0 < n → (e : End) × ((life n p s m).state.over ≡ Some e)
life_ends zero p s m o c h = absurd (omega arith)
life_ends (suc n) p s m o c h =
    let t = turn p s m in
    let split = ap (λ x. x.state.over) (life_going n p s m o) in
    elim t.state.over as (λ x. t.state.over ≡ x → (e : End) × ((life (suc n) p s m).state.over ≡ Some e)) [
      | Some e ↦ (λ q. (e, split ∙ ap (λ x. x.state.over) (life_over n p t.state t.memory e q) ∙ q))
      | None ↦ (λ q.
          let fine = fine_turn p s m in
          let count = fine.goes q in
          let r = life_ends n p t.state t.memory q (omega arith) (omega (arith, fine.below q)) in
          (r.0, split ∙ r.1))
    ] refl
