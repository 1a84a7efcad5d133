-- An instance touches only what it may.
use Rattle.std.proofs.Common.{ℕ, zero, suc, ◌≡◌, ◌/◌, ◌%◌, Bool, true, false, if◌then◌else◌, ◌==◌, nat_le, List, [], ◌∷◌, Option, Some, None, arith, refl}
use Rattle.std.specs.List.{All}
use Rattle.std.proofs.lemmas.List.Elements.{All-append, All-nil}
use Rattle.plural_core.specs.Turn.{State, Place, Step, turn, does, trapped, loaded, stored, loads_of}
use Rattle.plural_regions.specs.Rights.{may_read, may_write}
use Rattle.plural_core.specs.Subword.{size_of}
use Rattle.plural_core.specs.Act.{Act, act, get}
use Rattle.plural_core.specs.Act as a
use Rattle.plural_core.specs.Life.{life, join, stay, unless_over}
use Rattle.plural_core.specs.Footprint.{IsGuarded}
use Rattle.plural_core.specs.declared.end.End.{End}
use Rattle.plural_core.specs.declared.subword.Width.{Width}
use Rattle.plural_core.specs.declared.subword.Width.TheVariants.{Byte, Half, Word}
use Rattle.plural_regions.proofs.Regions.{may_read_from_write}

-- A property of the one element of a list.
all_one : {X : Type 0} (P : X → Type 0) (x : X) → P x → All P (x ∷ [])
all_one P x h zero d l = h
all_one P x h (suc k) d l = absurd (omega arith)

either : (p : Place) (b : Bool) (x y : Step) → (b ≡ true → IsGuarded p x) → IsGuarded p y → IsGuarded p (if b then x else y)
either p true x y h k = h refl
either p false x y h k = k

-- A step without accesses.
untouched : (p : Place) (s : State) (m : List ℕ) → IsGuarded p (stay s m)
untouched p s m = record { loads = All-nil _; stores = All-nil _ }

loads_guarded : (p : Place) (width : Width) (address : ℕ) → may_read p.regions p.k (address / 4) ≡ true → All (λ a. may_read p.regions p.k a ≡ true) (loads_of width address)
loads_guarded p Byte address h = all_one (λ a. may_read p.regions p.k a ≡ true) (address / 4) h
loads_guarded p Half address h = all_one (λ a. may_read p.regions p.k a ≡ true) (address / 4) h
loads_guarded p Word address h = All-nil _

guarded_does : (p : Place) (s : State) (m : List ℕ) (act : Act) → IsGuarded p (does p s m act)
guarded_does p s m (a.Go x pc) = record { loads = All-nil _; stores = All-nil _ }
guarded_does p s m (a.Read address width sign rd) =
    either p (address % size_of width == 0) (if may_read p.regions p.k (address / 4) then loaded p s m address width sign rd else trapped s m 5) (trapped s m 4)
    (λ _. either p (may_read p.regions p.k (address / 4)) (loaded p s m address width sign rd) (trapped s m 5)
    (λ r. record { loads = all_one (λ a. may_read p.regions p.k a ≡ true) (address / 4) r; stores = All-nil _ }) (record { loads = All-nil _; stores = All-nil _ }))
    (record { loads = All-nil _; stores = All-nil _ })
guarded_does p s m (a.Write address width value) =
    either p (address % size_of width == 0) (if may_write p.regions p.k (address / 4) then stored p s m address width value else trapped s m 7) (trapped s m 6)
    (λ _. either p (may_write p.regions p.k (address / 4)) (stored p s m address width value) (trapped s m 7)
    (λ w. record {
      loads = loads_guarded p width address (may_read_from_write p.regions p.k (address / 4) w);
      stores = all_one (λ s. may_write p.regions p.k s.0 ≡ true) _ w;
    }) (record { loads = All-nil _; stores = All-nil _ }))
    (record { loads = All-nil _; stores = All-nil _ })
guarded_does p s m a.Finish =
    either p (nat_le (get s.registers 10) 1) _ (trapped s m 9) (λ _. record { loads = All-nil _; stores = All-nil _ }) (record { loads = All-nil _; stores = All-nil _ })
guarded_does p s m (a.Trap cause) = record { loads = All-nil _; stores = All-nil _ }

guarded_turn : (p : Place) (s : State) (m : List ℕ) → IsGuarded p (turn p s m)
unfolding turn
guarded_turn p s m = guarded_does p s m (act p.code s.registers s.pc)

guarded_join : (p : Place) (x y : Step) → IsGuarded p x → IsGuarded p y → IsGuarded p (join x y)
guarded_join p x y h k = record {
  loads = All-append (λ a. may_read p.regions p.k a ≡ true) x.loads y.loads h.loads k.loads;
  stores = All-append (λ s. may_write p.regions p.k s.0 ≡ true) x.stores y.stores h.stores k.stores;
}

guarded_unless : (p : Place) (o : Option End) (x y : Step) → IsGuarded p x → IsGuarded p y → IsGuarded p (unless_over o x y)
guarded_unless p None x y h k = h
guarded_unless p (Some e) x y h k = k

-- A life touches only what the instance may.
pub guarded_life : (i : ℕ) (p : Place) (s : State) (m : List ℕ) → IsGuarded p (life i p s m)
unfolding life
guarded_life zero p s m = untouched p s m
guarded_life (suc i) p s m =
    guarded_unless p s.over (join (turn p s m) (life i p (turn p s m).state (turn p s m).memory)) (stay s m)
    (guarded_join p (turn p s m) (life i p (turn p s m).state (turn p s m).memory) (guarded_turn p s m) (guarded_life i p (turn p s m).state (turn p s m).memory))
    (untouched p s m)
