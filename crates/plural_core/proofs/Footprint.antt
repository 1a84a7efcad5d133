-- An instance depends on the words that it may read alone, and stores where it may write.
use Rattle.std.proofs.Common.{ℕ, zero, suc, ◌≡◌, ◌≢◌, ◌/◌, ◌%◌, ◌<◌, Bool, true, false, if◌then◌else◌, ◌==◌, nat_le, List, [], ◌∷◌, ◌++◌, length, slice_index, slice_set, Option, Some, None, arith, refl, sym, ap, ◌∙◌, subst, ⊎_elim, get_or-set_other}
use Rattle.std.proofs.lemmas.Grind.{get_or-set_at}
use Rattle.std.proofs.Math.ListN.{length-set}
use Rattle.std.proofs.lemmas.Bool.{cases_eq}
use Rattle.plural_core.specs.Turn.{State, Place, Step, turn, does, going, trapped, loaded, stored}
use Rattle.plural_regions.specs.Rights.{may_read, may_write}
use Rattle.plural_core.specs.Subword.{size_of, part_of, merged}
use Rattle.plural_core.specs.Arithmetic.{sum_of}
use Rattle.plural_core.specs.Act.{Act, act, get, put}
use Rattle.plural_core.specs.Act as a
use Rattle.plural_core.specs.Life.{life, join, stay, unless_over}
use Rattle.plural_core.specs.Footprint.{Agrees, Alike}
use Rattle.plural_core.specs.declared.end.End.{End}
use Rattle.plural_regions.proofs.Regions.{may_read_from_write}

either : (p : Place) (b : Bool) (x y u v : Step) → (b ≡ true → Alike p x u) → Alike p y v → Alike p (if b then x else y) (if b then u else v)
either p true x y u v h k = h refl
either p false x y u v h k = k

alike_trap : (p : Place) (s : State) (m n : List ℕ) (cause : ℕ) → Agrees p m n → Alike p (trapped s m cause) (trapped s n cause)
alike_trap p s m n cause h = record { state = refl; loads = refl; stores = refl; agrees = h }

-- A write at one place keeps what is equal at a place.
set_at : (m n : List ℕ) (i b v : ℕ) → i < length m → i < length n → slice_index m b ≡ slice_index n b → slice_index (slice_set m i v) b ≡ slice_index (slice_set n i v) b
set_at m n i b v h k e = ⊎_elim
    (λ (q : b ≡ i). get_or-set_at m i b v 0 q h ∙ sym (get_or-set_at n i b v 0 q k))
    (λ (q : b ≢ i). let q' : b ≢ i = q in (rw (get_or-set_other, get_or-set_other) e))
    (cases_eq b i)

agrees_set : (p : Place) (m n : List ℕ) (i v : ℕ) → may_read p.regions p.k i ≡ true → Agrees p m n → Agrees p (slice_set m i v) (slice_set n i v)
agrees_set p m n i v r h = record {
  words = λ b q. set_at m n i b v (h.inside i r).0 (h.inside i r).1 (h.words b q);
  inside = λ b q. (omega (arith, length-set m i v, (h.inside b q).0), omega (arith, length-set n i v, (h.inside b q).1));
}

alike_does : (p : Place) (s : State) (m n : List ℕ) (act : Act) → Agrees p m n → Alike p (does p s m act) (does p s n act)
alike_does p s m n (a.Go x pc) h = record { state = refl; loads = refl; stores = refl; agrees = h }
alike_does p s m n (a.Read address width sign rd) h =
    either p (address % size_of width == 0) _ _ _ _
    (λ _. either p (may_read p.regions p.k (address / 4)) (loaded p s m address width sign rd) (trapped s m 5) (loaded p s n address width sign rd) (trapped s n 5)
    (λ r. record {
      state = ap (λ w. going p s (put s.registers rd (part_of width sign w address)) (sum_of s.pc 4)) (h.words (address / 4) r);
      loads = refl;
      stores = refl;
      agrees = h;
    })
    (alike_trap p s m n 5 h))
    (alike_trap p s m n 4 h)
alike_does p s m n (a.Write address width value) h =
    either p (address % size_of width == 0) _ _ _ _
    (λ _. either p (may_write p.regions p.k (address / 4)) (stored p s m address width value) (trapped s m 7) (stored p s n address width value) (trapped s n 7)
    (λ r. let q = may_read_from_write p.regions p.k (address / 4) r in
    let same = ap (λ w. merged width w address value) (h.words (address / 4) q) in
    record {
      state = refl;
      loads = refl;
      stores = ap (λ v. (address / 4, v) ∷ []) same;
      agrees = subst (λ (v : ℕ). Agrees p (slice_set m (address / 4) (merged width (slice_index m (address / 4)) address value)) (slice_set n (address / 4) v)) same
          (agrees_set p m n (address / 4) (merged width (slice_index m (address / 4)) address value) q h);
    })
    (alike_trap p s m n 7 h))
    (alike_trap p s m n 6 h)
alike_does p s m n a.Finish h =
    either p (nat_le (get s.registers 10) 1) _ (trapped s m 9) _ (trapped s n 9) (λ _. record { state = refl; loads = refl; stores = refl; agrees = h }) (alike_trap p s m n 9 h)
alike_does p s m n (a.Trap cause) h = alike_trap p s m n cause h

alike_turn : (p : Place) (s : State) (m n : List ℕ) → Agrees p m n → Alike p (turn p s m) (turn p s n)
unfolding turn
alike_turn p s m n h = alike_does p s m n (act p.code s.registers s.pc) h

alike_join : (p : Place) (x y u v : Step) → Alike p x u → Alike p y v → Alike p (join x y) (join u v)
alike_join p x y u v h k = record {
  state = k.state;
  loads = ap (λ l. l ++ y.loads) h.loads ∙ ap (λ l. u.loads ++ l) k.loads;
  stores = ap (λ l. l ++ y.stores) h.stores ∙ ap (λ l. u.stores ++ l) k.stores;
  agrees = k.agrees;
}

alike_unless : (p : Place) (o : Option End) (x y u v : Step) → Alike p x u → Alike p y v → Alike p (unless_over o x y) (unless_over o u v)
alike_unless p None x y u v h k = h
alike_unless p (Some e) x y u v h k = k

-- Over two memories that agree on what the instance may read, its lives are alike.
pub alike_life : (i : ℕ) (p : Place) (s : State) (m n : List ℕ) → Agrees p m n → Alike p (life i p s m) (life i p s n)
unfolding life
alike_life zero p s m n h = record { state = refl; loads = refl; stores = refl; agrees = h }
alike_life (suc i) p s m n h =
    let t = alike_turn p s m n h in
    alike_unless p s.over _ (stay s m) _ (stay s n)
    (alike_join p (turn p s m) (life i p (turn p s m).state (turn p s m).memory) (turn p s n) (life i p (turn p s n).state (turn p s n).memory) t
    (subst (λ (r : State). Alike p (life i p (turn p s m).state (turn p s m).memory) (life i p r (turn p s n).memory)) t.state
    (alike_life i p (turn p s m).state (turn p s m).memory (turn p s n).memory t.agrees)))
    (record { state = refl; loads = refl; stores = refl; agrees = h })
