-- The serial run of a program whose map has no clash is a world.
use Rattle.std.proofs.Common.{◌≡◌, ◌≢◌, ℕ, ◌<◌, Bool, true, false, ◌&&◌, eqb, eq-eqb, List, length, ◌∙◌, ap, ◌⊎◌, inl, inr, ⊎_elim}
use Rattle.std.proofs.lemmas.Bool.{both_ways, cases_eq, false_from_ne_true}
use Rattle.plural_regions.specs.Rights.{may_read, may_write}
use Rattle.plural_regions.proofs.Regions.{may_read_from_write, reads_iff, writes_iff}
use Rattle.plural_core.proofs.Guards.{guarded_life}
use Rattle.plural_map.specs.Limits.{IsMap}
use Rattle.plural_reach.specs.Chains.{Before, comes_before}
use Rattle.plural_reach.specs.Branches.{Exclusive}
use Rattle.plural_reach.proofs.Ranks.{before_test, never_itself}
use Rattle.plural_reach.proofs.TableEntries.{reaches_all}
use Rattle.plural_crew.specs.Clashes.{MayOverlap}
use Rattle.plural_serial.specs.Program.{ProgramValue, task_at, place_at, start_state, life_of}
use Rattle.plural_serial.specs.Footprint.{AgreeFor}
use Rattle.plural_serial.specs.Serial.{ended}
use Rattle.plural_serial.specs.Instances.{Inst as Instance, same, is_in}
use Rattle.plural_serial.proofs.Footprint.{footprint}
use Rattle.plural_serial.proofs.Stretches.{ran_instances}
use Rattle.plural_order.specs.World.{Runs}
use Rattle.plural_order.specs.ProgramWorld.{lived, world_of, IsOpening}
use Rattle.plural_order.specs.ProgramLaws.{WorldOfProgram}
use Rattle.plural_order.proofs.Branches.{one_branch}
use Rattle.plural_order.proofs.SerialOrders.{ran_ordered}

-- Over memories that agree where it may read, an instance lives alike.
lives_alike : (p : ProgramValue) (t k : ℕ) (m n : List ℕ) → IsMap p.map → t < length p.map.tasks → k < (task_at p t).quota → AgreeFor p t k m n → lived (life_of p t k m) ≡ lived (life_of p t k n)
lives_alike p t k m n limits within below agree =
    let f = (footprint p t k m n limits within below agree).0 in
    λ i. record { over = ap ended f.over i; instructions = f.instructions i; loads = f.loads i; stores = f.stores i }

differ : (i j : Instance) → same i j ≡ false → (i.0 ≢ j.0) ⊎ (i.1 ≢ j.1)
differ i j e = ⊎_elim
    (λ (t : i.0 ≡ j.0). inr (λ (k : i.1 ≡ j.1). both_ways (same i j) e (ap (λ (b : Bool). b && eqb i.1 j.1) (eq-eqb i.0 j.0 t) ∙ eq-eqb i.1 j.1 k)))
    (λ (t : i.0 ≢ j.0). inl t)
    (cases_eq i.0 j.0)

module _ (p : ProgramValue) (m : List ℕ) (ok : IsOpening p m) where
  -- instances that run, neither's task before the other's, may run at the same time: exclusive tasks never both run
  overlap : (i j : Instance) → Runs (world_of p m) i → Runs (world_of p m) j → comes_before p.map.tasks i.0 j.0 ≡ false → comes_before p.map.tasks j.0 i.0 ≡ false → MayOverlap p.map.tasks i.0 j.0
  overlap i j r s a b = ⊎_elim
      (λ (t : i.0 ≡ j.0). inl t)
      (λ (t : i.0 ≢ j.0).
      let reaches = reaches_all p.map ok.limits in
      inr (
        (λ (h : Before p.map.tasks i.0 j.0). both_ways (comes_before p.map.tasks i.0 j.0) a ((before_test p.map.tasks reaches i.0 j.0).1 h)),
        (λ (h : Before p.map.tasks j.0 i.0). both_ways (comes_before p.map.tasks j.0 i.0) b ((before_test p.map.tasks reaches j.0 i.0).1 h)),
        (λ (x : Exclusive p.map.tasks i.0 j.0). ⊎_elim
            (λ (n : (k : ℕ) → is_in (i.0, k) (world_of p m).ran ≡ false). both_ways (is_in i (world_of p m).ran) (n i.1) r)
            (λ (n : (k : ℕ) → is_in (j.0, k) (world_of p m).ran ≡ false). both_ways (is_in j (world_of p m).ran) (n j.1) s)
            (one_branch p m ok.limits i.0 j.0 x)),
      ))
      (cases_eq i.0 j.0)

  no_clash : (i j : Instance) (a : ℕ) → Runs (world_of p m) i → Runs (world_of p m) j → same i j ≡ false → comes_before p.map.tasks i.0 j.0 ≡ false → comes_before p.map.tasks j.0 i.0 ≡ false
      → may_write (task_at p i.0).regions i.1 a ≡ true → may_read (task_at p j.0).regions j.1 a ≡ false
  no_clash i j a r s n b c w = false_from_ne_true (may_read (task_at p j.0).regions j.1 a) (λ h.
      ok.accepted i.0 i.1 j.0 j.1 a (record {
        first = (ran_instances p m ok.limits i.0 i.1 r).1;
        second = (ran_instances p m ok.limits j.0 j.1 s).1;
        differ = differ i j n;
        overlap = overlap i j r s b c;
        first_reads = (reads_iff (task_at p i.0).regions i.1 a).0 (may_read_from_write (task_at p i.0).regions i.1 a w);
        second_reads = (reads_iff (task_at p j.0).regions j.1 a).0 h;
        writes = inl ((writes_iff (task_at p i.0).regions i.1 a).0 w);
      }))

-- The serial run of a program whose map has no clash is a world.
pub world_of_program : WorldOfProgram
world_of_program p m ok = record {
  whole = ok.image;
  ordered = ran_ordered p m ok.limits;
  read_too = λ i a h. may_read_from_write (task_at p i.0).regions i.1 a h;
  stores_kept = λ i n r. (guarded_life (task_at p i.0).budget (place_at p i.0 i.1) (start_state p i.0 i.1) n).stores;
  footprint = λ i n o r a b h. let x = ran_instances p m ok.limits i.0 i.1 r in
      lives_alike p i.0 i.1 n o ok.limits x.0 x.1 (record { first = a; second = b; words = h });
  accepted = no_clash p m ok;
  never_itself = λ t. false_from_ne_true (comes_before p.map.tasks t t) (λ b. let reaches = reaches_all p.map ok.limits in never_itself p.map.tasks reaches t ((before_test p.map.tasks reaches t t).0 b));
}
