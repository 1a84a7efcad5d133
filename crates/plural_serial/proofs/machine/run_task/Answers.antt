use Rattle.std.proofs.Common.{◌≡◌, ◌+◌, List, ◌++◌, ◌∷◌, [], refl, ap, sym, ◌∙◌, map, append_assoc, append-nil}
use Rattle.plural_serial.specs.Serial.{Started, Stretch, instances, with_instance, outcome_of, end_of}
use Rattle.plural_serial.specs.Answer.{record_of}
use Rattle.plural_serial.specs.Program.{life_of}
use Rattle.plural_serial.specs.declared.record_.Record.{Record}
use Rattle.plural_serial.proofs.Runs.{instances_more, map_push}
use Rattle.plural_serial.proofs.machine.run_task.Goals as goal

-- The invariant of `loop-k` holds at its start.
pub loop-k-init : goal.loop-k-init
unfolding instances
loop-k-init c = record { shape = c.requires.may_run.shape; words = refl; memory = refl; records = sym (append-nil c.args.records.now.items); outcome = refl }

-- A turn of `loop-k` keeps its invariant.
pub loop-k-preserved : goal.loop-k-preserved
loop-k-preserved c =
    let i = c.loop-k.invariant in
    let p = c.args.program.now in
    let old = c.args.records.now.items in
    let s = instances p c.args.t c.loop-k.k c.args.flat.now.words in
    let done = c.run_instance-record.ensures in
    let new : Started = record { t = c.args.t; k = c.loop-k.k; start = s.memory } in
    let is : c.run_instance-record.result ≡ record_of p new = done.record ∙ ap (λ m. record_of p (record { t = c.args.t; k = c.loop-k.k; start = m })) i.memory in
    let more : instances p c.args.t (c.loop-k.k + 1) c.args.flat.now.words ≡ with_instance p c.args.t c.loop-k.k s = instances_more p c.args.t c.loop-k.k c.args.flat.now.words in
    record {
      shape = done.shape;
      words = done.words ∙ i.words;
      memory = done.memory ∙ ap (λ m. (life_of p c.args.t c.loop-k.k m).memory) i.memory ∙ sym (ap (λ (x : Stretch). x.memory) more);
      records = c.in_ok-push.ensures.items
          ∙ ap (λ (rs : List Record). rs ++ c.run_instance-record.result ∷ []) i.records
          ∙ ap (λ (r : Record). (old ++ map (record_of p) s.ran) ++ r ∷ []) is
          ∙ append_assoc old (map (record_of p) s.ran) (record_of p new ∷ [])
          ∙ ap (λ (rs : List Record). old ++ rs) (sym (map_push (record_of p) s.ran new))
          ∙ sym (ap (λ (x : Stretch). old ++ map (record_of p) x.ran) more);
      outcome = c.with_end-outcome.ensures (map (end_of p) s.ran) i.outcome
          ∙ ap (λ (r : Record). outcome_of (map (end_of p) s.ran ++ r.«end» ∷ [])) is
          ∙ ap outcome_of (sym (map_push (end_of p) s.ran new))
          ∙ sym (ap (λ (x : Stretch). outcome_of (map (end_of p) x.ran)) more);
    }
