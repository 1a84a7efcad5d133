use Rattle.std.proofs.Common.{◌≡◌, ◌<◌, length, ap, ◌∙◌, sym, subst}
use Rattle.std.proofs.lemmas.Result.{IfOk-weaker}
use Rattle.plural_serial.specs.Serial.{serial_of}
use Rattle.plural_crew.specs.Clashes.{IsAccepted}
use Rattle.plural_bundle.specs.Value.{BundleValue}
use Rattle.plural_cli.specs.declared.answer.Reply.{Reply}
use Rattle.plural_cli.specs.Run.{status_of}
use Rattle.plural_cli.specs.Made.{serial_line, made_run_line, made_run_status}
use Rattle.plural_cli.proofs.MadeBundles.{made_words, made_many, made_free}
use Rattle.plural_cli.proofs.made_run.made_run_answer.Goals as goal

-- The bundle's image has the words of its map.
pub ran_made-requires-clause-words : goal.ran_made-requires-clause-words
ran_made-requires-clause-words g c κs within = subst (λ (b : BundleValue). length b.image ≡ b.program.map.words) (sym c.in_ok-bundle.ensures) (made_words c.args.seed)

-- It has the words of the line.
pub ran_made-requires-clause-many : goal.ran_made-requires-clause-many
ran_made-requires-clause-many g c κs within = subst (λ (b : BundleValue). 32812 < b.program.map.words) (sym c.in_ok-bundle.ensures) (made_many c.args.seed)

-- Its map has no clash.
pub ran_made-requires-clause-accepted : goal.ran_made-requires-clause-accepted
ran_made-requires-clause-accepted g c κs within = subst (λ (b : BundleValue). IsAccepted b.program.map.tasks) (sym c.in_ok-bundle.ensures) (made_free c.args.seed)

-- The status is that of its serial run.
pub returns-clause-status : goal.returns-clause-status
unfolding made_run_status
returns-clause-status g c =
    IfOk-weaker c.ran_made.result (λ (r : Reply). r.answer.status ≡ status_of (serial_of c.in_ok-bundle.bundle.program c.in_ok-bundle.bundle.image).outcomes) (λ (r : Reply). r.answer.status ≡ made_run_status c.args.seed)
    (λ (r : Reply) p. p ∙ ap (λ (b : BundleValue). status_of (serial_of b.program b.image).outcomes) c.in_ok-bundle.ensures) c.ran_made.ensures.status

-- The line is that of its serial run.
pub returns-clause-text : goal.returns-clause-text
unfolding made_run_line
returns-clause-text g c =
    IfOk-weaker c.ran_made.result (λ (r : Reply). r.answer.text.items ≡ serial_line c.in_ok-bundle.bundle) (λ (r : Reply). r.answer.text.items ≡ made_run_line c.args.seed) (λ (r : Reply) p. p ∙ ap serial_line c.in_ok-bundle.ensures) c.ran_made.ensures.text
