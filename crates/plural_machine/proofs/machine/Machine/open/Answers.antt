use Rattle.std.proofs.Common.{◌≡◌, ap, sym, ◌∙◌, subst}
use Rattle.plural_rule.specs.Opening.{Opening}
use Rattle.plural_rule.specs.declared.view.View.{View}
use Rattle.plural_words.proofs.Opens.{opening_of}
use Rattle.plural_cores.specs.Cores.{IsOpened}
use Rattle.plural_serial.specs.Program.{ProgramValue}
use Rattle.plural_finished.specs.Rooms.{room_for}
use Rattle.plural_machine.specs.Together.{Each}
use Rattle.plural_machine.specs.Machines.{IsRunnable}
use Rattle.plural_machine.proofs.machine.Machine.open.Goals as goal

-- The machine is whole, and no seat is out.
pub invariant_of-result : goal.invariant_of-result
invariant_of-result c =
    let o : Opening = record { program = c.args.program.now; image = c.args.image.now; cores = c.args.cores } in
    let is : c.in_ok-words.words.opening ≡ o = c.in_ok-words.ensures.opening in
    let run : IsRunnable o = record {
      program = c.entries-entries.ensures.program;
      opening = opening_of c.args.program.now c.args.image.now _ _ c.map.ensures c.words-words.ensures.limits c.requires.map c.map-map.ensures.accepted c.requires.image;
      some_core = c.requires.cores.0;
      few_cores = c.requires.cores.1;
    } in
    let program : c.args.program.now ≡ c.in_ok-words.words.opening.program = ap (λ (p : Opening). p.program) (sym is) in
    record {
      runnable = subst (λ (p : Opening). IsRunnable p) (sym is) run;
      of = c.in_ok-words.ensures.of;
      alone = ap (λ (v : View). v.role) c.in_ok-words.ensures.root;
      settles = c.in_ok-sync.ensures ∙ program;
      all = c.in_ok-all.ensures.all ∙ ap (λ (p : Opening). p.cores) (sym is);
      idle = subst (λ (p : ProgramValue). Each (IsOpened p) c.in_ok-all.all.items) program c.in_ok-all.ensures.each;
      fits = c.in_ok-room.ensures ∙ ap room_for program;
    }
