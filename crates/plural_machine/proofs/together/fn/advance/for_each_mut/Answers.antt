use Rattle.plural_machine.proofs.together.fn.advance.for_each_mut.Goals as goal

-- The core has its seat.
pub work_until_left-requires : goal.work_until_left-requires
work_until_left-requires g c = record {
  program = c.requires.0;
  opened = c.requires.1;
  ready = (c.requires.2.first, c.requires.2.ready);
}
