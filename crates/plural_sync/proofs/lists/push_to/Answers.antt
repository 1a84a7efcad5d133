use Rattle.plural_sync.proofs.Rows.{pushed}
use Rattle.plural_sync.proofs.lists.push_to.Goals as goal

-- The list has one number more, and the other lists stay.
pub returns : goal.returns
returns c = pushed c.args.lists.now.items c.args.t c.args.u c.index_mut.result.now c.push.new.self c.requires c.index_mut.ensures.value c.in_ok-push.ensures.items
