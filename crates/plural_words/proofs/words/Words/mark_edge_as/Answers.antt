use Rattle.std.proofs.Common.{◌≡◌, ◌<◌, false, slice_get, Some, Contains, arith}
use Rattle.plural_counters.specs.declared.duty.Duty.TheVariants.{Tell}
use Rattle.plural_rule.specs.Opening.{Opening, task_count, graph_in, edges_of}
use Rattle.plural_rule.specs.Layout.{state_at}
use Rattle.plural_words.proofs.Tokens.{inside_of, key_of, view_of}
use Rattle.plural_words.proofs.SettlingSteps.{mark_edge_allowed}
use Rattle.plural_words.proofs.words.Words.mark_edge_as.Goals as goal

-- The dependency may be marked.
pub fetch_or-requires : goal.fetch_or-requires
fetch_or-requires g c =
    let is = inside_of c.self.view_is c.seat.view_is c.requires.of in
    let at = key_of (λ (o : Opening). c.state_index-index.result ≡ state_at o.program c.args.u) c.self.view_is c.state_index-index.ensures in
    let small = key_of (λ (o : Opening). c.args.u < task_count o.program) c.self.view_is c.requires.task in
    let owes = view_of (λ v. Contains v.owes (Tell g.N.Owed.task g.N.Owed.outcome g.N.Owed.number false)) c.seat.view_is c.requires.owes in
    let place = key_of (λ (o : Opening). slice_get ((graph_in o).successors g.N.Owed.task) g.N.Owed.number ≡ Some c.args.u) c.self.view_is c.requires.place in
    let bits = key_of (λ (o : Opening). c.args.bits ≡ edges_of o g.N.Owed.task c.args.u) c.self.view_is c.requires.bits in
    let words = c.self.invariant.1 in
    (is.table, omega (arith, words, at, small), mark_edge_allowed _ _ _ _ _ is.view.opening is.role g.N.Owed.task g.N.Owed.outcome g.N.Owed.number c.args.u _ _ at owes place bits)
