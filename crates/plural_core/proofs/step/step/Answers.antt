use Rattle.std.proofs.Common.{◌^◌, ◌∙◌, ◌<◌, rules, subst}
use Rattle.plural_base.specs.Told.{Foresees}
use Rattle.plural_core.specs.Turn.{Step}
use Rattle.plural_core.specs.Progress.{live}
use Rattle.plural_core.proofs.Effects.{turn_is}
use Rattle.plural_core.proofs.step.step.Goals as goal

-- The answer meets the clause `state`.
pub returns-clause-state : goal.returns-clause-state
returns-clause-state g c =
    let P = g.P.DataPort in
    let fits : c.word.result < 2 ^ 32 = search rules in
    rw (turn_is c.args.code.now c.args.regions.now (live c.args.at c.args.registers.now) (P.told c.args.port.now).words c.word.result c.args.flat.now c.by_fields-instr.result c.index-flat-i.result c.requires.flat c.if-i-flat.false (c.by_fields-instr.ensures ∙ c.index-flat-i.is) c.word.ensures fits)
    c.perform.ensures.state

-- The answer meets the clause `port`.
pub returns-clause-port : goal.returns-clause-port
returns-clause-port g c =
    let P = g.P.DataPort in
    let fits : c.word.result < 2 ^ 32 = search rules in
    rw (turn_is c.args.code.now c.args.regions.now (live c.args.at c.args.registers.now) (P.told c.args.port.now).words c.word.result c.args.flat.now c.by_fields-instr.result c.index-flat-i.result c.requires.flat c.if-i-flat.false (c.by_fields-instr.ensures ∙ c.index-flat-i.is) c.word.ensures fits)
    c.perform.ensures.port

-- The call of `perform` has what its clause `expected` requires.
pub perform-requires-clause-expected : goal.perform-requires-clause-expected
perform-requires-clause-expected g c =
    let P = g.P.DataPort in
    let fits : c.word.result < 2 ^ 32 = search rules in
    let turn = turn_is c.args.code.now c.args.regions.now (live c.args.at c.args.registers.now) (P.told c.args.port.now).words c.word.result c.args.flat.now c.by_fields-instr.result c.index-flat-i.result c.requires.flat c.if-i-flat.false (c.by_fields-instr.ensures ∙ c.index-flat-i.is) c.word.ensures fits in
    subst (λ (d : Step). Foresees (P.told c.args.port.now).expects d.stores) turn c.requires.expected
