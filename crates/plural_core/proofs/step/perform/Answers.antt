use Rattle.std.proofs.Common.{◌≡◌, [], subst, true, false, refl, rules}
use Rattle.plural_isa.specs.declared.flat_instr.Mnemonic.TheVariants as m
use Rattle.plural_core.specs.Act.{Read, Write, address_of}
use Rattle.plural_core.specs.Turn.{place_of, does}
use Rattle.plural_core.specs.Progress.{live, counted}
use Rattle.plural_core.specs.Port.{Makes}
use Rattle.plural_core.specs.declared.subword.Width.TheVariants.{Byte, Half}
use Rattle.plural_core.proofs.Effects.{effect_by}
use Rattle.plural_core.proofs.NoAccesses.{branch_quiet, quiet}
use Rattle.plural_core.proofs.step.perform.Goals as goal

-- The answer at `in-Beq` meets the clause `port`.
pub returns-in-Beq-clause-port : goal.returns-in-Beq-clause-port
returns-in-Beq-clause-port g c =
    let P = g.P.DataPort in
    let core = live c.args.at c.args.registers.now in
    rw (effect_by m.Beq c.args.instr c.args.registers.now c.args.at.pc c.in-Beq.is)
    (quiet P.told P.counts P.stands_for P.keeps P.is_sound c.args.port.now _
    (branch_quiet (place_of [] c.args.regions.now core) core.state (P.told c.args.port.now).words c.args.registers.now c.args.at.pc _ c.args.instr.imm)
    (g.met.P.DataPort.keeps_none c.args.port.now) c.requires.ready.sound)

-- The answer at `in-Bne` meets the clause `port`.
pub returns-in-Bne-clause-port : goal.returns-in-Bne-clause-port
returns-in-Bne-clause-port g c =
    let P = g.P.DataPort in
    let core = live c.args.at c.args.registers.now in
    rw (effect_by m.Bne c.args.instr c.args.registers.now c.args.at.pc c.in-Bne.is)
    (quiet P.told P.counts P.stands_for P.keeps P.is_sound c.args.port.now _
    (branch_quiet (place_of [] c.args.regions.now core) core.state (P.told c.args.port.now).words c.args.registers.now c.args.at.pc _ c.args.instr.imm)
    (g.met.P.DataPort.keeps_none c.args.port.now) c.requires.ready.sound)

-- The answer at `in-Blt` meets the clause `port`.
pub returns-in-Blt-clause-port : goal.returns-in-Blt-clause-port
returns-in-Blt-clause-port g c =
    let P = g.P.DataPort in
    let core = live c.args.at c.args.registers.now in
    rw (effect_by m.Blt c.args.instr c.args.registers.now c.args.at.pc c.in-Blt.is)
    (quiet P.told P.counts P.stands_for P.keeps P.is_sound c.args.port.now _
    (branch_quiet (place_of [] c.args.regions.now core) core.state (P.told c.args.port.now).words c.args.registers.now c.args.at.pc _ c.args.instr.imm)
    (g.met.P.DataPort.keeps_none c.args.port.now) c.requires.ready.sound)

-- The answer at `in-Bge` meets the clause `port`.
pub returns-in-Bge-clause-port : goal.returns-in-Bge-clause-port
returns-in-Bge-clause-port g c =
    let P = g.P.DataPort in
    let core = live c.args.at c.args.registers.now in
    rw (effect_by m.Bge c.args.instr c.args.registers.now c.args.at.pc c.in-Bge.is)
    (quiet P.told P.counts P.stands_for P.keeps P.is_sound c.args.port.now _
    (branch_quiet (place_of [] c.args.regions.now core) core.state (P.told c.args.port.now).words c.args.registers.now c.args.at.pc _ c.args.instr.imm)
    (g.met.P.DataPort.keeps_none c.args.port.now) c.requires.ready.sound)

-- The answer at `in-Bltu` meets the clause `port`.
pub returns-in-Bltu-clause-port : goal.returns-in-Bltu-clause-port
returns-in-Bltu-clause-port g c =
    let P = g.P.DataPort in
    let core = live c.args.at c.args.registers.now in
    rw (effect_by m.Bltu c.args.instr c.args.registers.now c.args.at.pc c.in-Bltu.is)
    (quiet P.told P.counts P.stands_for P.keeps P.is_sound c.args.port.now _
    (branch_quiet (place_of [] c.args.regions.now core) core.state (P.told c.args.port.now).words c.args.registers.now c.args.at.pc _ c.args.instr.imm)
    (g.met.P.DataPort.keeps_none c.args.port.now) c.requires.ready.sound)

-- The answer at `in-Bgeu` meets the clause `port`.
pub returns-in-Bgeu-clause-port : goal.returns-in-Bgeu-clause-port
returns-in-Bgeu-clause-port g c =
    let P = g.P.DataPort in
    let core = live c.args.at c.args.registers.now in
    rw (effect_by m.Bgeu c.args.instr c.args.registers.now c.args.at.pc c.in-Bgeu.is)
    (quiet P.told P.counts P.stands_for P.keeps P.is_sound c.args.port.now _
    (branch_quiet (place_of [] c.args.regions.now core) core.state (P.told c.args.port.now).words c.args.registers.now c.args.at.pc _ c.args.instr.imm)
    (g.met.P.DataPort.keeps_none c.args.port.now) c.requires.ready.sound)

-- The answer at `in-Lb` meets the clause `state`.
pub returns-in-Lb-clause-state : goal.returns-in-Lb-clause-state
returns-in-Lb-clause-state g c =
    let P = g.P.DataPort in
    let core = live c.args.at c.args.registers.now in
    let address : c.address.result ≡ address_of c.args.registers.now c.args.instr.rs1 c.args.instr.imm = search rules in
    rw (effect_by m.Lb c.args.instr c.args.registers.now c.args.at.pc c.in-Lb.is)
    (subst (λ n. counted core c.read.result c.read.new.registers
    ≡ (does (place_of [] c.args.regions.now core) core.state (P.told c.args.port.now).words (Read n Byte true c.args.instr.rd)).state)
    address c.read.ensures.state)

-- The answer at `in-Lb` meets the clause `port`.
pub returns-in-Lb-clause-port : goal.returns-in-Lb-clause-port
returns-in-Lb-clause-port g c =
    let P = g.P.DataPort in
    let core = live c.args.at c.args.registers.now in
    let address : c.address.result ≡ address_of c.args.registers.now c.args.instr.rs1 c.args.instr.imm = search rules in
    rw (effect_by m.Lb c.args.instr c.args.registers.now c.args.at.pc c.in-Lb.is)
    (subst (λ n. Makes P.told P.counts P.stands_for P.keeps P.is_sound c.args.port.now c.read.new.port
    (does (place_of [] c.args.regions.now core) core.state (P.told c.args.port.now).words (Read n Byte true c.args.instr.rd)))
    address c.read.ensures.port)

-- The answer at `in-Lh` meets the clause `state`.
pub returns-in-Lh-clause-state : goal.returns-in-Lh-clause-state
returns-in-Lh-clause-state g c =
    let P = g.P.DataPort in
    let core = live c.args.at c.args.registers.now in
    let address : c.address-in-Lh.result ≡ address_of c.args.registers.now c.args.instr.rs1 c.args.instr.imm = search rules in
    rw (effect_by m.Lh c.args.instr c.args.registers.now c.args.at.pc c.in-Lh.is)
    (subst (λ n. counted core c.read-in-Lh.result c.read-in-Lh.new.registers
    ≡ (does (place_of [] c.args.regions.now core) core.state (P.told c.args.port.now).words (Read n Half true c.args.instr.rd)).state)
    address c.read-in-Lh.ensures.state)

-- The answer at `in-Lh` meets the clause `port`.
pub returns-in-Lh-clause-port : goal.returns-in-Lh-clause-port
returns-in-Lh-clause-port g c =
    let P = g.P.DataPort in
    let core = live c.args.at c.args.registers.now in
    let address : c.address-in-Lh.result ≡ address_of c.args.registers.now c.args.instr.rs1 c.args.instr.imm = search rules in
    rw (effect_by m.Lh c.args.instr c.args.registers.now c.args.at.pc c.in-Lh.is)
    (subst (λ n. Makes P.told P.counts P.stands_for P.keeps P.is_sound c.args.port.now c.read-in-Lh.new.port
    (does (place_of [] c.args.regions.now core) core.state (P.told c.args.port.now).words (Read n Half true c.args.instr.rd)))
    address c.read-in-Lh.ensures.port)

-- The answer at `in-Lbu` meets the clause `port`.
pub returns-in-Lbu-clause-port : goal.returns-in-Lbu-clause-port
returns-in-Lbu-clause-port g c =
    let P = g.P.DataPort in
    let core = live c.args.at c.args.registers.now in
    let address : c.address-in-Lbu.result ≡ address_of c.args.registers.now c.args.instr.rs1 c.args.instr.imm = search rules in
    rw (effect_by m.Lbu c.args.instr c.args.registers.now c.args.at.pc c.in-Lbu.is)
    (subst (λ n. Makes P.told P.counts P.stands_for P.keeps P.is_sound c.args.port.now c.read-in-Lbu.new.port
    (does (place_of [] c.args.regions.now core) core.state (P.told c.args.port.now).words (Read n Byte false c.args.instr.rd)))
    address c.read-in-Lbu.ensures.port)

-- The answer at `in-Lhu` meets the clause `state`.
pub returns-in-Lhu-clause-state : goal.returns-in-Lhu-clause-state
returns-in-Lhu-clause-state g c =
    let P = g.P.DataPort in
    let core = live c.args.at c.args.registers.now in
    let address : c.address-in-Lhu.result ≡ address_of c.args.registers.now c.args.instr.rs1 c.args.instr.imm = search rules in
    rw (effect_by m.Lhu c.args.instr c.args.registers.now c.args.at.pc c.in-Lhu.is)
    (subst (λ n. counted core c.read-in-Lhu.result c.read-in-Lhu.new.registers
    ≡ (does (place_of [] c.args.regions.now core) core.state (P.told c.args.port.now).words (Read n Half false c.args.instr.rd)).state)
    address c.read-in-Lhu.ensures.state)

-- The answer at `in-Lhu` meets the clause `port`.
pub returns-in-Lhu-clause-port : goal.returns-in-Lhu-clause-port
returns-in-Lhu-clause-port g c =
    let P = g.P.DataPort in
    let core = live c.args.at c.args.registers.now in
    let address : c.address-in-Lhu.result ≡ address_of c.args.registers.now c.args.instr.rs1 c.args.instr.imm = search rules in
    rw (effect_by m.Lhu c.args.instr c.args.registers.now c.args.at.pc c.in-Lhu.is)
    (subst (λ n. Makes P.told P.counts P.stands_for P.keeps P.is_sound c.args.port.now c.read-in-Lhu.new.port
    (does (place_of [] c.args.regions.now core) core.state (P.told c.args.port.now).words (Read n Half false c.args.instr.rd)))
    address c.read-in-Lhu.ensures.port)

-- The answer at `in-Sh` meets the clause `port`.
pub returns-in-Sh-clause-port : goal.returns-in-Sh-clause-port
returns-in-Sh-clause-port g c =
    let P = g.P.DataPort in
    let core = live c.args.at c.args.registers.now in
    let address : c.address-in-Sh.result ≡ address_of c.args.registers.now c.args.instr.rs1 c.args.instr.imm = search rules in
    rw (effect_by m.Sh c.args.instr c.args.registers.now c.args.at.pc c.in-Sh.is)
    (subst (λ v. Makes P.told P.counts P.stands_for P.keeps P.is_sound c.args.port.now c.write-in-Sh.new.port
    (does (place_of [] c.args.regions.now core) core.state (P.told c.args.port.now).words (Write (address_of c.args.registers.now c.args.instr.rs1 c.args.instr.imm) Half v)))
    c.register-y.ensures
    (subst (λ n. Makes P.told P.counts P.stands_for P.keeps P.is_sound c.args.port.now c.write-in-Sh.new.port
    (does (place_of [] c.args.regions.now core) core.state (P.told c.args.port.now).words (Write n Half c.register-y.result)))
    address c.write-in-Sh.ensures.port))

-- The answer at `in-Slti` meets the clause `port`.
pub returns-in-Slti-clause-port : goal.returns-in-Slti-clause-port
returns-in-Slti-clause-port g c =
    let P = g.P.DataPort in
    rw (effect_by m.Slti c.args.instr c.args.registers.now c.args.at.pc c.in-Slti.is)
    (quiet P.told P.counts P.stands_for P.keeps P.is_sound c.args.port.now _ (record { memory = refl; loads = refl; stores = refl })
    (g.met.P.DataPort.keeps_none c.args.port.now) c.requires.ready.sound)
