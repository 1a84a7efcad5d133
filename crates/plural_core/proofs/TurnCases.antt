-- What holds of each way in which an instruction goes holds of every turn.
use Rattle.std.proofs.Common.{ℕ, ◌+◌, ◌*◌, ◌/◌, ◌%◌, ◌<◌, ◌≤◌, Bool, true, false, if◌then◌else◌, ◌==◌, nat_le, List, [], length, Option, Some, None, arith}
use Rattle.std.specs.Prelude.{ℤ, nat_lt, slice_index}
use Rattle.plural_isa.specs.Table.{operation_of}
use Rattle.plural_isa.specs.declared.table.Operation.{Operation}
use Rattle.plural_isa.specs.declared.table.Operation.TheVariants as o
use Rattle.plural_isa.specs.declared.instr.BranchOp.TheVariants as branch
use Rattle.plural_isa.specs.declared.instr.LoadOp.TheVariants as load
use Rattle.plural_isa.specs.declared.instr.StoreOp.TheVariants as store
use Rattle.plural_isa.specs.declared.instr.ImmOp.TheVariants as imm
use Rattle.plural_isa.specs.declared.instr.RegOp.TheVariants as reg
use Rattle.plural_regions.specs.Rights.{may_read, may_write}
use Rattle.plural_core.specs.Arithmetic.{word, sum_of}
use Rattle.plural_core.specs.Subword.{size_of}
use Rattle.plural_core.specs.Act.{Act, act, effect, by_row, jump, put, get}
use Rattle.plural_core.specs.Act as a
use Rattle.plural_core.specs.Turn.{State, Place, Step, turn, does, going, trapped, loaded, stored, code_of}
use Rattle.plural_core.specs.declared.subword.Width.{Width}

-- An effect goes on at a pc below 2^32, or traps with a cause of 1 to 9.
abbrev IsSound : Act → Type 0
IsSound (a.Go x pc) = pc < 0x100000000
IsSound (a.Trap cause) = (1 ≤ cause) × (cause ≤ 9)
IsSound _ = Unit {0}

sound_if : (b : Bool) (x y : Act) → IsSound x → IsSound y → IsSound (if b then x else y)
sound_if true x y h k = h
sound_if false x y h k = k

sound_jump : (x : List ℕ) (pc n target : ℕ) → target < 0x100000000 → IsSound (jump x pc n target)
sound_jump x pc n target l = sound_if (target % 4 == 0) (a.Go (put x n (sum_of pc 4)) target) (a.Trap 3) l (omega arith, omega arith)

sound_branch : (x : List ℕ) (pc : ℕ) (b : Bool) (z : ℤ) → IsSound (a.branch x pc b z)
sound_branch x pc false z = omega arith
sound_branch x pc true z = sound_if (sum_of pc (word z) % 4 == 0) (a.Go x (sum_of pc (word z))) (a.Trap 3) (omega arith) (omega arith, omega arith)

sound_effect : (m : Operation) (w : ℕ) (x : List ℕ) (pc : ℕ) → IsSound (effect m w x pc)
sound_effect o.Jal w x pc = sound_jump x pc _ _ (omega arith)
sound_effect o.Jalr w x pc = sound_jump x pc _ _ (omega arith)
sound_effect (o.Branch branch.Beq) w x pc = sound_branch x pc _ _
sound_effect (o.Branch branch.Bne) w x pc = sound_branch x pc _ _
sound_effect (o.Branch branch.Blt) w x pc = sound_branch x pc _ _
sound_effect (o.Branch branch.Bge) w x pc = sound_branch x pc _ _
sound_effect (o.Branch branch.Bltu) w x pc = sound_branch x pc _ _
sound_effect (o.Branch branch.Bgeu) w x pc = sound_branch x pc _ _
sound_effect (o.Load load.Lb) w x pc = tt
sound_effect (o.Load _) w x pc = tt
sound_effect (o.Store store.Sb) w x pc = tt
sound_effect (o.Store _) w x pc = tt
sound_effect (o.Imm imm.Addi) w x pc = omega arith
sound_effect (o.Imm _) w x pc = omega arith
sound_effect (o.Reg reg.Add) w x pc = omega arith
sound_effect (o.Reg _) w x pc = omega arith
sound_effect o.Ecall w x pc = tt
sound_effect o.Ebreak w x pc = (omega arith, omega arith)
sound_effect _ w x pc = omega arith

sound_row : (q : Option Operation) (w : ℕ) (x : List ℕ) (pc : ℕ) → IsSound (by_row q w x pc)
sound_row None w x pc = (omega arith, omega arith)
sound_row (Some m) w x pc = sound_effect m w x pc

sound_act : (code x : List ℕ) (pc : ℕ) → IsSound (act code x pc)
unfolding act
sound_act code x pc =
    let w = slice_index code (pc / 4) in
    sound_if (nat_lt pc (4 * length code)) (by_row (operation_of w) w x pc) (a.Trap 1) (sound_row (operation_of w) w x pc) (omega arith, omega arith)

-- The ways in which an instruction goes: on to a pc below 2^32, by a load, by a store, to the end, by a trap.
pub record HoldsOfEach (P : Step → Type 0) (p : Place) (s : State) (m : List ℕ) : Type 0 where
  pub goes : (x : List ℕ) (pc : ℕ) → pc < 0x100000000 → P (record { state = going p s x pc; memory = m; loads = []; stores = [] })
  pub reads : (address : ℕ) (width : Width) (sign : Bool) (rd : ℕ) → P (loaded p s m address width sign rd)
  pub writes : (address : ℕ) (width : Width) (value : ℕ) → P (stored p s m address width value)
  pub ends : P (record { state = record s { count = s.count + 1; over = Some (code_of (get s.registers 10)) }; memory = m; loads = []; stores = [] })
  pub traps : (cause : ℕ) → 1 ≤ cause → cause ≤ 9 → P (trapped s m cause)

-- What holds of each of them holds of every turn.
pub turn_each : (P : Step → Type 0) (p : Place) (s : State) (m : List ℕ) → HoldsOfEach P p s m → P (turn p s m)
unfolding turn
turn_each P p s m h = by (act p.code s.registers s.pc) (sound_act p.code s.registers s.pc)
  where
    either : (b : Bool) (x y : Step) → P x → P y → P (if b then x else y)
    either true x y k l = k
    either false x y k l = l

    by : (act : Act) → IsSound act → P (does p s m act)
    by (a.Go x pc) f = h.goes x pc f
    by (a.Read address width sign rd) f =
        either (address % size_of width == 0) (if may_read p.regions p.k (address / 4) then loaded p s m address width sign rd else trapped s m 5) (trapped s m 4)
        (either (may_read p.regions p.k (address / 4)) (loaded p s m address width sign rd) (trapped s m 5) (h.reads address width sign rd) (h.traps 5 (omega arith) (omega arith)))
        (h.traps 4 (omega arith) (omega arith))
    by (a.Write address width value) f =
        either (address % size_of width == 0) (if may_write p.regions p.k (address / 4) then stored p s m address width value else trapped s m 7) (trapped s m 6)
        (either (may_write p.regions p.k (address / 4)) (stored p s m address width value) (trapped s m 7) (h.writes address width value) (h.traps 7 (omega arith) (omega arith)))
        (h.traps 6 (omega arith) (omega arith))
    by a.Finish f = either (nat_le (get s.registers 10) 1) _ (trapped s m 9) h.ends (h.traps 9 (omega arith) (omega arith))
    by (a.Trap cause) f = h.traps cause f.0 f.1
