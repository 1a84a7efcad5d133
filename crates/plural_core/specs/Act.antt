-- What the word at pc does, by the row of the instruction table that it has.
-- (RV32I 2.1, chapter 2; M 2.0.) The next pc is pc + 4 modulo 2^32 unless a jump or a taken branch gives another.
use Rattle.std.specs.Prelude.{ℕ, ◌-◌, ◌*◌, ◌/◌, ◌%◌, ℤ, List, length, slice_index, slice_set, Bool, true, false, not, nat_lt, bit_and, bit_or, bit_xor, if◌then◌else◌, ◌==◌, Option, Some, None}
use Rattle.plural_isa.specs.Fields.{rd, rs1, rs2, imm_i, imm_s, imm_b, imm_u, imm_j}
use Rattle.plural_isa.specs.Table.{operation_of}
use Rattle.plural_isa.specs.declared.table.Operation.{Operation}
use Rattle.plural_isa.specs.declared.table.Operation.TheVariants as o
use Rattle.plural_isa.specs.declared.instr.BranchOp.TheVariants.{Beq, Bne, Blt, Bge, Bltu, Bgeu}
use Rattle.plural_isa.specs.declared.instr.LoadOp.TheVariants.{Lb, Lh, Lw, Lbu, Lhu}
use Rattle.plural_isa.specs.declared.instr.StoreOp.TheVariants.{Sb, Sh, Sw}
use Rattle.plural_isa.specs.declared.instr.ImmOp.TheVariants.{Addi, Slti, Sltiu, Xori, Ori, Andi, Slli, Srli, Srai}
use Rattle.plural_isa.specs.declared.instr.RegOp.TheVariants.{Add, Sub, Sll, Slt, Sltu, Xor, Srl, Sra, Or, And, Mul, Mulh, Mulhsu, Mulhu, Div, Divu, Rem, Remu}
use Rattle.plural_core.specs.Arithmetic.{word, sum_of, difference_of, left_of, right_of, signed_right_of, flag, is_below_signed, product_of, mulh_of, mulhsu_of, mulhu_of, div_of, rem_of, divu_of, remu_of}
use Rattle.plural_core.specs.declared.subword.Width.{Width}
use Rattle.plural_core.specs.declared.subword.Width.TheVariants.{Byte, Half, Word}

-- The effect of one instruction before the guard: go on, load, store, end the instance, or trap.
pub data Act : Type 0 where
  Go : (registers : List ℕ) (pc : ℕ) → Act
  Read : (address : ℕ) (width : Width) (sign : Bool) (rd : ℕ) → Act
  Write : (address : ℕ) (width : Width) (value : ℕ) → Act
  Finish : Act
  Trap : (cause : ℕ) → Act

-- What register n reads: x0 reads 0. (RV32I 2.1, section 2.1.)
abbrev pub get : List ℕ → ℕ → ℕ
get x n = if n == 0 then 0 else slice_index x n

-- The registers once v is written to register n: x0 keeps its 0. (RV32I 2.1, section 2.1.)
abbrev pub put : List ℕ → ℕ → ℕ → List ℕ
put x n v = if n == 0 then x else slice_set x n v

-- Register n becomes v, and the next instruction follows.
abbrev pub next : List ℕ → ℕ → ℕ → ℕ → Act
next x pc n v = Go (put x n v) (sum_of pc 4)

-- A jump to an aligned target leaves pc + 4 in register n; one to another target traps with cause 3.
-- (RV32I 2.1, section 2.5.)
abbrev pub jump : List ℕ → ℕ → ℕ → ℕ → Act
jump x pc n target = if target % 4 == 0 then Go (put x n (sum_of pc 4)) target else Trap 3

-- A branch that is taken goes to pc + offset, or traps with cause 3 if that isn't aligned.
-- (RV32I 2.1, section 2.5.)
abbrev pub branch : List ℕ → ℕ → Bool → ℤ → Act
branch x pc false offset = Go x (sum_of pc 4)
branch x pc true offset = if sum_of pc (word offset) % 4 == 0 then Go x (sum_of pc (word offset)) else Trap 3

-- The byte address that a base register and an offset give. (RV32I 2.1, section 2.6.)
abbrev pub address_of : List ℕ → ℕ → ℤ → ℕ
address_of x n offset = sum_of (get x n) (word offset)

-- The effect of an operation, by the bit fields of the word w, over these registers at this pc.
abbrev pub effect : Operation → ℕ → List ℕ → ℕ → Act
-- Integer register-immediate instructions. (RV32I 2.1, section 2.4.)
effect (o.Imm Addi) w x pc = next x pc (rd w) (sum_of (get x (rs1 w)) (word (imm_i w)))
effect (o.Imm Slti) w x pc = next x pc (rd w) (flag (is_below_signed (get x (rs1 w)) (word (imm_i w))))
effect (o.Imm Sltiu) w x pc = next x pc (rd w) (flag (nat_lt (get x (rs1 w)) (word (imm_i w))))
effect (o.Imm Andi) w x pc = next x pc (rd w) (bit_and (get x (rs1 w)) (word (imm_i w)))
effect (o.Imm Ori) w x pc = next x pc (rd w) (bit_or (get x (rs1 w)) (word (imm_i w)))
effect (o.Imm Xori) w x pc = next x pc (rd w) (bit_xor (get x (rs1 w)) (word (imm_i w)))
effect (o.Imm Slli) w x pc = next x pc (rd w) (left_of (get x (rs1 w)) (rs2 w))
effect (o.Imm Srli) w x pc = next x pc (rd w) (right_of (get x (rs1 w)) (rs2 w))
effect (o.Imm Srai) w x pc = next x pc (rd w) (signed_right_of (get x (rs1 w)) (rs2 w))
effect o.Lui w x pc = next x pc (rd w) (imm_u w * 4096)
effect o.Auipc w x pc = next x pc (rd w) (sum_of pc (imm_u w * 4096))
-- Integer register-register instructions. (RV32I 2.1, section 2.4.)
effect (o.Reg Add) w x pc = next x pc (rd w) (sum_of (get x (rs1 w)) (get x (rs2 w)))
effect (o.Reg Slt) w x pc = next x pc (rd w) (flag (is_below_signed (get x (rs1 w)) (get x (rs2 w))))
effect (o.Reg Sltu) w x pc = next x pc (rd w) (flag (nat_lt (get x (rs1 w)) (get x (rs2 w))))
effect (o.Reg And) w x pc = next x pc (rd w) (bit_and (get x (rs1 w)) (get x (rs2 w)))
effect (o.Reg Or) w x pc = next x pc (rd w) (bit_or (get x (rs1 w)) (get x (rs2 w)))
effect (o.Reg Xor) w x pc = next x pc (rd w) (bit_xor (get x (rs1 w)) (get x (rs2 w)))
effect (o.Reg Sll) w x pc = next x pc (rd w) (left_of (get x (rs1 w)) (get x (rs2 w)))
effect (o.Reg Srl) w x pc = next x pc (rd w) (right_of (get x (rs1 w)) (get x (rs2 w)))
effect (o.Reg Sub) w x pc = next x pc (rd w) (difference_of (get x (rs1 w)) (get x (rs2 w)))
effect (o.Reg Sra) w x pc = next x pc (rd w) (signed_right_of (get x (rs1 w)) (get x (rs2 w)))
-- Unconditional jumps and conditional branches. (RV32I 2.1, section 2.5.)
effect o.Jal w x pc = jump x pc (rd w) (sum_of pc (word (imm_j w)))
effect o.Jalr w x pc = jump x pc (rd w) (address_of x (rs1 w) (imm_i w) - address_of x (rs1 w) (imm_i w) % 2)
effect (o.Branch Beq) w x pc = branch x pc (get x (rs1 w) == get x (rs2 w)) (imm_b w)
effect (o.Branch Bne) w x pc = branch x pc (not (get x (rs1 w) == get x (rs2 w))) (imm_b w)
effect (o.Branch Blt) w x pc = branch x pc (is_below_signed (get x (rs1 w)) (get x (rs2 w))) (imm_b w)
effect (o.Branch Bltu) w x pc = branch x pc (nat_lt (get x (rs1 w)) (get x (rs2 w))) (imm_b w)
effect (o.Branch Bge) w x pc = branch x pc (not (is_below_signed (get x (rs1 w)) (get x (rs2 w)))) (imm_b w)
effect (o.Branch Bgeu) w x pc = branch x pc (not (nat_lt (get x (rs1 w)) (get x (rs2 w)))) (imm_b w)
-- Loads and stores. (RV32I 2.1, section 2.6.)
effect (o.Load Lw) w x pc = Read (address_of x (rs1 w) (imm_i w)) Word true (rd w)
effect (o.Load Lh) w x pc = Read (address_of x (rs1 w) (imm_i w)) Half true (rd w)
effect (o.Load Lhu) w x pc = Read (address_of x (rs1 w) (imm_i w)) Half false (rd w)
effect (o.Load Lb) w x pc = Read (address_of x (rs1 w) (imm_i w)) Byte true (rd w)
effect (o.Load Lbu) w x pc = Read (address_of x (rs1 w) (imm_i w)) Byte false (rd w)
effect (o.Store Sw) w x pc = Write (address_of x (rs1 w) (imm_s w)) Word (get x (rs2 w))
effect (o.Store Sh) w x pc = Write (address_of x (rs1 w) (imm_s w)) Half (get x (rs2 w))
effect (o.Store Sb) w x pc = Write (address_of x (rs1 w) (imm_s w)) Byte (get x (rs2 w))
-- Memory ordering, environment call and breakpoint. (RV32I 2.1, sections 2.7 and 2.8.)
effect o.Fence w x pc = Go x (sum_of pc 4)
effect o.Ecall w x pc = Finish
effect o.Ebreak w x pc = Trap 8
-- Multiplication and division. (M 2.0.)
effect (o.Reg Mul) w x pc = next x pc (rd w) (product_of (get x (rs1 w)) (get x (rs2 w)))
effect (o.Reg Mulh) w x pc = next x pc (rd w) (mulh_of (get x (rs1 w)) (get x (rs2 w)))
effect (o.Reg Mulhu) w x pc = next x pc (rd w) (mulhu_of (get x (rs1 w)) (get x (rs2 w)))
effect (o.Reg Mulhsu) w x pc = next x pc (rd w) (mulhsu_of (get x (rs1 w)) (get x (rs2 w)))
effect (o.Reg Div) w x pc = next x pc (rd w) (div_of (get x (rs1 w)) (get x (rs2 w)))
effect (o.Reg Divu) w x pc = next x pc (rd w) (divu_of (get x (rs1 w)) (get x (rs2 w)))
effect (o.Reg Rem) w x pc = next x pc (rd w) (rem_of (get x (rs1 w)) (get x (rs2 w)))
effect (o.Reg Remu) w x pc = next x pc (rd w) (remu_of (get x (rs1 w)) (get x (rs2 w)))

-- The effect of a word's row; a word in no row traps with cause 2.
abbrev pub by_row : Option Operation → ℕ → List ℕ → ℕ → Act
by_row None w x pc = Trap 2
by_row (Some m) w x pc = effect m w x pc

-- The effect of the instruction at pc; a pc past the code traps with cause 1.
unfoldable pub act : (code x : List ℕ) → ℕ → Act
act code x pc =
    if nat_lt pc (4 * length code)
    then by_row (operation_of (slice_index code (pc / 4))) (slice_index code (pc / 4)) x pc
    else Trap 1
