-- What the rows of the table are, operation by operation.
use Rattle.std.proofs.Common.{ℕ, ◌≡◌, ◌<◌, true, false, Some, arith, rules, refl}
use Rattle.plural_isa.specs.Table.{row_of, operation_at, code_of, funct3_of, funct7_of, is_shift}
use Rattle.plural_isa.specs.declared.table.Operation.{Operation}
use Rattle.plural_isa.specs.declared.table.Operation.TheVariants as o
use Rattle.plural_isa.specs.declared.table.Fixed.TheVariants.{Funct3, Funct3And7}
use Rattle.plural_isa.specs.declared.instr.BranchOp.{BranchOp}
use Rattle.plural_isa.specs.declared.instr.BranchOp.TheVariants as branch
use Rattle.plural_isa.specs.declared.instr.LoadOp.{LoadOp}
use Rattle.plural_isa.specs.declared.instr.LoadOp.TheVariants as load
use Rattle.plural_isa.specs.declared.instr.StoreOp.{StoreOp}
use Rattle.plural_isa.specs.declared.instr.StoreOp.TheVariants as store
use Rattle.plural_isa.specs.declared.instr.ImmOp.{ImmOp}
use Rattle.plural_isa.specs.declared.instr.ImmOp.TheVariants as imm
use Rattle.plural_isa.specs.declared.instr.RegOp.{RegOp}
use Rattle.plural_isa.specs.declared.instr.RegOp.TheVariants as reg

-- The fixed fields of a row have the sizes of the word's fields.
pub rows_fit : (m : Operation) → (code_of m < 128) × (funct3_of m < 8) × (funct7_of m < 128)
rows_fit (o.Branch branch.Beq) = (omega arith, omega arith, omega arith)
rows_fit (o.Branch _) = (omega arith, omega arith, omega arith)
rows_fit (o.Load load.Lb) = (omega arith, omega arith, omega arith)
rows_fit (o.Load _) = (omega arith, omega arith, omega arith)
rows_fit (o.Store store.Sb) = (omega arith, omega arith, omega arith)
rows_fit (o.Store _) = (omega arith, omega arith, omega arith)
rows_fit (o.Imm imm.Addi) = (omega arith, omega arith, omega arith)
rows_fit (o.Imm _) = (omega arith, omega arith, omega arith)
rows_fit (o.Reg reg.Add) = (omega arith, omega arith, omega arith)
rows_fit (o.Reg _) = (omega arith, omega arith, omega arith)
rows_fit _ = (omega arith, omega arith, omega arith)

-- A branch fixes its funct3 alone.
pub branch_fixed : (op : BranchOp) → (row_of (o.Branch op)).fixed ≡ Funct3 (funct3_of (o.Branch op))
branch_fixed branch.Beq = refl
branch_fixed _ = refl

-- A word with the fixed fields of a branch has its row first.
pub branch_found : (op : BranchOp) (w f7 : ℕ) → operation_at (code_of (o.Branch op)) (funct3_of (o.Branch op)) f7 w ≡ Some (o.Branch op)
branch_found branch.Beq w f7 = refl
branch_found _ w f7 = refl

-- A load fixes its funct3 alone.
pub load_fixed : (op : LoadOp) → (row_of (o.Load op)).fixed ≡ Funct3 (funct3_of (o.Load op))
load_fixed load.Lb = refl
load_fixed _ = refl

-- A word with the fixed fields of a load has its row first.
pub load_found : (op : LoadOp) (w f7 : ℕ) → operation_at (code_of (o.Load op)) (funct3_of (o.Load op)) f7 w ≡ Some (o.Load op)
load_found load.Lb w f7 = refl
load_found _ w f7 = refl

-- A store fixes its funct3 alone.
pub store_fixed : (op : StoreOp) → (row_of (o.Store op)).fixed ≡ Funct3 (funct3_of (o.Store op))
store_fixed store.Sb = refl
store_fixed _ = refl

-- A word with the fixed fields of a store has its row first.
pub store_found : (op : StoreOp) (w f7 : ℕ) → operation_at (code_of (o.Store op)) (funct3_of (o.Store op)) f7 w ≡ Some (o.Store op)
store_found store.Sb w f7 = refl
store_found _ w f7 = refl

-- An operation on two registers fixes its funct3 and its funct7.
pub reg_fixed : (op : RegOp) → (row_of (o.Reg op)).fixed ≡ Funct3And7 (funct3_of (o.Reg op)) (funct7_of (o.Reg op))
reg_fixed reg.Add = refl
reg_fixed _ = refl

-- A word with the fixed fields of an operation on two registers has its row first.
pub reg_found : (op : RegOp) (w : ℕ) → operation_at (code_of (o.Reg op)) (funct3_of (o.Reg op)) (funct7_of (o.Reg op)) w ≡ Some (o.Reg op)
reg_found reg.Add w = refl
reg_found _ w = refl

-- An operation on an immediate that is no shift fixes its funct3 alone.
pub imm_fixed : (op : ImmOp) → is_shift op ≡ false → (row_of (o.Imm op)).fixed ≡ Funct3 (funct3_of (o.Imm op))
imm_fixed imm.Addi h = refl
imm_fixed _ h = first_of (cc, search rules)

-- A word with the fixed fields of such an operation has its row first.
pub imm_found : (op : ImmOp) (w f7 : ℕ) → is_shift op ≡ false → operation_at (code_of (o.Imm op)) (funct3_of (o.Imm op)) f7 w ≡ Some (o.Imm op)
imm_found imm.Addi w f7 h = refl
imm_found _ w f7 h = first_of (cc, search rules)

-- A shift by an amount fixes its funct3 and its funct7.
pub shift_fixed : (op : ImmOp) → is_shift op ≡ true → (row_of (o.Imm op)).fixed ≡ Funct3And7 (funct3_of (o.Imm op)) (funct7_of (o.Imm op))
shift_fixed imm.Slli h = refl
shift_fixed _ h = first_of (cc, search rules)

-- A word with the fixed fields of a shift by an amount has its row first.
pub shift_found : (op : ImmOp) (w : ℕ) → is_shift op ≡ true → operation_at (code_of (o.Imm op)) (funct3_of (o.Imm op)) (funct7_of (o.Imm op)) w ≡ Some (o.Imm op)
shift_found imm.Slli w h = refl
shift_found _ w h = first_of (cc, search rules)
