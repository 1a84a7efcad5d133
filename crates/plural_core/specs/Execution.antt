-- What a word laid out for execution does: the same as the row of the word, as a lemma of proofs/Effects.antt shows.
use Rattle.std.specs.Prelude.{ℕ, ◌-◌, ◌*◌, ◌%◌, List, true, false, not, nat_lt, bit_and, bit_or, bit_xor, ◌==◌}
use Rattle.plural_isa.specs.declared.flat_instr.Mnemonic.{Mnemonic}
use Rattle.plural_isa.specs.declared.flat_instr.Mnemonic.TheVariants as m
use Rattle.plural_isa.specs.declared.flat_instr.FlatInstr.{FlatInstr}
use Rattle.plural_core.specs.Arithmetic.{word, sum_of, difference_of, left_of, right_of, signed_right_of, flag, is_below_signed, product_of, mulh_of, mulhsu_of, mulhu_of, div_of, rem_of, divu_of, remu_of}
use Rattle.plural_core.specs.Act as a
use Rattle.plural_core.specs.Act.{Act, get, next, jump, branch, address_of}
use Rattle.plural_core.specs.declared.subword.Width.TheVariants.{Byte, Half, Word}

-- The effect by the mnemonic, over these registers at this pc. (RV32I 2.1, chapter 2; M 2.0.)
abbrev pub by_mnemonic : Mnemonic → FlatInstr → List ℕ → ℕ → Act
by_mnemonic m.Lui i x pc = next x pc i.rd (word i.imm * 4096 % 0x100000000)
by_mnemonic m.Auipc i x pc = next x pc i.rd (sum_of pc (word i.imm * 4096 % 0x100000000))
by_mnemonic m.Jal i x pc = jump x pc i.rd (sum_of pc (word i.imm))
by_mnemonic m.Jalr i x pc = jump x pc i.rd (address_of x i.rs1 i.imm - address_of x i.rs1 i.imm % 2)
by_mnemonic m.Beq i x pc = branch x pc (get x i.rs1 == get x i.rs2) i.imm
by_mnemonic m.Bne i x pc = branch x pc (not (get x i.rs1 == get x i.rs2)) i.imm
by_mnemonic m.Blt i x pc = branch x pc (is_below_signed (get x i.rs1) (get x i.rs2)) i.imm
by_mnemonic m.Bge i x pc = branch x pc (not (is_below_signed (get x i.rs1) (get x i.rs2))) i.imm
by_mnemonic m.Bltu i x pc = branch x pc (nat_lt (get x i.rs1) (get x i.rs2)) i.imm
by_mnemonic m.Bgeu i x pc = branch x pc (not (nat_lt (get x i.rs1) (get x i.rs2))) i.imm
by_mnemonic m.Lb i x pc = a.Read (address_of x i.rs1 i.imm) Byte true i.rd
by_mnemonic m.Lh i x pc = a.Read (address_of x i.rs1 i.imm) Half true i.rd
by_mnemonic m.Lw i x pc = a.Read (address_of x i.rs1 i.imm) Word true i.rd
by_mnemonic m.Lbu i x pc = a.Read (address_of x i.rs1 i.imm) Byte false i.rd
by_mnemonic m.Lhu i x pc = a.Read (address_of x i.rs1 i.imm) Half false i.rd
by_mnemonic m.Sb i x pc = a.Write (address_of x i.rs1 i.imm) Byte (get x i.rs2)
by_mnemonic m.Sh i x pc = a.Write (address_of x i.rs1 i.imm) Half (get x i.rs2)
by_mnemonic m.Sw i x pc = a.Write (address_of x i.rs1 i.imm) Word (get x i.rs2)
by_mnemonic m.Addi i x pc = next x pc i.rd (sum_of (get x i.rs1) (word i.imm))
by_mnemonic m.Slti i x pc = next x pc i.rd (flag (is_below_signed (get x i.rs1) (word i.imm)))
by_mnemonic m.Sltiu i x pc = next x pc i.rd (flag (nat_lt (get x i.rs1) (word i.imm)))
by_mnemonic m.Xori i x pc = next x pc i.rd (bit_xor (get x i.rs1) (word i.imm))
by_mnemonic m.Ori i x pc = next x pc i.rd (bit_or (get x i.rs1) (word i.imm))
by_mnemonic m.Andi i x pc = next x pc i.rd (bit_and (get x i.rs1) (word i.imm))
by_mnemonic m.Slli i x pc = next x pc i.rd (left_of (get x i.rs1) i.rs2)
by_mnemonic m.Srli i x pc = next x pc i.rd (right_of (get x i.rs1) i.rs2)
by_mnemonic m.Srai i x pc = next x pc i.rd (signed_right_of (get x i.rs1) i.rs2)
by_mnemonic m.Add i x pc = next x pc i.rd (sum_of (get x i.rs1) (get x i.rs2))
by_mnemonic m.Sub i x pc = next x pc i.rd (difference_of (get x i.rs1) (get x i.rs2))
by_mnemonic m.Sll i x pc = next x pc i.rd (left_of (get x i.rs1) (get x i.rs2))
by_mnemonic m.Slt i x pc = next x pc i.rd (flag (is_below_signed (get x i.rs1) (get x i.rs2)))
by_mnemonic m.Sltu i x pc = next x pc i.rd (flag (nat_lt (get x i.rs1) (get x i.rs2)))
by_mnemonic m.Xor i x pc = next x pc i.rd (bit_xor (get x i.rs1) (get x i.rs2))
by_mnemonic m.Srl i x pc = next x pc i.rd (right_of (get x i.rs1) (get x i.rs2))
by_mnemonic m.Sra i x pc = next x pc i.rd (signed_right_of (get x i.rs1) (get x i.rs2))
by_mnemonic m.Or i x pc = next x pc i.rd (bit_or (get x i.rs1) (get x i.rs2))
by_mnemonic m.And i x pc = next x pc i.rd (bit_and (get x i.rs1) (get x i.rs2))
by_mnemonic m.Mul i x pc = next x pc i.rd (product_of (get x i.rs1) (get x i.rs2))
by_mnemonic m.Mulh i x pc = next x pc i.rd (mulh_of (get x i.rs1) (get x i.rs2))
by_mnemonic m.Mulhsu i x pc = next x pc i.rd (mulhsu_of (get x i.rs1) (get x i.rs2))
by_mnemonic m.Mulhu i x pc = next x pc i.rd (mulhu_of (get x i.rs1) (get x i.rs2))
by_mnemonic m.Div i x pc = next x pc i.rd (div_of (get x i.rs1) (get x i.rs2))
by_mnemonic m.Divu i x pc = next x pc i.rd (divu_of (get x i.rs1) (get x i.rs2))
by_mnemonic m.Rem i x pc = next x pc i.rd (rem_of (get x i.rs1) (get x i.rs2))
by_mnemonic m.Remu i x pc = next x pc i.rd (remu_of (get x i.rs1) (get x i.rs2))
by_mnemonic m.Fence i x pc = a.Go x (sum_of pc 4)
by_mnemonic m.Ecall i x pc = a.Finish
by_mnemonic m.Ebreak i x pc = a.Trap 8
by_mnemonic m.Illegal i x pc = a.Trap 2

-- The effect of a word laid out for execution.
unfoldable pub effect_of : FlatInstr → List ℕ → ℕ → Act
effect_of i x pc = by_mnemonic i.mnemonic i x pc
