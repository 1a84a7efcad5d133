-- A word laid out for execution does what the row of the word does.
use Rattle.std.proofs.Common.{ltb, length, slice_index, ℕ, ◌≡◌, ◌*◌, ◌/◌, ◌^◌, ◌<◌, zero, suc, true, List, [], ◌∷◌, map, get_or, Option, Some, None, arith, refl, ap, sym, subst, ◌∙◌}
use Rattle.std.proofs.lemmas.List.{length-map}
use Rattle.plural_isa.specs.Fields.{rd}
use Rattle.plural_isa.specs.Table.{operation_of}
use Rattle.plural_isa.specs.FlatInstrs.{flat_of, mnemonic_of, row_mnemonic, row_imm}
use Rattle.plural_isa.specs.Fields as f
use Rattle.plural_isa.specs.declared.table.Operation.{Operation}
use Rattle.plural_isa.specs.declared.table.Operation.TheVariants as o
use Rattle.plural_isa.specs.declared.instr.BranchOp.TheVariants as branching
use Rattle.plural_isa.specs.declared.instr.LoadOp.TheVariants as load
use Rattle.plural_isa.specs.declared.instr.StoreOp.TheVariants as store
use Rattle.plural_isa.specs.declared.instr.ImmOp.TheVariants as imm
use Rattle.plural_isa.specs.declared.instr.RegOp.TheVariants as reg
use Rattle.plural_isa.specs.declared.flat_instr.FlatInstr.{FlatInstr}
use Rattle.std.proofs.lemmas.Bool.Decides.{nat_tests}
use Rattle.plural_isa.specs.declared.flat_instr.Mnemonic.{Mnemonic}
use Rattle.plural_core.specs.Act as a
use Rattle.plural_core.specs.Act.{Act, act, effect, by_row, next}
use Rattle.plural_core.specs.Turn.{State, Core, turn, turn_of, does, place_of}
use Rattle.plural_regions.specs.declared.region.Region.{Region}
use Rattle.plural_core.specs.Execution.{by_mnemonic, effect_of}

-- The word w as a word of this row, or of none.
abbrev laid : Option Operation → ℕ → FlatInstr
laid row w = record { mnemonic = row_mnemonic row; rd = f.rd w; rs1 = f.rs1 w; rs2 = f.rs2 w; imm = row_imm row w }

same_effect : (m : Operation) (w : ℕ) (x : List ℕ) (pc : ℕ) → w < 2 ^ 32 → by_mnemonic (mnemonic_of m) (laid (Some m) w) x pc ≡ effect m w x pc
same_effect o.Lui w x pc h = ap (λ v. next x pc (rd w) v) (omega arith)
same_effect o.Auipc w x pc h = ap (λ v. next x pc (rd w) v) (omega arith)
same_effect (o.Branch branching.Beq) w x pc h = refl
same_effect (o.Branch _) w x pc h = refl
same_effect (o.Load load.Lb) w x pc h = refl
same_effect (o.Load _) w x pc h = refl
same_effect (o.Store store.Sb) w x pc h = refl
same_effect (o.Store _) w x pc h = refl
same_effect (o.Imm imm.Addi) w x pc h = refl
same_effect (o.Imm _) w x pc h = refl
same_effect (o.Reg reg.Add) w x pc h = refl
same_effect (o.Reg _) w x pc h = refl
same_effect _ w x pc h = refl

same_row : (row : Option Operation) (w : ℕ) (x : List ℕ) (pc : ℕ) → w < 2 ^ 32 → by_mnemonic (row_mnemonic row) (laid row w) x pc ≡ by_row row w x pc
same_row None w x pc h = refl
same_row (Some m) w x pc h = same_effect m w x pc h

-- What the code's word at pc does.
pub act_is : (code x : List ℕ) (pc w : ℕ) → pc < 4 * length code → w ≡ slice_index code (pc / 4) → w < 2 ^ 32 → act code x pc ≡ effect_of (flat_of w) x pc
unfolding act effect_of
act_is code x pc w i e h = let t : ltb pc (4 * length code) ≡ true = grind (arith, nat_tests) in rw (t, ← e) (sym (same_row (operation_of w) w x pc h))

-- The effect of a word laid out for execution, by its mnemonic.
pub effect_by : (n : Mnemonic) (i : FlatInstr) (x : List ℕ) (pc : ℕ) → i.mnemonic ≡ n → effect_of i x pc ≡ by_mnemonic n i x pc
unfolding effect_of
effect_by n i x pc e = ap (λ n. by_mnemonic n i x pc) e

-- What an effect does is the same over any code.
same_place : (code : List ℕ) (regions : List Region) (c : Core) (s : State) (m : List ℕ) (act : Act) → does (place_of code regions c) s m act ≡ does (place_of [] regions c) s m act
same_place code regions c s m (a.Go x pc) = refl
same_place code regions c s m (a.Read address width sign rd) = refl
same_place code regions c s m (a.Write address width value) = refl
same_place code regions c s m a.Finish = refl
same_place code regions c s m (a.Trap cause) = refl

flat_at : (code : List ℕ) (i : ℕ) (d : FlatInstr) → i < length (map flat_of code) → get_or (map flat_of code) i d ≡ flat_of (slice_index code i)
flat_at [] i d h = absurd (omega arith)
flat_at (w ∷ ws) zero d h = refl
flat_at (w ∷ ws) (suc i) d h = flat_at ws i d (omega arith)

-- The turn of a core is the effect of the code's word at its pc, laid out for execution.
pub turn_is : (code : List ℕ) (regions : List Region) (c : Core) (m : List ℕ) (w : ℕ) (flat : List FlatInstr) (i d : FlatInstr) → flat ≡ map flat_of code → c.state.pc / 4 < length flat → i ≡ get_or flat (c.state.pc / 4) d
    → w ≡ slice_index code (c.state.pc / 4) → w < 2 ^ 32 → turn_of code regions c m ≡ does (place_of [] regions c) c.state m (effect_of i c.state.registers c.state.pc)
unfolding turn
turn_is code regions c m w flat i d same below at e f =
    let x = c.state.registers in
    let pc = c.state.pc in
    let short : pc / 4 < length (map flat_of code) = subst (λ (l : List FlatInstr). pc / 4 < length l) same below in
    let many = length-map code flat_of in
    let is : i ≡ flat_of (slice_index code (pc / 4)) = at ∙ ap (λ (l : List FlatInstr). get_or l (pc / 4) d) same ∙ flat_at code (pc / 4) d short in
    ap (does (place_of code regions c) c.state m) (act_is code x pc w (omega (arith, short, many)) e f ∙ ap (λ i. effect_of i x pc) (ap flat_of e ∙ sym is))
    ∙ same_place code regions c c.state m (effect_of i x pc)
