-- The names of the registers: `x0` to `x31`, and those of the RISC-V calling convention.
use Rattle.std.specs.Prelude.{ℕ, Bool, ◌||◌, ◌&&◌, List, [], ◌∷◌, Option, codes, bytes_eq, find, if◌then◌else◌, ◌==◌}
use Rattle.std.specs.List.{range_with_len}

-- A register's number, its plain name and its name in the calling convention.
abbrev pub register_table : List (ℕ × List ℕ × List ℕ)
register_table =
    (0, codes "x0", codes "zero")
    ∷ (1, codes "x1", codes "ra")
    ∷ (2, codes "x2", codes "sp")
    ∷ (3, codes "x3", codes "gp")
    ∷ (4, codes "x4", codes "tp")
    ∷ (5, codes "x5", codes "t0")
    ∷ (6, codes "x6", codes "t1")
    ∷ (7, codes "x7", codes "t2")
    ∷ (8, codes "x8", codes "s0")
    ∷ (9, codes "x9", codes "s1")
    ∷ (10, codes "x10", codes "a0")
    ∷ (11, codes "x11", codes "a1")
    ∷ (12, codes "x12", codes "a2")
    ∷ (13, codes "x13", codes "a3")
    ∷ (14, codes "x14", codes "a4")
    ∷ (15, codes "x15", codes "a5")
    ∷ (16, codes "x16", codes "a6")
    ∷ (17, codes "x17", codes "a7")
    ∷ (18, codes "x18", codes "s2")
    ∷ (19, codes "x19", codes "s3")
    ∷ (20, codes "x20", codes "s4")
    ∷ (21, codes "x21", codes "s5")
    ∷ (22, codes "x22", codes "s6")
    ∷ (23, codes "x23", codes "s7")
    ∷ (24, codes "x24", codes "s8")
    ∷ (25, codes "x25", codes "s9")
    ∷ (26, codes "x26", codes "s10")
    ∷ (27, codes "x27", codes "s11")
    ∷ (28, codes "x28", codes "t3")
    ∷ (29, codes "x29", codes "t4")
    ∷ (30, codes "x30", codes "t5")
    ∷ (31, codes "x31", codes "t6")
    ∷ []

abbrev pub plain_in : ℕ → List (ℕ × List ℕ × List ℕ) → List ℕ
plain_in n [] = []
plain_in n (e ∷ es) = if n == e.0 then e.1 else plain_in n es

abbrev pub convention_in : ℕ → List (ℕ × List ℕ × List ℕ) → List ℕ
convention_in n [] = []
convention_in n (e ∷ es) = if n == e.0 then e.2 else convention_in n es

-- The plain name of a register.
abbrev pub plain_name : ℕ → List ℕ
plain_name n = plain_in n register_table

-- The name of a register in the calling convention.
abbrev pub convention_name : ℕ → List ℕ
convention_name n = convention_in n register_table

-- The text is a name of the register; `x8` has `fp` beside `s0`.
abbrev pub is_name_of : List ℕ → ℕ → Bool
is_name_of text n =
    bytes_eq text (plain_name n) || bytes_eq text (convention_name n) || (n == 8 && bytes_eq text (codes "fp"))

-- The register that has this name, if one has it.
abbrev pub named : List ℕ → Option ℕ
named text = find (λ n. is_name_of text n) (range_with_len 0 32)
