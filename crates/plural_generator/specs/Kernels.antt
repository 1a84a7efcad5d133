-- The kernel lines of the large filter bundle. In them 65600, 65664, 131200, 131236 and 131244 are addresses in bytes:
-- of the taps, the outputs, the greatest outputs, and the words of the two branches.
use Rattle.std.specs.Prelude.{ℕ, List, [], ◌∷◌, ◌++◌, codes, flat_map}

-- Each line with its LF.
abbrev pub as_lines : List (List ℕ) → List ℕ
as_lines ls = flat_map (λ l. l ++ 10 ∷ []) ls

-- The filter: each of the instance's 16 outputs is the sum of 16 products of a sample and a tap.
unfoldable pub fir_text : List ℕ
fir_text = as_lines (
    codes "fir: slli x5, x10, 6"
    ∷ codes "li x6, 65664"
    ∷ codes "add x6, x6, x5"
    ∷ codes "li x15, 65600"
    ∷ codes "li x7, 16"
    ∷ codes "fo: li x8, 0"
    ∷ codes "li x9, 0"
    ∷ codes "fi: add x11, x5, x9"
    ∷ codes "lw x12, 0(x11)"
    ∷ codes "add x13, x15, x9"
    ∷ codes "lw x13, 0(x13)"
    ∷ codes "mul x12, x12, x13"
    ∷ codes "add x8, x8, x12"
    ∷ codes "addi x9, x9, 4"
    ∷ codes "slti x14, x9, 64"
    ∷ codes "bnez x14, fi"
    ∷ codes "sw x8, 0(x6)"
    ∷ codes "addi x5, x5, 4"
    ∷ codes "addi x6, x6, 4"
    ∷ codes "addi x7, x7, -1"
    ∷ codes "bnez x7, fo"
    ∷ codes "li x10, 0"
    ∷ codes "ecall"
    ∷ [])

-- The greatest of the instance's 2,048 outputs.
unfoldable pub top_text : List ℕ
top_text = as_lines (
    codes "top: slli x5, x10, 13"
    ∷ codes "li x6, 65664"
    ∷ codes "add x5, x5, x6"
    ∷ codes "li x7, 2048"
    ∷ codes "li x8, 0x80000000"
    ∷ codes "tl: lw x9, 0(x5)"
    ∷ codes "blt x9, x8, ts"
    ∷ codes "mv x8, x9"
    ∷ codes "ts: addi x5, x5, 4"
    ∷ codes "addi x7, x7, -1"
    ∷ codes "bnez x7, tl"
    ∷ codes "slli x6, x10, 2"
    ∷ codes "li x9, 131200"
    ∷ codes "add x6, x6, x9"
    ∷ codes "sw x8, 0(x6)"
    ∷ codes "li x10, 0"
    ∷ codes "ecall"
    ∷ [])

-- The best of the eight, and whether it reaches the limit.
unfoldable pub best_text : List ℕ
best_text = as_lines (
    codes "best: li x5, 131200"
    ∷ codes "li x7, 8"
    ∷ codes "li x8, 0x80000000"
    ∷ codes "bl: lw x9, 0(x5)"
    ∷ codes "blt x9, x8, bs"
    ∷ codes "mv x8, x9"
    ∷ codes "bs: addi x5, x5, 4"
    ∷ codes "addi x7, x7, -1"
    ∷ codes "bnez x7, bl"
    ∷ codes "sw x8, 0(x5)"
    ∷ codes "lw x9, 8(x5)"
    ∷ codes "slt x10, x8, x9"
    ∷ codes "xori x10, x10, 1"
    ∷ codes "ecall"
    ∷ [])

-- A 1 for a best that reaches the limit.
unfoldable pub loud_text : List ℕ
loud_text = as_lines (
    codes "loud: li x5, 131236"
    ∷ codes "li x6, 1"
    ∷ codes "sw x6, 0(x5)"
    ∷ codes "ecall"
    ∷ [])

-- A 1 for a best below the limit.
unfoldable pub quiet_text : List ℕ
quiet_text = as_lines (
    codes "quiet: li x5, 131244"
    ∷ codes "li x6, 1"
    ∷ codes "sw x6, 0(x5)"
    ∷ codes "ecall"
    ∷ [])

-- 2 for the first branch, 1 for the second.
unfoldable pub done_text : List ℕ
done_text = as_lines (
    codes "done: li x5, 131236"
    ∷ codes "lw x6, 0(x5)"
    ∷ codes "lw x7, 8(x5)"
    ∷ codes "add x6, x6, x6"
    ∷ codes "add x6, x6, x7"
    ∷ codes "sw x6, 12(x5)"
    ∷ codes "ecall"
    ∷ [])

-- The kernel lines, task by task.
abbrev pub kernel_text : List ℕ
kernel_text = fir_text ++ (top_text ++ (best_text ++ (loud_text ++ (quiet_text ++ done_text))))
