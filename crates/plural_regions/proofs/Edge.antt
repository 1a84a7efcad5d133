-- The least instance of a region that leaves a memory.
use Rattle.std.proofs.Common.{ℕ, ◌+◌, ◌-◌, ◌*◌, ◌/◌, ◌<◌, ◌≤◌, arith}
use Rattle.std.proofs.Math.Nat.{mul-le-mul_left, lt-mul-div-succ, div-mul-le_self, mul_comm}
use Rattle.plural_regions.specs.Bounds.{IsInside, IsOutside, AllInside}
use Rattle.plural_regions.specs.declared.region.Region.{Region}

-- An instance whose end is at most w lies inside.
pub inside_when : (r : Region) (k w : ℕ) → r.base + r.stride * k + r.count ≤ w → IsInside r k w
inside_when r k w h = λ a p. let l = p.1 in let e = p.2 in omega arith

-- An instance whose end is above w has its last word outside.
pub outside_when : (r : Region) (k w : ℕ) → w < r.base + r.stride * k + r.count → IsOutside r k w
outside_when r k w h =
    let some : 1 ≤ r.count = r.nonempty in
    (r.base + r.stride * k + r.count - 1, omega arith, (r.count - 1, omega arith, omega arith))

-- A multiple of a stride, up to the last that fits, is at most the room.
fits : (room s k : ℕ) → 0 < s → k < room / s + 1 → s * k ≤ room
fits room s k p h =
    let top : s * k ≤ s * (room / s) = mul-le-mul_left s (omega arith) in
    let whole : room / s * s ≤ room = div-mul-le_self room s in
    let turned = mul_comm s (room / s) in
    omega arith

-- No instance before the first that passes the end lies outside.
pub inside_before : (r : Region) (w : ℕ) → 0 < r.stride → r.base + r.count ≤ w → AllInside r ((w - (r.base + r.count)) / r.stride + 1) w
inside_before r w p h = λ k l. inside_when r k w (omega (arith, fits (w - (r.base + r.count)) r.stride k p l))

-- The first instance that passes the end lies outside.
pub outside_first : (r : Region) (w : ℕ) → 0 < r.stride → r.base + r.count ≤ w → IsOutside r ((w - (r.base + r.count)) / r.stride + 1) w
outside_first r w p h =
    let over = lt-mul-div-succ (w - (r.base + r.count)) {b = r.stride} p in
    outside_when r ((w - (r.base + r.count)) / r.stride + 1) w (omega (arith, over))
