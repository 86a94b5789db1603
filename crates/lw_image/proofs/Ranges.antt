-- Where a range of blocks stands among an image's bytes.
use Rattle.std.proofs.Common.{ℕ, ◌+◌, ◌*◌, ◌≤◌, ◌≡◌, arith, subst, sym}
use Rattle.std.proofs.Math.Nat.{add-mul, mul-le-mul_right}

pub range_within : (start count blocks block : ℕ) → start + count ≤ blocks → start * block + count * block ≤ blocks * block
range_within start count blocks block h = omega (arith, add-mul start count block, mul-le-mul_right {m = start + count} {n = blocks} block h)

-- the same, where the sizes are told twice
pub range_within_all : (start count blocks block size length : ℕ) → start + count ≤ blocks → block ≡ size → length ≡ blocks * size
    → start * size + count * block ≤ length
range_within_all start count blocks block size length h e l =
    subst (λ b. start * size + count * b ≤ length) (sym e) (omega (arith, range_within start count blocks size h))
