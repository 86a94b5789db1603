-- Numbers of pollers: those below 64, and sets of them.
use Rattle.std.specs.Prelude.{◌≡◌, ◌≢◌, ℕ, ◌<◌}
use Rattle.std.specs.Int.{bit_at}

-- how many pollers a set has at most
abbrev pub most_pollers : ℕ
most_pollers = 64

-- A set of numbers below 64 is a word: a number is in the set where its bit is 1.
abbrev pub Has : ℕ → ℕ → Type 0
Has word number = bit_at word number ≡ 1

abbrev pub Lacks : ℕ → ℕ → Type 0
Lacks word number = bit_at word number ≡ 0

-- the set w is v and this number
pub record IsWith (number v w : ℕ) : Type 0 where
  pub has : Has w number
  pub others : (k : ℕ) → k ≢ number → bit_at w k ≡ bit_at v k

-- the set w is v without this number
pub record IsWithout (number v w : ℕ) : Type 0 where
  pub lacks : Lacks w number
  pub others : (k : ℕ) → k < most_pollers → k ≢ number → bit_at w k ≡ bit_at v k
