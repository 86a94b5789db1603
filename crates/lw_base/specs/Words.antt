-- The words of the machine.
use Rattle.std.specs.Prelude.{ℕ}

-- above every number of 64 bits: 2^64
abbrev pub above_u64 : ℕ
above_u64 = 18446744073709551616

-- the greatest number of 64 bits: 2^64 less 1
abbrev pub greatest_u64 : ℕ
greatest_u64 = 18446744073709551615

-- above every number of 32 bits: 2^32
abbrev pub above_u32 : ℕ
above_u32 = 4294967296

-- the greatest number of 32 bits: 2^32 less 1
abbrev pub greatest_u32 : ℕ
greatest_u32 = 4294967295
