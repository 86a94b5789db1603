use Rattle.std.proofs.Common.{w64}
use Rattle.std.proofs.lemmas.Nat.Bits.{bit_at_clear_same, bit_at_clear_other}
use Rattle.lw_poller.proofs.numbers.Numbers.without.Goals as goal

pub returns-clause-is : goal.returns-clause-is
returns-clause-is c = record { lacks = bit_at_clear_same w64 _ _ c.requires; others = bit_at_clear_other w64 _ _ c.requires }
