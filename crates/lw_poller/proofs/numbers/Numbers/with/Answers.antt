use Rattle.std.proofs.Common.{◌*◌, ◌%◌, ◌^◌, arith, w64}
use Rattle.std.proofs.lemmas.Nat.{or_lt}
use Rattle.std.proofs.lemmas.Nat.Bits.{bit_at_set_same, bit_at_set_other}
use Rattle.lw_poller.proofs.numbers.Numbers.with.Goals as goal

pub returns-clause-is : goal.returns-clause-is
returns-clause-is c = record { has = bit_at_set_same w64 _ _ c.requires; others = bit_at_set_other w64 _ _ c.requires }

pub returns-clause-fits : goal.returns-clause-fits
returns-clause-fits c = or_lt 64 c.args.self.word (1 * 2 ^ c.args.number % 18446744073709551616) (omega arith) (omega arith)
