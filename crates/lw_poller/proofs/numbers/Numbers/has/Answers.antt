use Rattle.std.proofs.Common.{arith, tests}
use Rattle.std.proofs.lemmas.Nat.{one_shl, pow_pos}
use Rattle.std.proofs.lemmas.Nat.Bits.{and_pow}
use Rattle.lw_poller.proofs.numbers.Numbers.has.Goals as goal

pub returns : goal.returns
returns c = grind (arith, tests, one_shl c.args.number 64 c.requires, and_pow c.args.self.word c.args.number, pow_pos c.args.number)
