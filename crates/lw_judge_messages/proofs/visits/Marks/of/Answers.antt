use Rattle.std.proofs.Common.{arith}
use Rattle.std.proofs.lemmas.Grind.{common_steps}
use Rattle.lw_judge_messages.specs.Tokens.{is_token}
use Rattle.lw_judge_messages.proofs.visits.Marks.of.Goals as goal

pub returns-in-Some : goal.returns-in-Some
unfolding is_token
returns-in-Some c = grind (arith, common_steps)

pub returns-in-None : goal.returns-in-None
unfolding is_token
returns-in-None c = grind (arith, common_steps)
