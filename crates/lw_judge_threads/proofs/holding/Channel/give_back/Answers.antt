use Rattle.std.proofs.Common.{arith}
use Rattle.std.proofs.lemmas.Grind.{common_steps}
use Rattle.lw_judge_threads.proofs.Channels.{pending_le}
use Rattle.lw_judge_threads.proofs.holding.Channel.give_back.Goals as goal

pub returns-then-self : goal.returns-then-self
returns-then-self c = λ s t d past i at op h h2 h3. grind (arith, common_steps, pending_le)
