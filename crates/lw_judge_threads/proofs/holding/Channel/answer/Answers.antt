use Rattle.std.proofs.Common.{arith}
use Rattle.std.proofs.lemmas.Grind.{common_steps}
use Rattle.lw_judge_threads.proofs.Channels.{pending_le, submitted_le}
use Rattle.lw_judge_threads.proofs.holding.Channel.answer.Goals as goal

pub returns-in-Deferred : goal.returns-in-Deferred
returns-in-Deferred c = λ s t d past i at op h h2 h3 h4. grind (arith, common_steps, pending_le)

pub returns-in-Sent : goal.returns-in-Sent
returns-in-Sent c = λ s t d past i at op h h2 h3 h4. grind (arith, common_steps, submitted_le)
