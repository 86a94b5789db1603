use Rattle.std.proofs.Common.{◌≡◌, ◌<◌, true, take}
use Rattle.lw_model.specs.Threads.{thread_count}
use Rattle.lw_judge_messages.specs.Tokens.{AreRunners}
use Rattle.lw_judge_messages.specs.RanSent.{runs_tokens}
use Rattle.lw_judge_messages.proofs.ran.lacks_token.Given as goal

abbrev pub invariant-loop-token : goal.invariant-loop-token
invariant-loop-token l = AreRunners l.of l.runners → l.thread < thread_count l.of.script → runs_tokens l.of l.thread (take l.token-index l.tokens) ≡ true
