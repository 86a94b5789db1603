use Rattle.std.proofs.Common.{arith}
use Rattle.std.proofs.lemmas.Grind.{common_steps}
use Rattle.std.proofs.lemmas.Result.{on_ok_weaker}
use Rattle.lw_judge_messages.specs.Tokens.{is_token}
use Rattle.lw_judge_messages.proofs.TokenLemmas.{is_token-same, is_token-true}
use Rattle.lw_judge_messages.proofs.tokens.Runners.add.Goals as goal

pub returns-clause-here : goal.returns-clause-here
unfolding is_token
returns-clause-here c = on_ok_weaker c.put_last.result (λ h. grind (arith, common_steps, is_token-same c.args.token)) c.put_last.ensures

pub returns-clause-others : goal.returns-clause-others
unfolding is_token
returns-clause-others c = on_ok_weaker c.put_last.result (λ h w apart. grind (arith, common_steps, is_token-true w c.args.token, is_token-true c.args.token w)) c.put_last.ensures
