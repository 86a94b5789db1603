use Rattle.std.proofs.Common.{arith}
use Rattle.std.proofs.lemmas.Grind.{common_steps}
use Rattle.std.proofs.lemmas.Result.{on_ok_weaker}
use Rattle.lw_judge_messages.specs.Tokens.{is_token}
use Rattle.lw_judge_messages.proofs.TokenLemmas.{is_token-same, is_token-true}
use Rattle.lw_judge_messages.proofs.visits.Marks.add.Goals as goal

pub returns : goal.returns
unfolding is_token
returns c = on_ok_weaker c.add.result (λ h. record {
  last = grind (arith, common_steps, h.last, is_token-same c.args.token);
  marks = grind (arith, common_steps, h.marks, is_token-same c.args.token);
  other_last = λ w apart. grind (arith, common_steps, is_token-true w c.args.token, is_token-true c.args.token w);
  other_marks = λ w apart. grind (arith, common_steps, is_token-true w c.args.token, is_token-true c.args.token w);
}) c.add.ensures
