use Rattle.std.proofs.Common.{[], sym, subst, ◌∙◌}
use Rattle.lw_judge_messages.specs.SendsAt.{Adds}
use Rattle.std.specs.Result.{OnOk}
use Rattle.lw_judge_messages.proofs.RunnerLists.{what_of-token_in}
use Rattle.lw_judge_messages.proofs.Sending.{sent_by_ran-token}
use Rattle.lw_judge_messages.proofs.sends.Sends.ran.Goals as goal

pub returns-in-Some : goal.returns-in-Some
returns-in-Some c = λ n are sized.
    let r = c.args.of.now in
    let t = c.args.thread in
    let m = c.args.tag.now in
    let v = c.in-Some.token in
    subst (λ ms. OnOk c.pass_on.result (Adds n t ms [] c.args.self.now c.pass_on.new.self))
    (sym (sent_by_ran-token r t m v (what_of-token_in v m.what (sym c.of.ensures ∙ c.in-Some.is)))) (c.pass_on.ensures r n are sized)
