use Rattle.std.proofs.Common.{ap, ◌∙◌, sym}
use Rattle.lw_judge_messages.specs.Tokens.{threads_under}
use Rattle.lw_judge_messages.proofs.RunnerLists.{runners-token, runners-other}
use Rattle.lw_judge_messages.proofs.tokens.Runners.add_thread.Goals as goal
use Rattle.lw_judge_messages.proofs.tokens.Runners.add_thread.Goals.{in-Some+in_ok-add, in_default}

pub loop-tag-preserved : goal.loop-tag-preserved
loop-tag-preserved c = λ above w. elim c.match-of.branch [
  | in-Some+in_ok-add x ↦ ap (λ s. threads_under s w) x.self-is ∙ runners-token (threads_under c.args.self.now) (threads_under c.loop-tag.self) c.args.thread c.args.ran.now c.loop-tag.tag-index _ c.loop-tag-test.true (c.loop-tag.invariant above)
      x.in-Some.token (sym c.of.ensures ∙ x.in-Some.is) above (threads_under x.add.new.self) x.in_ok-add.ensures.here x.in_ok-add.ensures.others w
  | in_default x ↦ ap (λ s. threads_under s w) x.self-is ∙ runners-other (threads_under c.args.self.now) (threads_under c.loop-tag.self) c.args.thread c.args.ran.now c.loop-tag.tag-index _ c.loop-tag-test.true (c.loop-tag.invariant above)
      (sym c.of.ensures ∙ x.in_default.is) w
]
