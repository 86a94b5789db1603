use Rattle.std.proofs.Common.{◌+◌, ◌==◌, cond, length, ap, ap₂, ◌∙◌}
use Rattle.std.proofs.lemmas.List.{length_push}
use Rattle.lw_judge_messages.specs.SendsAt.{items_at}
use Rattle.lw_judge_messages.proofs.Added.{items_at-push, cond-nil}
use Rattle.lw_judge_messages.proofs.sends.empty_lists.Goals as goal

pub loop-preserved : goal.loop-preserved
loop-preserved c =
    let lists = c.loop.lists.items in
    let list = c.new.result in
    let pushed = c.in_ok-push.ensures.items in (
      ap length pushed ∙ length_push lists list ∙ ap (λ k. k + 1) c.loop.invariant.0,
      λ u. ap (λ l. items_at l u) pushed ∙ items_at-push lists list u ∙ ap₂ (λ a b. cond (length lists == u) a b) c.new.ensures.items (c.loop.invariant.1 u) ∙ cond-nil (length lists == u),
    )
