use Rattle.std.proofs.Common.{refl, ◌≡◌, ◌∙◌, ap, sym, subst, length, slice_get, true, arith}
use Rattle.std.proofs.lemmas.Option.{slice_get-get_or, slice_get_within}
use Rattle.lw_judge_threads.specs.declared.holding.Holding.{Holding}
use Rattle.lw_judge_threads.specs.Holdings.{ClosesHolding}
use Rattle.std.proofs.lemmas.List.{with_items_is}
use Rattle.lw_judge_threads.proofs.HoldingSteps.{AllClose, closes_more, kept_more, closed_first, closed_again}
use Rattle.lw_judge_threads.proofs.holding.Holding.close.Goals as goal
use Rattle.lw_judge_threads.proofs.holding.Holding.close.Goals.{then-not-self+else-loop-channel-test, else-not-self}

pub loop-channel-preserved : goal.loop-channel-preserved
loop-channel-preserved c =
    let now = c.loop-channel.channel-items in
    let i = c.loop-channel.channel-index in
    record {
      below = closes_more _ now i _ c.give_back.new.self (slice_get-get_or now i _ (omega arith)) c.give_back.ensures c.loop-channel.invariant.below c.loop-channel.invariant.above;
      above = kept_more _ now i c.give_back.new.self c.loop-channel.invariant.above;
    }

pub returns : goal.returns
returns c = elim c.if-not-self.branch [
  | then-not-self+else-loop-channel-test w ↦
      let old = c.args.self.now in
      let now = w.loop-channel.channel-items in
      let was : w.deref_mut-channel-items.result.now ≡ old.channels.items = w.deref_mut-channel-items.ensures.value in
      let long : length now ≡ length old.channels.items = w.loop-channel.auto.channel-items ∙ ap length was in
      let same : c.if-not-self.self.channels.items ≡ now = ap (λ (g : Holding). g.channels.items) w.self-is ∙ with_items_is old.channels now (long ∙ sym old.channels.ok.0) in
      let all : AllClose old.channels.items now = λ k b n stood stands. w.loop-channel.invariant.below k b n (omega (arith, slice_get_within now k n stands)) (ap (λ l. slice_get l k) was ∙ stood) stands in
      closed_first old (record { closed = true; channels = c.if-not-self.self.channels }) w.if-not-self.true refl (ap length same ∙ long) (subst (AllClose old.channels.items) (sym same) all)
  | else-not-self w ↦ subst (λ (g : Holding). ClosesHolding c.args.self.now (record { closed = true; channels = g.channels })) (sym w.self-is)
      (subst (λ b. ClosesHolding c.args.self.now (record { closed = b; channels = c.args.self.now.channels })) w.if-not-self.false (closed_again c.args.self.now w.if-not-self.false))
]
