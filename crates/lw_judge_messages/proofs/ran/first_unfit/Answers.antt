use Rattle.std.proofs.Common.{◌≡◌, true, take, reverse, get_or, sym, subst, ◌∙◌}
use Rattle.std.proofs.lemmas.Bool.{and_from, false≢true}
use Rattle.lw_base.specs.declared.message.Tag.{Tag}
use Rattle.lw_base.specs.declared.message.What.TheVariants as what
use Rattle.lw_model.specs.Lawful.{is_first_run}
use Rattle.lw_judge_messages.specs.RanSent.{is_listed, ran_fits, HasTokens}
use Rattle.lw_judge_threads.proofs.Counts.{past_more, unfit_more}
use Rattle.lw_judge_messages.proofs.ran.first_unfit.Goals as goal
use Rattle.lw_judge_messages.proofs.ran.first_unfit.Goals.{then-first, else-first}

-- past a list's end
abbrev no_tag : Tag
no_tag = record { sender = 0; number = 0; what = what.Request 0 }

pub loop-place-preserved : goal.loop-place-preserved
loop-place-preserved c =
    let ran = c.args.ran.now in
    let i = c.loop-place.place in
    let x = c.args.sends.now in
    let t = c.args.thread in
    let m = get_or ran i no_tag in
    let past = reverse (take i ran) in
    let was = c.loop-place.invariant in
    let fits : ran_fits x t past m ≡ true = elim c.if-first.branch [
      | then-first b ↦ and_from (is_listed x t m) (is_first_run past m) (sym b.is_listed.ensures ∙ sym b.value-is ∙ c.if-not-is_listed.false) (sym (c.in_ok-first.ensures.first past was.tokens) ∙ b.if-first.true)
      | else-first b ↦ absurd (false≢true (sym b.if-first.false ∙ sym b.value-is ∙ c.if-not-is_listed.false))
    ] in
    record {
      left = was.left ∙ unfit_more (ran_fits x t) ran i no_tag c.loop-place-test.true fits;
      tokens = subst (λ p. HasTokens p c.is_first.new.tokens) (sym (past_more ran i no_tag c.loop-place-test.true)) (c.in_ok-first.ensures.more past was.tokens);
    }
