use Rattle.std.proofs.Common.{◌+◌, ◌<◌, ◌^◌, [], IfSome, not, map, sym, ap, ap₂, subst, ◌∙◌}
use Rattle.std.specs.Bool.{then_some}
use Rattle.lw_model.specs.Answers.{at_fits}
use Rattle.lw_judge_threads.specs.Firsts.{first_unfit, at_line, lesser}
use Rattle.lw_judge_answers.proofs.ThreadAnswers.{did_low, called_low, thread_least}
use Rattle.lw_judge_answers.proofs.thread_answers.answers_of_thread.Goals as goal

pub returns : goal.returns
returns c = λ stands steps.
    let r = c.args.of.now in
    let t = c.args.thread in
    let l = c.args.lines.now in
    let did = c.unfit_did.ensures ∙ ap₂ (λ n xs. first_unfit (at_fits n) 0 [] (map (λ x. x.at) xs)) c.ran_count-ran.ensures c.dids_of.ensures in
    let called = c.unfit_called.ensures ∙ ap₂ (λ n xs. first_unfit (at_fits n) 0 [] (map (λ x. x.at) xs)) c.ran_count-ran.ensures c.calleds_of.ensures in
    let dids = c.at_line-dids.ensures (subst (λ o. IfSome o (λ p. l.did + p < 2 ^ 64)) (sym did) (did_low r t l stands)) ∙ ap (at_line l.did) did in
    let calleds = c.at_line-calleds.ensures (subst (λ o. IfSome o (λ p. l.called + p < 2 ^ 64)) (sym called) (called_low r t l stands)) ∙ ap (at_line l.called) called in
    c.lesser-3.ensures ∙ ap₂ lesser (c.then_some-lack.ensures ∙ ap (λ b. then_some (not b) l.thread) c.has_all.ensures) (c.lesser-2.ensures ∙ ap₂ lesser dids (c.lesser.ensures ∙ ap (λ o. lesser o c.args.steps) calleds))
    ∙ thread_least r t l c.args.steps stands steps
