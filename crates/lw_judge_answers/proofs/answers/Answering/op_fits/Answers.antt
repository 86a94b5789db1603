use Rattle.std.proofs.Common.{◌==◌, ◌&&◌, length, Some, refl, sym, ap, ap₂, ◌∙◌, inl, inr}
use Rattle.std.proofs.lemmas.Bool.{ltb-true}
use Rattle.lw_model.specs.declared.script.Op.TheVariants as op
use Rattle.lw_model.specs.ScriptRules.{names_an_image}
use Rattle.lw_model.specs.Answers.{answer_fits, put_fits, unanswered_on}
use Rattle.lw_judge_answers.proofs.Fitting.{request_case}
use Rattle.lw_judge_answers.proofs.answers.Answering.op_fits.Goals as goal

pub returns-then-put_fits : goal.returns-then-put_fits
returns-then-put_fits c = λ s t past named holds was.
    let d = c.in-Put.image in
    let less = ltb-true d (length s.images) (sym (ap (names_an_image s) c.in-Put.is) ∙ named) in
    ap₂ (λ b n. b && n == 0) (c.if-put_fits.ensures ∙ ap (λ n. put_fits n c.args.answer) (c.references.ensures s t past holds less)) (c.on.ensures s t past was less)
    ∙ sym (ap (λ o. answer_fits s t past (Some o) c.args.answer) c.in-Put.is)

pub returns-else-put_fits : goal.returns-else-put_fits
returns-else-put_fits c = λ s t past named holds was.
    let d = c.in-Put.image in
    let less = ltb-true d (length s.images) (sym (ap (names_an_image s) c.in-Put.is) ∙ named) in
    c.if-put_fits.false
    ∙ ap (λ b. b && length (unanswered_on s t d past) == 0) (c.if-put_fits.ensures ∙ ap (λ n. put_fits n c.args.answer) (c.references.ensures s t past holds less))
    ∙ sym (ap (λ o. answer_fits s t past (Some o) c.args.answer) c.in-Put.is)

pub returns-in-Write : goal.returns-in-Write
returns-in-Write c = λ s t past named holds was.
    let d = c.in-Write.image in
    let refs = c.references-in-Write.ensures s t past holds in
    c.request_fits.ensures
    ∙ elim c.in-Write.is [
      | inl w ↦ request_case s t past c.args.op.now (op.Write d w.0 w.1 w.2) d _ c.args.answer w.3 refl refl named refs
      | inr v ↦ elim v [
        | inl w ↦ request_case s t past c.args.op.now (op.Read d w.0 w.1) d _ c.args.answer w.2 refl refl named refs
        | inr is ↦ request_case s t past c.args.op.now (op.Flush d) d _ c.args.answer is refl refl named refs
      ]
    ]
