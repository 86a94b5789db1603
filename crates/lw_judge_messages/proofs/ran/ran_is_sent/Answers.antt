use Rattle.std.proofs.Common.{◌≡◌, ◌<◌, ◌+◌, ◌&&◌, Bool, true, false, not, [], slice_get, Some, IfSome, length, get_or, refl, sym, subst, ap, ap₂, ◌∙◌, zero-add, arith}
use Rattle.std.specs.List.{list_all}
use Rattle.std.proofs.lemmas.Bool.{true≢false}
use Rattle.std.proofs.lemmas.Option.{slice_get-get_or}
use Rattle.lw_base.proofs.Lists.{then_some_is}
use Rattle.lw_model.specs.Threads.{thread_count, ran_of}
use Rattle.lw_model.specs.Lines.{thread_line}
use Rattle.lw_model.specs.Verdict.{lacks_none}
use Rattle.lw_model.proofs.Printed.{parts}
use Rattle.lw_judge_threads.specs.declared.lines.ThreadLines.{ThreadLines}
use Rattle.lw_judge_threads.specs.Firsts.{first_unfit, lesser, at_line}
use Rattle.lw_judge_threads.specs.LinesOf.{StandsAt}
use Rattle.lw_judge_messages.specs.RanSent.{ran_fits, runs_enough, runs_tokens}
use Rattle.lw_judge_messages.proofs.RanTests.{tests_of, line-is, lacks_none-is}
use Rattle.lw_judge_threads.proofs.Threads.{least_threads, all_threads, unfit_within, line_below, listed, ran_fits as ran_lines_fit}
use Rattle.lw_judge_messages.proofs.ran.ran_is_sent.Goals as goal
use Rattle.lw_judge_messages.proofs.ran.ran_is_sent.Goals.{then-branch, else-branch}

-- past a list's end
abbrev no_lines : ThreadLines
no_lines = record { thread = 0; hops = 0; ran = 0; did = 0; called = 0; replies = 0; seen = 0; behind = 0 }

pub at_line-unfit-requires : goal.at_line-unfit-requires
at_line-unfit-requires c =
    let r = c.args.of.now in
    let t = c.loop-thread.thread in
    let d = c.entry-item.result in
    let l = get_or c.args.layout.now t no_lines in
    let less : t < length r.threads = subst (λ xs. t < length xs) c.as_slice-entry-items.ensures c.loop-thread-test.true in
    let at : slice_get r.threads t ≡ Some d = slice_get-get_or r.threads t d less ∙ ap Some (sym (c.entry-item.is ∙ ap (λ xs. get_or xs t d) c.as_slice-entry-items.ensures)) in
    let stands : StandsAt r t l = c.requires.each t l (slice_get-get_or c.args.layout.now t no_lines (omega (arith, less, c.requires.count))) in
    let place : c.in_ok-first_unfit.field-0 ≡ first_unfit (ran_fits c.args.sends.now t) 0 [] d.ran = c.in_ok-first_unfit.ensures ∙ ap (first_unfit (ran_fits c.args.sends.now t) 0 []) c.as_slice-ran.ensures in
    line_below l.ran (length d.ran) (thread_line r (t + 1)) c.in_ok-first_unfit.field-0 (ran_lines_fit r t d l at stands) stands.few
    (subst (λ o. IfSome o (λ p. p < length d.ran)) (sym place)
    (subst (λ n. IfSome (first_unfit (ran_fits c.args.sends.now t) 0 [] d.ran) (λ p. p < n)) (zero-add (length d.ran)) (unfit_within (ran_fits c.args.sends.now t) 0 [] d.ran)))

lacks_first : (e k : Bool) → not e ≡ true → true ≡ not (e && k)
lacks_first true k h = absurd (true≢false (sym h))
lacks_first false k h = refl

lacks_second : (e k : Bool) → not e ≡ false → not k ≡ not (e && k)
lacks_second true k h = refl
lacks_second false k h = absurd (true≢false h)

pub loop-thread-preserved : goal.loop-thread-preserved
loop-thread-preserved c = λ runners sends.
    let r = c.args.of.now in
    let t = c.loop-thread.thread in
    let d = c.entry-item.result in
    let x = c.args.sends.now in
    let l = get_or c.args.layout.now t no_lines in
    let less : t < length r.threads = subst (λ xs. t < length xs) c.as_slice-entry-items.ensures c.loop-thread-test.true in
    let there : t < thread_count r.script = omega (arith, less, (parts r).threads) in
    let at : slice_get r.threads t ≡ Some d = slice_get-get_or r.threads t d less ∙ ap Some (sym (c.entry-item.is ∙ ap (λ xs. get_or xs t d) c.as_slice-entry-items.ensures)) in
    let stands : StandsAt r t l = c.requires.each t l (slice_get-get_or c.args.layout.now t no_lines (omega (arith, less, c.requires.count))) in
    let place : c.in_ok-first_unfit.field-0 ≡ first_unfit (ran_fits x t) 0 [] d.ran = c.in_ok-first_unfit.ensures ∙ ap (first_unfit (ran_fits x t) 0 []) c.as_slice-ran.ensures in
    let tokens = c.in_ok-tokens.tokens.items in
    let none = lacks_none-is r x sends t there tokens (λ p. c.in_ok-tokens.ensures p ∙ ap (list_all p) c.tokens.ensures) in
    let enough : c.in_ok-lacks.lacks ≡ not (runs_enough x (thread_count r.script) t (ran_of r t)) =
    c.in_ok-lacks.ensures ∙ ap₂ (λ n ran. not (runs_enough x n t ran)) (c.len-threads.ensures ∙ (parts r).threads) (c.as_slice-ran.ensures ∙ sym (listed (λ y. y.ran) r t d at)) in
    let lacks : c.if-branch.lacks ≡ not (lacks_none r t) = elim c.if-branch.branch [
      | then-branch b ↦ b.lacks-is ∙ b.if-branch.true ∙ lacks_first (runs_enough x (thread_count r.script) t (ran_of r t)) (runs_tokens r t tokens) (sym enough ∙ b.if-branch.true) ∙ ap not none
      | else-branch b ↦ b.lacks-is ∙ b.lacks_token-lacks.ensures runners there ∙ ap (λ ws. not (runs_tokens r t ws)) b.as_slice.ensures.value
          ∙ lacks_second (runs_enough x (thread_count r.script) t (ran_of r t)) (runs_tokens r t tokens) (sym enough ∙ b.if-branch.false) ∙ ap not none
    ] in
    c.lesser-first.ensures
    ∙ ap₂ lesser (c.loop-thread.invariant runners sends) (c.lesser.ensures ∙ ap₂ lesser (c.then_some.ensures ∙ then_some_is c.if-branch.lacks l.thread) (c.at_line-unfit.ensures ∙ ap (at_line l.ran) place) ∙ line-is r x sends t there d l c.if-branch.lacks at stands lacks)
    ∙ sym (least_threads (tests_of r) t)

pub returns : goal.returns
returns c = λ runners sends.
    let all : c.loop-thread.thread ≡ thread_count c.args.of.now.script = omega (arith, (parts c.args.of.now).threads, ap length c.as_slice-entry-items.ensures) in
    all_threads c.args.of.now (tests_of c.args.of.now) c.loop-thread.thread c.loop-thread.first all (c.loop-thread.invariant runners sends)
