use Rattle.std.proofs.Common.{◌≡◌, ◌<◌, ◌++◌, [], ◌∷◌, cond, filter, length, get_or, arith, ap, ap₂, sym, ◌∙◌, subst}
use Rattle.std.specs.List.{range_with_len}
use Rattle.lw_model.specs.Threads.{ran_of, thread_count}
use Rattle.std.proofs.lemmas.Option.{slice_get-get_or}
use Rattle.lw_model.proofs.Printed.{parts}
use Rattle.lw_judge_messages.specs.Tokens.{is_run}
use Rattle.lw_judge_threads.proofs.ThreadCounts.{few_threads}
use Rattle.lw_judge_threads.proofs.Threads.{listed}
use Rattle.lw_judge_messages.proofs.RunnerLists.{AllBelow, below_in_range, filter-range_push}
use Rattle.lw_judge_messages.proofs.tokens.Runners.new.Goals as goal

pub overflow_cast-thread : goal.overflow_cast-thread
overflow_cast-thread c = omega (arith, few_threads c.args.of.now, (parts c.args.of.now).threads, ap length c.as_slice-lines-items.ensures)

pub loop-thread-preserved : goal.loop-thread-preserved
loop-thread-preserved c =
    let r = c.args.of.now in
    let t = c.loop-thread.thread in
    let less : t < length r.threads = subst (λ l. t < length l) c.as_slice-lines-items.ensures c.loop-thread-test.true in
    let x = c.lines-item.result in
    let ran = c.as_slice.ensures ∙ ap (λ y. y.ran) (c.lines-item.is ∙ ap (λ l. get_or l t x) c.as_slice-lines-items.ensures) ∙ sym (listed (λ y. y.ran) r t (get_or r.threads t x) (slice_get-get_or r.threads t x less)) in
    λ w.
    c.in_ok-add_thread.ensures (λ q. subst (AllBelow t) (sym (c.loop-thread.invariant q)) (below_in_range (λ u. is_run q (ran_of r u)) t)) w
    ∙ ap₂ (λ us ms. us ++ cond (is_run w ms) (t ∷ []) []) (c.loop-thread.invariant w) ran
    ∙ sym (filter-range_push (λ u. is_run w (ran_of r u)) t)

pub returns : goal.returns
returns c =
    let r = c.args.of.now in
    let count : c.loop-thread.thread ≡ thread_count r.script = omega (arith, (parts r).threads, ap length c.as_slice-lines-items.ensures) in
    record { each = λ w. c.loop-thread.invariant w ∙ ap (λ n. filter (λ u. is_run w (ran_of r u)) (range_with_len 0 n)) count }
