use Rattle.std.proofs.Common.{◌≡◌, ◌+◌, ◌<◌, ◌++◌, ◌∷◌, [], length, Some, get_or, sym, ap, subst, ◌∙◌, arith}
use Rattle.std.proofs.lemmas.Option.{slice_get-get_or}
use Rattle.std.proofs.lemmas.List.{length-append}
use Rattle.lw_model.specs.Lines.{thread_line, thread_size}
use Rattle.lw_judge_threads.specs.LinesOf.{AreLines}
use Rattle.lw_judge_threads.proofs.Layouts.{thread_next, threads_more}
use Rattle.lw_judge_threads.proofs.lines.Layout.of.Goals as goal

pub loop-thread-preserved : goal.loop-thread-preserved
loop-thread-preserved c =
    let r = c.args.of.now in
    let i = c.loop-thread.thread-index in
    let x = c.thread-item.result in
    let here : get_or r.threads i x ≡ x = ap (λ l. get_or l i x) (sym c.as_slice-thread-items.ensures) ∙ sym c.thread-item.is in
    let less : i < length r.threads = subst (λ l. i < length l) c.as_slice-thread-items.ensures c.loop-thread-test.true in
    let next : thread_line r (i + 1) ≡ thread_line r i + thread_size x = thread_next r i x less here in
    let are : AreLines x (thread_line r i) c.in_ok-lines.lines = subst (λ n. AreLines x n c.in_ok-lines.lines) c.loop-thread.invariant.behind c.in_ok-lines.ensures.lines in
    let pushed : c.push.new.self.items ≡ c.loop-thread.threads.items ++ c.in_ok-lines.lines ∷ [] = c.in_ok-push.ensures.items in
    let count : length c.push.new.self.items ≡ length c.loop-thread.threads.items + 1 = ap length pushed ∙ length-append c.loop-thread.threads.items (c.in_ok-lines.lines ∷ []) in
    record {
      behind = omega (arith, next, are.behind, are.seen, are.replies, are.called, are.did, are.ran, are.hops);
      count = omega (arith, count, c.loop-thread.invariant.count);
      each = threads_more r i x c.in_ok-lines.lines c.loop-thread.threads.items c.push.new.self.items pushed c.loop-thread.invariant.count
          (slice_get-get_or r.threads i x less ∙ ap Some here) next are c.in_ok-lines.ensures.few c.loop-thread.invariant.each;
    }
