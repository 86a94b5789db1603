use Rattle.std.proofs.Common.{reverse, sym, subst, ◌<◌, ◌∙◌}
use Rattle.std.proofs.lemmas.Result.{IfOk-weaker}
use Rattle.lw_event.proofs.Begun.{nth_of}
use Rattle.lw_event.proofs.Left.{left_all}
use Rattle.lw_event.proofs.settling.settle_events.Goals as goal

pub settle_each-requires-clause-count : goal.settle_each-requires-clause-count
settle_each-requires-clause-count g c κs within_bounds = let h = c.in_ok-inboxes.ensures.count in h.0 ∙ sym h.1

pub settle_each-requires-clause-each : goal.settle_each-requires-clause-each
settle_each-requires-clause-each g c κs bounds = λ k i e low.
    let h = c.in_ok-inboxes.ensures in
    let within = subst (λ n. k < n) h.count.0 low in
    (h.each k (nth_of c.args.desks.items k within) i e within).paired

pub returns : goal.returns
returns g c =
    let h = c.in_ok-inboxes.ensures in
    IfOk-weaker c.settle_each.result _ _ (λ v s. left_all (λ i. i.recv) (λ i. reverse i.batch.items) (λ v. v.items) c.args.desks.items c.in_ok-inboxes.inboxes.items c.in_ok-inboxes.columns.items v.items h.count.0 (λ k d i e low. h.each k d i e low) h.count.1 s) c.settle_each.ensures
