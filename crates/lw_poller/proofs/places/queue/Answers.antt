use Rattle.std.proofs.Common.{◌≡◌, rules, leb, sym, subst}
use Rattle.std.specs.List.{insert}
use Rattle.std.specs.List.Sorted.{IsNonDecreasingBy}
use Rattle.std.proofs.lemmas.List.Sorted.{IsPartitionPoint-from_clause, IsPartitionedBy-leb}
use Rattle.lw_poller.specs.Pollers.{due_of}
use Rattle.lw_poller.proofs.Queueing.{queues, queued_by_due}
use Rattle.lw_poller.proofs.places.queue.Goals as goal

pub returns-clause-queued : goal.returns-clause-queued
returns-clause-queued c =
    let ys = c.as_slice.result.now in
    let by_due = subst (IsNonDecreasingBy due_of) (sym c.as_slice.ensures.value) c.requires.by_due in
    let parted = IsPartitionedBy-leb due_of ys c.args.poller.due by_due in
    let point = IsPartitionPoint-from_clause (λ p. leb p.due c.args.poller.due) _ _ c.partition_point-place.ensures.partitioned parted (λ a r q k. search rules) in
    let inserted : c.insert.new.self.items ≡ insert c.args.pollers.now.items c.partition_point-place.result c.args.poller = search rules in
    queues c.args.poller c.partition_point-place.result ys c.args.pollers.now.items c.insert.new.self.items c.as_slice.ensures.value c.partition_point-place.ensures.bound point inserted

pub returns-clause-by_due : goal.returns-clause-by_due
returns-clause-by_due c = queued_by_due c.args.poller c.args.pollers.now.items c.insert.new.self.items c.requires.by_due (returns-clause-queued c)
