use Rattle.std.proofs.Common.{rules, ◌<◌, length, subst}
use Rattle.std.specs.Prelude.{slice_index_or}
use Rattle.std.proofs.lemmas.List.{get_or_default}
use Rattle.lw_poller.specs.declared.poller.Timed.{Timed}
use Rattle.lw_poller.proofs.Queueing.{none_due}
use Rattle.lw_poller.proofs.places.due_place.Goals as goal

pub returns-then-poller-now-clause-none : goal.returns-then-poller-now-clause-none
returns-then-poller-now-clause-none c =
    let none : Timed = record { number = 0; period = 0; due = 0 } in
    let within : c.loop-place.place < length c.args.pollers.now = search rules in
    let past : c.args.now < (slice_index_or c.args.pollers.now c.loop-place.place none).due = search rules in
    none_due c.args.pollers.now c.args.over.word c.args.now c.loop-place.place c.requires.by_due c.loop-place.invariant
    (λ d. subst (λ (x : Timed). c.args.now < x.due) (get_or_default c.args.pollers.now c.loop-place.place none d within) past)
