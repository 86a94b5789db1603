use Rattle.std.proofs.Common.{◌≡◌, ℕ, ◌<◌, rules, length, refl, sym, ap, subst, ◌∙◌, All}
use Rattle.std.specs.Prelude.{slice_index_or}
use Rattle.std.specs.List.{remove}
use Rattle.std.specs.List.Sorted.{IsNonDecreasingBy}
use Rattle.std.proofs.lemmas.List.{get_or_default}
use Rattle.lw_poller.specs.declared.poller.Timed.{Timed}
use Rattle.lw_poller.specs.Numbers.{most_pollers}
use Rattle.lw_poller.specs.Pollers.{Pollers, timed_number, due_of}
use Rattle.lw_poller.specs.LocalDue.{IsNextTimed, due_at}
use Rattle.lw_poller.specs.Changes.{IsQueued, GivesTimed}
use Rattle.lw_poller.proofs.Keeping.{timed_low, removed_by_due}
use Rattle.lw_poller.proofs.Queueing.{is_next}
use Rattle.lw_poller.proofs.set.PollerSet.next_timed.Goals as goal

pub due_place-requires-clause-low : goal.due_place-requires-clause-low
due_place-requires-clause-low c = subst (All (λ (p : Timed). p.number < most_pollers)) (sym c.as_slice.ensures.value) (timed_low _ _ c.self.invariant.0)

pub with-self-inside-requires : goal.with-self-inside-requires
with-self-inside-requires c =
    let p = c.remove-poller.result in
    let within : c.in_ok-place.place < length c.self.inside.timed.items = search rules in
    subst (λ (x : Timed). x.number < most_pollers) (sym c.remove-poller.ensures.value) (timed_low _ _ c.self.invariant.0 c.in_ok-place.place p within)

pub queue-requires-clause-by_due : goal.queue-requires-clause-by_due
queue-requires-clause-by_due c =
    let within : c.in_ok-place.place < length c.self.inside.timed.items = search rules in
    subst (IsNonDecreasingBy due_of) (sym c.remove-poller.ensures.items) (removed_by_due c.self.inside.timed.items c.in_ok-place.place within c.self.invariant.0.by_due)

pub returns-clause-given : goal.returns-clause-given
returns-clause-given c =
    let s : Pollers = record { active = c.self.inside.active.items; turn = c.self.inside.turn; before = c.self.inside.before; timed = c.self.inside.timed.items; resting = c.self.inside.resting.items; over = c.self.inside.over.word; began = c.self.inside.began } in
    let place = c.in_ok-place.place in
    let p = c.remove-poller.result in
    let ts = c.queue.new.pollers.items in
    let within : place < length c.self.inside.timed.items = search rules in
    let is : (d : Timed) → p ≡ slice_index_or s.timed place d = (λ d. c.remove-poller.ensures.value ∙ get_or_default s.timed place p d within) in
    let queued : IsQueued (record p { due = due_at s.began p.period }) (remove s.timed place) ts =
    subst (λ l. IsQueued (record p { due = due_at s.began p.period }) l ts) c.remove-poller.ensures.items
    (subst (λ n. IsQueued (record p { due = n }) c.remove-poller.new.self.items ts) c.saturating_add.ensures c.queue.ensures.queued) in
    subst (λ (x : Pollers). (n : ℕ) × IsNextTimed x n × GivesTimed n p.number x (record s { timed = ts; over = c.with-self-inside.result.word })) c.self.view_is (
      place,
      is_next s c.as_slice.result.now place c.as_slice.ensures.value c.self.invariant.0.by_due c.in_ok-place.ensures.within c.in_ok-place.ensures.waits c.in_ok-place.ensures.due c.in_ok-place.ensures.first,
      record {
        is = λ d. ap timed_number (sym (is d));
        queued = λ d. subst (λ (x : Timed). IsQueued (record x { due = due_at s.began x.period }) (remove s.timed place) ts) (is d) queued;
        over = c.with-self-inside.ensures.is;
        others = refl;
      },
    )
