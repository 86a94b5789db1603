use Rattle.std.proofs.Common.{rules, ◌≡◌, ◌≢◌, subst, All}
use Rattle.lw_poller.specs.declared.poller.Active.{Active}
use Rattle.lw_poller.specs.declared.poller.Timed.{Timed}
use Rattle.lw_poller.specs.declared.poller.Resting.{Resting}
use Rattle.lw_poller.specs.Pollers.{Pollers, times}
use Rattle.lw_poller.proofs.Keeping.{nobody}
use Rattle.lw_poller.proofs.set.PollerSet.spot.Goals as goal

pub returns-clause-none : goal.returns-clause-none
returns-clause-none c =
    let a : All (λ (p : Active). p.number ≢ c.args.number) c.as_slice.result.now = first_of (assumption c.in_default.ensures.none, search (rules, c.in_default.ensures.none)) in
    let t : All (λ (p : Timed). p.number ≢ c.args.number) c.as_slice-2.result.now = first_of (assumption c.in_default-place_of_timed.ensures.none, search (rules, c.in_default-place_of_timed.ensures.none)) in
    let r : All (λ (p : Resting). p.number ≢ c.args.number) c.as_slice-3.result.now = first_of (assumption c.in_default-place_of_resting.ensures.none, search (rules, c.in_default-place_of_resting.ensures.none)) in
    subst (λ (x : Pollers). times c.args.number x ≡ 0) c.self.view_is
    (nobody (record { active = c.self.inside.active.items; turn = c.self.inside.turn; before = c.self.inside.before; timed = c.self.inside.timed.items; resting = c.self.inside.resting.items; over = c.self.inside.over.word; began = c.self.inside.began }) c.args.number
    (subst (All (λ (p : Active). p.number ≢ c.args.number)) c.as_slice.ensures.value a)
    (subst (All (λ (p : Timed). p.number ≢ c.args.number)) c.as_slice-2.ensures.value t)
    (subst (All (λ (p : Resting). p.number ≢ c.args.number)) c.as_slice-3.ensures.value r))
