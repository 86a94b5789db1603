use Rattle.std.proofs.Common.{◌≡◌, ℕ, false, sym, subst}
use Rattle.lw_poller.specs.Changes.{IsLeastFree, with_active}
use Rattle.lw_thread.specs.Acts.{asks_of}
use Rattle.lw_thread.specs.Threads.{Thread, known}
use Rattle.lw_thread.proofs.Kept.{added_kept}
use Rattle.lw_thread.proofs.thread.LightThread.add_active.Goals as goal

pub invariant_of-self : goal.invariant_of-self
invariant_of-self g c =
    let a = c.add_active in
    let keeps = subst (λ (t : Thread _ _ _ _). (n : ℕ) → IsLeastFree t.acts.pollers n → t.stopped ≡ false → g.B.Body.lawful (known t) (asks_of g.B.Message.Tagged.letter (record t.acts { pollers = with_active n t.acts.pollers })) t.body) (sym c.self.view_is) c.requires.lawful in
    (c.self.invariant.0, added_kept g.B.Message.Tagged.letter g.B.Message.Tagged.tag_of g.B.Body.lawful a.result _ a.new.self c.self.invariant.1 a.ensures.number a.ensures.added a.ensures.same keeps)
