use Rattle.std.proofs.Common.{rules, ◌≡◌, ◌<◌, ◌≤◌, length, refl, subst, arith}
use Rattle.std.specs.VecDeque.{deque_len}
use Rattle.lw_thread.specs.Acts.{ActsEnd}
use Rattle.lw_thread.specs.Sending.{first_to}
use Rattle.lw_thread.proofs.Asking.{first_asked}
use Rattle.lw_thread.proofs.acts.Acts.first_receiver.Goals as goal

pub returns : goal.returns
returns g c =
    let x = c.in_ok-front.field-0.now in
    let long : deque_len c.self.inside.asked ≡ length c.self.inside.asked.items = search rules in
    let some : 0 < deque_len c.self.inside.asked = c.in_ok-front.ensures.variant.0 refl in
    subst (λ (a : ActsEnd _). (1 ≤ first_to x.to a.pending) × (x.to < a.threads)) c.self.view_is
    (first_asked g.M.Tagged.letter g.M.Tagged.marked c.self.inside.threads c.self.inside.asked.items x (omega arith) c.in_ok-front.ensures.lookup c.self.invariant.0)
