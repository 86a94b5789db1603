use Rattle.std.proofs.Common.{reverse, sym, ap, subst, ◌∙◌, arith, ◌<◌, length}
use Rattle.lw_base.specs.Letters.{FitsRing}
use Rattle.lw_event.specs.Letters.{tag_in}
use Rattle.lw_event.specs.Events.{letter_of, event_fits}
use Rattle.lw_event.specs.Desks.{Desk}
use Rattle.lw_event.proofs.Keeping.{kept_next, next_fits, batch_first}
use Rattle.lw_event.proofs.desk.EventDesk.next.Goals as goal

pub invariant_of-self-2 : goal.invariant_of-self-2
invariant_of-self-2 g c =
    let p = c.in_ok-event.ensures in
    let first = batch_first c.self.inside.batch.items c.pop.new.self.items c.in_ok-event.event p.items in
    ((let a = p.capacity in let b = c.self.invariant.0 in omega arith), kept_next _ c.in_ok-event.event (reverse c.pop.new.self.items) c.self.invariant.1 first)

pub returns-clause-next : goal.returns-clause-next
returns-clause-next g c =
    let first = batch_first c.self.inside.batch.items c.pop.new.self.items c.in_ok-event.event c.in_ok-event.ensures.items in
    sym c.self.view_is ∙ ap (λ xs. record { number = c.self.inside.number; recv = c.self.inside.recv; ends = c.self.inside.ends.items; batch = xs }) first

pub returns-clause-fits : goal.returns-clause-fits
returns-clause-fits g c =
    let first = batch_first c.self.inside.batch.items c.pop.new.self.items c.in_ok-event.event c.in_ok-event.ensures.items in
    subst (λ (d : Desk _ _ _ _). FitsRing event_fits d.number d.recv.family c.in_ok-event.event) c.self.view_is (next_fits _ c.in_ok-event.event (reverse c.pop.new.self.items) c.self.invariant.1 first).0

pub returns-clause-sender : goal.returns-clause-sender
returns-clause-sender g c =
    let first = batch_first c.self.inside.batch.items c.pop.new.self.items c.in_ok-event.event c.in_ok-event.ensures.items in
    subst (λ (d : Desk _ _ _ _). (tag_in (letter_of c.in_ok-event.event)).sender < length d.ends) c.self.view_is (next_fits _ c.in_ok-event.event (reverse c.pop.new.self.items) c.self.invariant.1 first).1
