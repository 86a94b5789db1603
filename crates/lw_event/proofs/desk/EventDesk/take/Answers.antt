use Rattle.std.proofs.Common.{◌++◌, length, map, reverse, sym, ap, subst, ◌∙◌, arith}
use Rattle.std.proofs.lemmas.List.{length-reverse}
use Rattle.lw_ring.specs.Queue.{AllFit}
use Rattle.lw_event.specs.Letters.{tag_in}
use Rattle.lw_event.specs.Events.{letter_of, event_fits}
use Rattle.lw_event.proofs.Keeping.{kept_taken, took_still, took_is, reverse_twice}
use Rattle.lw_event.proofs.desk.EventDesk.take.Goals as goal

pub invariant_of-self : goal.invariant_of-self
invariant_of-self g c =
    let t = c.take_into.ensures in
    let given = ap reverse c.reverse.ensures.items ∙ reverse_twice c.take_into.new.batch.items in (
      (let a = t.room in let b = c.self.invariant.0 in let d = c.reverse.ensures.capacity in omega arith),
      kept_taken _ c.take_into.new.self (reverse c.reverse.new.self.items) c.self.invariant.1
          (t.taken ∙ (λ i. record c.self.inside.recv { taken = c.self.inside.recv.taken ++ map letter_of (sym given i); hand = c.take_into.new.self.hand }))
          (subst (λ xs. AllFit letter_of tag_in event_fits c.self.inside.recv.number c.self.inside.recv.family c.self.inside.recv.senders xs) (sym given) t.each),
    )

pub returns-clause-still : goal.returns-clause-still
returns-clause-still g c =
    let t = c.take_into.ensures in
    let given = ap reverse c.reverse.ensures.items ∙ reverse_twice c.take_into.new.batch.items in
    took_still _ _ c.take_into.new.self (reverse c.reverse.new.self.items) c.self.view_is
    (t.taken ∙ (λ i. record c.self.inside.recv { taken = c.self.inside.recv.taken ++ map letter_of (sym given i); hand = c.take_into.new.self.hand }))

pub returns-clause-count : goal.returns-clause-count
returns-clause-count g c =
    let t = c.take_into.ensures in
    let few = t.count in
    let here = length-reverse c.reverse.new.self.items in
    let was = length-reverse c.take_into.new.batch.items in
    let same = ap length c.reverse.ensures.items in
    let size = c.len.ensures in
    (omega arith, omega arith)

pub returns-clause-taken : goal.returns-clause-taken
returns-clause-taken g c =
    let t = c.take_into.ensures in
    let given = ap reverse c.reverse.ensures.items ∙ reverse_twice c.take_into.new.batch.items in
    took_is _ _ c.take_into.new.self (reverse c.reverse.new.self.items) c.self.view_is
    (t.taken ∙ (λ i. record c.self.inside.recv { taken = c.self.inside.recv.taken ++ map letter_of (sym given i); hand = c.take_into.new.self.hand }))
