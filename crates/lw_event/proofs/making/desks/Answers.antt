use Rattle.std.proofs.Common.{ℕ, ◌+◌, length, ap, sym, ◌∙◌, rules, length-append}
use Rattle.std.specs.Vec.Iter.{into_iter_items}
use Rattle.lw_event.proofs.Begun.{made_more, next_parts}
use Rattle.lw_event.proofs.making.desks.Goals as goal

pub desk-requires-clause-parts : goal.desk-requires-clause-parts
desk-requires-clause-parts g c κs bounds =
    let i = c.loop-recv.invariant in
    (next_parts (λ v. v.items) c.args.recvs.items (into_iter_items c.loop-recv.recv-iterator) (into_iter_items c.next.new.self) c.args.rows.items (into_iter_items c.loop-recv.rows) (into_iter_items c.next-in-loop-recv.new.self) c.loop-recv.desks.items c.in-Some.recv c.in-Some-next.ends c.loop-recv.number i.3 c.in-Some.ensures.steps.0 c.in-Some-next.ensures.items i.2 c.requires.parts).1

pub loop-recv-preserved : goal.loop-recv-preserved
loop-recv-preserved g c =
    let i = c.loop-recv.invariant in
    let p = c.in_ok-push.ensures.items in (
      tt,
      tt,
      ap (λ (n : ℕ). n + 1) i.2 ∙ sym (ap length p ∙ length-append c.loop-recv.desks.items _),
      made_more (λ v. v.items) c.args.recvs.items (into_iter_items c.loop-recv.recv-iterator) (into_iter_items c.next.new.self) c.args.rows.items (into_iter_items c.loop-recv.rows) (into_iter_items c.next-in-loop-recv.new.self) c.loop-recv.desks.items c.push.new.self.items c.in-Some.recv c.in-Some-next.ends _ c.loop-recv.number i.3 c.in-Some.ensures.steps.0 c.in-Some-next.ensures.items i.2 (search rules) p,
    )
