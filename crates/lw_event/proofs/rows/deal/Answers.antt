use Rattle.std.proofs.Common.{rules}
use Rattle.std.specs.Vec.Iter.{into_iter_items}
use Rattle.lw_event.proofs.Dealt.{dealt}
use Rattle.lw_event.proofs.rows.deal.Goals as goal

pub loop-value-preserved : goal.loop-value-preserved
loop-value-preserved g c =
    let i = c.loop-value.invariant in
    let d = dealt (λ (r : _). r.items) c.loop-value.rows.items c.args.rows.now.items c.args.column.items (into_iter_items c.loop-value.value-iterator) (into_iter_items c.next.new.self) c.loop-value.at c.index_mut.result.now c.push.new.self c.in-Some.value i.2 c.in-Some.ensures.steps.0 i.4 c.requires c.index_mut.ensures.value (search rules) i.5 i.6 in
    (tt, tt, d.0, d.1, d.2, d.3, d.4)
