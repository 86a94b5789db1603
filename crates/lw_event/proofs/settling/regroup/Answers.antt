use Rattle.std.proofs.Common.{◌≡◌, length, reverse, ap, sym, subst, ◌∙◌, rules, arith}
use Rattle.std.specs.Vec.Iter.{into_iter_items}
use Rattle.lw_event.specs.Desks.{Desk, IsKept}
use Rattle.lw_event.proofs.Left.{taken_none, taken_more, taken_all, deal_size}
use Rattle.lw_event.proofs.settling.regroup.Goals as goal

pub loop-desk-init : goal.loop-desk-init
loop-desk-init g c =
    let e : into_iter_items c.into_iter-desk-iterator.result ≡ c.args.desks.items = c.into_iter-desk-iterator.ensures.into_iter_gives.0 in
    let r = c.in_ok-columns.ensures in
    (tt, tt, taken_none (λ i. i.recv) (λ i. reverse i.batch.items) (λ v. v.items) c.args.desks.items _ _ c.in_ok-columns.columns.items c.new-inboxes.ensures.items e (search rules) r.each, (let size = c.into_iter-desk-iterator.ensures.into_iter_gives.1 in let short = ap length e in search rules))

pub deal-requires : goal.deal-requires
deal-requires g c =
    let i = c.loop-desk.invariant in
    let d = c.in-Some.desk in
    deal_size (λ i. i.recv) (λ i. reverse i.batch.items) (λ v. v.items) c.args.desks.items (into_iter_items c.loop-desk.desk-iterator) (into_iter_items c.next.new.self) c.loop-desk.inboxes.items c.loop-desk.columns.items d _
    i.2 c.requires c.in-Some.ensures.steps.0 (search rules)

pub loop-desk-preserved : goal.loop-desk-preserved
loop-desk-preserved g c =
    let i = c.loop-desk.invariant in
    let v = c.desk.view_is in (
      tt,
      tt,
      taken_more (λ i. i.recv) (λ i. reverse i.batch.items) (λ v. v.items) c.args.desks.items (into_iter_items c.loop-desk.desk-iterator) (into_iter_items c.next.new.self) c.loop-desk.inboxes.items c.push.new.self.items c.loop-desk.columns.items c.deal.new.rows.items c.in-Some.desk _ c.desk.inside.ends.items
          i.2 c.requires c.in-Some.ensures.steps.0 (subst IsKept v c.desk.invariant.1) (ap (λ (d : Desk _ _ _ _). d.ends) v) (ap (λ (d : Desk _ _ _ _). d.recv) v) (ap (λ (d : Desk _ _ _ _). d.batch) v) c.in_ok-push.ensures.items c.in_ok-deal.ensures.count c.in_ok-deal.ensures.each,
      (let was = i.3 in
          let gone = c.in-Some.ensures.steps.1 in
          let short = ap length c.in-Some.ensures.steps.0 in
          omega arith),
    )

pub returns-clause-each : goal.returns-clause-each
returns-clause-each g c =
    let i = c.loop-desk.invariant in
    (taken_all (λ i. i.recv) (λ i. reverse i.batch.items) (λ v. v.items) c.args.desks.items (into_iter_items c.loop-desk.desk-iterator) c.loop-desk.inboxes.items c.loop-desk.columns.items i.2 c.requires (sym i.3 ∙ c.in-None.ensures.steps.0)).2
