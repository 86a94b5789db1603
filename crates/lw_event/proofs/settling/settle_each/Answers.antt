use Rattle.std.proofs.Common.{◌≡◌, length, reverse, ap, sym, ◌∙◌, rules, arith}
use Rattle.std.specs.Vec.Iter.{into_iter_items}
use Rattle.lw_event.proofs.Left.{settled_more, settled_all, next_paired, settled_none, never_less}
use Rattle.lw_event.proofs.settling.settle_each.Goals as goal

pub settle_one-requires-clause-paired : goal.settle_one-requires-clause-paired
settle_one-requires-clause-paired g c κs bounds =
    let i = c.loop-inbox.invariant in
    next_paired (λ i. i.recv) (λ i. reverse i.batch.items) (λ v. v.items) c.args.inboxes.items (into_iter_items c.loop-inbox.inbox-iterator) (into_iter_items c.next.new.self) c.args.columns.items (into_iter_items c.loop-inbox.columns) (into_iter_items c.next-in-loop-inbox.new.self) c.loop-inbox.left.items c.in-Some.inbox c.in-Some-next.ends
    i.2 c.in-Some.ensures.steps.0 c.in-Some-next.ensures.items c.requires.each

pub loop-inbox-preserved : goal.loop-inbox-preserved
loop-inbox-preserved g c =
    let i = c.loop-inbox.invariant in (
      tt,
      tt,
      settled_more (λ i. i.recv) (λ i. reverse i.batch.items) (λ v. v.items) c.args.inboxes.items (into_iter_items c.loop-inbox.inbox-iterator) (into_iter_items c.next.new.self) c.args.columns.items (into_iter_items c.loop-inbox.columns) (into_iter_items c.next-in-loop-inbox.new.self) c.loop-inbox.left.items c.append.new.self.items c.in_ok-rest.rest.items c.in-Some.inbox c.in-Some-next.ends
          i.2 c.in-Some.ensures.steps.0 c.in-Some-next.ensures.items c.in_ok-rest.ensures (search rules),
      (let was = i.3 in
          let gone = c.in-Some.ensures.steps.1 in
          let short = ap length c.in-Some.ensures.steps.0 in
          omega arith),
    )

pub loop-inbox-init : goal.loop-inbox-init
loop-inbox-init g c =
    let e : into_iter_items c.into_iter-inbox-iterator.result ≡ c.args.inboxes.items = c.into_iter-inbox-iterator.ensures.into_iter_gives.0 in
    let f : into_iter_items c.into_iter-columns.result ≡ c.args.columns.items = c.into_iter-columns.ensures.rest in
    (tt, tt, settled_none (λ i. i.recv) (λ i. reverse i.batch.items) (λ v. v.items) c.args.inboxes.items (into_iter_items c.into_iter-inbox-iterator.result) c.args.columns.items (into_iter_items c.into_iter-columns.result) _ e f c.new-left.ensures.items, (let size = c.into_iter-inbox-iterator.ensures.into_iter_gives.1 in let short = ap length e in search rules))

pub unreachable-requires : goal.unreachable-requires
unreachable-requires g c =
    let i = c.loop-inbox.invariant in
    never_less (λ i. i.recv) (λ i. reverse i.batch.items) (λ v. v.items) c.args.inboxes.items (into_iter_items c.loop-inbox.inbox-iterator) (into_iter_items c.next.new.self) c.args.columns.items (into_iter_items c.loop-inbox.columns) c.loop-inbox.left.items c.in-Some.inbox i.2 c.requires.count c.in-Some.ensures.steps.0 (search rules)

pub returns : goal.returns
returns g c =
    let i = c.loop-inbox.invariant in
    settled_all (λ i. i.recv) (λ i. reverse i.batch.items) (λ v. v.items) c.args.inboxes.items (into_iter_items c.loop-inbox.inbox-iterator) c.args.columns.items (into_iter_items c.loop-inbox.columns) c.loop-inbox.left.items i.2 (sym i.3 ∙ c.in-None.ensures.steps.0)
