use Rattle.std.proofs.Common.{rules, ◌≡◌, ◌+◌, ◌-◌, length, refl, ap, sym, subst, ◌∙◌, arith, All}
use Rattle.std.proofs.lemmas.List.Elements.{All-head, All-rest}
use Rattle.std.specs.Vec.Iter.{into_iter_items}
use Rattle.lw_pool.specs.Sizes.{most_users}
use Rattle.lw_pool.specs.PoolEnds.{IsHome}
use Rattle.lw_pool.proofs.Rows.{IsOther, ends}
use Rattle.lw_pool.proofs.settling.join.Goals as goal

pub open-whole-requires : goal.open-whole-requires
open-whole-requires c = let e = ends _ _ _ c.in-Some.ensures.items c.requires.all c.requires.even in (e.number, e.even)

pub loop-pass-init : goal.loop-pass-init
loop-pass-init c =
    let e = ends _ _ _ c.in-Some.ensures.items c.requires.all c.requires.even in
    let o = c.open-whole.ensures in
    let rest = into_iter_items c.into_iter-pass-iterator.result in
    let is : rest ≡ c.pop.new.self.items = search rules in
    let long = ap length is in
    let users = e.users in
    let few = o.few in (
      refl,
      omega arith,
      o.home _ (omega arith),
      subst (λ ps. All (IsOther c.open-whole.result.pool) ps) (sym is) (subst (λ p. All (IsOther p) c.pop.new.self.items) (sym o.pool) e.before),
    )

pub take_in-requires : goal.take_in-requires
take_in-requires c =
    let i = c.loop-pass.invariant in
    let s = c.in-Some-pass.ensures.steps.0 in
    let first = All-head (IsOther c.open-whole.result.pool) c.in-Some-pass.pass (into_iter_items c.next.new.self) (subst (λ ps. All (IsOther c.open-whole.result.pool) ps) s i.3) in
    (first.0 ∙ sym i.0, first.1, first.2)

pub loop-pass-preserved : goal.loop-pass-preserved
loop-pass-preserved c =
    let i = c.loop-pass.invariant in
    let s = c.in-Some-pass.ensures.steps.0 in
    let t = c.take_in.ensures in
    let rest = into_iter_items c.next.new.self in
    let long = ap length s in
    let few = i.1 in
    let more : (most_users - length (into_iter_items c.loop-pass.pass-iterator)) + 1 ≡ most_users - length rest = omega arith in (
      t.pool ∙ i.0,
      omega arith,
      subst (λ n. IsHome n c.take_in.new.whole) more (t.home _ i.2),
      All-rest (IsOther c.open-whole.result.pool) c.in-Some-pass.pass rest (into_iter_items c.loop-pass.pass-iterator) s i.3,
    )
