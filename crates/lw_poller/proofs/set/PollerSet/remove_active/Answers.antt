use Rattle.std.proofs.Common.{rules, length, refl, sym, subst, arith}
use Rattle.lw_poller.specs.Pollers.{Pollers, active_number}
use Rattle.lw_poller.specs.Changes.{Stands}
use Rattle.lw_poller.proofs.Keeping.{active_low, active_gone, lists, less_order}
use Rattle.lw_poller.proofs.set.PollerSet.remove_active.Goals as goal

pub without-self-inside-requires : goal.without-self-inside-requires
without-self-inside-requires c =
    let st = subst (λ (x : Pollers). Stands active_number x.active c.args.place c.args.number) (sym c.self.view_is) c.requires in
    active_low c.self.inside.live.word _ c.self.invariant.0 c.args.place c.args.number c.remove.result st

pub invariant_of-self : goal.invariant_of-self
invariant_of-self c =
    let s : Pollers = record { active = c.self.inside.active.items; turn = c.self.inside.turn; before = c.self.inside.before; timed = c.self.inside.timed.items; resting = c.self.inside.resting.items; over = c.self.inside.over.word; began = c.self.inside.began } in
    let live = c.self.inside.live.word in
    let h = c.self.invariant.0 in
    let st = subst (λ (x : Pollers). Stands active_number x.active c.args.place c.args.number) (sym c.self.view_is) c.requires in
    let o = less_order c.args.place s.turn s.before (length s.active) h.turn h.before st.0 in
    let turn = c.less_at-self-inside.result in
    let before = c.less_at-self-inside-2.result in (
      lists c.without-self-inside.result.word _ c.remove.new.self.items s.timed s.resting c.remove.ensures.items refl refl
          (active_gone live s h c.without-self-inside.result.word c.args.place c.args.number c.remove.result turn before c.without-self-inside.ensures.fits c.without-self-inside.ensures.is st
          (let a = c.less_at-self-inside.ensures in let b = c.less_at-self-inside-2.ensures in let x = o.0 in omega arith)
          (let b = c.less_at-self-inside-2.ensures in let x = o.1 in omega arith)),
      search rules,
      search rules,
    )
