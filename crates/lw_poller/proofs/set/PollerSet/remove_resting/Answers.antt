use Rattle.std.proofs.Common.{rules, refl, sym, subst}
use Rattle.lw_poller.specs.Pollers.{Pollers, resting_number}
use Rattle.lw_poller.specs.Changes.{Stands}
use Rattle.lw_poller.proofs.Keeping.{resting_low, resting_gone, lists}
use Rattle.lw_poller.proofs.set.PollerSet.remove_resting.Goals as goal

pub without-self-inside-requires : goal.without-self-inside-requires
without-self-inside-requires c =
    let st = subst (λ (x : Pollers). Stands resting_number x.resting c.args.place c.args.number) (sym c.self.view_is) c.requires in
    resting_low c.self.inside.live.word _ c.self.invariant.0 c.args.place c.args.number c.remove.result st

pub invariant_of-self : goal.invariant_of-self
invariant_of-self c =
    let s : Pollers = record { active = c.self.inside.active.items; turn = c.self.inside.turn; before = c.self.inside.before; timed = c.self.inside.timed.items; resting = c.self.inside.resting.items; over = c.self.inside.over.word; began = c.self.inside.began } in
    let live = c.self.inside.live.word in
    let h = c.self.invariant.0 in
    let st = subst (λ (x : Pollers). Stands resting_number x.resting c.args.place c.args.number) (sym c.self.view_is) c.requires in (
      lists c.without-self-inside.result.word _ s.active s.timed c.remove.new.self.items refl refl c.remove.ensures.items
          (resting_gone live s h c.without-self-inside.result.word c.args.place c.args.number c.remove.result c.without-self-inside.ensures.fits c.without-self-inside.ensures.is st),
      search rules,
      search rules,
    )
