use Rattle.std.proofs.Common.{rules, ◌<◌, length, refl}
use Rattle.lw_poller.specs.declared.poller.Resting.{Resting}
use Rattle.lw_poller.specs.Pollers.{Pollers, timed_number}
use Rattle.lw_poller.proofs.Keeping.{reads, timed_paused, lists}
use Rattle.lw_poller.proofs.set.PollerSet.lay_down.Goals as goal

pub invariant_of-self : goal.invariant_of-self
invariant_of-self c =
    let s : Pollers = record { active = c.self.inside.active.items; turn = c.self.inside.turn; before = c.self.inside.before; timed = c.self.inside.timed.items; resting = c.self.inside.resting.items; over = c.self.inside.over.word; began = c.self.inside.began } in
    let p = c.remove-poller.result in
    let y : Resting = record { number = p.number; period = p.period } in
    let within : c.args.place < length c.self.inside.timed.items = search rules in
    let st = reads timed_number s.timed c.args.place p within c.remove-poller.ensures.value in (
      lists c.self.inside.live.word _ s.active c.remove-poller.new.self.items c.push_reserved.new.self.items refl c.remove-poller.ensures.items (search rules)
          (timed_paused c.self.inside.live.word s c.self.invariant.0 c.args.place p y st refl),
      search rules,
      search rules,
    )
