use Rattle.std.proofs.Common.{inl, inr, refl}
use Rattle.lw_reactor.proofs.Balancing.{balances_go, balances_kept}
use Rattle.lw_reactor.proofs.Trying.{for_reason}
use Rattle.lw_reactor.proofs.Turning.{events_go, events_kept}
use Rattle.lw_reactor.proofs.worker.Worker.steps.Goals as goal

pub take_events-requires-clause-going : goal.take_events-requires-clause-going
take_events-requires-clause-going g c κs within =
    let k = c.requires in
    let one = balances_kept k.0 c.args.homes.now c.args.balancer.now c.balance.new.balancer c.args.self.now c.balance.new.self c.in_ok-balance.ensures.balanced k.1 in
    let go = balances_go c.args.homes.now c.args.balancer.now c.balance.new.balancer c.args.self.now c.balance.new.self c.in_ok-balance.ensures.balanced k.2 in
    (k.0, c.args.homes.now, (one.worker).station, go.list)

pub take_events-requires-clause-none : goal.take_events-requires-clause-none
take_events-requires-clause-none g c κs within = (balances_go c.args.homes.now c.args.balancer.now c.balance.new.balancer c.args.self.now c.balance.new.self c.in_ok-balance.ensures.balanced c.requires.2).no_batch

pub returns-in_err-took-clause-stops : goal.returns-in_err-took-clause-stops
returns-in_err-took-clause-stops g c = for_reason c.from_residual-in_err-took.result c.in_err-took.field-0.0 _ c.from_residual-in_err-took.ensures.1
    (inl (inr (record { balanced = c.balance.new.self; balances = c.in_ok-balance.ensures.balanced; events = c.in_err-took.ensures.stops; same = refl })))

pub poll_all-requires-after_bounds : goal.poll_all-requires-after_bounds
poll_all-requires-after_bounds g c κs within =
    let k = c.requires in
    let one = balances_kept k.0 c.args.homes.now c.args.balancer.now c.balance.new.balancer c.args.self.now c.balance.new.self c.in_ok-balance.ensures.balanced k.1 in
    let go = balances_go c.args.homes.now c.args.balancer.now c.balance.new.balancer c.args.self.now c.balance.new.self c.in_ok-balance.ensures.balanced k.2 in
    let two = events_kept k.0 c.args.homes.now c.balance.new.balancer c.in_ok-took.field-0 c.balance.new.self c.take_events.new.self c.in_ok-took.ensures.handled one in
    let on = events_go k.0 c.args.homes.now c.balance.new.balancer c.in_ok-took.field-0 c.balance.new.self c.take_events.new.self c.in_ok-took.ensures.handled one go in
    (k.0, two.its_homes, two.worker, on.list)

pub returns-in_err-poll_all-clause-stops : goal.returns-in_err-poll_all-clause-stops
returns-in_err-poll_all-clause-stops g c = for_reason c.from_residual-in_err-poll_all.result c.in_err-poll_all.field-0.0 _ c.from_residual-in_err-poll_all.ensures.1
    (inr (record { balanced = c.balance.new.self; handled = c.take_events.new.self; balances = c.in_ok-balance.ensures.balanced; handles = c.in_ok-took.ensures.handled; polling = c.in_err-poll_all.ensures.stops }))
