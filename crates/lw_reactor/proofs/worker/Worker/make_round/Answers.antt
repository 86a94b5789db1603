use Rattle.std.proofs.Common.{inl, inr}
use Rattle.lw_station.specs.declared.stop.Stop.TheVariants as stop
use Rattle.lw_reactor.proofs.Made.{desk_reactors, desk_threads, due_told, ends_count, held_below, list_below, order_fails_is, round_fails_is, round_is, told_is, wakers_count}
use Rattle.lw_reactor.proofs.Results.{err_then, on_ok_then}
use Rattle.lw_reactor.proofs.Trying.{for_reason}
use Rattle.lw_reactor.proofs.worker.Worker.make_round.Goals as goal

pub tell_own-requires-clause-list : goal.tell_own-requires-clause-list
tell_own-requires-clause-list g c κs within =
    let k = c.requires in
    list_below k.0 k.1 c.args.balancer.now c.is_due.new.self _ c.args.self.now c.self.view_is k.2 c.is_due.ensures.kept

pub tell_own-requires-clause-held : goal.tell_own-requires-clause-held
tell_own-requires-clause-held g c κs within =
    let k = c.requires in
    held_below k.0 k.1 c.args.balancer.now c.is_due.new.self _ c.args.self.now c.self.view_is k.2 c.is_due.ensures.kept

pub balance-requires-clause-due : goal.balance-requires-clause-due
balance-requires-clause-due g c =
    let k = c.requires in
    let t = told_is c.args.balancer.now c.is_due.new.self c.tell_own.new.balancer _ c.args.self.now c.self.view_is c.is_due.ensures.kept (c.is_due.ensures.due.0 c.if-not-is_due.false) c.tell_own.ensures in
    due_told c.args.balancer.now c.tell_own.new.balancer _ t

pub balance-requires-clause-threads : goal.balance-requires-clause-threads
balance-requires-clause-threads g c =
    let k = c.requires in
    let t = told_is c.args.balancer.now c.is_due.new.self c.tell_own.new.balancer _ c.args.self.now c.self.view_is c.is_due.ensures.kept (c.is_due.ensures.due.0 c.if-not-is_due.false) c.tell_own.ensures in
    desk_threads k.0 k.1 c.args.balancer.now c.tell_own.new.balancer _ c.args.self.now c.self.view_is k.2 t

pub balance-requires-clause-reactors : goal.balance-requires-clause-reactors
balance-requires-clause-reactors g c =
    let k = c.requires in
    let t = told_is c.args.balancer.now c.is_due.new.self c.tell_own.new.balancer _ c.args.self.now c.self.view_is c.is_due.ensures.kept (c.is_due.ensures.due.0 c.if-not-is_due.false) c.tell_own.ensures in
    desk_reactors k.0 k.1 c.args.balancer.now c.tell_own.new.balancer _ c.args.self.now c.self.view_is k.2 t

pub returns-in_err-balance-clause-stops : goal.returns-in_err-balance-clause-stops
returns-in_err-balance-clause-stops g c =
    let k = c.requires in
    let t = told_is c.args.balancer.now c.is_due.new.self c.tell_own.new.balancer _ c.args.self.now c.self.view_is c.is_due.ensures.kept (c.is_due.ensures.due.0 c.if-not-is_due.false) c.tell_own.ensures in
    for_reason c.from_residual.result stop.NoMemory _ c.from_residual.ensures.1
    (inl (round_fails_is c.args.balancer.now c.tell_own.new.balancer c.balance.new.self _ c.args.self.now c.balance.new.desk c.self.view_is t c.in_err-balance.ensures.none c.balance.ensures.looked))

pub send_all-requires-clause-reactors : goal.send_all-requires-clause-reactors
send_all-requires-clause-reactors g c κs within =
    let k = c.requires in
    let t = told_is c.args.balancer.now c.is_due.new.self c.tell_own.new.balancer _ c.args.self.now c.self.view_is c.is_due.ensures.kept (c.is_due.ensures.due.0 c.if-not-is_due.false) c.tell_own.ensures in
    ends_count k.0 k.1 c.args.balancer.now c.tell_own.new.balancer c.balance.new.self _ c.args.self.now c.balance.new.desk c.self.view_is k.2 t c.in_ok-balance.ensures.made

pub send_all-requires-clause-wakers : goal.send_all-requires-clause-wakers
send_all-requires-clause-wakers g c κs within =
    let k = c.requires in
    let t = told_is c.args.balancer.now c.is_due.new.self c.tell_own.new.balancer _ c.args.self.now c.self.view_is c.is_due.ensures.kept (c.is_due.ensures.due.0 c.if-not-is_due.false) c.tell_own.ensures in
    wakers_count k.0 k.1 c.args.balancer.now c.tell_own.new.balancer c.balance.new.self _ c.args.self.now c.balance.new.desk c.self.view_is k.2 t c.in_ok-balance.ensures.made

pub returns-clause-balanced : goal.returns-clause-balanced
returns-clause-balanced g c =
    let k = c.requires in
    let t = told_is c.args.balancer.now c.is_due.new.self c.tell_own.new.balancer _ c.args.self.now c.self.view_is c.is_due.ensures.kept (c.is_due.ensures.due.0 c.if-not-is_due.false) c.tell_own.ensures in
    on_ok_then c.send_all.result _ _ c.send_all.ensures.sent
    (λ all. inl (round_is c.args.balancer.now c.tell_own.new.balancer c.balance.new.self _ c.args.self.now c.send_all.new.station c.balance.new.desk c.self.view_is t c.in_ok-balance.ensures.made all c.send_all.ensures.station))

pub returns-clause-stops : goal.returns-clause-stops
returns-clause-stops g c =
    let k = c.requires in
    let t = told_is c.args.balancer.now c.is_due.new.self c.tell_own.new.balancer _ c.args.self.now c.self.view_is c.is_due.ensures.kept (c.is_due.ensures.due.0 c.if-not-is_due.false) c.tell_own.ensures in
    err_then c.send_all.result _ _ c.send_all.ensures.stops
    (λ s some. inr (order_fails_is s c.args.balancer.now c.tell_own.new.balancer c.balance.new.self _ c.args.self.now c.send_all.new.station c.balance.new.desk c.self.view_is t c.in_ok-balance.ensures.made some c.send_all.ensures.station))
