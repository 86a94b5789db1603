use Rattle.std.proofs.Common.{◌<◌, ap, subst, sym, length, All, ◌∙◌}
use Rattle.lw_station.specs.Stations.{StationEnd}
use Rattle.lw_reactor.proofs.Made.{told_masks, told_own}
use Rattle.lw_reactor.proofs.rounds.tell_own.Goals as goal

pub tell_sums-requires-2-after_bounds : goal.tell_sums-requires-2-after_bounds
tell_sums-requires-2-after_bounds g c κs within =
    let held = c.as_slice-2.ensures.value ∙ ap (λ (x : StationEnd _ _ _ _). x.held) c.station.view_is in
    subst (All (λ t. t.seat.thread < length c.tell_sums.new.balancer.masks)) (sym held)
    (subst (λ n. All (λ t. t.seat.thread < n) c.args.station.now.held) (sym (told_masks c.as_slice.result.now c.args.balancer.now c.tell_sums.new.balancer c.tell_sums.ensures)) c.requires.held)

pub returns : goal.returns
returns g c = told_own _ c.args.station.now c.as_slice.result.now c.as_slice-2.result.now c.args.balancer.now c.tell_sums.new.balancer c.tell_sums-2.new.balancer c.station.view_is c.as_slice.ensures.value c.as_slice-2.ensures.value c.tell_sums.ensures c.tell_sums-2.ensures
