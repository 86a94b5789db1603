use Rattle.std.proofs.Common.{ap, ◌∙◌}
use Rattle.lw_latch.specs.DeviceEnds.{SeatEnd}
use Rattle.lw_device_tests.proofs.device_latches.give_once.Goals as goal

pub release-requires : goal.release-requires
release-requires c = ap (λ (e : SeatEnd). e.view.channel) (c.give.ensures.given c.in-Given.ordinal c.in-Given.is).0

pub returns-in-Given : goal.returns-in-Given
returns-in-Given c =
    let gave = (c.give.ensures.given c.in-Given.ordinal c.in-Given.is).0 in (
      ap (λ (e : SeatEnd). e.latch) c.release.ensures ∙ ap (λ (e : SeatEnd). e.latch) gave,
      ap (λ (e : SeatEnd). e.view.seats) c.release.ensures ∙ ap (λ (e : SeatEnd). e.view.seats) gave,
    )
