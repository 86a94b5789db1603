use Rattle.std.proofs.Common.{ap, ◌∙◌}
use Rattle.lw_latch.specs.DeviceEnds.{SeatEnd}
use Rattle.device_bench.proofs.latched.give_once.Goals as goal

pub release-requires : goal.release-requires
release-requires c = ap (λ (e : SeatEnd). e.view.channel) (c.give.ensures.given c.in-Given.ordinal c.in-Given.is).0

pub returns-in-Given : goal.returns-in-Given
returns-in-Given c = (
  ap (λ (e : SeatEnd). e.view.channel) c.release.ensures,
  ap (λ (e : SeatEnd). e.view.gives) c.release.ensures ∙ ap (λ (e : SeatEnd). e.view.gives) (c.give.ensures.given c.in-Given.ordinal c.in-Given.is).0,
)
