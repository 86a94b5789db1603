use Rattle.std.proofs.Common.{ap}
use Rattle.lw_latch.specs.DeviceEnds.{SeatEnd}
use Rattle.lw_device_tests.proofs.device_latches.is_given.Goals as goal

pub returns-in-Given : goal.returns-in-Given
returns-in-Given c = λ _. ap (λ (e : SeatEnd). e.view.channel) (c.give.ensures.given c.in-Given.found c.in-Given.is).0
