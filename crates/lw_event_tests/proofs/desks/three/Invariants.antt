use Rattle.lw_event_tests.specs.Three.{three_reactors}
use Rattle.lw_event_tests.proofs.desks.three.Given as goal

abbrev pub ghost-event_rings : goal.ghost-event_rings
ghost-event_rings g a = three_reactors
