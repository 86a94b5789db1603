use Rattle.std.proofs.Common.{rules, refl, arith}
use denote.Param.Send.{sendable}
use Rattle.std.proofs.Crossing.{crosses}
use Rattle.lw_event_tests.proofs.desks.three.Goals as goal

pub event_rings-requires : goal.event_rings-requires
event_rings-requires g c κs within =
    let m = c.type_bounds.send-B in
    let n = c.type_bounds.send-B-Message in (
      search rules,
      (search rules, (search rules, (search rules, (search (sendable, crosses) depth 20, (search (sendable, crosses) depth 20, ((omega arith, omega arith), refl)))))),
    )
