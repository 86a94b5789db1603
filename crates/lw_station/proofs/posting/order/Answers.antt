use Rattle.lw_station.proofs.Refusals.{stop_refuses, stop_stays}
use Rattle.lw_station.proofs.posting.order.Goals as goal

pub returns-in-Err-clause-cause : goal.returns-in-Err-clause-cause
returns-in-Err-clause-cause g c =
    stop_refuses c.number-from.result c.args.at c.order-event.result c.args.events.now c.in-Err.refusal c.stop_of.result c.number-from.ensures.number c.requires.range.0 c.in-Err.ensures.refused.0 c.stop_of.ensures

pub returns-in-Err-clause-stop : goal.returns-in-Err-clause-stop
returns-in-Err-clause-stop g c =
    stop_stays c.number-from.result c.args.at c.order-event.result c.args.events.now c.post.new.events c.args.sleeper.now c.post.new.sleeper c.in-Err.refusal c.stop_of.result c.number-from.ensures.number c.requires.range.0 c.in-Err.ensures.refused c.stop_of.ensures
