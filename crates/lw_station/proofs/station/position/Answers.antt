use Rattle.std.proofs.Common.{sym, ◌∙◌}
use Rattle.lw_event.proofs.Keeping.{end_at}
use Rattle.lw_station.proofs.station.position.Goals as goal

pub returns-then-number-clause-found : goal.returns-then-number-clause-found
returns-then-number-clause-found g c =
    let t = c.index-threads-at.result in
    (t, record { range = c.loop-at-test.true; there = end_at c.args.threads.now c.loop-at.at t c.loop-at-test.true c.index-threads-at.is; number_is = sym c.number.ensures.number ∙ c.if-number.true })
