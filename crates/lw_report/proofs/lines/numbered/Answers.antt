use Rattle.std.proofs.Common.{sym, ap, ◌∙◌, ◌+◌, ◌-◌}
use Rattle.lw_report.specs.Machine.{numbered}
use Rattle.lw_report.proofs.Reading.{before, numbered_more, stop_says}
use Rattle.lw_report.proofs.lines.numbered.Goals as goal

pub returns-in-Err : goal.returns-in-Err
returns-in-Err g c =
    stop_says (g.P.Part.of c.args.part.now) c.args.count c.loop-number.number c.args.lines.now c.loop-number.lines c.read.new.lines c.loop-number.items.items c.in-Err.stop c.loop-number-test.true c.in-Err.ensures c.loop-number.invariant

pub loop-number-preserved : goal.loop-number-preserved
loop-number-preserved g c =
    c.loop-number.invariant
    ∙ numbered_more (g.P.Part.of c.args.part.now) c.args.count c.loop-number.number c.loop-number.lines c.read.new.lines c.in-Ok.item c.loop-number.items.items c.loop-number-test.true c.in-Ok.ensures
    ∙ ap (λ q. before q (numbered (c.args.count - (c.loop-number.number + 1)) (c.loop-number.number + 1) (g.P.Part.of c.args.part.now) c.read.new.lines)) (sym c.in_ok-push-in-Ok.ensures.items)
