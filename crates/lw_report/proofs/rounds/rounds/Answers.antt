use Rattle.std.proofs.Common.{◌≡◌, ap, sym, ◌∙◌, Option, Some, arith}
use Rattle.lw_report_lines.specs.declared.move_lines.RoundHead.{RoundHead}
use Rattle.lw_report_lines.specs.MoveLines.{round_in}
use Rattle.lw_report.specs.Machine.{taken}
use Rattle.lw_report.specs.Rounds.{rounds_at}
use Rattle.lw_report.proofs.Reading.{behind}
use Rattle.lw_report.proofs.RoundLoops.{round_goes_on, rounds_more}
use Rattle.lw_report.proofs.rounds.rounds.Goals as goal

pub loop-rounds-smaller : goal.loop-rounds-smaller
loop-rounds-smaller c =
    let taken_is : (Some c.in-Some.head, c.take.new.self) ≡ taken round_in c.loop-rounds.lines = ap (λ (o : Option RoundHead). (o, c.take.new.self)) (sym c.in-Some.is) ∙ c.in_ok-head.ensures in
    let less = round_goes_on c.loop-rounds.lines c.take.new.self c.round.new.lines c.in-Some.head c.in_ok-round.field-0 taken_is c.in_ok-round.ensures in
    omega (arith, less)

pub loop-rounds-preserved : goal.loop-rounds-preserved
loop-rounds-preserved c =
    let taken_is : (Some c.in-Some.head, c.take.new.self) ≡ taken round_in c.loop-rounds.lines = ap (λ (o : Option RoundHead). (o, c.take.new.self)) (sym c.in-Some.is) ∙ c.in_ok-head.ensures in
    c.loop-rounds.invariant
    ∙ rounds_more c.loop-rounds.lines c.take.new.self c.round.new.lines c.in-Some.head c.in_ok-round.field-0 c.loop-rounds.rounds.items taken_is c.in_ok-round.ensures
    ∙ ap (λ q. behind q (rounds_at c.round.new.lines)) (sym c.in_ok-push.ensures.items)
