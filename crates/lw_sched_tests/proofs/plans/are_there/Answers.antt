use Rattle.std.proofs.Common.{◌<◌, All, take, get_or, sym, subst, arith}
use Rattle.std.proofs.lemmas.List.{take_all, take_more}
use Rattle.std.proofs.lemmas.List.Elements.{All-push}
use Rattle.lw_base.specs.declared.moves.Row.{Row}
use Rattle.lw_sched_tests.proofs.plans.are_there.Goals as goal

-- One row more that is on a reactor that is there.
pub loop-row-preserved : goal.loop-row-preserved
loop-row-preserved c =
    let rows = c.args.rows.now in
    let i = c.loop-row.row-index in
    let P = λ (w : Row). w.reactor < c.args.reactors in
    let none : Row = record { thread = 0; reactor = 0; busy = 0; idle = 0 } in
    let here : P (get_or rows i none) = omega (arith, c.if-row-reactors.false) in
    subst (All P) (sym (take_more rows i none c.loop-row-test.true)) (All-push P (take i rows) (get_or rows i none) c.loop-row.invariant here)

-- All were gone through.
pub returns : goal.returns
returns c = subst (All (λ (w : Row). w.reactor < c.args.reactors)) (take_all c.loop-row.row-index c.args.rows.now (omega (arith, c.loop-row-test.false))) c.loop-row.invariant
