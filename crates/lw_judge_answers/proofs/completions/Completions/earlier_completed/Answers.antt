use Rattle.std.proofs.Common.{◌-◌, sym, ◌∙◌, arith}
use Rattle.std.proofs.lemmas.Option.{slice_get_within}
use Rattle.lw_model.specs.Threads.{did_of}
use Rattle.lw_judge_answers.proofs.Completing.{earlier_line, no_earlier_line}
use Rattle.lw_judge_answers.proofs.completions.Completions.earlier_completed.Goals as goal

pub returns-in-Some : goal.returns-in-Some
returns-in-Some c = λ past was.
    let dids = did_of c.args.of.now c.args.thread in
    let earlier = c.args.place - 1 in
    c.is_completed.ensures _ past (slice_get_within dids earlier c.in-Some.line.now (sym c.in-Some.ensures)) was
    ∙ earlier_line c.args.of.now c.args.thread past c.args.place earlier c.in-Some.line.now (omega (arith, c.if-place-eq0.false)) (sym c.in-Some.ensures)

pub returns-in-None : goal.returns-in-None
returns-in-None c = λ past was. no_earlier_line c.args.of.now c.args.thread past c.args.place (c.args.place - 1) (omega (arith, c.if-place-eq0.false)) (sym c.in-None.ensures)
