use Rattle.std.proofs.Common.{◌≡◌, ◌+◌, ◌≤◌, not, ◌||◌, nat_lt, length, reverse, take, sym, ap, ap₂, ◌∙◌, arith}
use Rattle.std.proofs.lemmas.List.{drop_all, length-reverse, take_all}
use Rattle.lw_model.specs.Lines.{clock_line, round_line}
use Rattle.lw_model.specs.Rounds.{time_before}
use Rattle.lw_judge_threads.specs.Firsts.{lesser}
use Rattle.lw_judge_threads.proofs.Leasts.{lesser_none}
use Rattle.lw_judge_rounds.proofs.RoundSteps.{clock_is, rounds_from}
use Rattle.lw_judge_rounds.proofs.rounds.dynamic_line.Goals as goal

pub returns : goal.returns
returns c =
    let r = c.args.of.now in
    let span = c.args.span in
    let rounds = r.rounds in
    let i = c.loop-round.round-index in
    let least = c.loop-round.least in
    let line = c.loop-round.line in
    let was = c.loop-round.invariant in
    let same = ap length c.as_slice-round-items.ensures in
    let all : length rounds ≤ i = omega (arith, same, c.loop-round-test.false) in
    let end : i ≡ length rounds = omega (arith, same, all, c.loop-round.auto.round-index-end) in
    let past : reverse (take i rounds) ≡ reverse rounds = ap reverse (take_all i rounds all) in
    let so_far = was.left ∙ ap (λ xs. lesser least (rounds_from r span line (reverse (take i rounds)) xs)) (drop_all i rounds all) ∙ lesser_none least in
    let on = c.none_is_overdue-in_time.ensures
    ∙ ap₂ (λ n t. not (nat_lt n 10000) || nat_lt span.last (t + r.period)) (was.before.count ∙ ap length past ∙ length-reverse rounds) (was.before.time ∙ ap (time_before span.first) past) in
    c.lesser.ensures
    ∙ ap (lesser least) c.failing.ensures
    ∙ clock_is r span (clock_line r + 1) least c.none_is_overdue-in_time.result line (omega arith) c.requires.span (was.line ∙ ap (round_line r) end) (sym so_far) on
