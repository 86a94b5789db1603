use Rattle.std.proofs.Common.{◌≡◌, ℕ, ◌+◌, ◌<◌, [], None, Some, cond, length, sym, ap, subst, ◌∙◌, arith}
use Rattle.std.specs.Option.{IfSome}
use Rattle.lw_base.proofs.Lists.{some_same}
use Rattle.lw_base.specs.Limits.{standard}
use Rattle.lw_base.specs.Plan.{free_plan}
use Rattle.lw_model.specs.Rounds.{row_fits}
use Rattle.lw_judge_threads.specs.Firsts.{at_line, first_unfit, lesser}
use Rattle.lw_judge_threads.proofs.Threads.{unfit_within}
use Rattle.lw_judge_rounds.specs.Differences.{first_difference}
use Rattle.lw_judge_rounds.proofs.RoundSteps.{round_is, unplanned}
use Rattle.lw_judge_rounds.proofs.rounds.round_line.Goals as goal
use Rattle.lw_judge_rounds.proofs.rounds.round_line.Goals.{in-Some, in-None+in_ok-below-in-None}

pub overflow_add-below : goal.overflow_add-below
overflow_add-below c =
    let rows = c.args.round.now.rows in
    let fits = row_fits c.args.of.now in
    let found : c.unfit_row.result ≡ first_unfit fits 0 [] rows = c.unfit_row.ensures ∙ ap (first_unfit fits 0 []) c.as_slice.ensures in
    let below : c.in-Some.place < 0 + length rows = subst (λ o. IfSome o (λ p. p < 0 + length rows)) (sym found ∙ c.in-Some.is) (unfit_within fits 0 [] rows) in
    omega (arith, below, c.requires.few)

pub returns : goal.returns
returns c = λ past behind.
    let r = c.args.of.now in
    let x = c.args.round.now in
    let line = c.args.line in
    let o = c.unfit_row.result in
    let below = c.match-unfit_row.below in
    let apart : (p : ℕ) → o ≡ Some p → o ≡ None → below ≡ Some (line + 1 + p) = λ p some none. absurd (no_some p (sym some ∙ none)) in
    let missing : (p : ℕ) → o ≡ Some p → o ≡ None → below ≡ unplanned r line x = λ p some none. absurd (no_some p (sym some ∙ none)) in
    let some : (p : ℕ) → o ≡ Some p → below ≡ Some (line + 1 + p) = λ p e. elim c.match-unfit_row.branch [
      | in-Some w ↦ w.below-is ∙ ap (λ q. Some (line + 1 + q)) (some_same (sym w.in-Some.is ∙ e))
      | in-None+in_ok-below-in-None w ↦ apart p e w.in-None.is
    ] in
    let none : o ≡ None → below ≡ unplanned r line x = λ e. elim c.match-unfit_row.branch [
      | in-Some w ↦ missing w.in-Some.place w.in-Some.is e
      | in-None+in_ok-below-in-None w ↦ w.below-is ∙ w.in_ok-below-in-None.ensures
          ∙ ap (λ n. at_line (line + 1 + n) (first_difference 0 (free_plan standard r.reactors x.rows) x.orders)) w.len.ensures
    ] in
    c.lesser.ensures
    ∙ ap (λ q. lesser q below) (c.failing-own.ensures ∙ ap (λ b. cond b None (Some line)) (c.fits.ensures past behind))
    ∙ round_is r c.args.span line past x o below (c.unfit_row.ensures ∙ ap (first_unfit (row_fits r) 0 []) c.as_slice.ensures) some none
  where
    no_some : (p : ℕ) → Some p ≡ None → ⊥
    no_some p e = cc
