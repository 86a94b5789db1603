use Rattle.std.proofs.Common.{◌+◌, ◌<◌, ◌^◌, [], length, map, nat_le, sym, ap, ap₂, subst, ◌∙◌, arith}
use Rattle.std.proofs.lemmas.Bool.{and_parts, leb-true}
use Rattle.std.proofs.lemmas.List.{length-map}
use Rattle.std.proofs.lemmas.List.Elements.{All-get_or}
use Rattle.lw_base.specs.Limits.{standard}
use Rattle.lw_base.specs.Masks.{every_reactor}
use Rattle.lw_base.specs.Plan.{plan}
use Rattle.lw_judge_threads.specs.Firsts.{at_line, first_unfit}
use Rattle.lw_judge_threads.proofs.ThreadCounts.{few_threads}
use Rattle.lw_model.specs.Rounds.{row_fits}
use Rattle.lw_model.proofs.Printed.{parts}
use Rattle.lw_judge_rounds.specs.Differences.{first_difference}
use Rattle.lw_judge_rounds.proofs.Differing.{difference_line}
use Rattle.lw_judge_rounds.proofs.Rows.{masks_of_rows, rows_few, rows_on_reactors}
use Rattle.lw_judge_rounds.proofs.planned.unplanned_line.Goals as goal

pub slice_bounds-plan-end : goal.slice_bounds-plan-end
slice_bounds-plan-end c =
    let rows = c.as_slice-rows.result.now in
    sym (ap length (masks_of_rows c.args.of.now c.args.round.now.rows rows c.args.masks.now c.requires.masks c.requires.rows c.as_slice-rows.ensures) ∙ length-map rows (λ w. every_reactor))

pub plan-requires-clause-reactors : goal.plan-requires-clause-reactors
plan-requires-clause-reactors c =
    let r = c.args.of.now in
    let within = and_parts (nat_le 1 r.reactors) (nat_le r.reactors 16) (parts r).reactors in
    (leb-true 1 r.reactors within.0, leb-true r.reactors 16 within.1)

pub plan-requires-clause-few : goal.plan-requires-clause-few
plan-requires-clause-few c =
    let r = c.args.of.now in
    omega (arith, ap length c.as_slice-rows.ensures, rows_few r c.args.round.now.rows c.requires.rows, few_threads r)

pub plan-requires-clause-rows : goal.plan-requires-clause-rows
plan-requires-clause-rows c = λ k d less.
    let r = c.args.of.now in
    let rows = c.as_slice-rows.result.now in
    All-get_or (λ w. w.reactor < r.reactors) rows k d less (rows_on_reactors r rows (c.requires.rows ∙ ap (first_unfit (row_fits r) 0 []) (sym c.as_slice-rows.ensures)))

pub plan-requires-clause-masks : goal.plan-requires-clause-masks
plan-requires-clause-masks c =
    let rows = c.as_slice-rows.result.now in
    ap length (masks_of_rows c.args.of.now c.args.round.now.rows rows c.args.masks.now c.requires.masks c.requires.rows c.as_slice-rows.ensures) ∙ length-map rows (λ w. every_reactor)

pub at_line-requires : goal.at_line-requires
at_line-requires c =
    difference_line c.args.first c.as_slice.result.now c.as_slice-2.result.now c.first_difference-place.result c.first_difference-place.ensures
    (subst (λ l. c.args.first + length l < 2 ^ 64) (sym c.as_slice-2.ensures) c.requires.few)

pub returns : goal.returns
returns c =
    let r = c.args.of.now in
    let rows = c.as_slice-rows.result.now in
    let masks = masks_of_rows r c.args.round.now.rows rows c.args.masks.now c.requires.masks c.requires.rows c.as_slice-rows.ensures in
    let planned = c.as_slice.ensures.value ∙ c.in_ok-plan.ensures ∙ ap₂ (λ l ms. plan l r.reactors rows ms) c.standard.ensures masks ∙ ap (λ ws. plan standard r.reactors ws (map (λ w. every_reactor) ws)) c.as_slice-rows.ensures in
    c.at_line.ensures ∙ ap (at_line c.args.first) (c.first_difference-place.ensures ∙ ap₂ (first_difference 0) planned c.as_slice-2.ensures)
