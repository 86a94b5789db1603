use Rattle.std.proofs.Common.{◌≡◌, ◌<◌, ◌==◌, sym, ap, ◌∙◌, ℕ, subst, take, get_or, length, Some, slice_get, slice_set, count_by, Vec, Global, ◌+◌, arith}
use Rattle.std.proofs.lemmas.Grind.{common_steps}
use Rattle.std.proofs.lemmas.List.{length-set, length-take-le, take_all}
use Rattle.std.proofs.lemmas.List.FromFn.{fill_by_all}
use Rattle.std.proofs.lemmas.Option.{gets, slice_get_within, get_or_from_slice_get}
use Rattle.std.proofs.lemmas.List.Sums.{count_by-le-length}
use Rattle.lw_judge_threads.proofs.CountsBelow.{CountsBelow, counted_more, passed_more}
use Rattle.lw_judge_threads.proofs.numbering.counts_below_len.Goals as goal
use Rattle.lw_judge_threads.proofs.numbering.counts_below_len.Goals.{in-Some, in_default}

pub overflow_add-count : goal.overflow_add-count
overflow_add-count c =
    let cs = c.loop-number.counts.items in
    let ns = c.args.numbers.now in
    let i = c.loop-number.number-index in
    let stood : slice_get cs (get_or ns i 0) ≡ Some c.in-Some.count.now = grind (arith, common_steps, gets) in
    let within : get_or ns i 0 < length cs = slice_get_within cs (get_or ns i 0) c.in-Some.count.now stood in
    let read : get_or cs (get_or ns i 0) 0 ≡ c.in-Some.count.now = get_or_from_slice_get cs (get_or ns i 0) c.in-Some.count.now 0 stood in
    omega (arith, read, c.loop-number.invariant.each (get_or ns i 0) within, count_by-le-length (λ m. m == get_or ns i 0) (take i ns), length-take-le i ns (omega arith), c.loop-number.invariant.count, c.loop-number.counts.ok.0)

pub loop-number-preserved : goal.loop-number-preserved
loop-number-preserved c =
    let cs = c.loop-number.counts.items in
    let ns = c.args.numbers.now in
    let i = c.loop-number.number-index in
    elim c.match-get_mut.branch [
      | in-Some w ↦
          let stood : slice_get cs (get_or ns i 0) ≡ Some w.in-Some.count.now = grind (arith, common_steps, gets) in
          let within : get_or ns i 0 < length cs = slice_get_within cs (get_or ns i 0) w.in-Some.count.now stood in
          let read : get_or cs (get_or ns i 0) 0 ≡ w.in-Some.count.now = get_or_from_slice_get cs (get_or ns i 0) w.in-Some.count.now 0 stood in
          let items : c.match-get_mut.counts.items ≡ slice_set cs (get_or ns i 0) (w.in-Some.count.now + 1) = ap (λ (v : Vec ℕ Global). v.items) w.counts-is in
          record {
            count = ap length items ∙ length-set cs (get_or ns i 0) (w.in-Some.count.now + 1) ∙ c.loop-number.invariant.count;
            each = subst (CountsBelow ns (i + 1)) (sym items) (counted_more ns cs i w.in-Some.count.now (omega arith) within (sym read) c.loop-number.invariant.each);
          }
      | in_default w ↦
          let items : c.match-get_mut.counts.items ≡ cs = ap (λ (v : Vec ℕ Global). v.items) w.counts-is in
          record {
            count = ap length items ∙ c.loop-number.invariant.count;
            each = subst (CountsBelow ns (i + 1)) (sym items) (passed_more ns cs i (omega arith) (omega (arith, w.in_default.ensures.item)) c.loop-number.invariant.each);
          }
    ]

pub returns : goal.returns
returns c =
    let cs = c.loop-number.counts.items in
    let ns = c.args.numbers.now in
    fill_by_all (λ n. count_by (λ m. m == n) ns) cs (length ns) 0 c.loop-number.invariant.count
    (λ k less. c.loop-number.invariant.each k (omega (arith, less, c.loop-number.invariant.count)) ∙ ap (count_by (λ m. m == k)) (take_all c.loop-number.number-index ns (omega arith)))
