use Rattle.std.proofs.Common.{◌≡◌, ◌+◌, ◌<◌, ◌++◌, ◌∙◌, sym, ap, subst, refl, lit≤, length, drop, option_map, slice_index_or, sum_by}
use Rattle.std.specs.Option.{option_or}
use Rattle.lw_model.specs.ScriptRules.{is_in_range, read_bytes}
use Rattle.lw_script_rules.specs.First.{place_in, ops_before}
use Rattle.lw_script_rules.proofs.FirstFailing.{rest, rest-step, first_failing-rest, ops_before-more}
use Rattle.lw_script_rules.proofs.RuleLemmas.{place-below}
use Rattle.lw_script_rules.proofs.range.first_out_of_range.Goals as goal

pub loop-client-init : goal.loop-client-init
loop-client-init c = (c.as_slice-clients.ensures, refl, lit≤ tt, first_failing-rest (is_in_range c.args.script.now) c.args.script.now)

pub returns-in-Err-clause-first : goal.returns-in-Err-clause-first
returns-in-Err-clause-first c =
    let s = c.args.script.now in
    let i = c.loop-client.client in
    let x = c.index-clients-client.result in
    let same = c.loop-client.invariant.0 in
    let before = ops_before s.clients i in
    let below : i < length s.clients = subst (λ xs. i < length xs) same c.loop-client-test.true in
    let is : x ≡ slice_index_or s.clients i x = c.index-clients-client.is ∙ ap (λ xs. slice_index_or xs i x) same in
    let later = rest (is_in_range s) (ops_before s.clients (i + 1)) (i + 1) (drop (i + 1) s.clients) in
    sym (c.loop-client.invariant.3
    ∙ rest-step (is_in_range s) s.clients i x below is
    ∙ ap (λ o. option_or (option_map (λ j. (i, j)) o) later) (ap (place_in (is_in_range s) before 0) (sym c.as_slice.ensures) ∙ c.in-Err.ensures.found))

pub returns-in-Err-clause-within : goal.returns-in-Err-clause-within
returns-in-Err-clause-within c =
    let s = c.args.script.now in
    let i = c.loop-client.client in
    let x = c.index-clients-client.result in
    let same = c.loop-client.invariant.0 in
    let below : i < length s.clients = subst (λ xs. i < length xs) same c.loop-client-test.true in
    let is : x ≡ slice_index_or s.clients i x = c.index-clients-client.is ∙ ap (λ xs. slice_index_or xs i x) same in
    let within = subst (λ os. c.in-Err.place < length os) c.as_slice.ensures c.in-Err.ensures.within in
    (below, place-below s.clients i x c.in-Err.place below is within)

pub loop-client-preserved : goal.loop-client-preserved
loop-client-preserved c =
    let s = c.args.script.now in
    let i = c.loop-client.client in
    let x = c.index-clients-client.result in
    let same = c.loop-client.invariant.0 in
    let before = ops_before s.clients i in
    let below : i < length s.clients = subst (λ xs. i < length xs) same c.loop-client-test.true in
    let is : x ≡ slice_index_or s.clients i x = c.index-clients-client.is ∙ ap (λ xs. slice_index_or xs i x) same in
    let later = rest (is_in_range s) (ops_before s.clients (i + 1)) (i + 1) (drop (i + 1) s.clients) in (
      same,
      c.in-Ok.ensures.sum ∙ ap (λ os. sum_by (read_bytes s) (before ++ os)) c.as_slice.ensures ∙ ap (sum_by (read_bytes s)) (sym (ops_before-more s.clients i x below is)),
      c.in-Ok.ensures.limit,
      c.loop-client.invariant.3
          ∙ rest-step (is_in_range s) s.clients i x below is
          ∙ ap (λ o. option_or (option_map (λ j. (i, j)) o) later) (ap (place_in (is_in_range s) before 0) (sym c.as_slice.ensures) ∙ c.in-Ok.ensures.none),
    )
