use Rattle.std.proofs.Common.{◌≡◌, ◌<◌, length, slice_index_or, subst, ◌+◌, [], ◌∙◌, sym, ap, not, drop, position, option_map}
use Rattle.std.specs.Option.{option_or}
use Rattle.lw_model.specs.ScriptRules.{is_pattern}
use Rattle.lw_script_rules.specs.First.{ops_before}
use Rattle.lw_script_rules.proofs.FirstFailing.{rest, rest-step, first_failing-rest, position-place_in}
use Rattle.lw_script_rules.proofs.RuleLemmas.{place-below}
use Rattle.lw_script_rules.proofs.pattern.first_bad_pattern.Goals as goal

pub loop-client-init : goal.loop-client-init
loop-client-init c = first_failing-rest (λ _. is_pattern) c.args.script.now ∙ ap (rest (λ _. is_pattern) [] 0) (sym c.as_slice-clients.ensures)

pub returns-in-Some-clause-first : goal.returns-in-Some-clause-first
returns-in-Some-clause-first c =
    let i = c.loop-client.client in
    let cs = c.as_slice-clients.result.now in
    let x = c.index-clients-client.result in
    let later = rest (λ _. is_pattern) (ops_before cs (i + 1)) (i + 1) (drop (i + 1) cs) in
    sym (c.loop-client.invariant
    ∙ rest-step (λ _. is_pattern) cs i x c.loop-client-test.true c.index-clients-client.is
    ∙ ap (λ o. option_or (option_map (λ j. (i, j)) o) later)
    (sym (position-place_in is_pattern (ops_before cs i) x.ops) ∙ ap (position (λ o. not (is_pattern o))) (sym c.as_slice.ensures) ∙ sym c.bad_pattern_in-found.ensures.first ∙ c.in-Some.is))

pub returns-in-Some-clause-within : goal.returns-in-Some-clause-within
returns-in-Some-clause-within c =
    let cs = c.args.script.now.clients in
    let i = c.loop-client.client in
    let x = c.index-clients-client.result in
    let same = c.as_slice-clients.ensures in
    let below : i < length cs = subst (λ xs. i < length xs) same c.loop-client-test.true in
    let is : x ≡ slice_index_or cs i x = c.index-clients-client.is ∙ ap (λ xs. slice_index_or xs i x) same in
    let within = subst (λ os. c.in-Some.place < length os) c.as_slice.ensures c.in-Some.ensures.within in
    (below, place-below cs i x c.in-Some.place below is within)

pub loop-client-preserved : goal.loop-client-preserved
loop-client-preserved c =
    let i = c.loop-client.client in
    let cs = c.as_slice-clients.result.now in
    let x = c.index-clients-client.result in
    let later = rest (λ _. is_pattern) (ops_before cs (i + 1)) (i + 1) (drop (i + 1) cs) in
    c.loop-client.invariant
    ∙ rest-step (λ _. is_pattern) cs i x c.loop-client-test.true c.index-clients-client.is
    ∙ ap (λ o. option_or (option_map (λ j. (i, j)) o) later)
    (sym (position-place_in is_pattern (ops_before cs i) x.ops) ∙ ap (position (λ o. not (is_pattern o))) (sym c.as_slice.ensures) ∙ sym c.bad_pattern_in-found.ensures.first ∙ c.in-None.is)
