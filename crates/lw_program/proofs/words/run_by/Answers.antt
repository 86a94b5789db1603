use Rattle.std.proofs.Common.{◌≡◌, ◌∙◌, sym, ap, subst, map, drop, string_bytes, false, option_and_then, None}
use Rattle.lw_program.specs.Words.{run_under, options_of, values_of}
use Rattle.lw_program.specs.Parsed.{are_unmarked, Parses}
use Rattle.lw_program.proofs.WordsRead.{marked, rest_is, run_found}
use Rattle.lw_program.proofs.words.run_by.Goals as goal

pub returns-then-not-are_unmarked-clause-command : goal.returns-then-not-are_unmarked-clause-command
returns-then-not-are_unmarked-clause-command c =
    let rest = drop 1 (map (λ w. string_bytes w) c.args.words.now) in
    let fact : are_unmarked rest ≡ false = ap are_unmarked (sym (rest_is c.args.words.now)) ∙ sym c.are_unmarked.ensures ∙ c.if-not-are_unmarked.true in
    sym (ap (λ o. option_and_then run_under (option_and_then (λ given. options_of (values_of given)) o)) (marked rest None fact))

pub returns-in-Some-clause-command : goal.returns-in-Some-clause-command
returns-in-Some-clause-command c =
    let words = map (λ w. string_bytes w) c.args.words.now in
    run_found words c.in-Some.matches c.run_with.result (subst (Parses words) c.in-Some.is c.in_ok-matches.ensures) c.run_with.ensures.command
