use Rattle.std.proofs.Common.{◌∙◌, ap, nat_eq, Some, arith}
use Rattle.std.specs.Option.{option_eq}
use Rattle.lw_model.specs.Lawful.{has_run}
use Rattle.lw_model.specs.Threads.{thread_count}
use Rattle.lw_judge_messages.specs.Tokens.{what_of}
use Rattle.lw_judge_messages.proofs.RunnerLists.{is_first_from}
use Rattle.lw_judge_messages.proofs.tokens.Runners.has.Goals as goal

pub returns-in-Some : goal.returns-in-Some
returns-in-Some c = λ r are less.
    let t = c.args.thread in
    let w = what_of c.args.token.now in
    ap (λ o. option_eq nat_eq o (Some t)) (c.in-Some.ensures r are) ∙ is_first_from (has_run r w) t 0 (thread_count r.script) (omega arith) (omega (arith, less))

pub returns-in-None : goal.returns-in-None
returns-in-None c = λ r are less.
    let t = c.args.thread in
    let w = what_of c.args.token.now in
    ap (λ o. option_eq nat_eq o (Some t)) (c.in-None.ensures r are) ∙ is_first_from (has_run r w) t 0 (thread_count r.script) (omega arith) (omega (arith, less))
