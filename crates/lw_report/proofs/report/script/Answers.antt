use Rattle.std.proofs.Common.{sym, ap, ◌∙◌, Ok, Result, ℕ, List}
use Rattle.lw_model.specs.declared.script.ImageOf.{ImageOf}
use Rattle.lw_model.specs.declared.script.ClientOf.{ClientOf}
use Rattle.lw_report.specs.Machine.{State}
use Rattle.lw_report.proofs.Chains.{script_refused}
use Rattle.lw_report.proofs.report.script.Goals as goal

pub returns-in-Some-clause-script : goal.returns-in-Some-clause-script
returns-in-Some-clause-script c =
    let images : List ImageOf → Result (List ImageOf × State) ℕ = λ v. Ok (v, c.list.new.lines) in
    let clients : List ClientOf → Result (List ClientOf × State) ℕ = λ v. Ok (v, c.list-2.new.lines) in
    script_refused c.args.lines.now c.one.new.self c.list.new.lines c.list-2.new.lines c.in_ok-pool.pool c.from_vec.result c.from_vec-2.result c.in-Some.field-0
    c.in_ok-pool.ensures (c.in_ok-images.ensures ∙ ap images (sym c.from_vec.ensures)) (c.in_ok-clients.ensures ∙ ap clients (sym c.from_vec-2.ensures))
    (sym c.in_ok-rule_broken.ensures ∙ c.in-Some.is)
