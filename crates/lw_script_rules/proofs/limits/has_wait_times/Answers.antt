use Rattle.std.proofs.Common.{◌∙◌, ap, sym}
use Rattle.std.specs.List.{list_all}
use Rattle.lw_model.specs.ScriptRules.{waits_within}
use Rattle.lw_model.proofs.Passing.{list_all-flat_map}
use Rattle.lw_script_rules.proofs.limits.has_wait_times.Goals as goal

pub returns : goal.returns
returns c =
    c.have_wait_times.ensures
    ∙ ap (list_all (λ x. list_all waits_within x.ops)) c.as_slice.ensures
    ∙ sym (list_all-flat_map waits_within (λ x. x.ops) c.args.script.now.clients)
