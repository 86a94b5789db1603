use Rattle.std.proofs.Common.{◌∙◌, sym, ap, Some, option_map}
use Rattle.lw_model.specs.ScriptShape.{member_count}
use Rattle.lw_script.proofs.Views.{member_count-members_view}
use Rattle.lw_script.proofs.value.member_count.Goals as goal

pub returns-in-Some : goal.returns-in-Some
returns-in-Some c = ap Some (c.len.ensures.len ∙ sym (member_count-members_view c.in-Some.members.now.entries)) ∙ ap (option_map member_count) c.in-Some.ensures
