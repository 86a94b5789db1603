use Rattle.std.proofs.Common.{sym, ◌∙◌}
use Rattle.lw_report_lines.proofs.Names.{name_kept, name_lost}
use Rattle.lw_report_lines.proofs.script_lines.name_of.Goals as goal

pub returns-in_ok-from_str-in-Ok : goal.returns-in_ok-from_str-in-Ok
returns-in_ok-from_str-in-Ok c =
    c.from_string.ensures ∙ c.in_ok-from_str-in-Ok.ensures.ok ∙ c.in-Ok.ensures.cases.0 ∙ sym (name_kept c.args.word.now c.in-Ok.ensures.cases.1)

pub returns-in-Err : goal.returns-in-Err
returns-in-Err c = c.from_string-in-Err.ensures ∙ c.new.ensures.bytes ∙ sym (name_lost c.args.word.now c.in-Err.ensures.cases.0)
