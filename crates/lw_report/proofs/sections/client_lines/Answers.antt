use Rattle.std.proofs.Common.{sym, ap, ap₂, ◌∙◌, List}
use Rattle.lw_model.specs.declared.record.Reply.{Reply}
use Rattle.lw_model.specs.declared.record.Seen.{Seen}
use Rattle.lw_report.specs.Report.{client_lines}
use Rattle.lw_report.proofs.Chains.{own_lines}
use Rattle.lw_report.proofs.sections.client_lines.Goals as goal

pub returns-in_ok-seen-in-Client : goal.returns-in_ok-seen-in-Client
returns-in_ok-seen-in-Client c =
    ap₂ (λ (a : List Reply) (b : List Seen). ((a, b), c.many-in-Client.new.self)) c.from_vec.ensures c.from_vec-in-Client.ensures
    ∙ own_lines c.args.lines.now c.many.new.self c.many-in-Client.new.self c.in_ok-replies-in-Client.replies.items c.in_ok-seen-in-Client.seen.items c.in_ok-replies-in-Client.ensures c.in_ok-seen-in-Client.ensures
    ∙ ap (λ r. client_lines r c.args.lines.now) (sym c.in-Client.is)
