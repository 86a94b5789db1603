use Rattle.std.proofs.Common.{ℕ, ap, sym, ◌∙◌, Ok, Result}
use Rattle.lw_report.specs.declared.contents.Contents.{Contents}
use Rattle.lw_report.specs.Machine.{State, ◌>>=◌}
use Rattle.lw_report.specs.Report.{report_at}
use Rattle.lw_report.proofs.Printable.{contents_fit}
use Rattle.lw_report.proofs.WholeTexts.{told_text}
use Rattle.lw_report.proofs.TextsBack.{no_text}
use Rattle.lw_report.proofs.parsed.read_report.Goals as goal

pub record-requires : goal.record-requires
record-requires c = contents_fit c.of-lines.result c.report.new.lines c.in-Ok.contents c.in-Ok.ensures

pub returns-in-Ok-clause-text : goal.returns-in-Ok-clause-text
returns-in-Ok-clause-text c =
    told_text c.args.bytes.now c.record.result
    (ap (λ (s : State). report_at s >>= (λ p. Ok p.0)) (sym c.of-lines.ensures)
    ∙ ap (λ (r : Result (Contents × State) ℕ). r >>= (λ p. Ok p.0)) c.in-Ok.ensures
    ∙ ap (λ (x : Contents). Ok x) (sym c.record.ensures))

pub returns-in-Err-BadLine-clause-text : goal.returns-in-Err-BadLine-clause-text
returns-in-Err-BadLine-clause-text c =
    let bad = rw c.in-Err-BadLine.field-0-is at c.in-Err-BadLine.ensures in
    no_text c.args.bytes.now c.report.new.lines.line
    (ap (λ (s : State). report_at s >>= (λ p. Ok p.0)) (sym c.of-lines.ensures)
    ∙ ap (λ (r : Result (Contents × State) ℕ). r >>= (λ p. Ok p.0)) bad)
