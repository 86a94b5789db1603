-- What a judge answers to the bytes of a report.
use Rattle.std.specs.Prelude.{◌≡◌, ◌≤◌, ℕ, nat_le, List, length, Result, Ok, Err, MatchBool}
use Rattle.lw_model.specs.declared.record.Record.{Record}
use Rattle.lw_model.specs.ReportText.{text_of}
use Rattle.lw_model.specs.Lawful.{Lawful}
use Rattle.lw_model.specs.Verdict.{verdict}
use Rattle.lw_report.specs.declared.contents.Contents.{Contents}
use Rattle.lw_report.specs.Ranges.{InRange}
use Rattle.lw_report.specs.Report.{reading}
use Rattle.lw_report.specs.Parsed.{contents_of}
use Rattle.lw_judge.specs.declared.answer.Verdict.{Verdict}
use Rattle.lw_judge.specs.declared.answer.Verdict.TheVariants.{Unlawful}
use Rattle.lw_judge.specs.Verdicts.{verdict_as}

-- how many bytes a report may have
abbrev pub report_limit : ℕ
report_limit = 268435456

-- the verdict of the record that says these contents
pub record IsContentsVerdict (told : Contents) (v : Verdict) : Type 0 where
  pub the : Record
  pub says : contents_of the ≡ told
  pub verdict : v ≡ verdict_as (verdict the)

-- of what was read: of the record, or of the bad line, at which rule 0 fails
abbrev pub IsReadingVerdict : Result Contents ℕ → Verdict → Type 0
IsReadingVerdict (Ok told) v = IsContentsVerdict told v
IsReadingVerdict (Err line) v = v ≡ Unlawful 0 line

-- the verdict of the bytes of a report; with too many bytes rule 0 fails at line 0
abbrev pub IsReportVerdict : List ℕ → Verdict → Type 0
IsReportVerdict bytes v = MatchBool (nat_le (length bytes) report_limit) (IsReadingVerdict (reading bytes) v) (v ≡ Unlawful 0 0)

-- this rule is the first that the bytes fail, and this the first line at which they do
abbrev pub IsUnlawfulReport : List ℕ → ℕ → ℕ → Type 0
IsUnlawfulReport bytes clause line = IsReportVerdict bytes (Unlawful clause line)

-- the bytes are the text of a lawful record. Its numbers fit their types, as those of each record that a program holds do:
-- without that a text could be that of two.
pub record IsLawfulReport (bytes : List ℕ) : Type 0 where
  pub few : length bytes ≤ report_limit
  pub the : Record
  pub fits : InRange (contents_of the)
  pub text : text_of the ≡ bytes
  pub lawful : Lawful the
