-- What `run` wrote is the text of a record that is lawful and in range.
use Rattle.std.proofs.Common.{◌≡◌, ◌≤◌, ℕ, List, length, take, Option, Some, Ok, Err, sym, ap, subst, ◌∙◌}
use Rattle.lw_base.specs.Outside.{HasTaken}
use Rattle.lw_base.specs.TextLines.{pieces}
use Rattle.lw_model.specs.declared.record.Record.{Record}
use Rattle.lw_model.specs.ReportText.{text_of}
use Rattle.lw_report.specs.Parsed.{contents_of}
use Rattle.lw_report.specs.Ranges.{InRange}
use Rattle.lw_report.specs.Report.{reading}
use Rattle.lw_report.proofs.TextsBack.{text_read}
use Rattle.lw_report.proofs.WholeRanges.{record_in_range}
use Rattle.lw_judge.specs.Reports.{IsLawfulReport, report_limit}
use Rattle.lw_program.specs.Outside.{Outside}
use Rattle.lw_program.specs.Ends.{IsDone, IsRunDone}
use Rattle.lw_laws.specs.Written.{HasWritten}
use Rattle.lw_laws.proofs.ReportLocal.{no_record_begins}

module _ (words : List (List ℕ)) (o : Outside) (told : Option Record) (bytes : List ℕ) (w : HasWritten words o told bytes) where
  done : IsRunDone w.options o told
  done = subst (λ c. IsDone c o told) w.asked w.done

  text_is : text_of done.the ≡ bytes
  text_is =
      let taken : o.held_after ≡ Some (text_of done.the) = subst (λ h. HasTaken h (text_of done.the) o.held_after) w.empty done.written in
      let same : Some (text_of done.the) ≡ Some bytes = sym taken ∙ w.holds in
      cc

  in_range : InRange (contents_of done.the)
  in_range = record_in_range done.the done.fits

  pub lawful_written : length bytes ≤ report_limit → IsLawfulReport bytes
  lawful_written few = record { few = few; the = done.the; fits = in_range; text = text_is; lawful = done.lawful }

  pub read_written : (r : Record) → told ≡ Some r → reading bytes ≡ Ok (contents_of r)
  read_written r is =
      let told_is : Some done.the ≡ Some r = sym done.told_is ∙ is in
      let same : done.the ≡ r = cc in
      ap reading (sym text_is) ∙ text_read done.the in_range ∙ ap (λ x. Ok (contents_of x)) same

  pub no_bad_front : (others : List ℕ) (line : ℕ) → reading others ≡ Err line → ¬ (take line (pieces bytes) ≡ take line (pieces others))
  no_bad_front others line bad same = no_record_begins others line bad done.the in_range (ap (λ t. take line (pieces t)) text_is ∙ same)
