-- A report has one verdict, and it is Lawful exactly where the report is the text of a lawful record.
use Rattle.std.proofs.Common.{◌≡◌, ◌≤◌, ◌↔◌, ℕ, nat_le, Bool, true, false, List, length, Option, Some, None, Result, Ok, Err, IfOk, MatchBool, refl, sym, ap, subst, ◌∙◌}
use Rattle.std.proofs.lemmas.Bool.{leb-true, le-leb}
use Rattle.std.specs.declared.alloc.AllocError.{AllocError}
use Rattle.lw_model.specs.declared.record.Record.{Record}
use Rattle.lw_model.specs.Verdict.{verdict}
use Rattle.lw_model.proofs.Judged.{verdict-exact}
use Rattle.lw_report.specs.declared.contents.Contents.{Contents}
use Rattle.lw_report.specs.Ranges.{InRange}
use Rattle.lw_report.specs.Report.{reading}
use Rattle.lw_report.specs.Parsed.{contents_of}
use Rattle.lw_report.proofs.TextsBack.{text_read}
use Rattle.lw_report.proofs.WholeTexts.{told_text}
use Rattle.lw_report.proofs.WholeRanges.{read_in_range}
use Rattle.lw_judge.specs.declared.answer.Verdict.{Verdict}
use Rattle.lw_judge.specs.declared.answer.Verdict.TheVariants.{Lawful, Unlawful}
use Rattle.lw_judge.specs.Verdicts.{verdict_as}
use Rattle.lw_judge.specs.Reports.{report_limit, IsReadingVerdict, IsReportVerdict, IsLawfulReport}
use Rattle.lw_report.proofs.SameRecords.{same_record}

lawful_none : (o : Option (ℕ × ℕ)) → verdict_as o ≡ Lawful → o ≡ None
lawful_none None e = refl
lawful_none (Some p) e = let wrong : Unlawful p.0 p.1 ≡ Lawful = e in cc

lawful_text : (bytes : List ℕ) (v : Verdict) → IsReportVerdict bytes v → v ≡ Lawful → IsLawfulReport bytes
lawful_text bytes v judged lawful = at (nat_le (length bytes) report_limit) refl judged
  where
    read : nat_le (length bytes) report_limit ≡ true → (told : Result Contents ℕ) → reading bytes ≡ told → IsReadingVerdict told v → IsLawfulReport bytes
    read few (Ok told) is of = record {
      few = leb-true (length bytes) report_limit few;
      the = of.the;
      fits = subst InRange (sym of.says) (read_in_range bytes told is);
      text = told_text bytes of.the (is ∙ ap Ok (sym of.says));
      lawful = (verdict-exact of.the).0 (lawful_none (verdict of.the) (sym of.verdict ∙ lawful));
    }
    read few (Err line) is of = let wrong : Unlawful 0 line ≡ Lawful = sym of ∙ lawful in cc

    at : (b : Bool) → nat_le (length bytes) report_limit ≡ b → MatchBool b (IsReadingVerdict (reading bytes) v) (v ≡ Unlawful 0 0) → IsLawfulReport bytes
    at true few of = read few (reading bytes) refl of
    at false many of = let wrong : Unlawful 0 0 ≡ Lawful = sym of ∙ lawful in cc

-- a record with the text gives the verdict
record_verdict : (bytes : List ℕ) (r : Record) (v : Verdict) → length bytes ≤ report_limit → reading bytes ≡ Ok (contents_of r) → v ≡ verdict_as (verdict r) → IsReportVerdict bytes v
record_verdict bytes r v few told is =
    subst (λ b. MatchBool b (IsReadingVerdict (reading bytes) v) (v ≡ Unlawful 0 0)) (sym (le-leb (length bytes) report_limit few))
    (subst (λ t. IsReadingVerdict t v) (sym told) (record { the = r; says = refl; verdict = is }))

pub one_verdict : (bytes : List ℕ) (v w : Verdict) → IsReportVerdict bytes v → IsReportVerdict bytes w → v ≡ w
one_verdict bytes v w first second = at (nat_le (length bytes) report_limit) first second
  where
    read : (told : Result Contents ℕ) → IsReadingVerdict told v → IsReadingVerdict told w → v ≡ w
    read (Ok told) a b = a.verdict ∙ ap (λ r. verdict_as (verdict r)) (same_record a.the b.the (a.says ∙ sym b.says)) ∙ sym b.verdict
    read (Err line) a b = a ∙ sym b

    at : (b : Bool) → MatchBool b (IsReadingVerdict (reading bytes) v) (v ≡ Unlawful 0 0) → MatchBool b (IsReadingVerdict (reading bytes) w) (w ≡ Unlawful 0 0) → v ≡ w
    at true a b = read (reading bytes) a b
    at false a b = a ∙ sym b

text_lawful : (bytes : List ℕ) (v : Verdict) → IsReportVerdict bytes v → IsLawfulReport bytes → v ≡ Lawful
text_lawful bytes v judged is =
    let told : reading bytes ≡ Ok (contents_of is.the) = ap reading (sym is.text) ∙ text_read is.the is.fits in
    one_verdict bytes v Lawful judged (record_verdict bytes is.the Lawful is.few told (sym (ap verdict_as ((verdict-exact is.the).1 is.lawful))))

pub lawful_report : (bytes : List ℕ) (v : Verdict) → IsReportVerdict bytes v → (v ≡ Lawful) ↔ IsLawfulReport bytes
lawful_report bytes v judged = (lawful_text bytes v judged, text_lawful bytes v judged)

-- ---- of a judge's answer

pub told_verdict : (bytes : List ℕ) (r : Record) (answer : Result Verdict AllocError) → length bytes ≤ report_limit → reading bytes ≡ Ok (contents_of r)
    → IfOk answer (λ v. v ≡ verdict_as (verdict r)) → IfOk answer (IsReportVerdict bytes)
told_verdict bytes r (Ok v) few told is = record_verdict bytes r v few told is
told_verdict bytes r (Err lack) few told is = tt

pub answer_lawful : (bytes : List ℕ) (answer : Result Verdict AllocError) → IfOk answer (IsReportVerdict bytes) → IfOk answer (λ v. (v ≡ Lawful) ↔ IsLawfulReport bytes)
answer_lawful bytes (Ok v) judged = lawful_report bytes v judged
answer_lawful bytes (Err lack) judged = tt
