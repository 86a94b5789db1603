-- The text of a record is read as that record, so no text is that of two.
use Rattle.std.proofs.Common.{◌≡◌, ℕ, List, Result, Ok, Err, sym, ap, ◌∙◌, arith}
use Rattle.lw_model.specs.declared.record.Record.{Record}
use Rattle.lw_model.specs.ReportText.{text_of_lines, text_of}
use Rattle.lw_report.specs.declared.contents.Contents.{Contents}
use Rattle.lw_base.specs.TextLines.{pieces}
use Rattle.lw_report.specs.Machine.{State, ◌>>=◌}
use Rattle.lw_report.specs.Report.{report_at, reading}
use Rattle.lw_report.specs.Parsed.{contents_of}
use Rattle.lw_report.specs.Ranges.{InRange}
use Rattle.lw_report.proofs.Reading.{state}
use Rattle.lw_report.proofs.Accepted.{images_named, clients_named}
use Rattle.lw_report.proofs.SameRecords.{same_record}
use Rattle.lw_report.proofs.WholeTexts.{lines_are, lines_from}
use Rattle.lw_report.proofs.WholeBack.{contents_parts, bounded, lines_read}
use Rattle.lw_report.proofs.FeedFree.{pieces_fed, lines_free}

pub text_read : (r : Record) → InRange (contents_of r) → reading (text_of r) ≡ Ok (contents_of r)
text_read r range =
    let c = contents_of r in
    let p = contents_parts c range r.printable in
    let free = lines_free c range (bounded 1 16 c.reactors (omega arith) p.reactors) (bounded 1 1000000000000 c.period (omega arith) p.period) (images_named c.script p.kept) (clients_named c.script p.kept)
    (omega (arith, p.threads, range.script.count)) (omega (arith, p.devices, range.script.count)) in
    let back = lines_read c 1 range r.printable in
    ap (λ ls. report_at (state 1 (pieces (text_of_lines ls))) >>= (λ q. Ok q.0)) (lines_are r)
    ∙ ap (λ ps. report_at (state 1 ps) >>= (λ q. Ok q.0)) (pieces_fed (lines_from c) free)
    ∙ ap (λ (x : Result (Contents × State) ℕ). x >>= (λ q. Ok q.0)) back.2

pub one_record : (r s : Record) → InRange (contents_of r) → InRange (contents_of s) → text_of r ≡ text_of s → r ≡ s
one_record r s a b e = same_record r s (ok_is (sym (text_read r a) ∙ ap reading e ∙ text_read s b))
  where
    ok_is : {x y : Contents} → ◌≡◌ {A = Result Contents ℕ} (Ok x) (Ok y) → x ≡ y
    ok_is e = cc

-- a text with a bad line is that of no record
pub no_text : (bytes : List ℕ) (n : ℕ) → reading bytes ≡ Err n → (r : Record) → InRange (contents_of r) → ¬ (text_of r ≡ bytes)
no_text bytes n bad r range e = let wrong : ◌≡◌ {A = Result Contents ℕ} (Ok (contents_of r)) (Err n) = sym (text_read r range) ∙ ap reading e ∙ bad in cc
