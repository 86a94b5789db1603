-- What the reading of a report answers.
use Rattle.std.specs.Prelude.{List, ◌≡◌, ℕ, Result, Ok, Err}
use Rattle.lw_model.specs.declared.record.Record.{Record}
use Rattle.lw_model.specs.ReportText.{text_of}
use Rattle.lw_report.specs.declared.contents.Contents.{Contents}
use Rattle.lw_report.specs.Ranges.{InRange}
use Rattle.lw_report.specs.declared.parsed.Parsed.{Parsed}
use Rattle.lw_report.specs.declared.parsed.Parsed.TheVariants.{Told, BadLine}

-- the fields of a record: what its lines say
abbrev pub contents_of : Record → Contents
contents_of r = record {
  script = r.script;
  scheduler = r.scheduler;
  reactors = r.reactors;
  period = r.period;
  threads = r.threads;
  devices = r.devices;
  span = r.span;
  rounds = r.rounds;
  home = r.home;
}

-- a record that says what was read, or the bad line that stopped the reading
abbrev pub Tells : Parsed → Result Contents ℕ → Type 0
Tells (Told r) told = told ≡ Ok (contents_of r)
Tells (BadLine line) told = told ≡ Err line

-- a record that was told is the one with this text; where a line is bad no record has it
abbrev pub IsOfText : Parsed → List ℕ → Type 0
IsOfText (Told r) bytes = text_of r ≡ bytes
IsOfText (BadLine line) bytes = (r : Record) → InRange (contents_of r) → ¬ (text_of r ≡ bytes)
