-- Two records that say the same are one record.
use Rattle.std.proofs.Common.{◌≡◌, Bool, true, ap, subst}
use Rattle.std.proofs.Math.Bool.{Bool-set}
use Rattle.lw_model.specs.declared.record.Record.{Record}
use Rattle.lw_model.specs.Printable.{is_printable}
use Rattle.lw_report.specs.declared.contents.Contents.{Contents}
use Rattle.lw_report.specs.Parsed.{contents_of}

abbrev has_text : Contents → Bool
has_text c = is_printable c.script c.scheduler c.reactors c.period c.threads c.devices c.span c.rounds

abbrev with_text : (c : Contents) → has_text c ≡ true → Record
with_text c h = record {
  script = c.script;
  scheduler = c.scheduler;
  reactors = c.reactors;
  period = c.period;
  threads = c.threads;
  devices = c.devices;
  span = c.span;
  rounds = c.rounds;
  home = c.home;
  printable = h;
}

-- the fact that a record has a text has one proof
same_contents : (c d : Contents) → c ≡ d → (h : has_text c ≡ true) (k : has_text d ≡ true) → with_text c h ≡ with_text d k
same_contents c d e = subst (λ x. (h : has_text c ≡ true) (k : has_text x ≡ true) → with_text c h ≡ with_text x k) e (λ h k. ap (with_text c) (Bool-set (has_text c) true h k))

pub same_record : (r s : Record) → contents_of r ≡ contents_of s → r ≡ s
same_record r s e = same_contents (contents_of r) (contents_of s) e r.printable s.printable
