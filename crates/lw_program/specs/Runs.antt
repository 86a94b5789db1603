-- What the command `run` answers to the bytes that it reads.
use Rattle.std.specs.Prelude.{◌≡◌, ◌≢◌, ℕ, List, Some, None}
use Rattle.lw_model.specs.declared.record.Record.{Record}
use Rattle.lw_model.specs.declared.refusal.ScriptRefusal.{ScriptRefusal}
use Rattle.lw_model.specs.declared.refusal.ScriptRefusal.TheVariants as refusal
use Rattle.lw_model.specs.Lawful.{Lawful}
use Rattle.lw_model.specs.Ranges.{RecordFits}
use Rattle.lw_model.specs.ReportText.{text_of}
use Rattle.lw_model.specs.ScriptText.{script_of}
use Rattle.lw_script_rules.specs.Served.{run_refusal}
use Rattle.lw_target.specs.declared.options.Options.{Options}
use Rattle.lw_program.specs.declared.fault.Fault.{Fault}
use Rattle.lw_program.specs.declared.fault.Fault.TheVariants.{Script}
use Rattle.lw_program.specs.Limits.{script_limit}
use Rattle.lw_program.specs.Commands.{CommandOf}

-- the record is of the script that the bytes are, and the run serves it
pub record IsRunOf (bytes : List ℕ) (r : Record) : Type 0 where
  pub accepted : run_refusal bytes ≡ None
  pub script : script_of bytes ≡ Some r.script

-- it is lawful, and of a run under these options
pub record IsRunUnder (o : Options) (r : Record) : Type 0 where
  pub lawful : Lawful r
  pub scheduler : r.scheduler ≡ o.scheduler
  pub reactors : r.reactors ≡ o.reactors
  pub period : r.period ≡ o.period

-- the bytes have this refusal, which is never want of memory
abbrev pub IsRefused : List ℕ → ScriptRefusal → Type 0
IsRefused bytes e = (e ≢ refusal.NoMemory) × (run_refusal bytes ≡ Some e)

abbrev pub IsScriptFault : List ℕ → Fault → Type 0
IsScriptFault bytes (Script e) = IsRefused bytes e
IsScriptFault bytes _ = ⊥

-- `run` under options. The text is that of the record, whose numbers fit their types.
abbrev pub run_command : Options → CommandOf Record
run_command options = record {
  limit = Some script_limit;
  answers = λ bytes r text. IsRunOf bytes r × IsRunUnder options r × (text ≡ text_of r) × RecordFits r;
  refuses = IsScriptFault;
}
