-- How a call of the program ends, by the command that its words are, its fault and what the outside tells.
use Rattle.std.specs.Prelude.{◌≡◌, ◌≢◌, ◌≤◌, ◌⊎◌, ℕ, List, length, Option, Some, None, option_map, Result, Ok, Err}
use Rattle.std.specs.declared.alloc.AllocError.{AllocError}
use Rattle.lw_base.specs.Outside.{Rose, HasTaken}
use Rattle.lw_model.specs.declared.record.Record.{Record}
use Rattle.lw_model.specs.declared.refusal.ScriptRefusal.{ScriptRefusal}
use Rattle.lw_model.specs.declared.refusal.ScriptRefusal.TheVariants as refusal
use Rattle.lw_model.specs.Lawful.{Lawful}
use Rattle.lw_model.specs.Ranges.{RecordFits}
use Rattle.lw_model.specs.ReportText.{text_of}
use Rattle.lw_model.specs.ScriptText.{script_of}
use Rattle.lw_script_rules.specs.Served.{run_refusal}
use Rattle.lw_judge.specs.Reports.{report_limit, IsLawfulReport, IsUnlawfulReport}
use Rattle.lw_target.specs.declared.options.Options.{Options}
use Rattle.lw_walk.specs.Walk.{walk_bad_line, walk_answer}
use Rattle.lw_program.specs.declared.fault.Fault.{Fault}
use Rattle.lw_program.specs.declared.fault.Fault.TheVariants.{Usage, Script, Walk, Unlawful, ReadFault, WriteFault, NoMemory}
use Rattle.lw_program.specs.declared.finish.Finish.{Finish}
use Rattle.lw_program.specs.declared.words.CommandLine.{CommandLine}
use Rattle.lw_program.specs.declared.words.CommandLine.TheVariants as command
use Rattle.lw_program.specs.Limits.{script_limit, walk_limit}
use Rattle.lw_program.specs.Bytes.{bytes_read, IsReadToEnd, IsReadUpTo, HasTakenPart}
use Rattle.lw_program.specs.Outside.{Outside}
use Rattle.lw_program.specs.Checks.{lawful_text}
use Rattle.lw_program.specs.Commands.{IsReadWell, IsWrittenWell}

-- ---- the command `run`

-- done: the source was read to its end; `told` is a lawful record of a run of the script that its bytes are, under the options
-- of the words, and its numbers fit their types; and the sink has taken that record's text
pub record IsRunDone (options : Options) (o : Outside) (told : Option Record) : Type 0 where
  pub bytes : List ℕ
  pub the : Record
  pub read : IsReadToEnd o.left bytes o.left_after
  pub few : length bytes ≤ script_limit
  pub accepted : run_refusal bytes ≡ None
  pub script : script_of bytes ≡ Some the.script
  pub told_is : told ≡ Some the
  pub lawful : Lawful the
  pub fits : RecordFits the
  pub scheduler : the.scheduler ≡ options.scheduler
  pub reactors : the.reactors ≡ options.reactors
  pub period : the.period ≡ options.period
  pub written : HasTaken o.held (text_of the) o.held_after

-- cut short: all that, but the sink failed, and has taken the front of that text
pub record IsRunCutShort (options : Options) (o : Outside) (told : Option Record) : Type 0 where
  pub bytes : List ℕ
  pub the : Record
  pub read : IsReadToEnd o.left bytes o.left_after
  pub few : length bytes ≤ script_limit
  pub accepted : run_refusal bytes ≡ None
  pub script : script_of bytes ≡ Some the.script
  pub told_is : told ≡ Some the
  pub lawful : Lawful the
  pub fits : RecordFits the
  pub scheduler : the.scheduler ≡ options.scheduler
  pub reactors : the.reactors ≡ options.reactors
  pub period : the.period ≡ options.period
  pub failed : Rose o.write_faults o.write_faults_after
  pub written : HasTakenPart o.held (text_of the) o.held_after

-- refused: the bytes read have the refusal that the fault holds, which is never want of memory
pub record IsRunRefused (o : Outside) (fault : Option Fault) : Type 0 where
  pub bytes : List ℕ
  pub the : ScriptRefusal
  pub read : IsReadUpTo script_limit o.left bytes o.left_after
  pub fault_is : fault ≡ Some (Script the)
  pub refused : run_refusal bytes ≡ Some the
  pub not_memory : the ≢ refusal.NoMemory

-- ---- the command `walk`

-- done: the source was read to its end, its bytes are a walk, and the sink has taken the answer to it
pub record IsWalkDone (o : Outside) (told : Option Record) : Type 0 where
  pub bytes : List ℕ
  pub read : IsReadToEnd o.left bytes o.left_after
  pub few : length bytes ≤ walk_limit
  pub no_bad_line : walk_bad_line bytes ≡ None
  pub no_record : told ≡ None
  pub written : HasTaken o.held (walk_answer bytes) o.held_after

-- cut short: all that, but the sink failed, and has taken the front of that answer
pub record IsWalkCutShort (o : Outside) (told : Option Record) : Type 0 where
  pub bytes : List ℕ
  pub read : IsReadToEnd o.left bytes o.left_after
  pub few : length bytes ≤ walk_limit
  pub no_bad_line : walk_bad_line bytes ≡ None
  pub no_record : told ≡ None
  pub failed : Rose o.write_faults o.write_faults_after
  pub written : HasTakenPart o.held (walk_answer bytes) o.held_after

-- refused: the bytes read have the bad line that the fault holds
pub record IsWalkRefused (o : Outside) (fault : Option Fault) : Type 0 where
  pub bytes : List ℕ
  pub line : ℕ
  pub read : IsReadUpTo walk_limit o.left bytes o.left_after
  pub fault_is : fault ≡ Some (Walk line)
  pub refused : walk_bad_line bytes ≡ Some line

-- ---- the command `check`

-- done: the source was read to its end, its bytes are a lawful report, and the sink has taken the word for that
pub record IsCheckDone (o : Outside) (told : Option Record) : Type 0 where
  pub bytes : List ℕ
  pub read : IsReadToEnd o.left bytes o.left_after
  pub lawful : IsLawfulReport bytes
  pub no_record : told ≡ None
  pub written : HasTaken o.held lawful_text o.held_after

-- cut short: all that, but the sink failed, and has taken the front of that word
pub record IsCheckCutShort (o : Outside) (told : Option Record) : Type 0 where
  pub bytes : List ℕ
  pub read : IsReadToEnd o.left bytes o.left_after
  pub lawful : IsLawfulReport bytes
  pub no_record : told ≡ None
  pub failed : Rose o.write_faults o.write_faults_after
  pub written : HasTakenPart o.held lawful_text o.held_after

-- refused: the fault holds the first rule that the bytes read fail as a report, and the first line at which they do
pub record IsCheckRefused (o : Outside) (fault : Option Fault) : Type 0 where
  pub bytes : List ℕ
  pub clause : ℕ
  pub line : ℕ
  pub read : IsReadUpTo report_limit o.left bytes o.left_after
  pub fault_is : fault ≡ Some (Unlawful clause line)
  pub refused : IsUnlawfulReport bytes clause line

-- ---- of any command; where there is none nothing is done or refused

abbrev pub IsDone : Option CommandLine → Outside → Option Record → Type 0
IsDone None o told = ⊥
IsDone (Some (command.Run options)) o told = IsRunDone options o told
IsDone (Some command.Walk) o told = IsWalkDone o told
IsDone (Some command.Check) o told = IsCheckDone o told

abbrev pub IsCutShort : Option CommandLine → Outside → Option Record → Type 0
IsCutShort None o told = ⊥
IsCutShort (Some (command.Run options)) o told = IsRunCutShort options o told
IsCutShort (Some command.Walk) o told = IsWalkCutShort o told
IsCutShort (Some command.Check) o told = IsCheckCutShort o told

abbrev pub IsRefused : Option CommandLine → Outside → Option Fault → Type 0
IsRefused None o fault = ⊥
IsRefused (Some (command.Run options)) o fault = IsRunRefused o fault
IsRefused (Some command.Walk) o fault = IsWalkRefused o fault
IsRefused (Some command.Check) o fault = IsCheckRefused o fault

-- how many bytes it takes
abbrev pub limit_of : CommandLine → ℕ
limit_of (command.Run options) = script_limit
limit_of command.Walk = walk_limit
limit_of command.Check = report_limit

-- the limit of what the words ask for; where they are no command nothing is read
abbrev pub limit_asked : Option CommandLine → Option ℕ
limit_asked = option_map limit_of

-- the bytes have no refusal of the command
abbrev pub Accepts : CommandLine → List ℕ → Type 0
Accepts (command.Run options) bytes = run_refusal bytes ≡ None
Accepts command.Walk bytes = walk_bad_line bytes ≡ None
Accepts command.Check bytes = IsLawfulReport bytes

-- the status of a refusal of its bytes
abbrev pub refusal_status : CommandLine → ℕ
refusal_status (command.Run options) = 2
refusal_status command.Walk = 2
refusal_status command.Check = 6

-- a fact of the command that the words are and of the bytes read for it, where the source tells them
abbrev pub OfBytes : Option CommandLine → Option (List ℕ) → (CommandLine → List ℕ → Type 0) → Type 0
OfBytes None left P = Unit {0}
OfBytes (Some command) None P = Unit {0}
OfBytes (Some command) (Some left) P = P command (bytes_read (limit_of command) left)

-- completeness: where the bytes have no refusal and no fault came, all is done or there was no memory
abbrev pub IsComplete : Outside → ℕ → CommandLine → List ℕ → Type 0
IsComplete o status command bytes = Accepts command bytes → ¬ Rose o.read_faults o.read_faults_after → ¬ Rose o.write_faults o.write_faults_after
    → (status ≡ 0) ⊎ (status ≡ 5)

-- where the bytes are not accepted and the source didn't fail, they are refused or there was no memory
abbrev pub IsRefusing : Outside → ℕ → CommandLine → List ℕ → Type 0
IsRefusing o status command bytes = ¬ Accepts command bytes → ¬ Rose o.read_faults o.read_faults_after
    → (status ≡ refusal_status command) ⊎ (status ≡ 5)

-- ---- all ends

-- there is a command
abbrev pub IsCommand : Option CommandLine → Type 0
IsCommand None = ⊥
IsCommand (Some command) = Unit {0}

-- nothing was told and nothing was written
abbrev pub IsSilent : Outside → Option Record → Type 0
IsSilent o told = (told ≡ None) × o.untouched

-- each end by its fault
abbrev pub Ends : Option CommandLine → Outside → Option Fault → Option Record → Type 0
Ends asked o None told = IsDone asked o told × IsReadWell o × IsWrittenWell o
Ends asked o (Some WriteFault) told = IsCutShort asked o told × IsReadWell o
Ends asked o (Some ReadFault) told = IsSilent o told × Rose o.read_faults o.read_faults_after × IsCommand asked
Ends asked o (Some NoMemory) told = IsSilent o told × IsReadWell o
Ends asked o (Some Usage) told = IsSilent o told × (asked ≡ None) × o.unread
Ends asked o (Some (Script e)) told = IsSilent o told × IsRefused asked o (Some (Script e)) × IsReadWell o
Ends asked o (Some (Walk line)) told = IsSilent o told × IsRefused asked o (Some (Walk line)) × IsReadWell o
Ends asked o (Some (Unlawful clause line)) told = IsSilent o told × IsRefused asked o (Some (Unlawful clause line)) × IsReadWell o

-- the same where there may have been no memory to read the words
abbrev pub EndsAsked : Result (Option CommandLine) AllocError → Outside → Option Fault → Option Record → Type 0
EndsAsked (Err lack) o fault told = (fault ≡ Some NoMemory) × IsSilent o told × o.unread
EndsAsked (Ok asked) o fault told = Ends asked o fault told

-- what the status of an end says of the bytes read and of those written
pub record IsEnd (asked : Option CommandLine) (o : Outside) (end : Finish) : Type 0 where
  pub done : end.status ≡ 0 → IsDone asked o end.told
  pub refused : (end.status ≡ 2) ⊎ (end.status ≡ 6) → IsRefused asked o end.fault
  pub cut_short : end.status ≡ 4 → IsCutShort asked o end.told
  pub complete : OfBytes asked o.left (IsComplete o end.status)
  pub refusing : OfBytes asked o.left (IsRefusing o end.status)
