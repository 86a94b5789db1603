-- What each exit status says, from how the program ends.
use Rattle.std.proofs.Common.{◌≡◌, ◌≢◌, ◌≤◌, ◌⊎◌, inl, inr, ℕ, List, Option, Some, None, arith, refl, sym, ◌∙◌, subst, lit≤}
use Rattle.lw_base.specs.Outside.{Rose}
use Rattle.lw_model.specs.declared.record.Record.{Record}
use Rattle.lw_script_rules.specs.Served.{run_refusal}
use Rattle.lw_walk.specs.Walk.{walk_bad_line}
use Rattle.lw_judge.specs.declared.answer.Verdict.TheVariants as verdict
use Rattle.lw_judge.specs.Reports.{report_limit, IsLawfulReport}
use Rattle.lw_judge.proofs.Reports.{lawful_report}
use Rattle.lw_program.specs.declared.fault.Fault.{Fault}
use Rattle.lw_program.specs.declared.fault.Fault.TheVariants.{Usage, Script, Walk, Unlawful, ReadFault, WriteFault, NoMemory}
use Rattle.lw_program.specs.declared.words.CommandLine.{CommandLine}
use Rattle.lw_program.specs.declared.words.CommandLine.TheVariants as command
use Rattle.lw_program.specs.Limits.{script_limit, walk_limit}
use Rattle.lw_program.specs.Bytes.{bytes_read, IsReadToEnd, IsReadUpTo}
use Rattle.lw_program.specs.Outside.{Outside}
use Rattle.lw_program.specs.Statuses.{end_status}
use Rattle.lw_program.specs.Commands.{IsReadWell, IsWrittenWell}
use Rattle.lw_program.specs.Ends.{Ends, IsDone, IsCutShort, IsRefused, IsSilent, IsCommand, IsComplete, IsRefusing, OfBytes, Accepts, limit_of, refusal_status}
use Rattle.lw_program.proofs.Streams.{to_end-read}

pub statuses : (fault : Option Fault) → end_status fault ≤ 6
statuses None = lit≤ tt
statuses (Some Usage) = lit≤ tt
statuses (Some (Script r)) = lit≤ tt
statuses (Some (Walk line)) = lit≤ tt
statuses (Some (Unlawful clause line)) = lit≤ tt
statuses (Some ReadFault) = lit≤ tt
statuses (Some WriteFault) = lit≤ tt
statuses (Some NoMemory) = lit≤ tt

module _ (asked : Option CommandLine) (o : Outside) where
  pub done : (fault : Option Fault) (told : Option Record) → Ends asked o fault told → end_status fault ≡ 0 → IsDone asked o told
  done None told e h = e.0
  done (Some Usage) told e h = let x : 1 ≡ 0 = h in absurd (omega (arith, x))
  done (Some (Script r)) told e h = let x : 2 ≡ 0 = h in absurd (omega (arith, x))
  done (Some (Walk line)) told e h = let x : 2 ≡ 0 = h in absurd (omega (arith, x))
  done (Some (Unlawful clause line)) told e h = let x : 6 ≡ 0 = h in absurd (omega (arith, x))
  done (Some ReadFault) told e h = let x : 3 ≡ 0 = h in absurd (omega (arith, x))
  done (Some WriteFault) told e h = let x : 4 ≡ 0 = h in absurd (omega (arith, x))
  done (Some NoMemory) told e h = let x : 5 ≡ 0 = h in absurd (omega (arith, x))

  pub cut_short : (fault : Option Fault) (told : Option Record) → Ends asked o fault told → end_status fault ≡ 4 → IsCutShort asked o told
  cut_short None told e h = let x : 0 ≡ 4 = h in absurd (omega (arith, x))
  cut_short (Some Usage) told e h = let x : 1 ≡ 4 = h in absurd (omega (arith, x))
  cut_short (Some (Script r)) told e h = let x : 2 ≡ 4 = h in absurd (omega (arith, x))
  cut_short (Some (Walk line)) told e h = let x : 2 ≡ 4 = h in absurd (omega (arith, x))
  cut_short (Some (Unlawful clause line)) told e h = let x : 6 ≡ 4 = h in absurd (omega (arith, x))
  cut_short (Some ReadFault) told e h = let x : 3 ≡ 4 = h in absurd (omega (arith, x))
  cut_short (Some WriteFault) told e h = e.0
  cut_short (Some NoMemory) told e h = let x : 5 ≡ 4 = h in absurd (omega (arith, x))

  pub read_fault : (fault : Option Fault) (told : Option Record) → Ends asked o fault told → end_status fault ≡ 3 → Rose o.read_faults o.read_faults_after
  read_fault None told e h = let x : 0 ≡ 3 = h in absurd (omega (arith, x))
  read_fault (Some Usage) told e h = let x : 1 ≡ 3 = h in absurd (omega (arith, x))
  read_fault (Some (Script r)) told e h = let x : 2 ≡ 3 = h in absurd (omega (arith, x))
  read_fault (Some (Walk line)) told e h = let x : 2 ≡ 3 = h in absurd (omega (arith, x))
  read_fault (Some (Unlawful clause line)) told e h = let x : 6 ≡ 3 = h in absurd (omega (arith, x))
  read_fault (Some ReadFault) told e h = e.1
  read_fault (Some WriteFault) told e h = let x : 4 ≡ 3 = h in absurd (omega (arith, x))
  read_fault (Some NoMemory) told e h = let x : 5 ≡ 3 = h in absurd (omega (arith, x))

  pub refused : (fault : Option Fault) (told : Option Record) → Ends asked o fault told → (end_status fault ≡ 2) ⊎ (end_status fault ≡ 6) → IsRefused asked o fault
  refused None told e (inl h) = let x : 0 ≡ 2 = h in absurd (omega (arith, x))
  refused None told e (inr h) = let x : 0 ≡ 6 = h in absurd (omega (arith, x))
  refused (Some Usage) told e (inl h) = let x : 1 ≡ 2 = h in absurd (omega (arith, x))
  refused (Some Usage) told e (inr h) = let x : 1 ≡ 6 = h in absurd (omega (arith, x))
  refused (Some (Script r)) told e h = e.1
  refused (Some (Walk line)) told e h = e.1
  refused (Some (Unlawful clause line)) told e h = e.1
  refused (Some ReadFault) told e (inl h) = let x : 3 ≡ 2 = h in absurd (omega (arith, x))
  refused (Some ReadFault) told e (inr h) = let x : 3 ≡ 6 = h in absurd (omega (arith, x))
  refused (Some WriteFault) told e (inl h) = let x : 4 ≡ 2 = h in absurd (omega (arith, x))
  refused (Some WriteFault) told e (inr h) = let x : 4 ≡ 6 = h in absurd (omega (arith, x))
  refused (Some NoMemory) told e (inl h) = let x : 5 ≡ 2 = h in absurd (omega (arith, x))
  refused (Some NoMemory) told e (inr h) = let x : 5 ≡ 6 = h in absurd (omega (arith, x))

  pub unwritten : (fault : Option Fault) (told : Option Record) → Ends asked o fault told → end_status fault ≢ 0 → end_status fault ≢ 4 → IsSilent o told
  unwritten None told e h k = absurd (h refl)
  unwritten (Some Usage) told e h k = e.0
  unwritten (Some (Script r)) told e h k = e.0
  unwritten (Some (Walk line)) told e h k = e.0
  unwritten (Some (Unlawful clause line)) told e h k = e.0
  unwritten (Some ReadFault) told e h k = e.0
  unwritten (Some WriteFault) told e h k = absurd (k refl)
  unwritten (Some NoMemory) told e h k = e.0

  -- usage comes without a command alone, and then nothing is read
  pub no_command : (fault : Option Fault) (told : Option Record) → Ends asked o fault told → end_status fault ≡ 1 → (asked ≡ None) × o.unread
  no_command None told e h = let x : 0 ≡ 1 = h in absurd (omega (arith, x))
  no_command (Some Usage) told e h = (e.1, e.2)
  no_command (Some (Script r)) told e h = let x : 2 ≡ 1 = h in absurd (omega (arith, x))
  no_command (Some (Walk line)) told e h = let x : 2 ≡ 1 = h in absurd (omega (arith, x))
  no_command (Some (Unlawful clause line)) told e h = let x : 6 ≡ 1 = h in absurd (omega (arith, x))
  no_command (Some ReadFault) told e h = let x : 3 ≡ 1 = h in absurd (omega (arith, x))
  no_command (Some WriteFault) told e h = let x : 4 ≡ 1 = h in absurd (omega (arith, x))
  no_command (Some NoMemory) told e h = let x : 5 ≡ 1 = h in absurd (omega (arith, x))

  -- and without a command no other end comes but want of memory
  pub usage : (fault : Option Fault) (told : Option Record) → Ends asked o fault told → end_status fault ≢ 5 → asked ≡ None → end_status fault ≡ 1
  usage None told e h none = absurd (subst (λ a. IsDone a o told) none e.0)
  usage (Some Usage) told e h none = refl
  usage (Some (Script r)) told e h none = absurd (subst (λ a. IsRefused a o (Some (Script r))) none e.1)
  usage (Some (Walk line)) told e h none = absurd (subst (λ a. IsRefused a o (Some (Walk line))) none e.1)
  usage (Some (Unlawful clause line)) told e h none = absurd (subst (λ a. IsRefused a o (Some (Unlawful clause line))) none e.1)
  usage (Some ReadFault) told e h none = absurd (subst IsCommand none e.2)
  usage (Some WriteFault) told e h none = absurd (subst (λ a. IsCutShort a o told) none e.0)
  usage (Some NoMemory) told e h none = absurd (h refl)

  pub read_well : (fault : Option Fault) (told : Option Record) → (o.unread → IsReadWell o) → Ends asked o fault told → end_status fault ≢ 3 → IsReadWell o
  read_well None told same e h = e.1
  read_well (Some Usage) told same e h = same e.2
  read_well (Some (Script r)) told same e h = e.2
  read_well (Some (Walk line)) told same e h = e.2
  read_well (Some (Unlawful clause line)) told same e h = e.2
  read_well (Some ReadFault) told same e h = absurd (h refl)
  read_well (Some WriteFault) told same e h = e.1
  read_well (Some NoMemory) told same e h = e.1

  pub written_well : (fault : Option Fault) (told : Option Record) → (o.untouched → IsWrittenWell o) → Ends asked o fault told → end_status fault ≢ 4 → IsWrittenWell o
  written_well None told same e h = e.2
  written_well (Some Usage) told same e h = same e.0.1
  written_well (Some (Script r)) told same e h = same e.0.1
  written_well (Some (Walk line)) told same e h = same e.0.1
  written_well (Some (Unlawful clause line)) told same e h = same e.0.1
  written_well (Some ReadFault) told same e h = same e.0.1
  written_well (Some WriteFault) told same e h = absurd (h refl)
  written_well (Some NoMemory) told same e h = same e.0.1

-- ---- completeness

module _ (o : Outside) (left : List ℕ) (at : o.left ≡ Some left) where
  read_is : (limit : ℕ) (bytes : List ℕ) → IsReadUpTo limit o.left bytes o.left_after → bytes ≡ bytes_read limit left
  read_is limit bytes read = (subst (λ (l : Option (List ℕ)). IsReadUpTo limit l bytes o.left_after) at read).0

  whole_is : (bytes : List ℕ) → IsReadToEnd o.left bytes o.left_after → IsReadToEnd (Some left) bytes o.left_after
  whole_is bytes read = subst (λ (l : Option (List ℕ)). IsReadToEnd l bytes o.left_after) at read

  -- what is done is of bytes that the command accepts
  accepted : (c : CommandLine) (told : Option Record) → IsDone (Some c) o told → Accepts c (bytes_read (limit_of c) left)
  accepted (command.Run options) told e = subst (λ bs. run_refusal bs ≡ None) (to_end-read script_limit left e.bytes o.left_after (whole_is e.bytes e.read) e.few) e.accepted
  accepted command.Walk told e = subst (λ bs. walk_bad_line bs ≡ None) (to_end-read walk_limit left e.bytes o.left_after (whole_is e.bytes e.read) e.few) e.no_bad_line
  accepted command.Check told e = subst IsLawfulReport (to_end-read report_limit left e.bytes o.left_after (whole_is e.bytes e.read) e.lawful.few) e.lawful

  -- and so is what is cut short
  accepted_part : (c : CommandLine) (told : Option Record) → IsCutShort (Some c) o told → Accepts c (bytes_read (limit_of c) left)
  accepted_part (command.Run options) told e = subst (λ bs. run_refusal bs ≡ None) (to_end-read script_limit left e.bytes o.left_after (whole_is e.bytes e.read) e.few) e.accepted
  accepted_part command.Walk told e = subst (λ bs. walk_bad_line bs ≡ None) (to_end-read walk_limit left e.bytes o.left_after (whole_is e.bytes e.read) e.few) e.no_bad_line
  accepted_part command.Check told e = subst IsLawfulReport (to_end-read report_limit left e.bytes o.left_after (whole_is e.bytes e.read) e.lawful.few) e.lawful

  cut_rose : (c : CommandLine) (told : Option Record) → IsCutShort (Some c) o told → Rose o.write_faults o.write_faults_after
  cut_rose (command.Run options) told e = e.failed
  cut_rose command.Walk told e = e.failed
  cut_rose command.Check told e = e.failed

  -- bytes that are accepted are not refused
  contrary : (c : CommandLine) (fault : Option Fault) → IsRefused (Some c) o fault → Accepts c (bytes_read (limit_of c) left) → ⊥
  contrary (command.Run options) fault e accepts =
      let none : run_refusal e.bytes ≡ None = subst (λ bs. run_refusal bs ≡ None) (sym (read_is script_limit e.bytes e.read)) accepts in
      let wrong : Some e.the ≡ None = sym e.refused ∙ none in cc
  contrary command.Walk fault e accepts =
      let none : walk_bad_line e.bytes ≡ None = subst (λ bs. walk_bad_line bs ≡ None) (sym (read_is walk_limit e.bytes e.read)) accepts in
      let wrong : Some e.line ≡ None = sym e.refused ∙ none in cc
  contrary command.Check fault e accepts =
      let is : IsLawfulReport e.bytes = subst IsLawfulReport (sym (read_is report_limit e.bytes e.read)) accepts in
      let wrong : verdict.Unlawful e.clause e.line ≡ verdict.Lawful = (lawful_report e.bytes (verdict.Unlawful e.clause e.line) e.refused).1 is in cc

  refusal_has : (c : CommandLine) (fault : Option Fault) → IsRefused (Some c) o fault → end_status fault ≡ refusal_status c
  refusal_has (command.Run options) fault e = subst (λ (f : Option Fault). end_status f ≡ 2) (sym e.fault_is) refl
  refusal_has command.Walk fault e = subst (λ (f : Option Fault). end_status f ≡ 2) (sym e.fault_is) refl
  refusal_has command.Check fault e = subst (λ (f : Option Fault). end_status f ≡ 6) (sym e.fault_is) refl

  complete_of : (c : CommandLine) (fault : Option Fault) (told : Option Record) → Ends (Some c) o fault told → IsComplete o (end_status fault) c (bytes_read (limit_of c) left)
  complete_of c None told e accepts still calm = inl refl
  complete_of c (Some Usage) told e accepts still calm = let wrong : Some c ≡ None = e.1 in cc
  complete_of c (Some (Script r)) told e accepts still calm = absurd (contrary c _ e.1 accepts)
  complete_of c (Some (Walk line)) told e accepts still calm = absurd (contrary c _ e.1 accepts)
  complete_of c (Some (Unlawful clause line)) told e accepts still calm = absurd (contrary c _ e.1 accepts)
  complete_of c (Some ReadFault) told e accepts still calm = absurd (still e.1)
  complete_of c (Some WriteFault) told e accepts still calm = absurd (calm (cut_rose c told e.0))
  complete_of c (Some NoMemory) told e accepts still calm = inr refl

  refusing_of : (c : CommandLine) (fault : Option Fault) (told : Option Record) → Ends (Some c) o fault told → IsRefusing o (end_status fault) c (bytes_read (limit_of c) left)
  refusing_of c None told e not still = absurd (not (accepted c told e.0))
  refusing_of c (Some Usage) told e not still = let wrong : Some c ≡ None = e.1 in cc
  refusing_of c (Some (Script r)) told e not still = inl (refusal_has c _ e.1)
  refusing_of c (Some (Walk line)) told e not still = inl (refusal_has c _ e.1)
  refusing_of c (Some (Unlawful clause line)) told e not still = inl (refusal_has c _ e.1)
  refusing_of c (Some ReadFault) told e not still = absurd (still e.1)
  refusing_of c (Some WriteFault) told e not still = absurd (not (accepted_part c told e.0))
  refusing_of c (Some NoMemory) told e not still = inr refl

complete_at : (asked : Option CommandLine) (o : Outside) (left : Option (List ℕ)) (fault : Option Fault) (told : Option Record) → o.left ≡ left → Ends asked o fault told
    → OfBytes asked left (IsComplete o (end_status fault))
complete_at None o left fault told at e = tt
complete_at (Some c) o None fault told at e = tt
complete_at (Some c) o (Some left) fault told at e = complete_of o left at c fault told e

refusing_at : (asked : Option CommandLine) (o : Outside) (left : Option (List ℕ)) (fault : Option Fault) (told : Option Record) → o.left ≡ left → Ends asked o fault told
    → OfBytes asked left (IsRefusing o (end_status fault))
refusing_at None o left fault told at e = tt
refusing_at (Some c) o None fault told at e = tt
refusing_at (Some c) o (Some left) fault told at e = refusing_of o left at c fault told e

pub complete : (asked : Option CommandLine) (o : Outside) (fault : Option Fault) (told : Option Record) (status : ℕ) → status ≡ end_status fault → Ends asked o fault told
    → OfBytes asked o.left (IsComplete o status)
complete asked o fault told status agrees e = subst (λ n. OfBytes asked o.left (IsComplete o n)) (sym agrees) (complete_at asked o o.left fault told refl e)

pub refusing : (asked : Option CommandLine) (o : Outside) (fault : Option Fault) (told : Option Record) (status : ℕ) → status ≡ end_status fault → Ends asked o fault told
    → OfBytes asked o.left (IsRefusing o status)
refusing asked o fault told status agrees e = subst (λ n. OfBytes asked o.left (IsRefusing o n)) (sym agrees) (refusing_at asked o o.left fault told refl e)
