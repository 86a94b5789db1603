-- What a command does: it answers bytes, and its answer has a text that is written. How that ends.
use Rattle.std.specs.Prelude.{◌≡◌, ℕ, List, [], Option, Some, None}
use Rattle.lw_base.specs.Outside.{Rose, HasTaken}
use Rattle.lw_program.specs.declared.fault.Fault.{Fault}
use Rattle.lw_program.specs.declared.fault.Fault.TheVariants.{Usage, Script, Walk, Unlawful, ReadFault, WriteFault, NoMemory}
use Rattle.lw_program.specs.Bytes.{IsReadUpTo, HasTakenPart}
use Rattle.lw_program.specs.Outside.{Outside}

-- how many bytes it takes, where it reads any; what it may answer to bytes, with which text; and by which faults it may refuse them
pub record CommandOf (T : Type 0) : Type 1 where
  pub limit : Option ℕ
  pub answers : List ℕ → T → List ℕ → Type 0
  pub refuses : List ℕ → Fault → Type 0

-- the bytes that it is given: those read up to one past its limit, and none where it reads nothing
abbrev pub Gets : Option ℕ → Option (List ℕ) → List ℕ → Option (List ℕ) → Type 0 → Type 0
Gets None left bytes after unread = (bytes ≡ []) × unread
Gets (Some limit) left bytes after unread = IsReadUpTo limit left bytes after

-- it reads the source
abbrev pub HasLimit : Option ℕ → Type 0
HasLimit None = ⊥
HasLimit (Some limit) = Unit {0}

-- the source didn't fail
abbrev pub IsReadWell : Outside → Type 0
IsReadWell o = o.read_faults_after ≡ o.read_faults

-- the sink didn't fail
abbrev pub IsWrittenWell : Outside → Type 0
IsWrittenWell o = o.write_faults_after ≡ o.write_faults

-- bytes are refused by this fault, which is of the command alone: not of the words, the source or the sink; want of memory may
-- come at any bytes
abbrev pub Explains : {T : Type 0} → CommandOf T → List ℕ → Fault → Type 0
Explains c bytes Usage = ⊥
Explains c bytes ReadFault = ⊥
Explains c bytes WriteFault = ⊥
Explains c bytes NoMemory = Unit {0}
Explains c bytes (Script refusal) = c.refuses bytes (Script refusal)
Explains c bytes (Walk line) = c.refuses bytes (Walk line)
Explains c bytes (Unlawful clause line) = c.refuses bytes (Unlawful clause line)

-- this is answered to the bytes that were got, with this text
pub record IsAnswered {T : Type 0} (c : CommandOf T) (o : Outside) (told : Option T) (text : List ℕ) : Type 0 where
  pub bytes : List ℕ
  pub got : Gets c.limit o.left bytes o.left_after o.unread
  pub well : IsReadWell o
  pub the : T
  pub told_is : told ≡ Some the
  pub answered : c.answers bytes the text

-- the bytes that were got are refused by this fault
pub record IsRefusedBy {T : Type 0} (c : CommandOf T) (o : Outside) (fault : Fault) : Type 0 where
  pub bytes : List ℕ
  pub got : Gets c.limit o.left bytes o.left_after o.unread
  pub well : IsReadWell o
  pub refused : c.refuses bytes fault

-- why there is nothing to write; a command that reads nothing never finds that the source failed
abbrev pub ExplainsNone : {T : Type 0} → CommandOf T → Outside → Fault → Type 0
ExplainsNone c o Usage = ⊥
ExplainsNone c o ReadFault = HasLimit c.limit × Rose o.read_faults o.read_faults_after
ExplainsNone c o WriteFault = ⊥
ExplainsNone c o NoMemory = IsReadWell o
ExplainsNone c o (Script refusal) = IsRefusedBy c o (Script refusal)
ExplainsNone c o (Walk line) = IsRefusedBy c o (Walk line)
ExplainsNone c o (Unlawful clause line) = IsRefusedBy c o (Unlawful clause line)

-- how the writing of a text ends, with what it is the text of
abbrev pub EndsText : {T : Type 0} → T → List ℕ → Option (List ℕ) → Option (List ℕ) → ℕ → ℕ → Option Fault → Option T → Type 0
EndsText value text held after faults faults_after None told = (told ≡ Some value) × HasTaken held text after × (faults_after ≡ faults)
EndsText value text held after faults faults_after (Some WriteFault) told = (told ≡ Some value) × HasTakenPart held text after × Rose faults faults_after
EndsText value text held after faults faults_after (Some fault) told = ⊥

-- how it ends: by its fault, or none, and what it told
abbrev pub EndsCommand : {T : Type 0} → CommandOf T → Outside → Option Fault → Option T → Type 0
EndsCommand c o None told = (text : List ℕ) × IsAnswered c o told text × HasTaken o.held text o.held_after × IsWrittenWell o
EndsCommand c o (Some WriteFault) told = (text : List ℕ) × IsAnswered c o told text × HasTakenPart o.held text o.held_after × Rose o.write_faults o.write_faults_after
EndsCommand c o (Some fault) told = (told ≡ None) × o.untouched × ExplainsNone c o fault
