-- What the command `check` answers to the bytes that it reads.
use Rattle.std.specs.Prelude.{◌≡◌, ℕ, List, [], ◌∷◌, ◌++◌, codes, Some}
use Rattle.lw_judge.specs.Reports.{report_limit, IsLawfulReport, IsUnlawfulReport}
use Rattle.lw_program.specs.declared.fault.Fault.{Fault}
use Rattle.lw_program.specs.declared.fault.Fault.TheVariants.{Unlawful}
use Rattle.lw_program.specs.Commands.{CommandOf}

-- `lawful` and a line feed
abbrev pub lawful_text : List ℕ
lawful_text = codes "lawful" ++ 10 ∷ []

-- the bytes are no lawful report, by this rule at this line
abbrev pub FailsAt : List ℕ → Fault → Type 0
FailsAt bytes (Unlawful clause line) = IsUnlawfulReport bytes clause line
FailsAt bytes _ = ⊥

-- `check`, of which nothing is told but the text
abbrev pub check_command : CommandOf (Unit {0})
check_command = record {
  limit = Some report_limit;
  answers = λ bytes told text. IsLawfulReport bytes × (text ≡ lawful_text);
  refuses = FailsAt;
}
