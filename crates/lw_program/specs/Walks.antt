-- What the command `walk` answers to the bytes that it reads.
use Rattle.std.specs.Prelude.{◌≡◌, ℕ, List, Some, None}
use Rattle.lw_walk.specs.Walk.{walk_bad_line, walk_answer}
use Rattle.lw_program.specs.declared.fault.Fault.{Fault}
use Rattle.lw_program.specs.declared.fault.Fault.TheVariants.{Walk}
use Rattle.lw_program.specs.Limits.{walk_limit}
use Rattle.lw_program.specs.Commands.{CommandOf}

-- the text is the answer to the walk that the bytes are
pub record IsWalkAnswer (bytes text : List ℕ) : Type 0 where
  pub no_bad_line : walk_bad_line bytes ≡ None
  pub answer : text ≡ walk_answer bytes

-- the bytes have this bad line
abbrev pub HasBadLine : List ℕ → Fault → Type 0
HasBadLine bytes (Walk line) = walk_bad_line bytes ≡ Some line
HasBadLine bytes _ = ⊥

-- `walk`, of which nothing is told but the text
abbrev pub walk_command : CommandOf (Unit {0})
walk_command = record {
  limit = Some walk_limit;
  answers = λ bytes told text. IsWalkAnswer bytes text;
  refuses = HasBadLine;
}
