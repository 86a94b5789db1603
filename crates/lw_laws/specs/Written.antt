-- What a call of the program wrote whose words are `run`.
use Rattle.std.specs.Prelude.{◌≡◌, ℕ, List, [], Option, Some}
use Rattle.lw_model.specs.declared.record.Record.{Record}
use Rattle.lw_target.specs.declared.options.Options.{Options}
use Rattle.lw_program.specs.declared.words.CommandLine.TheVariants.{Run}
use Rattle.lw_program.specs.Words.{command_of}
use Rattle.lw_program.specs.Outside.{Outside}
use Rattle.lw_program.specs.Ends.{IsDone}

-- the words are `run` under some options, and the call ended with all done, as its clause says of status 0; its sink held
-- nothing before, and these bytes after
pub record HasWritten (words : List (List ℕ)) (o : Outside) (told : Option Record) (bytes : List ℕ) : Type 0 where
  pub options : Options
  pub asked : command_of words ≡ Some (Run options)
  pub done : IsDone (command_of words) o told
  pub empty : o.held ≡ Some []
  pub holds : o.held_after ≡ Some bytes
