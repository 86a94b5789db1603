-- The commands that the program carries out.
use Rattle.lw_target.specs.Options.{AreServed}
use Rattle.lw_program.specs.declared.words.CommandLine.{CommandLine}
use Rattle.lw_program.specs.declared.words.CommandLine.TheVariants.{Run, Walk, Check}

-- the run takes such options
abbrev pub Serves : CommandLine → Type 0
Serves (Run options) = AreServed options
Serves Walk = Unit {0}
Serves Check = Unit {0}
