-- The limits that each plan goes by.
use Rattle.lw_base.specs.declared.moves.Limits.{Limits}

-- the limits that reactors and the judge go by
abbrev pub standard : Limits
standard = record { load = 20; core = 80; busy = 95 }
