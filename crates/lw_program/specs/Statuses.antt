-- The exit status of each end.
use Rattle.std.specs.Prelude.{ℕ, Option, Some, None}
use Rattle.lw_program.specs.declared.fault.Fault.{Fault}
use Rattle.lw_program.specs.declared.fault.Fault.TheVariants.{Usage, Script, Walk, Unlawful, ReadFault, WriteFault, NoMemory}

abbrev pub status_of : Fault → ℕ
status_of Usage = 1
status_of (Script refusal) = 2
status_of (Walk line) = 2
status_of (Unlawful clause line) = 6
status_of ReadFault = 3
status_of WriteFault = 4
status_of NoMemory = 5

-- 0 where there is no fault
abbrev pub end_status : Option Fault → ℕ
end_status None = 0
end_status (Some fault) = status_of fault
