-- The line that each fault prints as.
use Rattle.std.specs.Prelude.{ℕ, List, ◌++◌, codes, decimal}
use Rattle.lw_model.specs.Refusals.{refusal_line}
use Rattle.lw_program.specs.declared.fault.Fault.{Fault}
use Rattle.lw_program.specs.declared.fault.Fault.TheVariants.{Usage, Script, Walk, Unlawful, ReadFault, WriteFault, NoMemory}

abbrev pub fault_line : Fault → List ℕ
fault_line Usage = codes "usage: lightrun run, check, walk or load SEED OPS"
fault_line (Script refusal) = refusal_line refusal
fault_line (Walk line) = codes "walk: line " ++ decimal line
fault_line (Unlawful clause line) = codes "unlawful: clause " ++ decimal clause ++ codes " line " ++ decimal line
fault_line ReadFault = codes "read failed"
fault_line WriteFault = codes "write failed"
fault_line NoMemory = codes "out of memory"
