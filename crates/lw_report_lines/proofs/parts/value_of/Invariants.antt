use Rattle.std.proofs.Common.{◌≡◌, take, min}
use Rattle.lw_base.specs.TextLines.{value_from}
use Rattle.lw_report_lines.proofs.parts.value_of.Given as goal

abbrev pub invariant-loop-byte : goal.invariant-loop-byte
invariant-loop-byte l = l.value ≡ min (value_from 0 (take l.byte-index l.digits)) 340282366920938463463374607431768211455
