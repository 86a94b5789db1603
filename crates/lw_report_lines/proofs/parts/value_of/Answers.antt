use Rattle.std.proofs.Common.{arith}
use Rattle.lw_base.proofs.TextLines.{value_more}
use Rattle.lw_report_lines.proofs.parts.value_of.Goals as goal

pub loop-byte-preserved : goal.loop-byte-preserved
loop-byte-preserved c =
    let more = value_more c.args.digits.now c.loop-byte.byte-index c.loop-byte-test.true in
    omega (arith, more)
