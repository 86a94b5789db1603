use Rattle.std.proofs.Common.{arith}
use Rattle.lw_program.proofs.Streams.{gives_all-next, at_most-more}
use Rattle.lw_program.proofs.reading.read_up_to.Goals as goal

pub returns-in_err-read_next-clause-bounded : goal.returns-in_err-read_next-clause-bounded
returns-in_err-read_next-clause-bounded g c =
    let inv = c.loop-bytes.invariant in
    at_most-more _ _ _ c.loop-bytes.bytes.items _ _ inv.2 c.read_next.ensures.bounded (omega (arith, inv.0, c.len-in-loop-bytes.ensures, c.loop-bytes.bytes.ok))

pub returns-then-branch-eq0-clause-bytes : goal.returns-then-branch-eq0-clause-bytes
returns-then-branch-eq0-clause-bytes g c =
    let inv = c.loop-bytes.invariant in
    let ensures = c.in_ok-read_next.ensures in
    let zero = c.if-branch-eq0.true in
    gives_all-next _ _ _ c.loop-bytes.bytes.items c.read_next.new.bytes.items c.args.limit inv.2 ensures.more
    (omega (arith, ensures.count.1, zero, c.loop-bytes.bytes.ok, c.read_next.new.bytes.ok)) (ensures.end zero) (omega (arith, inv.0, c.loop-bytes.bytes.ok))
