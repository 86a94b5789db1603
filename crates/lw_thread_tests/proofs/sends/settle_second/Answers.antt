use Rattle.lw_thread_tests.proofs.Rings.{second_ends}
use Rattle.lw_thread_tests.proofs.sends.settle_second.Goals as goal

pub settle-requires-clause-all : goal.settle-requires-clause-all
settle-requires-clause-all g c =
    let one = c.second_parts-first in
    let other = c.second_parts-recv in
    second_ends c.args.other.recv other.result.0 c.args.one.ends c.args.other.ends c.in_ok-ends.ends.items one.result.1 other.result.1 c.requires other.ensures.recv one.ensures.end other.ensures.end c.in_ok-ends.ensures
