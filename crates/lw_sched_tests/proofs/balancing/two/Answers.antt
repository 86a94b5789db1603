use Rattle.std.proofs.Common.{◌≡◌, rules, arith}
use Rattle.std.specs.Prelude.{slice_index_or}
use Rattle.lw_sched_tests.proofs.NewCells.{new_pass_of}
use Rattle.lw_sched_tests.proofs.balancing.two.Goals as goal

pub returns-clause-first : goal.returns-clause-first
returns-clause-first c =
    let is : c.remove-first.result ≡ slice_index_or c.in_ok-passes.passes.items 0 c.remove-first.result = search rules in
    new_pass_of 2 0 _ _ _ c.in_ok-passes.ensures (omega arith) is

pub returns-clause-second : goal.returns-clause-second
returns-clause-second c = new_pass_of 2 1 _ _ _ c.in_ok-passes.ensures (omega arith) c.remove-second.ensures.value

pub returns-clause-reader : goal.returns-clause-reader
returns-clause-reader c = c.in_ok-passes.ensures.cells
