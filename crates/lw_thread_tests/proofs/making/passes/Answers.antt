use Rattle.std.proofs.Common.{rules, ◌≡◌, ◌<◌, arith, slice_index_or}
use Rattle.lw_thread_tests.proofs.Passes.{new_at}
use Rattle.lw_thread_tests.proofs.making.passes.Goals as goal

pub returns-clause-first : goal.returns-clause-first
returns-clause-first c =
    let at : slice_index_or c.in_ok-all.all.items 0 c.unwrap-first.result ≡ c.unwrap-first.result = search rules in
    new_at 2 0 c.in_ok-all.all.items _ c.unwrap-first.result c.in_ok-all.ensures (omega arith) at

pub returns-clause-second : goal.returns-clause-second
returns-clause-second c =
    let at : slice_index_or c.in_ok-all.all.items 1 c.unwrap-second.result ≡ c.unwrap-second.result = search rules in
    new_at 2 1 c.in_ok-all.all.items _ c.unwrap-second.result c.in_ok-all.ensures (omega arith) at
