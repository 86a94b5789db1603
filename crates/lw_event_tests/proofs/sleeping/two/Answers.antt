use Rattle.std.proofs.Common.{◌≡◌, rules, arith}
use Rattle.std.specs.Prelude.{slice_index_or}
use Rattle.lw_event_tests.proofs.Roused.{wakes_each}
use Rattle.lw_event_tests.proofs.sleeping.two.Goals as goal

pub returns-clause-first : goal.returns-clause-first
returns-clause-first c =
    let is : c.remove-first.result ≡ slice_index_or c.in_ok-both.both.items 0 c.remove-first.result = search rules in
    wakes_each 2 0 _ _ c.in_ok-both.ensures (omega arith) is

pub returns-clause-second : goal.returns-clause-second
returns-clause-second c = wakes_each 2 1 _ _ c.in_ok-both.ensures (omega arith) c.remove-second.ensures.value
