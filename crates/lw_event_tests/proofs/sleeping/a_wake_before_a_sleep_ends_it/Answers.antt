use Rattle.std.proofs.Common.{◌≡◌, ap, ◌∙◌, arith}
use Rattle.lw_event_tests.proofs.Roused.{wakers_of, wakes_still}
use Rattle.lw_event_tests.proofs.sleeping.a_wake_before_a_sleep_ends_it.Goals as goal

pub wake-requires-2 : goal.wake-requires-2
wake-requires-2 g c =
    let two = wakes_still 0 c.in_ok-first.first c.wake.new.self c.wake.ensures ∙ c.in_ok-first.ensures.first in
    omega arith

pub wake-requires-4 : goal.wake-requires-4
wake-requires-4 g c =
    let two = ap wakers_of c.sleep.ensures ∙ wakes_still 0 c.wake.new.self c.wake-2.new.self c.wake-2.ensures ∙ wakes_still 0 c.in_ok-first.first c.wake.new.self c.wake.ensures ∙ c.in_ok-first.ensures.first in
    omega arith
