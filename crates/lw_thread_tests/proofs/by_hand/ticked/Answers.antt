use Rattle.std.proofs.Common.{rules, ◌≡◌}
use Rattle.lw_thread_tests.proofs.ByHand.{known_to_tick}
use Rattle.lw_thread_tests.proofs.by_hand.ticked.Goals as goal

pub tick-requires-clause-called : goal.tick-requires-clause-called
tick-requires-clause-called g c =
    let threads : c.add_active.new.self.threads ≡ 2 = search rules in
    let ran : c.add_active.new.self.ran ≡ 0 = search rules in
    known_to_tick c.add_active.new.self threads ran
