use Rattle.std.proofs.Common.{rules, ◌≡◌, ◌<◌, arith}
use Rattle.lw_thread_tests.proofs.ByHand.{known_to_run}
use Rattle.lw_thread_tests.proofs.by_hand.run_alone.Goals as goal

pub run-requires : goal.run-requires
run-requires g c =
    let threads : c.in_ok-acts.acts.threads ≡ 2 = search rules in
    let ran : c.in_ok-acts.acts.ran ≡ 0 = search rules in
    let sender : c.note_of.result.tag.sender < 2 = omega (arith, c.note_of.ensures.sender) in
    known_to_run _ _ c.note_of.result c.in_ok-acts.acts threads ran sender
