use Rattle.std.proofs.Common.{rules, ◌≡◌, ◌<◌, arith}
use Rattle.lw_thread_tests.proofs.ByHand.{known_to_return}
use Rattle.lw_thread_tests.proofs.by_hand.handed_back.Goals as goal

pub returned-requires-clause-called : goal.returned-requires-clause-called
returned-requires-clause-called g c =
    let threads : c.in_ok-acts.acts.threads ≡ 2 = search rules in
    let ran : c.in_ok-acts.acts.ran ≡ 0 = search rules in
    let within : 1 < 2 = omega arith in
    known_to_return _ _ 1 c.note_of.result c.in_ok-acts.acts threads ran within c.note_of.ensures.blank
