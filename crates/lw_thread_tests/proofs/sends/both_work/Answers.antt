use Rattle.lw_thread_tests.proofs.Rings.{both_polled}
use Rattle.lw_thread_tests.proofs.sends.both_work.Goals as goal

pub first_poll-requires : goal.first_poll-requires
first_poll-requires g c = c.requires.going.0

pub works-requires : goal.works-requires
works-requires g c = c.requires.going.1

pub returns-clause-going : goal.returns-clause-going
returns-clause-going g c = (c.in_ok-first.ensures.going, c.in_ok-second.ensures.going)

pub returns-clause-ring : goal.returns-clause-ring
returns-clause-ring g c =
    both_polled _ _ _ _ c.requires.ring c.in_ok-first.ensures.still c.in_ok-second.ensures.still
