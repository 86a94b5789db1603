use Rattle.lw_thread_tests.proofs.sends.one_speaks_and_both_end.Goals as goal

pub both_work-requires-clause-going : goal.both_work-requires-clause-going
both_work-requires-clause-going g c = (c.in_ok-one.ensures.first, c.in_ok-one.ensures.second)

pub both_work-requires-clause-ring : goal.both_work-requires-clause-ring
both_work-requires-clause-ring g c = c.in_ok-one.ensures.ring

pub both_end-requires-clause-going : goal.both_end-requires-clause-going
both_end-requires-clause-going g c = c.in_ok-both_work.ensures.going

pub both_end-requires-clause-ring : goal.both_end-requires-clause-ring
both_end-requires-clause-ring g c = c.in_ok-both_work.ensures.ring

pub settle_second-requires : goal.settle_second-requires
settle_second-requires g c = c.in-Some.ensures
