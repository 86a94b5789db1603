use Rattle.lw_thread_tests.proofs.sends.what_comes_back_goes_to_the_body_before_the_next_send.Goals as goal

pub polls_alone-requires : goal.polls_alone-requires
polls_alone-requires g c = (c.in_ok-one.ensures.first, c.in_ok-one.ensures.second)
