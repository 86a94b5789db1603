use Rattle.lw_thread_tests.proofs.making.ring_of.Given as goal

abbrev pub ghost-ring : goal.ghost-ring
ghost-ring a = tt
