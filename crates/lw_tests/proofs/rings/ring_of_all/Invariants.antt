use Rattle.lw_tests.proofs.rings.ring_of_all.Given as goal

abbrev pub ghost-ring : goal.ghost-ring
ghost-ring a = tt
