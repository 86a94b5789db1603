use Rattle.counter.proofs.making.ring_of_one.Given as goal

abbrev pub ghost-ring : goal.ghost-ring
ghost-ring a = tt
