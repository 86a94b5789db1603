use Rattle.ring_bench.proofs.ringed.ring_of.Given as goal

abbrev pub ghost-ring : goal.ghost-ring
ghost-ring a = tt
