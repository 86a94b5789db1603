use Rattle.thread_bench.proofs.making.ring_of.Given as goal

abbrev pub ghost-ring : goal.ghost-ring
ghost-ring a = tt
