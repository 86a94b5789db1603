use Rattle.std.proofs.Common.{rules}
use Rattle.lw_tests.proofs.places.a_held_thread_starts_in_its_reactors_list.Goals as goal

pub start-requires : goal.start-requires
start-requires c c' = (1, search rules)
