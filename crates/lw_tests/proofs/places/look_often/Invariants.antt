use Rattle.std.proofs.Common.{◌≡◌}
use Rattle.lw_tests.proofs.places.look_often.Given as goal

abbrev pub invariant-loop : goal.invariant-loop
invariant-loop l = record {
  places : l.desk.places ≡ l.initial.desk.places;
  retired : l.desk.retired ≡ l.initial.desk.retired;
  halted : l.desk.halted ≡ l.initial.desk.halted;
}
