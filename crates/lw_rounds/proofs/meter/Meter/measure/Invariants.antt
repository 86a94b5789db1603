use Rattle.lw_rounds.specs.Measures.{HasRead}
use Rattle.lw_rounds.proofs.Measuring.{IsWhole, MeasuredSoFar}
use Rattle.lw_rounds.proofs.meter.Meter.measure.Given as goal

abbrev pub invariant-loop-thread : goal.invariant-loop-thread
invariant-loop-thread g l = record {
  whole : IsWhole l.initial.self;
  so_far : MeasuredSoFar l.thread l.initial.self l.self l.initial.desk l.desk l.rows.items;
  read : HasRead l.initial.self.cells l.self.cells;
}
