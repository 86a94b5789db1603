use Rattle.std.proofs.Common.{◌≡◌, ◌+◌, ◌≤◌, ◌++◌, List, length}
use Rattle.lw_event.specs.declared.event.Event.{Event}
use Rattle.lw_station.specs.Stations.{StationEnd}
use Rattle.lw_station.specs.Handling.{HandlesEach, Takes}
use Rattle.lw_station.proofs.station.Station.take_events.Given as goal

-- some of the events that were taken are handled, and there is room for each thread that the others may bring
abbrev pub invariant-loop : goal.invariant-loop
invariant-loop g l = record {
  done : List (Event g.row.B.Denot g.row.B-Message.Denot g.row.B-Message-Letter.Denot g.row.B-Message-Family.Denot);
  start : StationEnd g.row.B-Message-Letter.Denot g.row.B-Message-Family.Denot g.row.B-Message.Denot g.row.B.Denot;
  taken : Takes (done ++ l.self.events.batch) l.fn.self start;
  handled : HandlesEach done start l.self;
  turns : length l.self.events.batch + l.counter ≡ l.count;
  whole : length (done ++ l.self.events.batch) ≡ l.count;
  room : length l.self.list + length l.self.events.batch ≤ l.self.room;
}
