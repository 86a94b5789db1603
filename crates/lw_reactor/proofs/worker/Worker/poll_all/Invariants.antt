use Rattle.std.proofs.Common.{◌≡◌, ◌+◌, ◌≤◌, Bool, List, length}
use Rattle.lw_reactor.specs.Polling.{PollsFrom, place_behind}
use Rattle.lw_thread.specs.Polls.{Polls}
use Rattle.lw_reactor.proofs.worker.Worker.poll_all.Given as goal

-- the first threads were polled
abbrev pub invariant-loop : goal.invariant-loop
invariant-loop g l = record {
  done : List Bool;
  polled : PollsFrom g.C.Clock.readings (Polls g.B.Message.Tagged.letter g.B.Message.Tagged.tag_of g.B.Message.Tagged.fits g.B.Message.Tagged.marked g.B.Body.runs g.B.Body.ticks g.B.Body.takes_back) g.B.Body.ends l.homes 0 done l.fn.self l.self;
  place : l.at ≡ place_behind 0 done;
  counted : length done ≡ l.counter;
  few : l.at ≤ l.counter;
  rest : length l.self.station.list + l.counter ≡ l.at + l.count;
}
