-- The record of a whole run is lawful.
use Rattle.std.specs.Prelude.{List}
use Rattle.lw_model.specs.declared.record.Record.{Record}
use Rattle.lw_model.specs.Lawful.{Lawful}
use Rattle.lw_whole.specs.Logs.{Log}
use Rattle.lw_whole.specs.WholeRun.{IsWholeRun}
use Rattle.lw_whole.proofs.Homes.{homes_and_hops}
use Rattle.lw_whole.proofs.Numbers.{numbers}
use Rattle.lw_whole.proofs.Answers.{answers}
use Rattle.lw_whole.proofs.Once.{first_run}
use Rattle.lw_whole.proofs.RanIsSent.{ran_all}
use Rattle.lw_whole.proofs.Everywhere.{ran_everywhere}
use Rattle.lw_whole.proofs.VisitsSeen.{visits_seen}
use Rattle.lw_whole.proofs.Replied.{replies}
use Rattle.lw_whole.proofs.Devices.{devices}

pub whole_is_lawful : (r : Record) (logs : List Log) → IsWholeRun r logs → Lawful r
whole_is_lawful r logs whole = record {
  homes_and_hops = homes_and_hops r logs whole;
  numbers = numbers r logs whole;
  answers = answers r logs whole;
  ran_is_sent = record { all = ran_all r logs whole; once = first_run r logs whole; everywhere = ran_everywhere r logs whole };
  replies = replies r logs whole;
  devices = devices r logs whole;
  visits_seen = visits_seen r logs whole;
  rounds_and_orders = whole.rounds;
  buffers_home = whole.pool;
}
