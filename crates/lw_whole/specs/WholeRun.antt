-- The whole run: the logs of all threads, the settled rings and registry, where the threads ran, and the pool.
use Rattle.std.specs.Prelude.{ℕ, ◌≡◌, ◌==◌, Bool, true, ◌&&◌, List, [], map}
use Rattle.std.specs.List.{list_all, list_any, AllByRecursion, enumerate_from}
use Rattle.lw_model.specs.declared.record.Record.{Record}
use Rattle.lw_base.specs.declared.moves.Order.{Order}
use Rattle.lw_base.specs.declared.moves.Hop.{Hop}
use Rattle.lw_model.specs.Threads.{images}
use Rattle.lw_model.specs.OwnOrder.{with_past}
use Rattle.lw_model.specs.Moves.{first_reactor, is_above_last}
use Rattle.lw_model.specs.Devices.{device_at}
use Rattle.lw_model.specs.Rounds.{RoundsAndOrders}
use Rattle.lw_model.specs.Lawful.{BuffersHome}
use Rattle.lw_whole.specs.Logs.{Log}
use Rattle.lw_whole.specs.Rings.{RingsSettled}
use Rattle.lw_whole.specs.Notes.{notes_of, DeviceSettled}
use Rattle.lw_whole.specs.Threads.{Ended}

-- an order that a reactor took, with its round
pub record Taken : Type 0 where
  pub round : ℕ
  pub order : Order

-- a hop was made for an order that was taken
abbrev pub is_for : ℕ → Hop → Taken → Bool
is_for t h x = x.round == h.round && x.order.thread == t && x.order.to == h.reactor

-- a round with that number sent the order
abbrev pub was_sent : Record → Taken → Bool
was_sent r x = list_any (λ n. n.number == x.round && list_any (λ o. o.thread == x.order.thread && o.to == x.order.to) n.orders) r.rounds

-- where the threads ran: each began on its home; each hop is of a round above that of the hop before, and was made for an
-- order that was taken; each order that was taken was sent in a round
pub record Moved (r : Record) (logs : List Log) : Type 0 where
  pub taken : List Taken
  pub homes : AllByRecursion (λ p. p.1.lines.home ≡ first_reactor r p.0) (enumerate_from 0 logs)
  pub ascend : AllByRecursion (λ l. list_all (λ p. is_above_last p.0 p.1) (with_past [] l.lines.hops) ≡ true) logs
  pub for_orders : AllByRecursion (λ p. list_all (λ h. list_any (is_for p.0 h) taken) p.1.lines.hops ≡ true) (enumerate_from 0 logs)
  pub sent : list_all (was_sent r) taken ≡ true

-- a whole run that left the record
pub record IsWholeRun (r : Record) (logs : List Log) : Type 0 where
  pub threads : r.threads ≡ map (λ l. l.lines) logs
  pub each : AllByRecursion (λ p. Ended r.script p.0 p.1) (enumerate_from 0 logs)
  pub rings : RingsSettled logs
  pub registry : AllByRecursion (λ d. DeviceSettled (notes_of d logs) (device_at r d)) (images r.script)
  pub moved : Moved r logs
  pub rounds : RoundsAndOrders r
  pub pool : BuffersHome r
