-- Why a reactor stops, and what shows it.
use Rattle.std.specs.Prelude.{◌≡◌, ℕ, ◌<◌, true, false, length, slice_index_or}
use Rattle.lw_latch.specs.RingWord.{most_sent}
use Rattle.lw_ring.specs.Ends.{Sender}
use Rattle.lw_thread.specs.Runs.{RunId}
use Rattle.lw_thread.specs.Threads.{Thread}
use Rattle.lw_event.specs.Letters.{Letter}
use Rattle.lw_event.specs.Desks.{Desk}
use Rattle.lw_thread.specs.declared.stop.Stop.{Stop as Cause}
use Rattle.lw_thread.specs.declared.stop.Stop.TheVariants as cause
use Rattle.lw_station.specs.declared.stop.Stop.{Stop}
use Rattle.lw_station.specs.declared.stop.Stop.TheVariants as stop

-- this end has sent the most that it can
pub record HasSentMost {L F : Type 0} (e : Sender L F) (count : ℕ) : Type 0 where
  pub most : count ≡ most_sent
  pub sent : length e.sent ≡ most_sent

module _ {B M L F : Type 0} where
  -- the desk's end to a reactor has sent the most that it can
  pub record DeskIsSpent (d : Desk B M L F) (from to count : ℕ) : Type 0 where
    pub own : from ≡ d.number
    pub range : to < length d.ends
    pub spent : (e : Sender Letter (RunId F)) → HasSentMost (slice_index_or d.ends to e) count

  -- it can send more
  pub record DeskHasRoom (d : Desk B M L F) (to : ℕ) : Type 0 where
    pub range : to < length d.ends
    pub room : (e : Sender Letter (RunId F)) → length (slice_index_or d.ends to e).sent < most_sent

  -- the same as the first of a thread's end to a thread
  pub record ThreadIsSpent (from to count : ℕ) (t : Thread L F M B) : Type 0 where
    pub own : from ≡ t.seat.thread
    pub range : to < length t.ends
    pub spent : (e : Sender L F) → HasSentMost (slice_index_or t.ends to e) count

  -- what an end of the desk shows
  abbrev pub DeskStops : Desk B M L F → Stop → Type 0
  DeskStops d stop.NoMemory = Unit {0}
  DeskStops d (stop.Spent true from to count) = DeskIsSpent d from to count
  DeskStops d (stop.Spent false from to count) = ⊥

  -- why the desk refuses an event to a reactor: its end to there is spent, and only where it isn't there was no memory
  abbrev pub RefusesTo : ℕ → Desk B M L F → Stop → Type 0
  RefusesTo to d stop.NoMemory = DeskHasRoom d to
  RefusesTo to d (stop.Spent true from at count) = (at ≡ to) × DeskIsSpent d from to count
  RefusesTo to d (stop.Spent false from at count) = ⊥

-- the Stop of a reactor where a poll of the thread of this number answered one
abbrev pub IsStopOf : ℕ → Cause → Stop → Type 0
IsStopOf thread cause.NoMemory s = s ≡ stop.NoMemory
IsStopOf thread (cause.Spent to count) s = s ≡ stop.Spent false thread to count
