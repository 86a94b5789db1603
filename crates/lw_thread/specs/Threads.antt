-- What callers see of a light thread, and what its type keeps.
use Rattle.std.specs.Prelude.{◌≡◌, ◌≢◌, ℕ, ◌+◌, ◌<◌, ◌≤◌, min, Bool, true, false, List, [], ◌++◌, length, map, IsSome, Option, Some, None, ◌-◌, slice_get, slice_index_or}
use Rattle.lw_base.specs.declared.message.Tag.{Tag}
use Rattle.lw_base.specs.declared.moves.Hop.{Hop}
use Rattle.lw_base.specs.Words.{greatest_u64}
use Rattle.lw_latch.specs.RingWord.{most_senders}
use Rattle.lw_place.specs.declared.place.Place.TheVariants as place
use Rattle.lw_place.specs.PlaceSeats.{ThreadEnd}
use Rattle.lw_poller.specs.Pollers.{AreKept}
use Rattle.lw_ring.specs.Ends.{Sender, Receiver}
use Rattle.lw_ring.specs.Settling.{all_sent}
use Rattle.lw_load.specs.LoadEnds.{LoadEnd, published}
use Rattle.lw_thread.specs.Acts.{Known, Asks, ActsEnd, asks_of}
use Rattle.lw_thread.specs.Runs.{RunId, IsOf, IsRow}

-- a light thread: its body, what that asked for, its ends, seat and pass, the tags of what it has run, what it has taken and
-- not run, its hops, and whether a poll answered Stop
pub record Thread (L F M B : Type 0) : Type 0 where
  pub body : B
  pub acts : ActsEnd M
  pub recv : Receiver L F
  pub ends : List (Sender L F)
  pub seat : ThreadEnd
  pub load : LoadEnd
  pub ran : List Tag
  pub left : List L
  pub trail : List Hop
  pub stopped : Bool

-- what is known of the thread with these ends
abbrev pub known_of : {L F : Type 0} → ℕ → Receiver L F → List (Sender L F) → Known L F
known_of thread recv ends = record { thread = thread; family = recv.family; ran = recv.taken; sent = all_sent ends }

-- the last of these hops, if there is one
abbrev pub last_of : List Hop → Option Hop
last_of hs = slice_get hs (length hs - 1)

-- each hop is of a round above that of the one before it
abbrev pub AreAscending : List Hop → Type 0
AreAscending hs = (k : ℕ) (d : Hop) → k + 1 < length hs → (slice_index_or hs k d).round < (slice_index_or hs (k + 1) d).round

-- so many ticks more were busy, or idle. The sums stop at the greatest u64
abbrev pub booked : Bool → ℕ → LoadEnd → LoadEnd
booked true ticks l = published (min (l.busy + ticks) greatest_u64) l.idle l
booked false ticks l = published l.busy (min (l.idle + ticks) greatest_u64) l

-- the round is above that of the last hop, where there is one
abbrev pub IsAbove : ℕ → Option Hop → Type 0
IsAbove round None = Unit {0}
IsAbove round (Some h) = h.round < round

module _ {L F : Type 0} where
  -- the ends of a thread of this number, of one family: its own ring, which has a latch, and an end to each ring
  pub record AreItsEnds (thread : ℕ) (recv : Receiver L F) (ends : List (Sender L F)) : Type 0 where
    pub number : recv.number ≡ thread
    pub latch : IsSome recv.latch
    pub not_closed : recv.closed ≡ 0
    pub senders : recv.senders ≡ length ends
    pub few : length ends ≤ most_senders
    pub own : thread < length ends
    pub row : IsRow recv.family thread ends

-- what was taken is what was run, of which these are the tags, and then what is left
pub record WasRun {L : Type 0} (tag_of : L → Tag) (taken : List L) (ran : List Tag) (left : List L) : Type 0 where
  pub run : List L
  pub parts : taken ≡ run ++ left
  pub tags : ran ≡ map tag_of run

-- the ends stay those of the same rings, sender and family
pub record EndsStill {L F : Type 0} (es fs : List (Sender L F)) : Type 0 where
  pub count : length fs ≡ length es
  pub each : (k : ℕ) (d : Sender L F) → k < length es → slice_index_or fs k d ≡ record (slice_index_or es k d) { sent = (slice_index_or fs k d).sent; found = (slice_index_or fs k d).found }

module _ {L F M B : Type 0} where
  abbrev pub known : Thread L F M B → Known L F
  known t = known_of t.seat.thread t.recv t.ends

  -- the thread is of the run
  abbrev pub IsThreadOf : RunId F → Thread L F M B → Type 0
  IsThreadOf run t = IsOf run t.seat t.recv t.ends t.load

  -- the same of a run that may not be known
  abbrev pub IsIn : Option (RunId F) → Thread L F M B → Type 0
  IsIn None t = ⊥
  IsIn (Some run) t = IsThreadOf run t

  -- what the type keeps of each thread, whether a poll of it answered Stop or not
  pub record HasParts (tag_of : L → Tag) (t : Thread L F M B) : Type 0 where
    pub ends : AreItsEnds t.seat.thread t.recv t.ends
    pub load : t.load.thread ≡ t.seat.thread
    pub place : t.seat.place ≢ place.Ended
    pub taken : WasRun tag_of t.recv.taken t.ran t.left
    pub trail : AreAscending t.trail

  -- what it keeps of one that may be polled: all that was taken was run, no send is still to be made, nobody is to be started,
  -- its pollers are a set of pollers, and the thread is lawful
  pub record IsLawful (letter : M → L) (lawful : Known L F → Asks L → B → Type 0) (t : Thread L F M B) : Type 0 where
    pub all_run : t.left ≡ []
    pub threads : t.acts.threads ≡ length t.ends
    pub counted : t.acts.ran ≡ length t.recv.taken
    pub none_pending : t.acts.pending ≡ []
    pub none_started : t.acts.started ≡ []
    pub pollers : AreKept t.acts.pollers
    pub keeps : lawful (known t) (asks_of letter t.acts) t.body

  -- both
  pub record IsKept (letter : M → L) (tag_of : L → Tag) (lawful : Known L F → Asks L → B → Type 0) (t : Thread L F M B) : Type 0 where
    pub parts : HasParts tag_of t
    pub going : t.stopped ≡ false → IsLawful letter lawful t

  -- Whose ends, seat and pass it has stays: the rings and the families, the table of the places, the cell of the figures. What
  -- they have sent and taken, how often the ring was tried, where the thread stands and what is published are another matter.
  pub record IsStill (old new : Thread L F M B) : Type 0 where
    pub seat : (new.seat.places ≡ old.seat.places) × (new.seat.thread ≡ old.seat.thread)
    pub recv : new.recv ≡ record old.recv { taken = new.recv.taken; hand = new.recv.hand; tries = new.recv.tries; seen = new.recv.seen }
    pub ends : EndsStill old.ends new.ends
    pub load : (new.load.cell ≡ old.load.cell) × (new.load.thread ≡ old.load.thread)
