-- What the calls of a body may take for granted, and what each of them keeps.
use Rattle.std.specs.Prelude.{◌≡◌, ℕ, ◌<◌, true, List, ◌++◌, length}
use Rattle.lw_base.specs.declared.message.Tag.{Tag}
use Rattle.lw_base.specs.Letters.{FitsRing}
use Rattle.lw_poller.specs.Pollers.{Pollers}
use Rattle.lw_thread.specs.Acts.{Known, Post, ActsEnd, blank}
use Rattle.lw_thread.specs.PollerChanges.{AreChanges}

-- the acts are those of a thread of which this is known
pub record AreOf {M L F : Type 0} (k : Known L F) (a : ActsEnd M) : Type 0 where
  pub threads : a.threads ≡ length k.sent
  pub ran : a.ran ≡ length k.ran

-- the message fits the thread's ring, and one of the threads sent it
pub record IsToRun {M L F : Type 0} (letter : M → L) (tag_of : L → Tag) (fits : ℕ → F → M → Type 0) (k : Known L F) (message : M) : Type 0 where
  pub its_ring : FitsRing fits k.thread k.family message
  pub sender : (tag_of (letter message)).sender < length k.sent

-- the message was to go to this thread, and fits it; its tag has 0 for its sender and its number
pub record IsBack {M L F : Type 0} (letter : M → L) (marked : L → ℕ → ℕ → L) (fits : ℕ → F → M → Type 0) (k : Known L F) (to : ℕ) (message : M) : Type 0 where
  pub its_ring : FitsRing fits to k.family message
  pub in_range : to < length k.sent
  pub blank : letter message ≡ blank marked (letter message)

-- A call adds its sends behind those that are still to be made, and its starts behind those that were asked for. The pollers
-- change by calls of the acts alone, and the end stays asked for once it is.
pub record Adds {M : Type 0} (old new : ActsEnd M) : Type 0 where
  pub more : List (Post M)
  pub pending : new.pending ≡ old.pending ++ more
  pub starts : List ℕ
  pub started : new.started ≡ old.started ++ starts
  pub threads : new.threads ≡ old.threads
  pub ran : new.ran ≡ old.ran
  pub changes : List Pollers
  pub pollers : AreChanges old.pollers changes new.pollers
  pub end : old.asked_end ≡ true → new.asked_end ≡ true
