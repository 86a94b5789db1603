-- How a light thread ends, and why it doesn't yet.
use Rattle.std.specs.Prelude.{◌≡◌, ◌≢◌, ◌+◌, ◌*◌, ◌≤◌, Bool, true, false, length}
use Rattle.lw_latch.specs.RingWord.{finished_unit}
use Rattle.lw_place.specs.declared.place.Place.TheVariants as place
use Rattle.lw_poller.specs.Pollers.{live_count}
use Rattle.lw_thread.specs.declared.ending.Why.{Why}
use Rattle.lw_thread.specs.declared.ending.Why.TheVariants as why
use Rattle.lw_thread.specs.declared.ending.Ending.{Ending}
use Rattle.lw_thread.specs.declared.ending.Ending.TheVariants.{Ended, NotYet}
use Rattle.lw_thread.specs.Rest.{Left}
use Rattle.lw_thread.specs.Runs.{RunId, IsOf}
use Rattle.lw_thread.specs.Threads.{Thread, IsThreadOf}

module _ {L F M B : Type 0} (ends : B → Bool) where
  -- what the thread's own state must show before its ring is tried
  pub record MayEnd (t : Thread L F M B) : Type 0 where
    pub asked : t.acts.asked_end ≡ true
    pub no_poller : live_count t.acts.pollers ≡ 0
    pub body : ends t.body ≡ true

  -- The thread hasn't ended: the first of the reasons, in their order, that it shows; where it shows none, its ring didn't
  -- close. Nothing has changed but what the ring's latch noted of the try.
  abbrev pub IsNotYet : Thread L F M B → Thread L F M B → Why → Type 0
  IsNotYet t u why.NotAsked = (t.acts.asked_end ≡ false) × (u ≡ t)
  IsNotYet t u why.Pollers = (t.acts.asked_end ≡ true) × (1 ≤ live_count t.acts.pollers) × (u ≡ t)
  IsNotYet t u why.Body = (t.acts.asked_end ≡ true) × (live_count t.acts.pollers ≡ 0) × (ends t.body ≡ false) × (u ≡ t)
  IsNotYet t u (why.Ring seen) =
      MayEnd t
      × (seen ≢ length t.recv.taken * finished_unit)
      × (u ≡ record t { recv = record t.recv { tries = t.recv.tries + 1; seen = seen } })

  -- The thread has ended: its ring is closed, and its place is that of an ended thread. All else is as it was.
  pub record IsEnded (t : Thread L F M B) (r : Left L F B) : Type 0 where
    pub may : MayEnd t
    pub body : r.body ≡ t.body
    pub recv : r.recv ≡ record t.recv { closed = 1 }
    pub same_ends : r.ends ≡ t.ends
    pub seat : r.seat ≡ record t.seat { place = place.Ended }
    pub load : r.load ≡ t.load
    pub ran : r.ran ≡ t.ran
    pub trail : r.trail ≡ t.trail

-- what `try_end` answers
abbrev pub EndsAs : {B M L F : Type 0} → (B → Bool) → Thread L F M B → Ending B M L F → Type 0
EndsAs ends t (Ended r) = IsEnded ends t r
EndsAs ends t (NotYet u w) = IsNotYet ends t u w

-- what came of the try is of the run: the thread, or what is left of it
abbrev pub EndsIn : {B M L F : Type 0} → RunId F → Ending B M L F → Type 0
EndsIn run (Ended r) = IsOf run r.seat r.recv r.ends r.load
EndsIn run (NotYet u w) = IsThreadOf run u
