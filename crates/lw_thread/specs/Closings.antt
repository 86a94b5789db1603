-- What comes of a try to close a thread's ring.
use Rattle.std.specs.Prelude.{◌≡◌, ◌≢◌, ℕ, ◌+◌, ◌*◌, length}
use Rattle.lw_latch.specs.RingWord.{finished_unit}
use Rattle.lw_thread.specs.declared.closing.Unlinked.{Unlinked}
use Rattle.lw_thread.specs.declared.closing.Unlinking.{Unlinking}
use Rattle.lw_thread.specs.declared.closing.Unlinking.TheVariants.{Closed, NotYet}
use Rattle.lw_thread.specs.Links.{Tied}

-- the ring is closed; all else is as it was
pub record IsUnlinked {M L F : Type 0} (t : Tied L F) (u : Unlinked M L F) : Type 0 where
  pub recv : u.recv ≡ record t.recv { closed = 1 }
  pub ends : u.ends.items ≡ t.ends
  pub ran : u.ran.items ≡ t.ran

-- nothing has changed but what the ring's latch noted of the try
pub record IsStillLinked {L F : Type 0} (t u : Tied L F) (seen : ℕ) : Type 0 where
  pub unlike : seen ≢ length t.recv.taken * finished_unit
  pub tried : u ≡ record t { recv = record t.recv { tries = t.recv.tries + 1; seen = seen } }

abbrev pub UnlinksAs : {M L F : Type 0} → Tied L F → Unlinking M L F → Type 0
UnlinksAs t (Closed u) = IsUnlinked t u
UnlinksAs t (NotYet u seen) = IsStillLinked t u seen
