-- What a thread's refused sends leave.
use Rattle.std.specs.Prelude.{◌≡◌, ℕ, length, slice_index_or}
use Rattle.std.specs.declared.alloc.Global.{Global}
use Rattle.std.specs.declared.vec.Vec.{Vec}
use Rattle.lw_latch.specs.RingWord.{most_sent}
use Rattle.lw_ring.specs.declared.ends.SendRefusal.{SendRefusal}
use Rattle.lw_ring.specs.declared.ends.SendRefusal.TheVariants.{Spent, Exited, NoMemory}
use Rattle.lw_ring.specs.Ends.{Sender}
use Rattle.lw_thread.specs.Links.{Tied, FindsClosed}

-- the message that comes back is the one that was to be sent, marked
pub record IsMark {M L F : Type 0} (letter : M → L) (marked : L → ℕ → ℕ → L) (fits : ℕ → F → M → Type 0) (thread : ℕ) (message back : M) : Type 0 where
  pub number : ℕ
  pub same_letter : letter back ≡ marked (letter message) thread number
  pub still_fits : (r : ℕ) (f : F) → fits r f message → fits r f back

-- the end to this thread has sent all that it can
abbrev pub IsSpent : {L F : Type 0} → ℕ → Tied L F → Type 0
IsSpent {L} {F} to s = (d : Sender L F) → length (slice_index_or s.ends to d).sent ≡ most_sent

module _ {M L F : Type 0} where
  abbrev pub AfterSend : (M → L) → (L → ℕ → ℕ → L) → (ℕ → F → M → Type 0) → ℕ → M → Tied L F → Tied L F → SendRefusal M → Type 0
  AfterSend letter marked fits to message s t (Spent back) = IsMark letter marked fits s.thread message back × IsSpent to s × (t ≡ s)
  AfterSend letter marked fits to message s t (Exited back) = IsMark letter marked fits s.thread message back × FindsClosed to s t
  AfterSend letter marked fits to message s t (NoMemory back) = IsMark letter marked fits s.thread message back × (t ≡ s)

  -- of a run for which the end has room
  abbrev pub AfterRun : ℕ → Vec M Global → Tied L F → Tied L F → SendRefusal (Vec M Global) → Type 0
  AfterRun to run s t (Spent back) = ⊥
  AfterRun to run s t (Exited back) = (back ≡ run) × FindsClosed to s t
  AfterRun to run s t (NoMemory back) = (back ≡ run) × (t ≡ s)
