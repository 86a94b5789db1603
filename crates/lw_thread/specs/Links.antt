-- A thread's ends, and what it has run.
use Rattle.std.specs.Prelude.{◌≡◌, ℕ, ◌+◌, ◌<◌, ◌≤◌, Bool, true, List, [], ◌∷◌, ◌++◌, length, take, reverse, vec_capacity, slice_index_or, slice_set}
use Rattle.std.specs.declared.alloc.Global.{Global}
use Rattle.std.specs.declared.vec.Vec.{Vec}
use Rattle.lw_base.specs.declared.message.Tag.{Tag}
use Rattle.lw_latch.specs.RingWord.{most_sent}
use Rattle.lw_ring.specs.Ends.{Sender, Receiver}
use Rattle.lw_ring.specs.Queue.{AllFit as AllFitRing}
use Rattle.lw_ring.specs.Settling.{all_sent}
use Rattle.lw_thread.specs.Acts.{Known}
use Rattle.lw_thread.specs.Threads.{AreItsEnds, WasRun}
use Rattle.lw_thread.specs.Polls.{most_taken, Takes}

pub record Tied (L F : Type 0) : Type 0 where
  pub thread : ℕ
  pub recv : Receiver L F
  pub ends : List (Sender L F)
  pub ran : List Tag
  pub left : List L

-- what is known of the thread: of what was taken, it has run as many as it keeps tags of
abbrev pub known_tied : {L F : Type 0} → Tied L F → Known L F
known_tied t = record { thread = t.thread; family = t.recv.family; ran = take (length t.ran) t.recv.taken; sent = all_sent t.ends }

-- the ends that are noted as those to exited threads have found their rings closed
abbrev pub AreGone : {L F : Type 0} → List Bool → List (Sender L F) → Type 0
AreGone {L} {F} gone es = (k : ℕ) (b : Bool) (d : Sender L F) → k < length es → slice_index_or gone k b ≡ true → 1 ≤ (slice_index_or es k d).found

-- what is kept of them
pub record AreTied {T L F : Type 0} (letter : T → L) (tag_of : L → Tag) (fits : ℕ → F → T → Type 0) (t : Tied L F) (ran : Vec Tag Global) (batch : Vec T Global) (gone : List Bool) : Type 0 where
  pub its_ends : AreItsEnds t.thread t.recv t.ends
  pub taken : WasRun tag_of t.recv.taken t.ran t.left
  pub batch_fits : AllFitRing letter tag_of fits t.recv.number t.recv.family t.recv.senders (reverse batch.items)
  -- the log has room for what was taken, and the batch for a poll's
  pub log_room : length ran.items + length batch.items ≤ vec_capacity ran
  pub batch_room : most_taken ≤ vec_capacity batch
  pub gone_count : length gone ≡ length t.ends
  pub gone_found : AreGone gone t.ends

-- a batch is taken
pub record Fills {T L F : Type 0} (letter : T → L) (tag_of : L → Tag) (fits : ℕ → F → T → Type 0) (s t : Tied L F) : Type 0 where
  pub took : Takes letter tag_of fits t.left s.recv t.recv
  pub rest : t ≡ record s { recv = t.recv; left = t.left }

-- the next message of the batch is run
pub record Nexts {L F : Type 0} (tag_of : L → Tag) (x : L) (s t : Tied L F) : Type 0 where
  pub first : s.left ≡ x ∷ t.left
  pub ran : t ≡ record s { ran = s.ran ++ tag_of x ∷ []; left = t.left }

-- an end's sent list grows by these letters, or nothing changes but how often it has found its ring closed
pub record Grows {L F : Type 0} (to : ℕ) (xs : List L) (s t : Tied L F) : Type 0 where
  pub end : Sender L F
  pub at : (d : Sender L F) → slice_index_or s.ends to d ≡ end
  pub not_exited : end.found ≡ 0
  pub room : length end.sent + length xs ≤ most_sent
  pub sent : t ≡ record s { ends = slice_set s.ends to (record end { sent = end.sent ++ xs }) }

pub record FindsClosed {L F : Type 0} (to : ℕ) (s t : Tied L F) : Type 0 where
  pub end : Sender L F
  pub at : (d : Sender L F) → slice_index_or s.ends to d ≡ end
  pub found : t ≡ record s { ends = slice_set s.ends to (record end { found = end.found + 1 }) }

-- a thread's messages in order, marked by it with the numbers from this one on
abbrev pub marked_from : {L : Type 0} → (L → ℕ → ℕ → L) → ℕ → ℕ → List L → List L
marked_from marked thread number [] = []
marked_from marked thread number (x ∷ xs) = marked x thread number ∷ marked_from marked thread (number + 1) xs
