-- What the parts of a poll keep, and what each of them does.
use Rattle.std.specs.Prelude.{◌≡◌, ◌⊎◌, ℕ, ◌+◌, ◌<◌, ◌≤◌, ◌↔◌, Bool, IsTrue, List, [], ◌∷◌, ◌++◌, length, map, All, Any, Option, Some, slice_index_or}
use Rattle.lw_base.specs.declared.message.Tag.{Tag}
use Rattle.lw_base.specs.Letters.{FitsRing}
use Rattle.lw_latch.specs.RingWord.{most_sent}
use Rattle.lw_ring.specs.Ends.{Sender}
use Rattle.lw_thread.specs.declared.body.Work.{Work}
use Rattle.lw_poller.specs.LocalDue.{begun}
use Rattle.lw_thread.specs.declared.stop.Polled.{Polled}
use Rattle.lw_thread.specs.declared.stop.Stop.{Stop}
use Rattle.lw_thread.specs.declared.stop.Stop.TheVariants as stop
use Rattle.lw_thread.specs.Acts.{Known, Asks, Post, ActsEnd, Doing, AllFit, asks_of, letters}
use Rattle.lw_thread.specs.Calls.{AreOf, Adds}
use Rattle.lw_thread.specs.Threads.{EndsStill}
use Rattle.lw_thread.specs.Links.{Tied, known_tied, Grows, FindsClosed, marked_from}
use Rattle.lw_thread.specs.Polls.{Takes, Flow, Tick, RunsAll, TicksActive, TicksTimed, Sends, SendsUntil, WasBusy}

module _ {L F M B : Type 0} where
  abbrev pub flow_tied : Tied L F → ActsEnd M → B → Flow L F M B
  flow_tied l a b = record { body = b; acts = a; ends = l.ends }

  -- between two calls of a poll: the acts are the thread's, what is to be sent fits, and the body is lawful
  pub record IsGoing (letter : M → L) (fits : ℕ → F → M → Type 0) (lawful : Known L F → Asks L → B → Type 0) (l : Tied L F) (a : ActsEnd M) (b : B) : Type 0 where
    pub of : AreOf (known_tied l) a
    pub all_fit : AllFit fits l.recv.family a.pending
    pub keeps : lawful (known_tied l) (asks_of letter a) b

  -- some sends were made
  pub record Posts (letter : M → L) (marked : L → ℕ → ℕ → L) (takes_back : ℕ → L → Doing M B → Doing M B → Type 0) (k l : Tied L F) (a c : ActsEnd M) (b d : B) : Type 0 where
    pub returned : List Bool
    pub sends : Sends k.thread letter marked takes_back returned (flow_tied k a b) (flow_tied l c d)

  -- some sends were made, until this reason stopped it
  pub record PostsUntil (letter : M → L) (marked : L → ℕ → ℕ → L) (takes_back : ℕ → L → Doing M B → Doing M B → Type 0) (k l : Tied L F) (a c : ActsEnd M) (b d : B) (why : Stop) : Type 0 where
    pub returned : List Bool
    pub sends : SendsUntil k.thread letter marked takes_back (Some why) returned (flow_tied k a b) (flow_tied l c d)

  -- some messages were run
  pub record RanBatch (tag_of : L → Tag) (runs : L → ℕ → Doing M B → Doing M B → Type 0) (now : ℕ) (worked : Bool) (k l : Tied L F) (a c : ActsEnd M) (b d : B) : Type 0 where
    pub run : List L
    pub all : k.left ≡ run
    pub each : RunsAll runs now run (flow_tied k a b) (flow_tied l c d)
    pub noted : l ≡ record k { ran = k.ran ++ map tag_of run; left = [] }
    pub had_run : IsTrue worked ↔ (1 ≤ length run)

  -- the active pollers were called, or the timed ones that are due
  pub record CalledActive (ticks : ℕ → ℕ → Work → Doing M B → Doing M B → Type 0) (now : ℕ) (busy : Bool) (k : Tied L F) (a c : ActsEnd M) (b d : B) : Type 0 where
    pub calls : List Tick
    pub each : TicksActive ticks now calls (flow_tied k a b) (flow_tied k c d)
    pub was_busy : IsTrue busy ↔ Any WasBusy calls

  pub record CalledTimed (ticks : ℕ → ℕ → Work → Doing M B → Doing M B → Type 0) (now : ℕ) (busy : Bool) (k : Tied L F) (a c : ActsEnd M) (b d : B) : Type 0 where
    pub calls : List Tick
    pub each : TicksTimed ticks now calls (flow_tied k a b) (flow_tied k c d)
    pub was_busy : IsTrue busy ↔ Any WasBusy calls

-- The links stay those of the same thread, with what it has taken and run; only what its ends have sent and found may change.
pub record IsSending {L F : Type 0} (k l : Tied L F) : Type 0 where
  pub ends : EndsStill k.ends l.ends
  pub rest : l ≡ record k { ends = l.ends }

-- the reason of a stop
abbrev pub HasStopped : {L F : Type 0} → Tied L F → Stop → Type 0
HasStopped l stop.NoMemory = Unit {0}
HasStopped {L} {F} l (stop.Spent to count) = (to < length l.ends) × (count ≡ most_sent) × ((d : Sender L F) → length (slice_index_or l.ends to d).sent ≡ count)

-- the first so many sends, all to this receiver, are taken out, and their messages marked with the numbers from this one on
pub record Gathers {M L : Type 0} (letter : M → L) (marked : L → ℕ → ℕ → L) (to thread first : ℕ) (run : List M) (old new : ActsEnd M) : Type 0 where
  pub taken : List (Post M)
  pub parts : old.pending ≡ taken ++ new.pending
  pub count : length run ≡ length taken
  pub all_to : All (λ p. p.to ≡ to) taken
  pub marks : (k : ℕ) (d : M) (p : Post M) → k < length run → letter (slice_index_or run k d) ≡ marked (letter (slice_index_or taken k p).what) thread (first + k)
  pub blank : All (λ p. letter p.what ≡ marked (letter p.what) 0 0) taken
  pub rest : new ≡ record old { pending = new.pending }

-- these messages are the first sends, in their order, without a sender and number
pub record PutsFirst {M L F : Type 0} (letter : M → L) (marked : L → ℕ → ℕ → L) (fits : ℕ → F → M → Type 0) (to : ℕ) (run : List M) (old new : ActsEnd M) : Type 0 where
  pub put : List (Post M)
  pub pending : new.pending ≡ put ++ old.pending
  pub count : length put ≡ length run
  pub all_to : All (λ p. p.to ≡ to) put
  pub blank : (k : ℕ) (d : M) (p : Post M) → k < length run → letter (slice_index_or put k p).what ≡ marked (letter (slice_index_or run k d)) 0 0
  pub all_fit : (r : ℕ) (f : Option F) → All (FitsRing fits r f) run → All (λ p. FitsRing fits r f p.what) put
  pub rest : new ≡ record old { pending = new.pending }

-- the sends were made: the letters stand last in the end's sent list, marked with the numbers that come next
pub record AreMade {M L F : Type 0} (letter : M → L) (marked : L → ℕ → ℕ → L) (to : ℕ) (posts behind : List (Post M)) (k l : Tied L F) (new : ActsEnd M) : Type 0 where
  pub end : Sender L F
  pub at : (d : Sender L F) → slice_index_or k.ends to d ≡ end
  pub grows : Grows to (marked_from marked k.thread (length end.sent) (map (λ p. letter p.what) posts)) k l
  pub left : new.pending ≡ behind

-- they came back: the same letters are the first to be sent again, and fit
pub record ComeBack {M L F : Type 0} (letter : M → L) (fits : ℕ → F → M → Type 0) (to : ℕ) (posts behind : List (Post M)) (k l : Tied L F) (new : ActsEnd M) : Type 0 where
  pub found : FindsClosed to k l
  pub again : List (Post M)
  pub pending : new.pending ≡ again ++ behind
  pub same : map (λ p. letter p.what) again ≡ map (λ p. letter p.what) posts
  pub all_to : All (λ p. p.to ≡ to) again
  pub all_fit : All (λ p. FitsRing fits to k.recv.family p.what) again

-- The first send, or the first so many that go to one receiver, are made, or come back and are the first again. Where they come
-- back their end has found its ring closed.
pub record SendsFirst {M L F : Type 0} (letter : M → L) (marked : L → ℕ → ℕ → L) (fits : ℕ → F → M → Type 0) (count : ℕ) (k l : Tied L F) (old new : ActsEnd M) : Type 0 where
  pub to : ℕ
  pub posts : List (Post M)
  pub behind : List (Post M)
  pub parts : old.pending ≡ posts ++ behind
  pub size : length posts ≡ count
  pub all_to : All (λ p. p.to ≡ to) posts
  pub rest : new ≡ record old { pending = new.pending }
  pub outcome : AreMade letter marked to posts behind k l new ⊎ ComeBack letter fits to posts behind k l new

-- the first send goes back to the body, and what that asks for is sent before all others
pub record TakesBack {L M B : Type 0} (letter : M → L) (takes_back : ℕ → L → Doing M B → Doing M B → Type 0) (a c : ActsEnd M) (b d : B) : Type 0 where
  pub first : Post M
  pub rest : List (Post M)
  pub pending : a.pending ≡ first ∷ rest
  pub done : Doing M B
  pub does : takes_back first.to (letter first.what) (record { body = b; acts = record a { pending = [] } }) done
  pub adds : Adds (record a { pending = [] }) done.acts
  pub body : d ≡ done.body
  pub acts : c ≡ record done.acts { pending = done.acts.pending ++ rest }

-- all but the first of the sends are still to be made, behind some others
pub record KeepsOthers {M : Type 0} (old new : ActsEnd M) : Type 0 where
  pub first : Post M
  pub rest : List (Post M)
  pub pending : old.pending ≡ first ∷ rest
  pub before : List (Post M)
  pub kept : new.pending ≡ before ++ rest

module _ {L F M B : Type 0} where
  -- a poll, over the thread's parts
  pub record PollsParts (letter : M → L) (tag_of : L → Tag) (fits : ℕ → F → M → Type 0) (marked : L → ℕ → ℕ → L) (runs : L → ℕ → Doing M B → Doing M B → Type 0) (ticks : ℕ → ℕ → Work → Doing M B → Doing M B → Type 0) (takes_back : ℕ → L → Doing M B → Doing M B → Type 0) (now : ℕ) (k l : Tied L F) (a c : ActsEnd M) (b d : B) (result : Polled) : Type 0 where
    pub batch : List L
    pub took : Takes letter tag_of fits batch k.recv l.recv
    pub ran : l.ran ≡ k.ran ++ map tag_of batch
    pub after_run : Flow L F M B
    pub active : List Tick
    pub after_active : Flow L F M B
    pub timed : List Tick
    pub after_timed : Flow L F M B
    pub returned : List Bool
    pub last : Flow L F M B
    pub run_each : RunsAll runs now batch (flow_tied k (record a { pollers = begun now a.pollers }) b) after_run
    pub call_active : TicksActive ticks now active after_run after_active
    pub call_timed : TicksTimed ticks now timed after_active after_timed
    pub send_all : Sends k.thread letter marked takes_back returned after_timed last
    pub worked : IsTrue result.worked ↔ ((1 ≤ length batch) ⊎ Any WasBusy (active ++ timed))
    pub started : result.started.items ≡ last.acts.started
    pub start_numbers : All (λ n. n < length k.ends) result.started.items
    pub body : d ≡ last.body
    pub acts : c ≡ record last.acts { started = [] }
    pub ends : l.ends ≡ last.ends

module _ {L F M B : Type 0} (letter : M → L) (tag_of : L → Tag) (fits : ℕ → F → M → Type 0) (marked : L → ℕ → ℕ → L) (runs : L → ℕ → Doing M B → Doing M B → Type 0) (ticks : ℕ → ℕ → Work → Doing M B → Doing M B → Type 0) (takes_back : ℕ → L → Doing M B → Doing M B → Type 0) where
  -- a poll until this reason stopped it while it made its sends, over the thread's parts
  pub record PartsUntil (now : ℕ) (k l : Tied L F) (a c : ActsEnd M) (b d : B) (why : Stop) : Type 0 where
    pub batch : List L
    pub took : Takes letter tag_of fits batch k.recv l.recv
    pub ran : l.ran ≡ k.ran ++ map tag_of batch
    pub none_left : l.left ≡ []
    pub after_run : Flow L F M B
    pub active : List Tick
    pub after_active : Flow L F M B
    pub timed : List Tick
    pub after_timed : Flow L F M B
    pub returned : List Bool
    pub run_each : RunsAll runs now batch (flow_tied k (record a { pollers = begun now a.pollers }) b) after_run
    pub call_active : TicksActive ticks now active after_run after_active
    pub call_timed : TicksTimed ticks now timed after_active after_timed
    pub send_some : SendsUntil k.thread letter marked takes_back (Some why) returned after_timed (flow_tied l c d)

  -- how far it came
  abbrev pub CameToParts : ℕ → Tied L F → Tied L F → ActsEnd M → ActsEnd M → B → B → Stop → Type 0
  CameToParts now k l a c b d stop.NoMemory = (l.ends ≡ k.ends) ⊎ PartsUntil now k l a c b d stop.NoMemory
  CameToParts now k l a c b d (stop.Spent to count) = PartsUntil now k l a c b d (stop.Spent to count)

module _ {L F M B : Type 0} (tag_of : L → Tag) (runs : L → ℕ → Doing M B → Doing M B → Type 0) where
  -- Of a batch, the first messages were run, each to its end, and then one whose handler stopped; the others are left.
  pub record RunsPart (now : ℕ) (k l : Tied L F) (a : ActsEnd M) (b : B) : Type 0 where
    pub done : List L
    pub last : L
    pub parts : k.left ≡ (done ++ last ∷ []) ++ l.left
    pub noted : l ≡ record k { ran = k.ran ++ map tag_of (done ++ last ∷ []); left = l.left }
    pub after_run : Flow L F M B
    pub run_each : RunsAll runs now done (flow_tied k a b) after_run

  -- a poll that stopped, over the thread's parts
  pub record StopsParts (letter : M → L) (fits : ℕ → F → M → Type 0) (now : ℕ) (k l : Tied L F) (a : ActsEnd M) (b : B) : Type 0 where
    pub batch : List L
    pub took : Takes letter tag_of fits batch k.recv l.recv ⊎ ((batch ≡ []) × (l.recv ≡ k.recv))
    pub done : List L
    pub last : List L
    pub one : length last ≤ 1
    pub parts : batch ≡ (done ++ last) ++ l.left
    pub whole : last ≡ [] → l.left ≡ []
    pub ran : l.ran ≡ k.ran ++ map tag_of (done ++ last)
    pub after_run : Flow L F M B
    pub run_each : RunsAll runs now done (flow_tied k (record a { pollers = begun now a.pollers }) b) after_run

-- some messages were taken, of which some were run
pub record TookParts {L F : Type 0} (tag_of : L → Tag) (k l : Tied L F) : Type 0 where
  pub batch : List L
  pub took : l.recv.taken ≡ k.recv.taken ++ batch
  pub run : List L
  pub parts : batch ≡ run ++ l.left
  pub ran : l.ran ≡ k.ran ++ map tag_of run

-- the thread, its ring and its ends' rings stay the same
pub record IsStillTied {L F : Type 0} (k l : Tied L F) : Type 0 where
  pub thread : l.thread ≡ k.thread
  pub recv : l.recv ≡ record k.recv { taken = l.recv.taken; hand = l.recv.hand }
  pub ends : EndsStill k.ends l.ends

-- the first send, to this end, isn't made, and all that were to be made still are
pub record AllWait {M L F : Type 0} (letter : M → L) (to : ℕ) (k l : Tied L F) (old new : ActsEnd M) : Type 0 where
  pub first : Post M
  pub rest : List (Post M)
  pub pending : old.pending ≡ first ∷ rest
  pub its_end : first.to ≡ to
  pub links : l ≡ k
  pub acts : new ≡ record old { pending = new.pending }
  pub unsent : letters letter new.pending ≡ letters letter old.pending

-- the first sends, all to one end, aren't made, and those behind them are still to be made
pub record OthersWait {M L F : Type 0} (k l : Tied L F) (old new : ActsEnd M) : Type 0 where
  pub to : ℕ
  pub first : List (Post M)
  pub rest : List (Post M)
  pub pending : old.pending ≡ first ++ rest
  pub its_end : All (λ p. p.to ≡ to) first
  pub before : List (Post M)
  pub unsent : new.pending ≡ before ++ rest
  pub ends : (l ≡ k) ⊎ FindsClosed to k l

-- what a send that isn't made leaves
abbrev pub StillWait : {M L F : Type 0} → (M → L) → Tied L F → Tied L F → ActsEnd M → ActsEnd M → Stop → Type 0
StillWait letter k l a c stop.NoMemory = OthersWait k l a c
StillWait letter k l a c (stop.Spent to count) = AllWait letter to k l a c
