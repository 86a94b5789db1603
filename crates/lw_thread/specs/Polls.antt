-- What one poll of a light thread does.
use Rattle.std.specs.Prelude.{◌≡◌, ◌⊎◌, ℕ, ◌+◌, ◌<◌, ◌≤◌, ◌↔◌, Bool, true, false, IsTrue, List, [], ◌∷◌, ◌++◌, length, map, All, Any, Option, Some, None, slice_index_or, slice_set}
use Rattle.lw_base.specs.declared.message.Tag.{Tag}
use Rattle.lw_latch.specs.RingWord.{most_sent}
use Rattle.lw_ring.specs.Ends.{Sender, Receiver}
use Rattle.lw_ring.specs.Calls.{InTurn, EmptyAt}
use Rattle.lw_poller.specs.Pollers.{Pollers}
use Rattle.lw_poller.specs.LocalDue.{begun, IsNextActive, NoneActive, IsNextTimed, NoneDue}
use Rattle.lw_poller.specs.Changes.{GivesActive, GivesTimed}
use Rattle.lw_thread.specs.declared.body.Work.{Work}
use Rattle.lw_thread.specs.declared.body.Work.TheVariants as work
use Rattle.lw_thread.specs.declared.stop.Stop.{Stop}
use Rattle.lw_thread.specs.declared.stop.Stop.TheVariants as stop
use Rattle.lw_thread.specs.declared.stop.Polled.{Polled}
use Rattle.lw_thread.specs.Acts.{Post, ActsEnd, Doing, letters}
use Rattle.lw_thread.specs.Calls.{Adds}
use Rattle.lw_thread.specs.Threads.{Thread}

-- how many messages a poll takes at most
abbrev pub most_taken : ℕ
most_taken = 8

-- One take of at most 8 messages: those in hand before the others, in turn. Fewer than 8 come only where nothing was left in
-- hand and at one moment nothing waited.
pub record Takes {T L F : Type 0} (letter : T → L) (tag_of : L → Tag) (fits : ℕ → F → T → Type 0) (batch : List L) (old new : Receiver L F) : Type 0 where
  pub few : length batch ≤ most_taken
  pub taken : new ≡ record old { taken = old.taken ++ batch; hand = new.hand }
  pub order : InTurn old.hand batch new.hand
  pub fewer : length batch < most_taken → (new.hand ≡ []) × EmptyAt letter tag_of fits new
  pub in_hand : most_taken ≤ length old.hand → old.hand ≡ batch ++ new.hand

-- where a poll is: the body, what it asked for, and the thread's ends
pub record Flow (L F M B : Type 0) : Type 0 where
  pub body : B
  pub acts : ActsEnd M
  pub ends : List (Sender L F)

-- a call of a poller, and what it answered
pub record Tick : Type 0 where
  pub poller : ℕ
  pub work : Work

-- whom a call called
abbrev pub ticked : Tick → ℕ
ticked c = c.poller

-- one more message was run
abbrev pub one_more : {M : Type 0} → ActsEnd M → ActsEnd M
one_more a = record a { ran = a.ran + 1 }

-- the same ends, which may have found their rings closed more often
abbrev pub FindMore : {L F : Type 0} → List (Sender L F) → List (Sender L F) → Type 0
FindMore {L} {F} es fs = (length fs ≡ length es) × ((k : ℕ) (d : Sender L F) → k < length es
    → (n : ℕ) × ((slice_index_or es k d).found ≤ n) × (slice_index_or fs k d ≡ record (slice_index_or es k d) { found = n }))

module _ {L F M B : Type 0} where
  abbrev pub doing : Flow L F M B → Doing M B
  doing s = record { body = s.body; acts = s.acts }

  abbrev pub with_doing : Flow L F M B → Doing M B → Flow L F M B
  with_doing s u = record s { body = u.body; acts = u.acts }

  abbrev pub with_pollers : Flow L F M B → Pollers → Flow L F M B
  with_pollers s ps = record s { acts = record s.acts { pollers = ps } }

  abbrev pub with_pending : Flow L F M B → List (Post M) → Flow L F M B
  with_pending s ps = record s { acts = record s.acts { pending = ps } }

  abbrev pub flow_of : Thread L F M B → Flow L F M B
  flow_of t = record { body = t.body; acts = t.acts; ends = t.ends }

  -- the pollers' turn begins at this time
  abbrev pub opened : ℕ → Thread L F M B → Flow L F M B
  opened now t = with_pollers (flow_of t) (begun now t.acts.pollers)

  -- The messages are run, one after the other.
  module _ (runs : L → ℕ → Doing M B → Doing M B → Type 0) where
    abbrev pub RunsAll : ℕ → List L → Flow L F M B → Flow L F M B → Type 0
    RunsAll now [] s t = t ≡ s
    RunsAll now (x ∷ xs) s t =
        (u : Doing M B) × runs x now (doing s) u × Adds s.acts u.acts
        × RunsAll now xs (with_doing s (record u { acts = one_more u.acts })) t

  -- The pollers are called, one after the other: each is the next one by the pollers as they are then, and after the last there
  -- is none.
  module _ (ticks : ℕ → ℕ → Work → Doing M B → Doing M B → Type 0) where
    abbrev pub TicksActive : ℕ → List Tick → Flow L F M B → Flow L F M B → Type 0
    TicksActive now [] s t = NoneActive s.acts.pollers × (t ≡ s)
    TicksActive now (c ∷ cs) s t =
        (place : ℕ) × IsNextActive s.acts.pollers place
        × (ps : Pollers) × GivesActive place c.poller s.acts.pollers ps
        × (u : Doing M B) × ticks c.poller now c.work (doing (with_pollers s ps)) u
        × Adds (with_pollers s ps).acts u.acts
        × TicksActive now cs (with_doing s u) t

    abbrev pub TicksTimed : ℕ → List Tick → Flow L F M B → Flow L F M B → Type 0
    TicksTimed now [] s t = NoneDue s.acts.pollers × (t ≡ s)
    TicksTimed now (c ∷ cs) s t =
        (place : ℕ) × IsNextTimed s.acts.pollers place
        × (ps : Pollers) × GivesTimed place c.poller s.acts.pollers ps
        × (u : Doing M B) × ticks c.poller now c.work (doing (with_pollers s ps)) u
        × Adds (with_pollers s ps).acts u.acts
        × TicksTimed now cs (with_doing s u) t

  -- The sends are made in order. Each is accepted, or comes back because its receiver has exited; then it goes to the body, and
  -- what that asks for is sent before all others.
  module _ (thread : ℕ) (letter : M → L) (marked : L → ℕ → ℕ → L) (takes_back : ℕ → L → Doing M B → Doing M B → Type 0) where
    -- the first send is accepted: it stands last in its end's sent list, under the number that comes next
    pub record IsAccepted (p : Post M) (es fs : List (Sender L F)) : Type 0 where
      pub end : Sender L F
      pub to : (d : Sender L F) → slice_index_or es p.to d ≡ end
      pub room : length end.sent < most_sent
      pub not_exited : end.found ≡ 0
      pub sent : fs ≡ slice_set es p.to (record end { sent = end.sent ++ marked (letter p.what) thread (length end.sent) ∷ [] })

    -- the first send comes back: its end has found the receiver's ring closed
    pub record IsReturned (p : Post M) (es fs : List (Sender L F)) : Type 0 where
      pub end : Sender L F
      pub to : (d : Sender L F) → slice_index_or es p.to d ≡ end
      pub found : ℕ
      pub closed : 1 ≤ found
      pub no_less : end.found ≤ found
      pub same : fs ≡ slice_set es p.to (record end { found = found })

    -- the next send goes to this end and isn't made: it is still to be made, as are all behind it, and nothing else was done
    pub record IsRefused (to : ℕ) (s t : Flow L F M B) : Type 0 where
      pub next : Post M
      pub rest : List (Post M)
      pub pending : s.acts.pending ≡ next ∷ rest
      pub its_end : next.to ≡ to
      pub unsent : letters letter t.acts.pending ≡ letters letter s.acts.pending
      pub body : t.body ≡ s.body
      pub acts : t.acts ≡ record s.acts { pending = t.acts.pending }
      pub ends : FindMore s.ends t.ends

    -- The next sends, all to one end, aren't made for want of memory. Those behind them are still to be made, in order; what
    -- stands before these isn't told, nor what became of the body.
    pub record IsCutShort (s t : Flow L F M B) : Type 0 where
      pub to : ℕ
      pub next : List (Post L)
      pub rest : List (Post L)
      pub pending : letters letter s.acts.pending ≡ next ++ rest
      pub its_end : All (λ p. p.to ≡ to) next
      pub before : List (Post L)
      pub unsent : letters letter t.acts.pending ≡ before ++ rest
      pub ends : FindMore s.ends t.ends

    -- how the sends end: all are made, or why not
    abbrev pub SendsEnd : Option Stop → Flow L F M B → Flow L F M B → Type 0
    SendsEnd None s t = (s.acts.pending ≡ []) × (t ≡ s)
    SendsEnd (Some stop.NoMemory) s t = IsCutShort s t
    SendsEnd (Some (stop.Spent to count)) s t = IsRefused to s t

    -- which of the sends came back, in order, how the sends end, and how far the poll is then
    abbrev pub SendsUntil : Option Stop → List Bool → Flow L F M B → Flow L F M B → Type 0
    SendsUntil why [] s t = SendsEnd why s t
    SendsUntil why (false ∷ bs) s t =
        (p : Post M) × (rest : List (Post M)) × (s.acts.pending ≡ p ∷ rest)
        × (es : List (Sender L F)) × IsAccepted p s.ends es
        × SendsUntil why bs (record (with_pending s rest) { ends = es }) t
    SendsUntil why (true ∷ bs) s t =
        (p : Post M) × (rest : List (Post M)) × (s.acts.pending ≡ p ∷ rest)
        × (es : List (Sender L F)) × IsReturned p s.ends es
        × (u : Doing M B) × takes_back p.to (letter p.what) (doing (with_pending s [])) u
        × Adds (with_pending s []).acts u.acts
        × SendsUntil why bs (record { body = u.body; acts = record u.acts { pending = u.acts.pending ++ rest }; ends = es }) t

    -- all of them are made, or come back
    abbrev pub Sends : List Bool → Flow L F M B → Flow L F M B → Type 0
    Sends bs s t = SendsUntil None bs s t

-- a poller that found work
abbrev pub WasBusy : Tick → Type 0
WasBusy c = c.work ≡ work.Busy

module _ {L F M B : Type 0} (letter : M → L) (tag_of : L → Tag) (fits : ℕ → F → M → Type 0) (marked : L → ℕ → ℕ → L) (runs : L → ℕ → Doing M B → Doing M B → Type 0) (ticks : ℕ → ℕ → Work → Doing M B → Doing M B → Type 0) (takes_back : ℕ → L → Doing M B → Doing M B → Type 0) where
  -- one poll at this time: it takes some messages and runs them, calls the active pollers, then the timed ones that are due, and
  -- makes the sends that all of this asked for
  pub record Polls (now : ℕ) (old new : Thread L F M B) (result : Polled) : Type 0 where
    pub batch : List L
    pub took : Takes letter tag_of fits batch old.recv new.recv
    pub ran : new.ran ≡ old.ran ++ map tag_of batch
    pub after_run : Flow L F M B
    pub active : List Tick
    pub after_active : Flow L F M B
    pub timed : List Tick
    pub after_timed : Flow L F M B
    pub returned : List Bool
    pub last : Flow L F M B
    pub run_each : RunsAll runs now batch (opened now old) after_run
    pub call_active : TicksActive ticks now active after_run after_active
    pub call_timed : TicksTimed ticks now timed after_active after_timed
    pub send_all : Sends old.seat.thread letter marked takes_back returned after_timed last
    pub worked : IsTrue result.worked ↔ ((1 ≤ length batch) ⊎ Any WasBusy (active ++ timed))
    pub started : result.started.items ≡ last.acts.started
    pub start_numbers : All (λ n. n < length old.ends) result.started.items
    pub body : new.body ≡ last.body
    pub acts : new.acts ≡ record last.acts { started = [] }
    pub ends : new.ends ≡ last.ends

-- why a poll stopped: want of memory, or an end that has sent all that it can
abbrev pub IsStop : {L F M B : Type 0} → Thread L F M B → Stop → Type 0
IsStop t stop.NoMemory = Unit {0}
IsStop {L} {F} t (stop.Spent to count) = (to < length t.ends) × (count ≡ most_sent) × ((d : Sender L F) → length (slice_index_or t.ends to d).sent ≡ count)

module _ {L F M B : Type 0} (letter : M → L) (tag_of : L → Tag) (fits : ℕ → F → M → Type 0) (runs : L → ℕ → Doing M B → Doing M B → Type 0) where
  -- After a Stop: messages were taken, if there was memory for the log. Of these the first were run, each to its end; then one,
  -- whose handler stopped; the rest stays in the thread. Where no handler stopped there is no rest.
  pub record Stops (now : ℕ) (old new : Thread L F M B) : Type 0 where
    pub batch : List L
    pub took : Takes letter tag_of fits batch old.recv new.recv ⊎ ((batch ≡ []) × (new.recv ≡ old.recv))
    pub done : List L
    pub last : List L
    pub one : length last ≤ 1
    pub parts : batch ≡ (done ++ last) ++ new.left
    pub whole : last ≡ [] → new.left ≡ []
    pub ran : new.ran ≡ old.ran ++ map tag_of (done ++ last)
    pub after_run : Flow L F M B
    pub run_each : RunsAll runs now done (opened now old) after_run

-- One poll until this reason stopped it while it made its sends: it took and ran messages and called the pollers as `Polls` says.
module _ {L F M B : Type 0} (letter : M → L) (tag_of : L → Tag) (fits : ℕ → F → M → Type 0) (marked : L → ℕ → ℕ → L) (runs : L → ℕ → Doing M B → Doing M B → Type 0) (ticks : ℕ → ℕ → Work → Doing M B → Doing M B → Type 0) (takes_back : ℕ → L → Doing M B → Doing M B → Type 0) where
  pub record PollsUntil (now : ℕ) (old new : Thread L F M B) (why : Stop) : Type 0 where
    pub batch : List L
    pub took : Takes letter tag_of fits batch old.recv new.recv
    pub ran : new.ran ≡ old.ran ++ map tag_of batch
    pub none_left : new.left ≡ []
    pub after_run : Flow L F M B
    pub active : List Tick
    pub after_active : Flow L F M B
    pub timed : List Tick
    pub after_timed : Flow L F M B
    pub returned : List Bool
    pub run_each : RunsAll runs now batch (opened now old) after_run
    pub call_active : TicksActive ticks now active after_run after_active
    pub call_timed : TicksTimed ticks now timed after_active after_timed
    pub send_some : SendsUntil old.seat.thread letter marked takes_back (Some why) returned after_timed (flow_of new)

  -- How far a poll came that stopped. An end is spent only when a send is made; memory may be wanting before any is.
  abbrev pub CameTo : ℕ → Thread L F M B → Thread L F M B → Stop → Type 0
  CameTo now old new stop.NoMemory = (new.ends ≡ old.ends) ⊎ PollsUntil now old new stop.NoMemory
  CameTo now old new (stop.Spent to count) = PollsUntil now old new (stop.Spent to count)
