-- Which pollers a poll of a light thread calls, seen from the set of its pollers.
use Rattle.std.specs.Prelude.{◌≡◌, ℕ, Bool, true, false, List, [], ◌∷◌, ◌++◌, map, Option, Some, None}
use Rattle.lw_base.specs.declared.message.Tag.{Tag}
use Rattle.lw_poller.specs.Pollers.{Pollers, times}
use Rattle.lw_poller.specs.OnePoll.{Call, AreCalls, GivenOnce, IsPaused, NeverGiven, all_but, all_numbers}
use Rattle.lw_thread.specs.declared.body.Work.{Work}
use Rattle.lw_thread.specs.declared.stop.Polled.{Polled}
use Rattle.lw_thread.specs.Acts.{Doing}
use Rattle.lw_thread.specs.Polls.{Flow, Tick, RunsAll, TicksActive, TicksTimed, Sends, Polls, opened, with_doing, with_pending, one_more}
use Rattle.lw_thread.specs.Threads.{Thread}

-- a call that gives no poller
abbrev pub gives_none : Pollers → Call
gives_none u = record { after = u; given = None }

-- the call that gives the poller of this number
abbrev pub gives : ℕ → Pollers → Call
gives number u = record { after = u; given = Some number }

-- The calls on the set of pollers that a poll makes are these, in order: each change that its body makes while a message is run, a
-- poller is called or a send comes back, and before each call of a poller the one that gives it.
module _ {L F M B : Type 0} where
  abbrev pub calls_running : (runs : L → ℕ → Doing M B → Doing M B → Type 0) (now : ℕ) (xs : List L) (s t : Flow L F M B) → RunsAll runs now xs s t → List Call
  calls_running runs now [] s t c = []
  calls_running runs now (x ∷ xs) s t c =
      let u : Doing M B = c.0 in
      map gives_none c.2.changes ++ calls_running runs now xs (with_doing s (record u { acts = one_more u.acts })) t c.3

  module _ (ticks : ℕ → ℕ → Work → Doing M B → Doing M B → Type 0) where
    abbrev pub calls_active : (now : ℕ) (cs : List Tick) (s t : Flow L F M B) → TicksActive ticks now cs s t → List Call
    calls_active now [] s t c = []
    calls_active now (x ∷ xs) s t c = gives x.poller c.2 ∷ map gives_none c.6.changes ++ calls_active now xs (with_doing s c.4) t c.7

    abbrev pub calls_timed : (now : ℕ) (cs : List Tick) (s t : Flow L F M B) → TicksTimed ticks now cs s t → List Call
    calls_timed now [] s t c = []
    calls_timed now (x ∷ xs) s t c = gives x.poller c.2 ∷ map gives_none c.6.changes ++ calls_timed now xs (with_doing s c.4) t c.7

  module _ (thread : ℕ) (letter : M → L) (marked : L → ℕ → ℕ → L) (takes_back : ℕ → L → Doing M B → Doing M B → Type 0) where
    abbrev pub calls_sending : (bs : List Bool) (s t : Flow L F M B) → Sends thread letter marked takes_back bs s t → List Call
    calls_sending [] s t c = []
    calls_sending (false ∷ bs) s t c = calls_sending bs (record (with_pending s c.1) { ends = c.3 }) t c.5
    calls_sending (true ∷ bs) s t c =
        let u : Doing M B = c.5 in
        map gives_none c.7.changes ++ calls_sending bs (record { body = u.body; acts = record u.acts { pending = u.acts.pending ++ c.1 }; ends = c.3 }) t c.8

module _ {L F M B : Type 0} {letter : M → L} {tag_of : L → Tag} {fits : ℕ → F → M → Type 0} {marked : L → ℕ → ℕ → L} {runs : L → ℕ → Doing M B → Doing M B → Type 0} {ticks : ℕ → ℕ → Work → Doing M B → Doing M B → Type 0} {takes_back : ℕ → L → Doing M B → Doing M B → Type 0} {now : ℕ} {old new : Thread L F M B} {result : Polled} where
  abbrev pub calls_of : Polls letter tag_of fits marked runs ticks takes_back now old new result → List Call
  calls_of p =
      calls_running runs now p.batch (opened now old) p.after_run p.run_each
      ++ calls_active ticks now p.active p.after_run p.after_active p.call_active
      ++ calls_timed ticks now p.timed p.after_active p.after_timed p.call_timed
      ++ calls_sending old.seat.thread letter marked takes_back p.returned p.after_timed p.last p.send_all

-- the pollers after these calls
abbrev pub after_calls : Pollers → List Call → Pollers
after_calls s [] = s
after_calls s (c ∷ cs) = after_calls c.after cs

-- the number that a call gives, before others
abbrev pub and_given : Option ℕ → List ℕ → List ℕ
and_given None ns = ns
and_given (Some n) ns = n ∷ ns

-- the numbers of the pollers that these calls give, in order
abbrev pub given_by : List Call → List ℕ
given_by [] = []
given_by (c ∷ cs) = and_given c.given (given_by cs)

-- These calls of one poll lead from pollers to pollers, and give those of these numbers in order. Each is given once at most. One
-- of whose number there is no live poller before the first of them or after any isn't given from then on, so neither one that is
-- added in the poll nor one that is removed in it; nor is one that is paused at such a time, unless a later call resumes it.
pub record CallsPollers (s : Pollers) (calls : List Call) (numbers : List ℕ) (t : Pollers) : Type 0 where
  pub each : AreCalls all_numbers s calls
  pub last : after_calls s calls ≡ t
  pub given : given_by calls ≡ numbers
  pub once : GivenOnce calls
  pub absent : (before after : List Call) (number : ℕ) → calls ≡ before ++ after → times number (after_calls s before) ≡ 0 → NeverGiven number after
  pub paused : (before after : List Call) (number : ℕ) → calls ≡ before ++ after → AreCalls (all_but number) (after_calls s before) after → IsPaused number (after_calls s before) → NeverGiven number after
