-- The lines of threads, by the number of their first.
use Rattle.std.specs.Prelude.{ℕ, ◌+◌, ◌≡◌, ◌<◌, ◌^◌, List, length, Some, slice_get}
use Rattle.lw_model.specs.declared.record.Record.{Record}
use Rattle.lw_model.specs.declared.record.ThreadRecord.{ThreadRecord}
use Rattle.lw_model.specs.declared.step.Step.{Step}
use Rattle.lw_model.specs.declared.step.Step.TheVariants as step
use Rattle.lw_model.specs.Lines.{size_of, thread_line, hop_line, ran_line, did_line, called_line, reply_line, seen_line, device_line, clock_line, home_line}
use Rattle.lw_model.specs.Threads.{did_of}
use Rattle.lw_judge_threads.specs.declared.lines.ThreadLines.{ThreadLines}
use Rattle.lw_judge_threads.specs.declared.lines.Layout.{Layout}

-- the lines of a thread, from the number of its first
pub record AreLines (x : ThreadRecord) (first : ℕ) (l : ThreadLines) : Type 0 where
  pub thread : l.thread ≡ first
  pub hops : l.hops ≡ first + 1
  pub ran : l.ran ≡ first + 1 + length x.hops
  pub did : l.did ≡ l.ran + length x.ran
  pub called : l.called ≡ l.did + length x.did
  pub replies : l.replies ≡ l.called + length x.called
  pub seen : l.seen ≡ l.replies + length x.replies
  pub behind : l.behind ≡ l.seen + length x.seen

-- these are the lines of thread t of the record
pub record StandsAt (r : Record) (t : ℕ) (l : ThreadLines) : Type 0 where
  pub thread : l.thread ≡ thread_line r t
  pub hops : l.hops ≡ hop_line r t 0
  pub ran : l.ran ≡ ran_line r t 0
  pub did : l.did ≡ did_line r t 0
  pub called : l.called ≡ called_line r t 0
  pub replies : l.replies ≡ reply_line r t 0
  pub seen : l.seen ≡ seen_line r t 0
  pub behind : l.behind ≡ thread_line r (t + 1)
  pub follow : seen_line r t (size_of (λ x. x.seen) r t) ≡ thread_line r (t + 1)
  pub few : thread_line r (t + 1) < 2 ^ 64

-- these are the lines of all threads
pub record AreThreadLines (r : Record) (ls : List ThreadLines) : Type 0 where
  pub count : length ls ≡ length r.threads
  pub each : (t : ℕ) (l : ThreadLines) → slice_get ls t ≡ Some l → StandsAt r t l

-- a `did` line that the step tells of is there
abbrev pub IsPlaced : Record → ℕ → Step → Type 0
IsPlaced r t (step.Did i x) = i < length (did_of r t)
IsPlaced r t _ = Unit {0}

-- where a record's lines stand
pub record IsLayout (r : Record) (l : Layout) : Type 0 where
  pub threads : AreThreadLines r l.threads.items
  pub devices : l.devices ≡ device_line r 0
  pub clock : l.clock ≡ clock_line r
  pub home : l.home ≡ home_line r
  pub few : clock_line r < 2 ^ 64
