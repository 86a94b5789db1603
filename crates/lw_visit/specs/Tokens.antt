-- What the tokens of for-each calls carry. A token goes to each thread from 0 on, in ascending order, and past those that run
-- no more.
use Rattle.std.specs.Prelude.{ℕ, ◌+◌, ◌<◌, if◌then◌else◌, List, [], ◌∷◌, ◌++◌, All}
use Rattle.std.specs.List.Sorted.{IsStrictlyIncreasing}
use Rattle.lw_base.specs.declared.message.Mark.{Mark}
use Rattle.lw_channel.specs.Channels.{Channels, holds, submitted_on}

-- the token of a visit: who began it, for which op, on which device; how many threads there are, and to which it goes, their
-- number once it is complete; the marks gathered so far
pub record Visit : Type 0 where
  pub origin : ℕ
  pub op : ℕ
  pub device : ℕ
  pub threads : ℕ
  pub goes_to : ℕ
  pub marks : List Mark

-- the token of a cast, with the threads that ran it so far
pub record Cast : Type 0 where
  pub origin : ℕ
  pub op : ℕ
  pub threads : ℕ
  pub goes_to : ℕ
  pub ran : List ℕ

-- a new token goes to thread 0
abbrev pub new_visit : ℕ → ℕ → ℕ → ℕ → Visit
new_visit origin op device threads = record { origin = origin; op = op; device = device; threads = threads; goes_to = 0; marks = [] }

abbrev pub new_cast : ℕ → ℕ → ℕ → Cast
new_cast origin op threads = record { origin = origin; op = op; threads = threads; goes_to = 0; ran = [] }

-- what a thread with this set adds to a visit of the device: a mark where it holds a channel, with what was submitted on it
abbrev pub marks_of : ℕ → ℕ → Channels → List Mark
marks_of here device set = if holds set device then record { thread = here; submitted = submitted_on set device } ∷ [] else []

-- a token that has passed a thread, which added these
abbrev pub visit_passed : List Mark → Visit → Visit
visit_passed marks t = record t { goes_to = t.goes_to + 1; marks = t.marks ++ marks }

abbrev pub cast_passed : List ℕ → Cast → Cast
cast_passed ran t = record t { goes_to = t.goes_to + 1; ran = t.ran ++ ran }

-- the thread of a mark
abbrev pub thread_of : Mark → ℕ
thread_of m = m.thread

-- threads in ascending order, each once at most, all below a bound
pub record AscendBelow (bound : ℕ) (threads : List ℕ) : Type 0 where
  pub ascending : IsStrictlyIncreasing threads
  pub below : All (λ t. t < bound) threads
