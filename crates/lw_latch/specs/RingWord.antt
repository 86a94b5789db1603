-- The word of a ring's latch: bits 0 to 15 count the senders inside, bit 16 is the closed bit, and the bits above count
-- the finished messages.
use Rattle.std.specs.Prelude.{◌≡◌, ◌≢◌, ℕ, ◌+◌, ◌-◌, ◌*◌, ◌/◌, ◌%◌, ◌≤◌, List, [], ◌∷◌}
use mathlib.Core.Option.{some}
use lib.ListN.{get_elem?}
use Rattle.atomic_table.specs.Table.{State, Me, Step}
use Rattle.lw_latch.specs.declared.ring_view.RingView.{RingView}
use Rattle.lw_base.specs.Totals.{total}
use Rattle.lw_latch.specs.OwnLine.{alone}

-- the most senders of a ring
abbrev pub most_senders : ℕ
most_senders = 127

-- the most messages that one sender finishes: 2^40
abbrev pub most_sent : ℕ
most_sent = 1099511627776

-- above what all senders of a ring finish together: 2^47
abbrev pub above_all_sent : ℕ
above_all_sent = 140737488355328

-- what the closed bit adds to the word: 2^16
abbrev pub closed_unit : ℕ
closed_unit = 65536

-- what one finished message adds to the word: 2^17
abbrev pub finished_unit : ℕ
finished_unit = 131072

abbrev pub parts : RingView → ℕ
parts v = v.parts

abbrev pub receives : RingView → ℕ
receives v = v.receives

abbrev pub inside : RingView → ℕ
inside v = v.inside

abbrev pub finished : RingView → ℕ
finished v = v.finished

abbrev pub closed : RingView → ℕ
closed v = v.closed

abbrev pub count : RingView → ℕ
count v = v.count

-- the word that the views make
abbrev pub word_of : List RingView → ℕ
word_of vs = total inside vs + closed_unit * total closed vs + finished_unit * total finished vs

-- what the rule says of one view of a latch that `shut` seats have closed
pub record Fits (shut : ℕ) (v : RingView) : Type 0 where
  -- only a sender is inside, and no sender finishes more than it may
  pub inside_parts : v.inside ≤ v.parts
  pub finished_parts : v.finished ≤ most_sent * v.parts
  -- only the receiver closes, and only then has a count
  pub closes : v.closed ≤ v.receives
  pub counts : v.closed ≡ 0 → v.count ≡ 0
  -- the latch was found closed only where it is, and who is inside a closed latch has found it closed
  pub found_closed : shut ≡ 0 → v.found ≡ 0
  pub inside_found : 1 ≤ shut → 1 ≤ v.inside → 1 ≤ v.found

-- the rule: the word is what the views make, and in a closed latch the finished messages are those it was closed at
pub record Latched (s : State (Unit {0}) RingView) : Type 0 where
  pub all_parts : total parts s.views ≡ most_senders
  pub one_receiver : total receives s.views ≡ 1
  pub word : s.words ≡ alone (word_of s.views)
  pub settled : 1 ≤ total closed s.views → total finished s.views ≡ total count s.views
  pub each : (i : ℕ) (v : RingView) → get_elem? s.views i ≡ some v → Fits (total closed s.views) v

-- a new latch's one view
abbrev pub first_view : RingView
first_view = record { parts = most_senders; receives = 1; inside = 0; finished = 0; found = 0; closed = 0; count = 0; tries = 0; seen = 0 }

-- the view of a seat that was joined away
abbrev pub spent_view : RingView
spent_view = record { parts = 0; receives = 0; inside = 0; finished = 0; found = 0; closed = 0; count = 0; tries = 0; seen = 0 }

-- a new sender's
abbrev pub sender_view : RingView
sender_view = record { parts = 1; receives = 0; inside = 0; finished = 0; found = 0; closed = 0; count = 0; tries = 0; seen = 0 }

-- the receiver's once one more sender is split off
abbrev pub less_one_part : RingView → RingView
less_one_part v = record v { parts = v.parts - 1 }

-- what two seats know together
abbrev pub joined : RingView → RingView → RingView
joined v w = record {
  parts = v.parts + w.parts;
  receives = v.receives + w.receives;
  inside = v.inside + w.inside;
  finished = v.finished + w.finished;
  found = v.found + w.found;
  closed = v.closed + w.closed;
  count = v.count + w.count;
  tries = v.tries + w.tries;
  seen = v.seen;
}

-- 1 where the word has the closed bit, else 0
abbrev pub closed_bit : ℕ → ℕ
closed_bit word = word / closed_unit % 2

-- a seat: its view, and the slots that it holds, none here
abbrev pub Sat : Type 0
Sat = Me (Unit {0}) RingView

abbrev pub view_of : Sat → RingView
view_of seat = seat.0

-- the seat with another view
abbrev pub with_view : Sat → RingView → Sat
with_view seat view = (view, seat.1)

-- What each kind of step tells, of the seat before it, the word that it found and the seat after it.

pub record Enters (step : Step (Unit {0})) (old : Sat) (word : ℕ) (new : Sat) : Type 0 where
  pub counts : new ≡ with_view old (record (view_of old) { inside = 1; found = (view_of old).found + closed_bit word })
  -- who finds it not closed has never found it closed
  pub never_found : closed_bit word ≡ 0 → (view_of old).found ≡ 0

abbrev pub Leaves : Step (Unit {0}) → Sat → ℕ → Sat → Type 0
Leaves step old word new = new ≡ with_view old (record (view_of old) { inside = 0 })

abbrev pub Finishes : Step (Unit {0}) → Sat → ℕ → Sat → Type 0
Finishes step old word new = new ≡ with_view old (record (view_of old) { inside = 0; finished = (view_of old).finished + (step.first + 1) / finished_unit })

-- the word is the one that was asked for, and the latch is closed at its count; or it is another, and that is noted
pub record TriesToClose (step : Step (Unit {0})) (old : Sat) (word : ℕ) (new : Sat) : Type 0 where
  pub closes : word ≡ step.first → new ≡ with_view old (record (view_of old) { closed = 1; count = step.first / finished_unit })
  pub in_vain : word ≢ step.first → new ≡ with_view old (record (view_of old) { tries = (view_of old).tries + 1; seen = word })

-- what the word says to a seat that stands for all senders: it is the seat's own, a closed latch was closed at what was
-- finished, and a latch that was found closed is
pub record Tells (view : RingView) (word : ℕ) : Type 0 where
  pub own : word ≡ word_of (view ∷ [])
  pub settled : 1 ≤ view.closed → view.finished ≡ view.count
  pub found : 1 ≤ view.found → view.closed ≡ 1

pub record Learns (step : Step (Unit {0})) (old : Sat) (word : ℕ) (new : Sat) : Type 0 where
  pub same : new ≡ old
  pub tells : (view_of old).parts ≡ most_senders → (view_of old).receives ≡ 1 → Tells (view_of old) word
