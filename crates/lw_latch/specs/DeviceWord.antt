-- The word of a device's latch: bits 0 to 15 count the open channels and visits, bit 16 is the shut bit, bit 17 the fired
-- bit, and bits 18 to 63 count the channels given.
use Rattle.std.specs.Prelude.{◌≡◌, ◌≢◌, ℕ, ◌+◌, ◌-◌, ◌*◌, ◌/◌, ◌%◌, ◌<◌, ◌≤◌, ◌==◌, if◌then◌else◌, List, [], ◌∷◌, ◌++◌, length}
use mathlib.Core.Option.{some}
use lib.ListN.{get_elem?}
use Rattle.atomic_table.specs.Table.{State, Me, Step}
use Rattle.lw_latch.specs.declared.device_view.DeviceView.{DeviceView}
use Rattle.lw_base.specs.Totals.{total, times}
use Rattle.lw_latch.specs.OwnLine.{alone}

-- the most seats of a latch
abbrev pub most_seats : ℕ
most_seats = 127

-- how often one seat calls `give` at most: 2^38
abbrev pub most_gives : ℕ
most_gives = 274877906944

-- above every count of given channels that fits the word: 2^46
abbrev pub above_all_given : ℕ
above_all_given = 70368744177664

-- what an open channel or visit adds to the word
abbrev pub open_unit : ℕ
open_unit = 1

-- what the shut bit adds to it, above the 16 bits that count what is open: 2^16
abbrev pub shut_unit : ℕ
shut_unit = 65536

-- what the fired bit adds to it: 2^17
abbrev pub fired_unit : ℕ
fired_unit = 131072

-- what a channel that was given adds to it: 2^18
abbrev pub given_unit : ℕ
given_unit = 262144

-- what a give adds to it: a channel, which is given and open
abbrev pub giving : ℕ
giving = given_unit + open_unit

abbrev pub seats : DeviceView → ℕ
seats v = v.seats

-- how many channels a view was given
abbrev pub given_count : DeviceView → ℕ
given_count v = length v.ordinals

abbrev pub backing_count : DeviceView → ℕ
backing_count v = v.backing

abbrev pub begun_count : DeviceView → ℕ
begun_count v = v.begun

abbrev pub count : DeviceView → ℕ
count v = v.count

abbrev pub opens : DeviceView → ℕ
opens v = v.opens

abbrev pub opens_then : DeviceView → ℕ
opens_then v = v.opens_then

abbrev pub fired_count : DeviceView → ℕ
fired_count v = v.fired

-- how many channels and visits a view has
abbrev pub held_count : DeviceView → ℕ
held_count v = v.channel + v.visit

-- what a view counts among the open ones: what it has, and what it is taking back
abbrev pub open_count : DeviceView → ℕ
open_count v = v.channel + v.visit + v.backing + v.leaving

-- how often a view was given an ordinal
abbrev pub times_given : ℕ → DeviceView → ℕ
times_given k v = times k v.ordinals

-- the word that the views make
abbrev pub device_word : List DeviceView → ℕ
device_word vs = open_unit * total open_count vs + shut_unit * total begun_count vs + fired_unit * total fired_count vs + given_unit * (total given_count vs + total backing_count vs)

-- what the rule says of one view of a latch of so many seats, which `shut` of them have shut
pub record Suits (all shut : ℕ) (v : DeviceView) : Type 0 where
  pub of_latch : 1 ≤ v.seats → v.all ≡ all
  -- a seat has at most one channel and one visit, or takes one back
  pub one_channel : v.channel + v.backing ≤ v.seats
  pub one_visit : v.visit + v.leaving ≤ v.seats
  -- each seat calls `give` so often at most
  pub few_gives : v.gives ≤ most_gives
  pub few_given : 1 ≤ v.seats → length v.ordinals + most_gives ≤ v.gives + most_gives * v.seats
  -- a view that was joined away has nothing
  pub none_given : v.seats ≡ 0 → (length v.ordinals ≡ 0) × (v.opens ≡ 0)
  -- who began alone keeps what was so then, and who fired began
  pub began : v.begun ≤ v.seats
  pub counts : v.begun ≡ 0 → (v.count ≡ 0) × (v.opens_then ≡ 0)
  pub fired_begun : v.fired ≤ v.begun
  -- the latch was found shut only where it is, and before it is nobody takes anything back
  pub found_shut : shut ≡ 0 → v.found ≡ 0
  pub backing_shut : shut ≡ 0 → v.backing + v.leaving ≡ 0

-- the rule: the word is what the views make; the ordinals of the channels given are 0, 1, 2, .., each once; one seat at
-- most shuts the latch; from then on nothing is given, and nobody finds it open; it fires once, with nothing open
pub record Tied (all : ℕ) (s : State (Unit {0}) DeviceView) : Type 0 where
  pub few : all ≤ most_seats
  pub all_seats : total seats s.views ≡ all
  pub word : s.words ≡ alone (device_word s.views)
  pub one_begun : total begun_count s.views ≤ 1
  pub settled : 1 ≤ total begun_count s.views → total given_count s.views ≡ total count s.views
  pub before : 1 ≤ total begun_count s.views → total opens s.views ≡ total opens_then s.views
  pub quiet : 1 ≤ total fired_count s.views → total held_count s.views ≡ 0
  pub once : (k : ℕ) → k < total given_count s.views → total (times_given k) s.views ≡ 1
  pub none_else : (k : ℕ) → total given_count s.views ≤ k → total (times_given k) s.views ≡ 0
  pub each : (i : ℕ) (v : DeviceView) → get_elem? s.views i ≡ some v → Suits all (total begun_count s.views) v

-- a view that has done nothing, of a latch of so many seats, which stands for some of them
abbrev pub idle_view : ℕ → ℕ → DeviceView
idle_view all seats = record { all = all; seats = seats; ordinals = []; gives = 0; channel = 0; visit = 0; backing = 0; leaving = 0; looks = 0; found = 0; opens = 0; begun = 0; count = 0; opens_then = 0; fired = 0; tries = 0; seen = 0 }

-- a new latch's one view stands for all seats
abbrev pub first_view : ℕ → DeviceView
first_view all = idle_view all all

-- the view of a seat that was joined away
abbrev pub spent_device : DeviceView
spent_device = idle_view 0 0

-- one seat is split off
abbrev pub one_seat : DeviceView → DeviceView
one_seat v = idle_view v.all 1

abbrev pub less_one_seat : DeviceView → DeviceView
less_one_seat v = record v { seats = v.seats - 1 }

-- what two seats know together; of its own calls each seat counts its own
abbrev pub both_views : DeviceView → DeviceView → DeviceView
both_views v w = record {
  all = v.all;
  seats = v.seats + w.seats;
  ordinals = v.ordinals ++ w.ordinals;
  gives = v.gives;
  channel = v.channel + w.channel;
  visit = v.visit + w.visit;
  backing = v.backing + w.backing;
  leaving = v.leaving + w.leaving;
  looks = v.looks;
  found = v.found + w.found;
  opens = v.opens + w.opens;
  begun = v.begun + w.begun;
  count = if v.begun == 0 then w.count else v.count;
  opens_then = if v.begun == 0 then w.opens_then else v.opens_then;
  fired = v.fired + w.fired;
  tries = v.tries;
  seen = v.seen;
}

-- 1 where the word has the shut bit, else 0
abbrev pub shut_bit : ℕ → ℕ
shut_bit word = word / shut_unit % 2

-- how many channels a word counts as given
abbrev pub word_given : ℕ → ℕ
word_given word = word / given_unit

-- the word of a shut latch that has not fired, with nothing open and so many given
abbrev pub closing_word : ℕ → ℕ
closing_word given = shut_unit + given_unit * given

-- What each call makes of a view.

-- the ordinal is above all of these
abbrev pub IsAbove : ℕ → List ℕ → Type 0
IsAbove ordinal ks = (k : ℕ) → ordinal ≤ k → times k ks ≡ 0

abbrev pub view_given : ℕ → DeviceView → DeviceView
view_given ordinal v = record v { ordinals = v.ordinals ++ ordinal ∷ []; gives = v.gives + 1; channel = 1; opens = v.opens + 1 }

abbrev pub view_not_given : DeviceView → DeviceView
view_not_given v = record v { gives = v.gives + 1; found = v.found + 1 }

abbrev pub view_visiting : DeviceView → DeviceView
view_visiting v = record v { visit = 1; opens = v.opens + 1 }

abbrev pub view_usable : DeviceView → DeviceView
view_usable v = record v { looks = v.looks + 1; opens = v.opens + 1 }

abbrev pub view_found : DeviceView → DeviceView
view_found v = record v { found = v.found + 1 }

-- the latch was shut; so many channels had been given, and so often had it been found open
abbrev pub view_begun : ℕ → ℕ → DeviceView → DeviceView
view_begun given opens v = record v { begun = 1; count = given; opens_then = opens }

-- fired, and the word that was found
abbrev pub view_fired : ℕ → DeviceView → DeviceView
view_fired seen v = record v { fired = 1; seen = seen }

abbrev pub view_tried : ℕ → DeviceView → DeviceView
view_tried seen v = record v { tries = v.tries + 1; seen = seen }

-- neither did the seat find the latch shut, nor did it shut it
abbrev pub KnowsOpen : DeviceView → Type 0
KnowsOpen v = (v.found ≡ 0) × (v.begun ≡ 0)

-- the ordinals are all numbers below how many there are, each once
pub record AreOrdinals (ks : List ℕ) : Type 0 where
  pub once : (k : ℕ) → k < length ks → times k ks ≡ 1
  pub none_else : (k : ℕ) → length ks ≤ k → times k ks ≡ 0

-- what all seats together know of the device
pub record IsWhole (v : DeviceView) : Type 0 where
  pub ordinals : AreOrdinals v.ordinals
  -- who found the latch shut was right, and one began at most
  pub found : 1 ≤ v.found → v.begun ≡ 1
  pub begun : v.begun ≤ 1
  -- from the step that began on nothing was given, and nobody found the latch open
  pub settled : v.begun ≡ 1 → length v.ordinals ≡ v.count
  pub before : v.begun ≡ 1 → v.opens ≡ v.opens_then
  -- it fired at most once, with nothing open
  pub fired : v.fired ≤ v.begun
  pub quiet : v.fired ≡ 1 → held_count v ≡ 0

-- what the word says to a seat that stands for all: it is the seat's own
pub record Tells (v : DeviceView) (word : ℕ) : Type 0 where
  pub own : word ≡ device_word (v ∷ [])
  pub few_open : open_count v < shut_unit
  pub whole : IsWhole v

abbrev pub StandsForAll : DeviceView → Type 0
StandsForAll v = (1 ≤ v.seats) × (v.seats ≡ v.all)

-- a seat: its view, and the slots that it holds, none here
abbrev pub Sat : Type 0
Sat = Me (Unit {0}) DeviceView

abbrev pub view_of : Sat → DeviceView
view_of seat = seat.0

-- the seat with another view
abbrev pub with_view : Sat → DeviceView → Sat
with_view seat view = (view, seat.1)

-- What each kind of step tells, of the seat before it, the word that it found and the seat after it.

-- of an open latch a seat gets the channel whose ordinal is what the word counts as given; else it has to take its sum back
pub record Gives (step : Step (Unit {0})) (old : Sat) (word : ℕ) (new : Sat) : Type 0 where
  pub given : shut_bit word ≡ 0 → (new ≡ with_view old (view_given (word_given word) (view_of old))) × KnowsOpen (view_of old) × IsAbove (word_given word) (view_of old).ordinals
  pub shut : shut_bit word ≢ 0 → new ≡ with_view old (record (view_not_given (view_of old)) { backing = 1 })
  pub all : StandsForAll (view_of old) → Tells (view_of old) word

abbrev pub TakesBack : Step (Unit {0}) → Sat → ℕ → Sat → Type 0
TakesBack step old word new = new ≡ with_view old (record (view_of old) { backing = 0 })

-- in an open latch a visit begins; else the seat has to take its count back
pub record Holds (step : Step (Unit {0})) (old : Sat) (word : ℕ) (new : Sat) : Type 0 where
  pub held : shut_bit word ≡ 0 → (new ≡ with_view old (view_visiting (view_of old))) × KnowsOpen (view_of old)
  pub shut : shut_bit word ≢ 0 → new ≡ with_view old (record (view_found (view_of old)) { leaving = 1 })

abbrev pub LetsGo : Step (Unit {0}) → Sat → ℕ → Sat → Type 0
LetsGo step old word new = new ≡ with_view old (record (view_of old) { leaving = 0 })

abbrev pub Releases : Step (Unit {0}) → Sat → ℕ → Sat → Type 0
Releases step old word new = new ≡ with_view old (record (view_of old) { channel = 0 })

abbrev pub Unholds : Step (Unit {0}) → Sat → ℕ → Sat → Type 0
Unholds step old word new = new ≡ with_view old (record (view_of old) { visit = 0 })

pub record LooksAtShut (step : Step (Unit {0})) (old : Sat) (word : ℕ) (new : Sat) : Type 0 where
  pub usable : shut_bit word ≡ 0 → (new ≡ with_view old (view_usable (view_of old))) × KnowsOpen (view_of old)
  pub shut : shut_bit word ≢ 0 → new ≡ with_view old (record (view_found (view_of old)) { looks = (view_of old).looks + 1 })

-- the seat shut the latch, and keeps how many channels had been given then, and how often the latch had been found open
pub record Began (old : Sat) (word : ℕ) (new : Sat) : Type 0 where
  pub often : ℕ
  pub seat : new ≡ with_view old (view_begun (word_given word) often (view_of old))
  pub knew : KnowsOpen (view_of old)
  pub own_given : given_count (view_of old) ≤ word_given word
  pub own_opens : (view_of old).opens ≤ often
  pub above : IsAbove (word_given word) (view_of old).ordinals

pub record Begins (step : Step (Unit {0})) (old : Sat) (word : ℕ) (new : Sat) : Type 0 where
  pub began : shut_bit word ≡ 0 → Began old word new
  pub already : shut_bit word ≢ 0 → new ≡ with_view old (view_found (view_of old))
  pub all : StandsForAll (view_of old) → Tells (view_of old) word

-- the word is the one that was asked for, and the latch fires; or it is another, and that is noted
pub record TriesToFire (step : Step (Unit {0})) (old : Sat) (word : ℕ) (new : Sat) : Type 0 where
  pub fired : word ≡ step.first → (new ≡ with_view old (view_fired word (view_of old))) × ((view_of old).fired ≡ 0) × (held_count (view_of old) ≡ 0)
  pub in_vain : word ≢ step.first → new ≡ with_view old (view_tried word (view_of old))
  pub all : StandsForAll (view_of old) → Tells (view_of old) word

pub record LearnsAll (step : Step (Unit {0})) (old : Sat) (word : ℕ) (new : Sat) : Type 0 where
  pub same : new ≡ old
  pub all : StandsForAll (view_of old) → Tells (view_of old) word
