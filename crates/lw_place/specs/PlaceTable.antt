-- The words of the places and what ties them to the seats.
use Rattle.std.specs.Prelude.{◌≡◌, ℕ, ◌+◌, ◌-◌, ◌*◌, ◌<◌, ◌≤◌, ◌==◌, if◌then◌else◌, min, max, List, [], ◌∷◌, ◌++◌, length, map, slice_index, All, Contains}
use mathlib.Core.Option.{some}
use lib.ListN.{get_elem?}
use Rattle.atomic_table.specs.Table.{State, Me, Step}
use Rattle.lw_place.specs.declared.place.Place.TheVariants as place
use Rattle.lw_place.specs.declared.place.Place.{Place}
use Rattle.lw_place.specs.declared.table.Stand.{Stand}
use Rattle.lw_place.specs.declared.table.Homes.{Homes}
use Rattle.lw_place.specs.declared.table.PlaceView.{PlaceView}
use Rattle.lw_base.specs.Totals.{total}
use Rattle.lw_place.specs.PlaceWord.{most_threads, most_reactors, done_word, halt_word, first_word, word_of, place_of, IsBelow, IsWord}

abbrev pub desks : PlaceView → ℕ
desks v = v.desks

abbrev pub retired : PlaceView → ℕ
retired v = v.retired

abbrev pub halted : PlaceView → ℕ
halted v = v.halted

-- how many threads a view stands for
abbrev pub thread_count : PlaceView → ℕ
thread_count v = length v.stands

-- how often a thread is among these
abbrev pub times : ℕ → List Stand → ℕ
times thread [] = 0
times thread (x ∷ xs) = (if x.thread == thread then 1 else 0) + times thread xs

-- how often a view stands for a thread
abbrev pub count_of : ℕ → PlaceView → ℕ
count_of thread v = times thread v.stands

-- the thread is one of so many, its reactor too, and its word is its place
pub record IsStanding (threads reactors : ℕ) (words : List ℕ) (x : Stand) : Type 0 where
  pub number : x.thread < threads
  pub below : IsBelow reactors x.place
  pub word : slice_index words (x.thread + first_word) ≡ word_of x.place

-- what the rule says of one view, where so many threads are retired and so many desks have halted
pub record Fits (threads reactors : ℕ) (words : List ℕ) (done halts : ℕ) (v : PlaceView) : Type 0 where
  pub of_table : 1 ≤ v.threads → (v.threads ≡ threads) × (v.reactors ≡ reactors)
  pub standing : All (IsStanding threads reactors words) v.stands
  -- a desk retires at most as many threads as there can be
  pub retired_desks : v.retired ≤ most_threads * v.desks
  -- only a desk halts the run
  pub halted_desks : v.halted ≤ v.desks
  -- what was seen of the count and of the halt word is so
  pub done_seen : v.done_seen ≤ done
  pub halt_seen : v.halt_seen ≤ halts

-- the rule: each thread has one seat and its word is the place that the seat keeps, the count is what all desks have
-- retired, and the halt word is 1 exactly where a desk has halted
pub record Placed (homes : Homes) (s : State (Unit {0}) PlaceView) : Type 0 where
  pub few : homes.reactors ≤ most_reactors
  pub words : length s.words ≡ length homes.of.items + first_word
  pub done : slice_index s.words done_word ≡ total retired s.views
  pub halt : slice_index s.words halt_word ≡ min 1 (total halted s.views)
  pub all_desks : total desks s.views ≡ homes.reactors
  pub all_threads_stand : total thread_count s.views ≡ length homes.of.items
  pub stands_once : (thread : ℕ) → thread < length homes.of.items → total (count_of thread) s.views ≡ 1
  pub each : (i : ℕ) (v : PlaceView) → get_elem? s.views i ≡ some v → Fits (length homes.of.items) homes.reactors s.words (total retired s.views) (total halted s.views) v

-- the threads from a number on, each at its place
abbrev pub stands_from : ℕ → List Place → List Stand
stands_from thread [] = []
stands_from thread (p ∷ ps) = record { thread = thread; place = p } ∷ stands_from (thread + 1) ps

-- the words at the start
abbrev pub words_of : List Place → List ℕ
words_of places = 0 ∷ 0 ∷ map word_of places

-- a view of a seat that has done nothing
abbrev pub new_view : ℕ → ℕ → List Stand → ℕ → PlaceView
new_view threads reactors stands desks = record { threads = threads; reactors = reactors; stands = stands; desks = desks; retired = 0; halted = 0; looks = 0; done_seen = 0; halt_seen = 0; found = [] }

-- a new table's one view stands for all
abbrev pub first_view : Homes → PlaceView
first_view homes = new_view (length homes.of.items) homes.reactors (stands_from 0 homes.of.items) homes.reactors

-- the view of a seat that was joined away
abbrev pub spent_view : PlaceView
spent_view = new_view 0 0 [] 0

-- the first of these threads, and the others
abbrev pub firsts : List Stand → List Stand
firsts [] = []
firsts (x ∷ xs) = x ∷ []

abbrev pub others : List Stand → List Stand
others [] = []
others (x ∷ xs) = xs

abbrev pub first_thread : PlaceView → PlaceView
first_thread v = new_view v.threads v.reactors (firsts v.stands) 0

abbrev pub less_first_thread : PlaceView → PlaceView
less_first_thread v = record v { stands = others v.stands }

abbrev pub one_desk : PlaceView → PlaceView
one_desk v = new_view v.threads v.reactors [] 1

abbrev pub less_one_desk : PlaceView → PlaceView
less_one_desk v = record v { desks = v.desks - 1 }

-- what two seats know together
abbrev pub joined : PlaceView → PlaceView → PlaceView
joined v w = record {
  threads = v.threads;
  reactors = v.reactors;
  stands = v.stands ++ w.stands;
  desks = v.desks + w.desks;
  retired = v.retired + w.retired;
  halted = v.halted + w.halted;
  looks = v.looks + w.looks;
  done_seen = max v.done_seen w.done_seen;
  halt_seen = max v.halt_seen w.halt_seen;
  found = v.found;
}

-- a seat: its view, and the slots that it holds, none here
abbrev pub Sat : Type 0
Sat = Me (Unit {0}) PlaceView

abbrev pub view_of : Sat → PlaceView
view_of seat = seat.0

-- the seat with another view
abbrev pub with_view : Sat → PlaceView → Sat
with_view seat view = (view, seat.1)

-- What each kind of step tells, of the seat before it, the word that it found and the seat after it.

-- the first of these threads stands elsewhere
abbrev pub moved_to : Place → List Stand → List Stand
moved_to p [] = []
moved_to p (x ∷ xs) = record x { place = p } ∷ xs

abbrev pub Moves : Step (Unit {0}) → Sat → ℕ → Sat → Type 0
Moves step old word new = new ≡ with_view old (record (view_of old) { stands = moved_to (place_of step.first) (view_of old).stands })

-- a thread that was held is in the list of the same reactor
abbrev pub begun : Place → Place
begun (place.List reactor) = place.List reactor
begun (place.Event reactor) = place.Event reactor
begun (place.Held reactor) = place.List reactor
begun place.Ended = place.Ended

abbrev pub begins_first : List Stand → List Stand
begins_first [] = []
begins_first (x ∷ xs) = record x { place = begun x.place } ∷ xs

-- the first of these threads, which is held, starts
abbrev pub Begins : Step (Unit {0}) → Sat → ℕ → Sat → Type 0
Begins step old word new = new ≡ with_view old (record (view_of old) { stands = begins_first (view_of old).stands })

abbrev pub Retires : Step (Unit {0}) → Sat → ℕ → Sat → Type 0
Retires step old word new = new ≡ with_view old (record (view_of old) { retired = (view_of old).retired + 1 })

abbrev pub Halts : Step (Unit {0}) → Sat → ℕ → Sat → Type 0
Halts step old word new = new ≡ with_view old (record (view_of old) { halted = 1 })

-- the count is no less than what was seen of it before, and than what the seat has retired itself
pub record LooksAtDone (step : Step (Unit {0})) (old : Sat) (word : ℕ) (new : Sat) : Type 0 where
  pub sees : new ≡ with_view old (record (view_of old) { looks = (view_of old).looks + 1; done_seen = word })
  pub no_less : (view_of old).done_seen ≤ word
  pub own : (view_of old).retired ≤ word

-- the halt word is 0 or 1, and it is 1 where the seat has halted the run or has seen it halted
pub record LooksAtHalt (step : Step (Unit {0})) (old : Sat) (word : ℕ) (new : Sat) : Type 0 where
  pub sees : new ≡ with_view old (record (view_of old) { looks = (view_of old).looks + 1; halt_seen = word })
  pub bit : word ≤ 1
  pub stays : 1 ≤ max (view_of old).halted (view_of old).halt_seen → word ≡ 1

-- the word of a thread holds a place, in one of the run's reactors
pub record Looks (step : Step (Unit {0})) (old : Sat) (word : ℕ) (new : Sat) : Type 0 where
  pub sees : new ≡ with_view old (record (view_of old) {
    looks = (view_of old).looks + 1;
    found = (view_of old).found ++ record { thread = step.word - first_word; place = place_of word } ∷ [];
  })
  pub below : IsBelow (view_of old).reactors (place_of word)
  pub fits : IsWord word

-- a seat with all desks learns that the count is its own; it stands for no more threads than there are, for each at most
-- once, and what it saw of the count is at most the count
pub record LearnsDone (step : Step (Unit {0})) (old : Sat) (word : ℕ) (new : Sat) : Type 0 where
  pub same : new ≡ old
  pub all : (view_of old).desks ≡ (view_of old).reactors → word ≡ (view_of old).retired
  pub seen : (view_of old).done_seen ≤ word
  pub few : length (view_of old).stands ≤ (view_of old).threads
  pub once : (thread : ℕ) → thread < (view_of old).threads → times thread (view_of old).stands ≤ 1

-- a seat with all desks learns that the run is halted exactly where one of them did so; where it was seen halted, it is
pub record LearnsHalt (step : Step (Unit {0})) (old : Sat) (word : ℕ) (new : Sat) : Type 0 where
  pub same : new ≡ old
  pub all : (view_of old).desks ≡ (view_of old).reactors → word ≡ min 1 (view_of old).halted
  pub seen : 1 ≤ (view_of old).halt_seen → word ≡ 1

-- the thread is one of these, and all of these that are it stand there
pub record StandsAt (xs : List Stand) (thread : ℕ) (p : Place) : Type 0 where
  pub among : Contains xs (record { thread = thread; place = p })
  pub alone : All (λ x. x.thread ≡ thread → x.place ≡ p) xs

-- a seat with all threads learns where the one of this word stands, which is one of its own
pub record Learns (step : Step (Unit {0})) (old : Sat) (word : ℕ) (new : Sat) : Type 0 where
  pub same : new ≡ old
  pub fits : length (view_of old).stands ≡ (view_of old).threads → IsWord word
  pub there : length (view_of old).stands ≡ (view_of old).threads → StandsAt (view_of old).stands (step.word - first_word) (place_of word)
