-- What callers see of the seats.
use Rattle.std.specs.Prelude.{◌≡◌, ◌⊎◌, ℕ, ◌+◌, ◌<◌, ◌≤◌, max, List, [], ◌∷◌, length, replicate, All, Any, slice_index_or, ⊤}
use Rattle.atomic_table.specs.Seated.{TableId}
use Rattle.atomic_table.specs.declared.shared.Seat.{Seat}
use Rattle.lw_place.specs.declared.place.Place.TheVariants as place
use Rattle.lw_place.specs.declared.place.Place.{Place}
use Rattle.lw_place.specs.declared.table.Stand.{Stand}
use Rattle.lw_place.specs.declared.table.PlaceView.{PlaceView}
use Rattle.lw_base.specs.Totals.{total}
use Rattle.lw_place.specs.PlaceWord.{most_threads, most_reactors, first_word, IsBelow}
use Rattle.lw_place.specs.PlaceTable.{new_view}

-- which places: their table, and how many threads and reactors they are for
pub record Places : Type 0 where
  pub table : TableId
  pub threads : ℕ
  pub reactors : ℕ

-- a thread's seat: of which places it is, the thread's number, and where the thread stands
pub record ThreadEnd : Type 0 where
  pub places : Places
  pub thread : ℕ
  pub place : Place

-- a desk: of which places it is, how many threads it has retired, whether it has halted the run (0 or 1), how often it
-- looked, what it saw last of the count of retired threads and of the halt word, and what it found of threads, look by look
pub record DeskEnd : Type 0 where
  pub places : Places
  pub retired : ℕ
  pub halted : ℕ
  pub looks : ℕ
  pub done_seen : ℕ
  pub halt_seen : ℕ
  pub found : List Stand

-- any seat, with the whole of what it knows
pub record BundleEnd : Type 0 where
  pub table : TableId
  pub view : PlaceView

abbrev pub places_of : TableId → PlaceView → Places
places_of table v = record { table = table; threads = v.threads; reactors = v.reactors }

abbrev pub thread_of : TableId → PlaceView → Stand → ThreadEnd
thread_of table v x = record { places = places_of table v; thread = x.thread; place = x.place }

abbrev pub desk_of : TableId → PlaceView → DeskEnd
desk_of table v = record { places = places_of table v; retired = v.retired; halted = v.halted; looks = v.looks; done_seen = v.done_seen; halt_seen = v.halt_seen; found = v.found }

-- the place is the list of a reactor; an event to one; or one holds the thread
abbrev pub IsList : Place → Type 0
IsList p = (reactor : ℕ) × (p ≡ place.List reactor)

abbrev pub IsEvent : Place → Type 0
IsEvent p = (reactor : ℕ) × (p ≡ place.Event reactor)

abbrev pub IsHeld : Place → Type 0
IsHeld p = (reactor : ℕ) × (p ≡ place.Held reactor)

-- a thread at this place may leave for a reactor: it is neither held, nor has it ended
abbrev pub MayLeave : Place → Type 0
MayLeave (place.List reactor) = ⊤
MayLeave (place.Event reactor) = ⊤
MayLeave (place.Held reactor) = ⊥
MayLeave place.Ended = ⊥

-- the view is that of a seat which was not joined away, of a table with a word for each thread
pub record IsSeat (table : TableId) (v : PlaceView) : Type 0 where
  pub words : table.words ≡ v.threads + first_word
  pub some_threads : 1 ≤ v.threads
  pub few_threads : v.threads ≤ most_threads
  pub few_reactors : v.reactors ≤ most_reactors

-- the view of a thread's seat
abbrev pub thread_view : ℕ → ℕ → Stand → PlaceView
thread_view threads reactors x = new_view threads reactors (x ∷ []) 0

-- what every seat keeps: it is at the words of its table, holds no slot, and knows which places it is of
pub record KeepsSeat (table : TableId) (seat : Seat (Unit {0}) PlaceView) : Type 0 where
  pub same_table : seat.table_id ≡ table
  pub no_slots : seat.me.1 ≡ []
  pub knows : IsSeat seat.table_id seat.me.0

-- what a thread's seat keeps besides: it stands for the thread, at the place that is kept beside it
pub record KeepsThread (table : TableId) (seat : Seat (Unit {0}) PlaceView) (thread : ℕ) (place : Place) : Type 0 where
  pub keeps : KeepsSeat table seat
  pub view : seat.me.0 ≡ thread_view seat.me.0.threads seat.me.0.reactors (record { thread = thread; place = place })
  pub number : thread < seat.me.0.threads
  pub below : IsBelow seat.me.0.reactors place

-- what a desk's seat keeps besides: it stands for one desk and for no thread
pub record KeepsDesk (table : TableId) (seat : Seat (Unit {0}) PlaceView) : Type 0 where
  pub keeps : KeepsSeat table seat
  pub one_desk : seat.me.0.desks ≡ 1
  pub no_threads : seat.me.0.stands ≡ []
  pub once : seat.me.0.halted ≤ 1

-- a new desk
abbrev pub new_desk : Places → DeskEnd
new_desk p = record { places = p; retired = 0; halted = 0; looks = 0; done_seen = 0; halt_seen = 0; found = [] }

-- the seats of new places, of threads that start at these: thread t is at the t-th, and there is a desk for each reactor
pub record AreNew (starts : List Place) (reactors : ℕ) (ts : List ThreadEnd) (ds : List DeskEnd) : Type 0 where
  pub places : Places
  pub for_threads : places.threads ≡ length starts
  pub for_reactors : places.reactors ≡ reactors
  pub thread_count : length ts ≡ length starts
  pub each_thread : (t : ℕ) (d : ThreadEnd) (p : Place) → t < length starts → slice_index_or ts t d ≡ record { places = places; thread = t; place = slice_index_or starts t p }
  pub desks : ds ≡ replicate reactors (new_desk places)

-- how many threads these desks have retired, and how many of them have halted
abbrev pub all_retired : List DeskEnd → ℕ
all_retired ds = total (λ d. d.retired) ds

abbrev pub all_halted : List DeskEnd → ℕ
all_halted ds = total (λ d. d.halted) ds

-- the greatest number that one of these desks has
abbrev pub most : (DeskEnd → ℕ) → List DeskEnd → ℕ
most number [] = 0
most number (d ∷ ds) = max (number d) (most number ds)

-- the most that one of these desks saw of the count of retired threads, and of the halt word
abbrev pub most_seen : List DeskEnd → ℕ
most_seen ds = most (λ d. d.done_seen) ds

abbrev pub most_halt_seen : List DeskEnd → ℕ
most_halt_seen ds = most (λ d. d.halt_seen) ds

-- these threads have ended, they are as many as all desks have retired, and a desk saw at least as many retired as there
-- are
pub record AreEnded (p : Places) (ts : List ThreadEnd) (ds : List DeskEnd) : Type 0 where
  pub ended : All (λ t. t.place ≡ place.Ended) ts
  pub retired : length ts ≡ all_retired ds
  pub seen : Any (λ d. p.threads ≤ d.done_seen) ds

-- all seats of some places: all desks, and all threads, either by their count or since all have ended
pub record AreAllSeats (ts : List ThreadEnd) (ds : List DeskEnd) : Type 0 where
  pub places : Places
  pub its_threads : All (λ t. t.places ≡ places) ts
  pub its_desks : All (λ d. d.places ≡ places) ds
  pub all_desks : length ds ≡ places.reactors
  pub some_desk : 1 ≤ length ds
  pub all_threads : (length ts ≡ places.threads) ⊎ AreEnded places ts ds

-- the thread of a seat, and where it stands
abbrev pub stand : ThreadEnd → Stand
stand t = record { thread = t.thread; place = t.place }

-- what a seat knows into which so many desks were gathered, and these threads
pub record Holds (p : Places) (count done halts saw_done saw_halt : ℕ) (xs : List Stand) (b : BundleEnd) : Type 0 where
  pub of : places_of b.table b.view ≡ p
  pub desks : b.view.desks ≡ count
  pub retired : b.view.retired ≡ done
  pub halted : b.view.halted ≡ halts
  pub seen : b.view.done_seen ≡ saw_done
  pub halt_seen : b.view.halt_seen ≡ saw_halt
  pub stands : b.view.stands ≡ xs
