-- What a round measures of the light threads.
use Rattle.std.specs.Prelude.{◌≡◌, ◌⊎◌, ℕ, ◌+◌, ◌-◌, ◌<◌, ◌≤◌, List, [], ◌∷◌, ◌++◌, length, map, filter_map, Option, None, Some, All, unwrap_or, slice_index_or, slice_set}
use Rattle.std.specs.List.{range_with_len}
use Rattle.lw_base.specs.declared.moves.Row.{Row}
use Rattle.lw_place.specs.declared.place.Place.{Place}
use Rattle.lw_place.specs.declared.place.Place.TheVariants as place
use Rattle.lw_place.specs.declared.table.Stand.{Stand}
use Rattle.lw_place.specs.PlaceWord.{IsBelow}
use Rattle.lw_place.specs.PlaceSeats.{DeskEnd}
use Rattle.lw_load.specs.declared.figures.Figures.{Figures}
use Rattle.lw_load.specs.LoadEnds.{Known, once_more}

-- the figures that are known of a thread
abbrev pub figures_of : Known → Figures
figures_of k = record { busy = k.busy; idle = k.idle }

-- what a round measures by: what is known of each thread's cell, what was measured of the thread in the round before, and its
-- sums, where whoever makes the round told them since
pub record MeterEnd : Type 0 where
  pub cells : List Known
  pub measured : List Figures
  pub told : List (Option Figures)

-- by this reader nothing was measured yet
abbrev pub unmeasured : List Known → MeterEnd
unmeasured cells = record { cells = cells; measured = map (λ k. record { busy = 0; idle = 0 }) cells; told = map (λ k. None) cells }

-- the sums of a thread were told
abbrev pub told_of : ℕ → Figures → MeterEnd → MeterEnd
told_of thread sums m = record m { told = slice_set m.told thread (Some sums) }

-- a thread in a round: where a look found it, what was known of its cell before the round and is known now, what was measured
-- of it in the round before, and its sums, if they were told
pub record Look : Type 0 where
  pub thread : ℕ
  pub place : Place
  pub before : Known
  pub after : Known
  pub last : Figures
  pub told : Option Figures

-- what the round measures of the thread: the sums that were told, and else what its cell showed
abbrev pub measured_of : Look → Figures
measured_of l = unwrap_or l.told (figures_of l.after)

abbrev pub stand_of : Look → Stand
stand_of l = record { thread = l.thread; place = l.place }

-- of a thread that was found in a list: its reactor, and its ticks since the round before, none where they would be below 0
abbrev pub row_in : ℕ → Place → Figures → Figures → Option Row
row_in thread (place.List reactor) before after = Some (record { thread = thread; reactor = reactor; busy = after.busy - before.busy; idle = after.idle - before.idle })
row_in thread (place.Event reactor) before after = None
row_in thread (place.Held reactor) before after = None
row_in thread place.Ended before after = None

abbrev pub row_of : Look → Option Row
row_of l = row_in l.thread l.place l.last (measured_of l)

-- a thread's figures were read once more, and neither went back
pub record IsRead (before after : Known) : Type 0 where
  pub once : after ≡ once_more before after.busy after.idle
  pub busy : before.busy ≤ after.busy
  pub idle : before.idle ≤ after.idle

-- each cell was read once more, or wasn't read
pub record HasRead (old new : List Known) : Type 0 where
  pub count : length new ≡ length old
  pub each : (k : ℕ) (d : Known) → k < length old → (slice_index_or new k d ≡ slice_index_or old k d) ⊎ IsRead (slice_index_or old k d) (slice_index_or new k d)

-- a desk has looked at threads, and has done nothing else
pub record HasOnlyLooked (old new : DeskEnd) : Type 0 where
  pub found : List Stand
  pub desk : new ≡ record old { looks = old.looks + length found; found = old.found ++ found }

-- Each thread's cell was read once, and each was looked at once, in ascending number. The sums that were told are used up.
pub record Measures (old new : MeterEnd) (desk desk_after : DeskEnd) (looks : List Look) : Type 0 where
  pub threads : map (λ l. l.thread) looks ≡ range_with_len 0 (length old.cells)
  pub before : map (λ l. l.before) looks ≡ old.cells
  pub after : map (λ l. l.after) looks ≡ new.cells
  pub last : map (λ l. l.last) looks ≡ old.measured
  pub now : map measured_of looks ≡ new.measured
  pub told : map (λ l. l.told) looks ≡ old.told
  pub none_told : map (λ l. None) looks ≡ new.told
  pub read : All (λ l. IsRead l.before l.after) looks
  pub below : All (λ l. IsBelow desk.places.reactors l.place) looks
  pub found : desk_after ≡ record desk { looks = desk.looks + length looks; found = desk.found ++ map stand_of looks }

-- the rows of a round
pub record MeasuresRows (old new : MeterEnd) (desk desk_after : DeskEnd) (rows : List Row) : Type 0 where
  pub looks : List Look
  pub measured : Measures old new desk desk_after looks
  pub rows_are : rows ≡ filter_map row_of looks

-- one thread was looked at
pub record LooksAt (thread : ℕ) (old new : MeterEnd) (desk desk_after : DeskEnd) (row : Option Row) : Type 0 where
  pub look : Look
  pub its : look.thread ≡ thread
  pub before : (k : Known) → slice_index_or old.cells thread k ≡ look.before
  pub last : (f : Figures) → slice_index_or old.measured thread f ≡ look.last
  pub told : (o : Option Figures) → slice_index_or old.told thread o ≡ look.told
  pub read : IsRead look.before look.after
  pub below : IsBelow desk.places.reactors look.place
  pub meter : new ≡ record {
    cells = slice_set old.cells thread look.after;
    measured = slice_set old.measured thread (measured_of look);
    told = slice_set old.told thread None;
  }
  pub found : desk_after ≡ record desk { looks = desk.looks + 1; found = desk.found ++ stand_of look ∷ [] }
  pub row_is : row ≡ row_of look
