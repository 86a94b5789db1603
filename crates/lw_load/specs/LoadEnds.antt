-- What callers see of the passes and the reader.
use Rattle.std.specs.Prelude.{◌≡◌, ℕ, ◌+◌, ◌<◌, ◌==◌, if◌then◌else◌, List, length, slice_index_or}
use Rattle.atomic_table.specs.Seated.{TableId}

-- how many threads have cells at most
abbrev pub most_threads : ℕ
most_threads = 127

-- a pass: its cell, its thread, the pair that it published last, zeros before the first, and how often it stored one
pub record LoadEnd : Type 0 where
  pub cell : TableId
  pub thread : ℕ
  pub busy : ℕ
  pub idle : ℕ
  pub stores : ℕ

-- what the reader knows of one thread: its cell, the pair that it found there last, zeros before the first, and how often it
-- loaded the cell
pub record Known : Type 0 where
  pub cell : TableId
  pub busy : ℕ
  pub idle : ℕ
  pub loads : ℕ

-- the pass of a thread that has published nothing
abbrev pub new_pass : TableId → ℕ → LoadEnd
new_pass cell thread = record { cell = cell; thread = thread; busy = 0; idle = 0; stores = 0 }

-- how often a pass has stored a pair once it has published this one: the last one again isn't stored anew
abbrev pub stores_after : ℕ → ℕ → LoadEnd → ℕ
stores_after busy idle p =
    if busy == p.busy then (if idle == p.idle then p.stores else p.stores + 1)
    else p.stores + 1

-- the pass once it has published this pair, by one store at most
abbrev pub published : ℕ → ℕ → LoadEnd → LoadEnd
published busy idle p = record p { busy = busy; idle = idle; stores = stores_after busy idle p }

-- a cell that wasn't read yet
abbrev pub not_read : TableId → Known
not_read cell = record { cell = cell; busy = 0; idle = 0; loads = 0 }

-- one more load of the cell found this pair
abbrev pub once_more : Known → ℕ → ℕ → Known
once_more r busy idle = record { cell = r.cell; busy = busy; idle = idle; loads = r.loads + 1 }

-- the pass publishes in the cell that the reader loads for the pass's thread
pub record IsReadBy (rs : List Known) (p : LoadEnd) : Type 0 where
  pub within : p.thread < length rs
  pub cell : (r : Known) → (slice_index_or rs p.thread r).cell ≡ p.cell

-- the passes and the reader of new cells: pass k is that of thread k, and nothing was published or read
pub record AreNew (threads : ℕ) (ps : List LoadEnd) (rs : List Known) : Type 0 where
  pub passes : length ps ≡ threads
  pub cells : length rs ≡ threads
  pub unread : (k : ℕ) (r : Known) → k < threads → slice_index_or rs k r ≡ not_read (slice_index_or rs k r).cell
  pub unpublished : (k : ℕ) (p : LoadEnd) (r : Known) → k < threads → slice_index_or ps k p ≡ new_pass (slice_index_or rs k r).cell k
