-- The rounds of a run, as a balancer makes them.
use Rattle.std.specs.Prelude.{◌≡◌, ◌≢◌, ℕ, ◌+◌, ◌<◌, ◌≤◌, List, [], ◌∷◌, ◌++◌, length, map, filter_map, Option, Some, IfSome, All, Contains, slice_index, ⊤}
use Rattle.lw_base.specs.Limits.{standard}
use Rattle.lw_base.specs.Plan.{plan}
use Rattle.lw_base.specs.declared.moves.Row.{Row}
use Rattle.lw_base.specs.declared.moves.Order.{Order}
use Rattle.lw_base.specs.declared.moves.Round.{Round}
use Rattle.lw_place.specs.PlaceSeats.{DeskEnd}
use Rattle.lw_load.specs.LoadEnds.{most_threads}
use Rattle.lw_rounds.specs.Measures.{HasRead, Look, MeterEnd, Measures, row_of}

-- a run has at most so many rounds
abbrev pub most_rounds : ℕ
most_rounds = 10000

-- a balancer: of how many reactors, the masks of the threads, the period, what it measures by, the first reading, and the
-- rounds that were made
pub record BalancerEnd : Type 0 where
  pub reactors : ℕ
  pub masks : List ℕ
  pub period : ℕ
  pub meter : MeterEnd
  pub first : Option ℕ
  pub rounds : List Round

-- the time of the last of some rounds, or of what was before them
abbrev pub last_time : ℕ → List Round → ℕ
last_time time [] = time
last_time time (x ∷ xs) = last_time x.time xs

-- the rows of the last round
abbrev pub last_rows : List Round → List Row
last_rows [] = []
last_rows (x ∷ []) = x.rows
last_rows (x ∷ y ∷ ys) = last_rows (y ∷ ys)

-- a reading isn't before the last round, or the first reading
abbrev pub IsNotBefore : ℕ → BalancerEnd → Type 0
IsNotBefore now b = IfSome b.first (λ first. last_time first b.rounds ≤ now)

-- a round is due: it is a period or more past the last one, or past the first reading, and fewer than the most were made
pub record IsDue (now : ℕ) (b : BalancerEnd) : Type 0 where
  pub first : ℕ
  pub noted : b.first ≡ Some first
  pub past : last_time first b.rounds + b.period ≤ now
  pub few : length b.rounds < most_rounds

-- the masks of the rows' threads
abbrev pub masks_of : List ℕ → List Row → List ℕ
masks_of masks rows = map (λ w. slice_index masks w.thread) rows

-- the threads of some rows strictly ascend, from one on
abbrev pub Ascend : ℕ → List Row → Type 0
Ascend least [] = ⊤
Ascend least (w ∷ ws) = (least ≤ w.thread) × Ascend (w.thread + 1) ws

-- a round that follows others: its number, its time, its rows, and its orders, which are the plan of the rows
pub record IsRound (b : BalancerEnd) (first : ℕ) (past : List Round) (x : Round) : Type 0 where
  pub number : x.number ≡ length past + 1
  pub time : last_time first past + b.period ≤ x.time
  pub ascend : Ascend 0 x.rows
  pub threads : All (λ w. w.thread < length b.masks) x.rows
  pub reactors : All (λ w. w.reactor < b.reactors) x.rows
  pub orders : x.orders ≡ plan standard b.reactors x.rows (masks_of b.masks x.rows)

abbrev pub AreAfter : BalancerEnd → ℕ → List Round → List Round → Type 0
AreAfter b first past [] = ⊤
AreAfter b first past (x ∷ xs) = IsRound b first past x × AreAfter b first (past ++ x ∷ []) xs

-- each round follows those before it
abbrev pub AreRounds : BalancerEnd → Type 0
AreRounds b = (length b.rounds ≤ most_rounds) × (1 ≤ length b.rounds → (first : ℕ) × (b.first ≡ Some first) × AreAfter b first [] b.rounds)

-- an order of a round sends the thread of one of the rows to another reactor
pub record Sends (reactors : ℕ) (rows : List Row) (o : Order) : Type 0 where
  pub row : Row
  pub among : Contains rows row
  pub thread : row.thread ≡ o.thread
  pub below : o.to < reactors
  pub away : row.reactor ≢ o.to

-- the round that is made of these looks
abbrev pub round_of : ℕ → BalancerEnd → List Row → Round
round_of now b rows = record { number = length b.rounds + 1; time = now; rows = rows; orders = plan standard b.reactors rows (masks_of b.masks rows) }

-- One round more was made: of what this round's looks found and read.
pub record Makes (now : ℕ) (old new : BalancerEnd) (desk desk_after : DeskEnd) : Type 0 where
  pub looks : List Look
  pub measured : Measures old.meter new.meter desk desk_after looks
  pub made : new ≡ record old { meter = new.meter; rounds = old.rounds ++ round_of now old (filter_map row_of looks) ∷ [] }

-- each thread may have been measured, its cell read once more, and nothing else has changed
pub record HasOnlyRead (old new : BalancerEnd) : Type 0 where
  pub same : new ≡ record old { meter = new.meter }
  pub read : HasRead old.meter.cells new.meter.cells

-- each thread that has a row is noted to stand where the row says
abbrev pub AreNoted : List ℕ → List Row → Type 0
AreNoted stands rows = All (λ w. slice_index stands w.thread ≡ w.reactor) rows

-- what a balancer keeps; `stands` has where each thread was found last by a round that was made
pub record KeepsRounds (stands : List ℕ) (b : BalancerEnd) : Type 0 where
  pub some_reactors : 1 ≤ b.reactors
  pub few_reactors : b.reactors ≤ 16
  pub count : length b.masks ≡ length b.meter.cells
  pub few : length b.masks ≤ most_threads
  pub period : 1 ≤ b.period
  pub rounds : AreRounds b
  pub places : length stands ≡ length b.masks
  pub noted : AreNoted stands (last_rows b.rounds)
