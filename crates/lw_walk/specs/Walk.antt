-- A walk and its answer.
use Rattle.std.specs.Prelude.{◌≡◌, ℕ, ◌+◌, Bool, nat_lt, List, [], ◌∷◌, ◌++◌, length, codes, decimal, if◌then◌else◌, Option, Some, None, Result, Ok, Err}
use Rattle.std.specs.List.{filter_map, join_with_byte}
use Rattle.lw_world.specs.declared.world_event.WorldEvent.{WorldEvent}
use Rattle.lw_world.specs.declared.world_event.WorldRefusal.{WorldRefusal}
use Rattle.lw_world.specs.declared.world_state.Standing.{Standing}
use Rattle.lw_world.specs.declared.world_state.Standing.TheVariants as standing
use Rattle.lw_world.specs.declared.world_state.Stage.{Stage}
use Rattle.lw_world.specs.declared.world_state.Stage.TheVariants as stage
use Rattle.lw_walk.specs.declared.walk.Walked.{Walked}
use Rattle.lw_walk.specs.declared.walk.Walked.TheVariants.{BadLine, Text}
use Rattle.lw_world.specs.Sums.{at, sum_below, texts_below}
use Rattle.lw_world.specs.World.{State, first_state, refusal_of, refusal_number, stepped, standing_of, stage_of, sleeps}
use Rattle.lw_base.specs.TextLines.{pieces}
use Rattle.lw_walk.specs.WalkForm.{event_in, sizes_in, bad_line}

-- words with one space between each two, and a line feed
abbrev pub line : List (List ℕ) → List ℕ
line words = join_with_byte 32 words ++ 10 ∷ []

-- ---- the answer to an event

abbrev pub event_line : ℕ → Option WorldRefusal → List ℕ
event_line n None = line (decimal n ∷ codes "ok" ∷ [])
event_line n (Some r) = line (decimal n ∷ codes "refused" ∷ decimal (refusal_number r) ∷ [])

-- the refusal of an answer
abbrev pub refused : Result (Unit {0}) WorldRefusal → Option WorldRefusal
refused (Ok u) = None
refused (Err r) = Some r

-- ---- the lines of the last state

abbrev pub thread_line : ℕ → Standing → List ℕ
thread_line t (standing.List c) = line (codes "thread" ∷ decimal t ∷ codes "list" ∷ decimal c ∷ [])
thread_line t (standing.Event c) = line (codes "thread" ∷ decimal t ∷ codes "event" ∷ decimal c ∷ [])
thread_line t standing.Ended = line (codes "thread" ∷ decimal t ∷ codes "ended" ∷ [])

-- a pair of threads has a line where a message was sent
abbrev pub pair_line : ℕ → ℕ → ℕ → ℕ → List ℕ
pair_line s r sent run = if nat_lt 0 sent then line (codes "pair" ∷ decimal s ∷ decimal r ∷ decimal sent ∷ decimal run ∷ []) else []

abbrev pub device_line : ℕ → Stage → ℕ → List ℕ
device_line d stage.Open owners = line (codes "device" ∷ decimal d ∷ codes "open" ∷ decimal owners ∷ [])
device_line d (stage.Shut t) owners = line (codes "device" ∷ decimal d ∷ codes "shut" ∷ decimal owners ∷ [])
device_line d stage.Fired owners = line (codes "device" ∷ decimal d ∷ codes "fired" ∷ decimal owners ∷ [])

abbrev pub reactor_line : ℕ → Bool → List ℕ
reactor_line c asleep = if asleep then line (codes "reactor" ∷ decimal c ∷ codes "asleep" ∷ []) else line (codes "reactor" ∷ decimal c ∷ codes "awake" ∷ [])

abbrev pub owners : State → ℕ → ℕ
owners w d = sum_below w.threads (λ t. at w.channels t d)

abbrev pub pairs_of : State → ℕ → List ℕ
pairs_of w s = texts_below w.threads (λ r. pair_line s r (at w.sent s r) (at w.run s r))

abbrev pub state_text : State → List ℕ
state_text w =
    texts_below w.threads (λ t. thread_line t (standing_of w t))
    ++ texts_below w.threads (pairs_of w)
    ++ texts_below w.devices (λ d. device_line d (stage_of w d) (owners w d))
    ++ texts_below w.reactors (λ c. reactor_line c (sleeps w c))

-- ---- the whole

-- the answers to events numbered from n, and the state that they leave
abbrev pub answers : State → ℕ → List WorldEvent → List ℕ
answers w n [] = state_text w
answers w n (e ∷ es) = event_line n (refusal_of w e) ++ answers (stepped w e) (n + 1) es

abbrev pub walk_of : List (List ℕ) → List ℕ
walk_of [] = []
walk_of (l ∷ ls) = elim (sizes_in l) [ Some s ↦ answers (first_state s.threads s.reactors s.devices) 1 (filter_map event_in ls) | None ↦ [] ]

-- the number of the first bad line, from 1, and 0 where there are more than 16 MiB
abbrev pub walk_bad_line : List ℕ → Option ℕ
walk_bad_line bytes = if nat_lt 16777216 (length bytes) then Some 0 else bad_line (pieces bytes)

-- the answer to a text without a bad line
abbrev pub walk_answer : List ℕ → List ℕ
walk_answer bytes = walk_of (pieces bytes)

abbrev pub IsWalked : List ℕ → Walked → Type 0
IsWalked bytes (BadLine l) = walk_bad_line bytes ≡ Some l
IsWalked bytes (Text t) = (walk_bad_line bytes ≡ None) × (t.items ≡ walk_answer bytes)
