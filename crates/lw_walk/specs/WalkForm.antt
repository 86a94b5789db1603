-- The form of a walk: its first line, and the lines of events.
use Rattle.std.specs.Prelude.{ℕ, ◌+◌, Bool, ◌&&◌, nat_le, List, [], ◌∷◌, codes, if◌then◌else◌, Option, Some, None, option_map}
use Rattle.lw_world.specs.declared.world_event.WorldEvent.{WorldEvent}
use Rattle.lw_world.specs.declared.world_event.WorldEvent.TheVariants.{Send, Run, LeaveFor, Arrive, End, Give, Destroy, Shut, Fire, BeginVisit, EndVisit, Sleep, Wake}
use Rattle.lw_walk.specs.declared.walk.Sizes.{Sizes}
use Rattle.lw_base.specs.TextLines.{is_nil}
use Rattle.lw_walk.specs.WalkLines.{Left, after_text, spaced, is_end}

infixl 10 ◌>>=◌
abbrev pub ◌>>=◌ : {A B : Type 0} → Option A → (A → Option B) → Option B
(Some a) >>= f = f a
None >>= f = None

-- the value, where nothing is left of the line
abbrev pub ended : {X : Type 0} → List ℕ → X → Option X
ended rest x = if is_end rest then Some x else None

-- one number, and the end of the line
abbrev pub single_in : List ℕ → Option ℕ
single_in l = do
  n ← spaced l
  ended n.1 n.0

-- two numbers, and the end of the line
abbrev pub pair_in : List ℕ → Option (ℕ × ℕ)
pair_in l = do
  m ← spaced l
  n ← spaced m.1
  ended n.1 (m.0, n.0)

-- what is read behind a text, where the line goes on with it, and else another choice
abbrev pub choose : {X : Type 0} → List ℕ → List ℕ → (List ℕ → Option X) → Option X → Option X
choose text l behind other = elim (after_text text l) [ Some rest ↦ behind rest | None ↦ other ]

abbrev pub of_pair : (ℕ → ℕ → WorldEvent) → List ℕ → Option WorldEvent
of_pair make l = option_map (λ p. make p.0 p.1) (pair_in l)

abbrev pub of_single : (ℕ → WorldEvent) → List ℕ → Option WorldEvent
of_single make l = option_map make (single_in l)

-- an event of a reactor
abbrev pub reactor_event_in : List ℕ → Option WorldEvent
reactor_event_in l =
    choose (codes "sleep") l (of_single Sleep)
    (choose (codes "wake") l (of_single Wake) None)

-- an event of a device, or of a reactor
abbrev pub device_event_in : List ℕ → Option WorldEvent
device_event_in l =
    choose (codes "give") l (of_pair Give)
    (choose (codes "destroy") l (of_pair Destroy)
    (choose (codes "shut") l (of_pair Shut)
    (choose (codes "fire") l (of_pair Fire)
    (choose (codes "visit") l (of_pair BeginVisit)
    (choose (codes "unvisit") l (of_pair EndVisit) (reactor_event_in l))))))

-- the event that a line is
abbrev pub event_in : List ℕ → Option WorldEvent
event_in l =
    choose (codes "send") l (of_pair Send)
    (choose (codes "run") l (of_pair Run)
    (choose (codes "leave") l (of_pair LeaveFor)
    (choose (codes "arrive") l (of_single Arrive)
    (choose (codes "end") l (of_single End) (device_event_in l)))))

abbrev pub are_sizes : Sizes → Bool
are_sizes s = nat_le 1 s.threads && nat_le s.threads 81 && nat_le 1 s.reactors && nat_le s.reactors 16 && nat_le s.devices 16

-- the sizes of a world that a line tells
abbrev pub sizes_in : List ℕ → Option Sizes
sizes_in l = do
  a ← after_text (codes "world") l
  t ← spaced a
  c ← spaced t.1
  d ← spaced c.1
  s ← ended d.1 (record { threads = t.0; reactors = c.0; devices = d.0 })
  if are_sizes s then Some s else None

-- the number of the first line that is no event, of lines numbered from n
abbrev pub bad_event : ℕ → List (List ℕ) → Option ℕ
bad_event n [] = None
bad_event n (l ∷ ls) = elim (event_in l) [ Some e ↦ bad_event (n + 1) ls | None ↦ Some n ]

-- the first line that is left, where one is
abbrev pub stopped_at : Left → Option ℕ
stopped_at s = if is_nil s.lines then None else Some s.line

-- the number of the first bad line; a text of no lines has bad line 1
abbrev pub bad_line : List (List ℕ) → Option ℕ
bad_line [] = Some 1
bad_line (l ∷ ls) = elim (sizes_in l) [ Some s ↦ bad_event 2 ls | None ↦ Some 1 ]
