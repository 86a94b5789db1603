-- The world of events: its state, which events it refuses, and what the others do.
use Rattle.std.specs.Prelude.{◌≡◌, ℕ, zero, suc, ◌+◌, ◌*◌, ◌%◌, ◌==◌, ◌<◌, ◌≤◌, Bool, true, false, ◌&&◌, ◌||◌, not, nat_lt, nat_le, List, [], ◌∷◌, slice_index_or, slice_set, replicate, if◌then◌else◌, Option, Some, None, Result, Ok, Err}
use Rattle.std.specs.List.{list_any}
use Rattle.lw_world.specs.declared.world_state.Standing.{Standing}
use Rattle.lw_world.specs.declared.world_state.Standing.TheVariants as standing
use Rattle.lw_world.specs.declared.world_state.Stage.{Stage}
use Rattle.lw_world.specs.declared.world_state.Stage.TheVariants as stage
use Rattle.lw_world.specs.declared.world_event.WorldEvent.{WorldEvent}
use Rattle.lw_world.specs.declared.world_event.WorldEvent.TheVariants.{Send, Run, LeaveFor, Arrive, End, Give, Destroy, Shut, Fire, BeginVisit, EndVisit, Sleep, Wake}
use Rattle.lw_world.specs.declared.world_event.WorldRefusal.{WorldRefusal}
use Rattle.lw_world.specs.declared.world_event.WorldRefusal.TheVariants as refusal
use Rattle.lw_world.specs.Sums.{at, put}
use Rattle.lw_world.specs.Register.{tabulate}

-- ---- the state

-- messages by sender and receiver, channels and visits by thread and device: how many there are, 0 or 1 of the last two
pub record State : Type 0 where
  pub threads : ℕ
  pub reactors : ℕ
  pub devices : ℕ
  pub sent : List ℕ
  pub run : List ℕ
  pub standing : List Standing
  pub channels : List ℕ
  pub visits : List ℕ
  pub stage : List Stage
  pub asleep : List Bool

abbrev pub standing_of : State → ℕ → Standing
standing_of w t = slice_index_or w.standing t standing.Ended

abbrev pub stage_of : State → ℕ → Stage
stage_of w d = slice_index_or w.stage d stage.Open

-- all of nothing; thread t stands in the list of reactor t mod reactors
abbrev pub first_state : ℕ → ℕ → ℕ → State
first_state threads reactors devices = record {
  threads = threads;
  reactors = reactors;
  devices = devices;
  sent = replicate (threads * 81) 0;
  run = replicate (threads * 81) 0;
  standing = tabulate threads (λ t. standing.List (t % reactors));
  channels = replicate (threads * 81) 0;
  visits = replicate (threads * 81) 0;
  stage = tabulate devices (λ d. stage.Open);
  asleep = replicate reactors false;
}

-- ---- what refusals test

-- some number below n passes
abbrev pub any_below : ℕ → (ℕ → Bool) → Bool
any_below zero p = false
any_below (suc n) p = any_below n p || p n

abbrev pub is_thread : State → ℕ → Bool
is_thread w t = nat_lt t w.threads

abbrev pub is_reactor : State → ℕ → Bool
is_reactor w c = nat_lt c w.reactors

abbrev pub is_device : State → ℕ → Bool
is_device w d = nat_lt d w.devices

abbrev pub is_end : Standing → Bool
is_end (standing.List c) = false
is_end (standing.Event c) = false
is_end standing.Ended = true

abbrev pub is_list : Standing → Bool
is_list (standing.List c) = true
is_list (standing.Event c) = false
is_list standing.Ended = false

abbrev pub is_list_of : ℕ → Standing → Bool
is_list_of c (standing.List r) = r == c
is_list_of c (standing.Event r) = false
is_list_of c standing.Ended = false

abbrev pub is_ended : State → ℕ → Bool
is_ended w t = is_end (standing_of w t)

-- it stands in a list
abbrev pub acts : State → ℕ → Bool
acts w t = is_list (standing_of w t)

abbrev pub sleeps : State → ℕ → Bool
sleeps w c = slice_index_or w.asleep c false

-- it is on its way to a reactor that is awake
abbrev pub may_arrive : State → Standing → Bool
may_arrive w (standing.List c) = false
may_arrive w (standing.Event c) = not (sleeps w c)
may_arrive w standing.Ended = false

abbrev pub comes : State → ℕ → Bool
comes w t = may_arrive w (standing_of w t)

-- all that s sent to r was run
abbrev pub is_run : State → ℕ → ℕ → Bool
is_run w s r = nat_le (at w.sent s r) (at w.run s r)

abbrev pub has_unrun : State → ℕ → Bool
has_unrun w r = any_below w.threads (λ s. nat_lt (at w.run s r) (at w.sent s r))

abbrev pub owns : State → ℕ → ℕ → Bool
owns w t d = nat_lt 0 (at w.channels t d)

abbrev pub visits : State → ℕ → ℕ → Bool
visits w t d = nat_lt 0 (at w.visits t d)

abbrev pub owns_some : State → ℕ → Bool
owns_some w t = any_below w.devices (owns w t)

abbrev pub visits_some : State → ℕ → Bool
visits_some w t = any_below w.devices (visits w t)

abbrev pub has_owner : State → ℕ → Bool
has_owner w d = any_below w.threads (λ t. owns w t d)

abbrev pub has_visit : State → ℕ → Bool
has_visit w d = any_below w.threads (λ t. visits w t d)

abbrev pub is_shut : Stage → Bool
is_shut stage.Open = false
is_shut (stage.Shut t) = true
is_shut stage.Fired = true

abbrev pub is_fired : Stage → Bool
is_fired stage.Open = false
is_fired (stage.Shut t) = false
is_fired stage.Fired = true

-- t shut it, and it hasn't fired
abbrev pub is_shut_by : ℕ → Stage → Bool
is_shut_by t stage.Open = false
is_shut_by t (stage.Shut s) = s == t
is_shut_by t stage.Fired = false

abbrev pub owes_callback : State → ℕ → Bool
owes_callback w t = list_any (is_shut_by t) w.stage

abbrev pub has_listed : State → ℕ → Bool
has_listed w c = list_any (is_list_of c) w.standing

-- ---- refusals

abbrev pub refusal_number : WorldRefusal → ℕ
refusal_number refusal.Unknown = 1
refusal_number refusal.Exited = 2
refusal_number refusal.Nothing = 3
refusal_number refusal.NotHere = 4
refusal_number refusal.Unrun = 5
refusal_number refusal.HasChannel = 6
refusal_number refusal.Shut = 7
refusal_number refusal.NoChannel = 8
refusal_number refusal.Already = 9
refusal_number refusal.NotShut = 10
refusal_number refusal.InUse = 11
refusal_number refusal.NotIdle = 12
refusal_number refusal.NoMemory = 13

-- a refusal, and whether it applies
abbrev pub Test : Type 0
Test = Bool × WorldRefusal

-- the first that applies
abbrev pub first_of : List Test → Option WorldRefusal
first_of [] = None
first_of (t ∷ ts) = if t.0 then Some t.1 else first_of ts

-- what is tested first where a thread is to act
abbrev pub acting : State → ℕ → List Test → List Test
acting w t ts = (is_ended w t, refusal.Exited) ∷ (not (acts w t), refusal.NotHere) ∷ ts

-- the tests of an event, by the refusals' numbers
abbrev pub tests_of : State → WorldEvent → List Test
tests_of w (Send s r) =
    (not (is_thread w s && is_thread w r), refusal.Unknown) ∷ (is_ended w r, refusal.Exited) ∷ (not (acts w s), refusal.NotHere) ∷ []
tests_of w (Run r s) =
    (not (is_thread w s && is_thread w r), refusal.Unknown) ∷ (is_run w s r, refusal.Nothing) ∷ (not (acts w r), refusal.NotHere) ∷ []
tests_of w (LeaveFor t c) =
    (not (is_thread w t && is_reactor w c), refusal.Unknown) ∷ acting w t []
tests_of w (Arrive t) =
    (not (is_thread w t), refusal.Unknown) ∷ (is_ended w t, refusal.Exited) ∷ (not (comes w t), refusal.NotHere) ∷ []
tests_of w (End t) =
    (not (is_thread w t), refusal.Unknown) ∷ acting w t (
    (has_unrun w t, refusal.Unrun) ∷ (owns_some w t, refusal.HasChannel) ∷ (visits_some w t || owes_callback w t, refusal.InUse) ∷ [])
tests_of w (Give t d) =
    (not (is_thread w t && is_device w d), refusal.Unknown) ∷ acting w t (
    (is_shut (stage_of w d), refusal.Shut) ∷ (owns w t d, refusal.Already) ∷ [])
tests_of w (Destroy t d) =
    (not (is_thread w t && is_device w d), refusal.Unknown) ∷ acting w t (
    (not (owns w t d), refusal.NoChannel) ∷ [])
tests_of w (Shut t d) =
    (not (is_thread w t && is_device w d), refusal.Unknown) ∷ acting w t (
    (is_shut (stage_of w d), refusal.Already) ∷ [])
tests_of w (Fire t d) =
    (not (is_thread w t && is_device w d), refusal.Unknown) ∷ acting w t (
    (is_fired (stage_of w d), refusal.Already) ∷ (not (is_shut_by t (stage_of w d)), refusal.NotShut) ∷ (has_owner w d || has_visit w d, refusal.InUse) ∷ [])
tests_of w (BeginVisit t d) =
    (not (is_thread w t && is_device w d), refusal.Unknown) ∷ acting w t (
    (is_shut (stage_of w d), refusal.Shut) ∷ (visits w t d, refusal.Already) ∷ [])
tests_of w (EndVisit t d) =
    (not (is_thread w t && is_device w d), refusal.Unknown) ∷ (is_ended w t, refusal.Exited) ∷ (not (visits w t d), refusal.Nothing) ∷ (not (acts w t), refusal.NotHere) ∷ []
tests_of w (Sleep c) =
    (not (is_reactor w c), refusal.Unknown) ∷ (sleeps w c, refusal.Already) ∷ (has_listed w c, refusal.NotIdle) ∷ []
tests_of w (Wake c) =
    (not (is_reactor w c), refusal.Unknown) ∷ (not (sleeps w c), refusal.Nothing) ∷ []

abbrev pub refusal_of : State → WorldEvent → Option WorldRefusal
refusal_of w e = first_of (tests_of w e)

-- ---- what an event does that isn't refused

-- a thread comes into the list of the reactor that it is on its way to
abbrev pub arrived : Standing → Standing
arrived (standing.List c) = standing.List c
arrived (standing.Event c) = standing.List c
arrived standing.Ended = standing.Ended

abbrev pub after : State → WorldEvent → State
after w (Send s r) = record w { sent = put w.sent s r (at w.sent s r + 1) }
after w (Run r s) = record w { run = put w.run s r (at w.run s r + 1) }
after w (LeaveFor t c) = record w { standing = slice_set w.standing t (standing.Event c) }
after w (Arrive t) = record w { standing = slice_set w.standing t (arrived (standing_of w t)) }
after w (End t) = record w { standing = slice_set w.standing t standing.Ended }
after w (Give t d) = record w { channels = put w.channels t d 1 }
after w (Destroy t d) = record w { channels = put w.channels t d 0 }
after w (Shut t d) = record w { stage = slice_set w.stage d (stage.Shut t) }
after w (Fire t d) = record w { stage = slice_set w.stage d stage.Fired }
after w (BeginVisit t d) = record w { visits = put w.visits t d 1 }
after w (EndVisit t d) = record w { visits = put w.visits t d 0 }
after w (Sleep c) = record w { asleep = slice_set w.asleep c true }
after w (Wake c) = record w { asleep = slice_set w.asleep c false }

-- a refused event changes nothing
abbrev pub stepped : State → WorldEvent → State
stepped w e = elim (refusal_of w e) [ None ↦ after w e | Some r ↦ w ]

abbrev pub answer_of : Option WorldRefusal → Result (Unit {0}) WorldRefusal
answer_of None = Ok tt
answer_of (Some r) = Err r

-- a send between threads that are there finds fewer than 2^40 messages sent
abbrev pub HasRoom : State → WorldEvent → Type 0
HasRoom w (Send s r) = s < w.threads → r < w.threads → at w.sent s r < 1099511627776
HasRoom w e = Unit {0}

-- ---- what each world keeps that accepted events have made

pub record IsKept (w : State) : Type 0 where
  pub run_was_sent : (s r : ℕ) → at w.run s r ≤ at w.sent s r
  pub ended_ran_all : (t s : ℕ) → t < w.threads → s < w.threads → is_ended w t ≡ true → at w.run s t ≡ at w.sent s t
  pub ended_owns_nothing : (t d : ℕ) → t < w.threads → d < w.devices → is_ended w t ≡ true → at w.channels t d ≡ 0
  pub ended_visits_nothing : (t d : ℕ) → t < w.threads → d < w.devices → is_ended w t ≡ true → at w.visits t d ≡ 0
  pub fired_has_no_owner : (t d : ℕ) → t < w.threads → d < w.devices → is_fired (stage_of w d) ≡ true → at w.channels t d ≡ 0
  pub fired_has_no_visit : (t d : ℕ) → t < w.threads → d < w.devices → is_fired (stage_of w d) ≡ true → at w.visits t d ≡ 0
