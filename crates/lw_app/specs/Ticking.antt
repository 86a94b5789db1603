-- What a tick of the app does.
use Rattle.std.specs.Prelude.{◌≤◌, ℕ, zero, suc, ◌+◌, ◌≡◌, ◌≢◌, ◌==◌, ◌⊎◌, Bool, true, false, ◌||◌, nat_lt, if◌then◌else◌, List, [], ◌∷◌, ◌++◌, length, slice_set}
use Rattle.std.specs.Arc.{arc_value}
use Rattle.lw_model.specs.declared.record.Answer.{Answer}
use Rattle.lw_model.specs.declared.record.Answer.TheVariants as answer
use Rattle.lw_model.specs.Threads.{owner_of, thread_count}
use Rattle.lw_latch.specs.DeviceWord.{KnowsOpen, IsAbove, closing_word, held_count}
use Rattle.lw_latch.specs.DeviceEnds.{HasAllSeats}
use Rattle.lw_device.specs.Rows.{seat_of, seat_began, seat_found, seat_fired, seat_tried}
use Rattle.lw_channel.specs.Channels.{Channels, with_row}
use Rattle.lw_poller.specs.Changes.{Removes}
use Rattle.lw_thread.specs.Acts.{ActsEnd, Doing}
use Rattle.lw_thread.specs.declared.body.Work.{Work}
use Rattle.lw_thread.specs.declared.body.Work.TheVariants.{Idle, Busy}
use Rattle.lw_mail.specs.Runs.{Run}
use Rattle.lw_mail.specs.declared.mail.Mail.{Mail}
use Rattle.lw_mail.specs.declared.mail.Content.TheVariants as content
use Rattle.lw_passing.specs.Passing.{Asks}
use Rattle.lw_app.specs.declared.app.Stage.{Stage}
use Rattle.lw_app.specs.declared.app.Stage.TheVariants as stage
use Rattle.lw_app.specs.declared.app.App.{App}
use Rattle.lw_app.specs.Flags.{how_many}
use Rattle.lw_app.specs.Apps.{flag_at, lines_at, IsApp}

-- no flag is set
abbrev pub none_set : List Bool → Bool
none_set fs = how_many fs == 0

-- a tick does something: a Done of each client has come, and the Stops are not sent
abbrev pub is_due_at : Stage → App → Bool
is_due_at stage.Waiting b = none_set b.awaited
is_due_at stage.Calling b = true
is_due_at stage.Stopped b = false

abbrev pub is_due : App → Bool
is_due b = is_due_at b.stage b

-- One device is unregistered.

-- the call began: the device was open to all that the row knows, and so many channels had been given
pub record Begun (d given : ℕ) (x y : Channels) : Type 0 where
  pub opens : ℕ
  pub row : y ≡ with_row x d (seat_began given opens)
  pub knew : KnowsOpen (seat_of x.row d).view
  pub least : length (seat_of x.row d).view.ordinals ≤ given
  pub above : IsAbove given (seat_of x.row d).view.ordinals
  pub all : HasAllSeats (seat_of x.row d) → given ≡ length (seat_of x.row d).view.ordinals

-- what the set's answer is, and the flags of what is owed then
abbrev pub Answered : Answer → ℕ → App → Channels → List Bool → Type 0
Answered (answer.Began given) d a y owed = Begun d given a.set y × (owed ≡ slice_set a.owed d true)
Answered answer.Already d a y owed = (y ≡ with_row a.set d seat_found) × (owed ≡ a.owed)
Answered _ d a y owed = ⊥

-- device d is unregistered, and the answer is listed
pub record Unregisters (at d : ℕ) (a b : App) : Type 0 where
  pub answer : Answer
  pub answered : Answered answer d a b.set b.owed
  pub body : b ≡ record a { set = b.set; owed = b.owed; did = a.did ++ record { at = at; op = d; answer = answer } ∷ [] }

-- the devices before n, in their order
abbrev pub UnregistersTo : ℕ → ℕ → App → App → Type 0
UnregistersTo at zero a b = b ≡ a
UnregistersTo at (suc n) a b = (m : App) × UnregistersTo at n a m × Unregisters at n m b

-- all devices, where that wasn't done
abbrev pub BeginsAt : Stage → ℕ → App → App → Type 0
BeginsAt stage.Waiting at a b = (m : App) × UnregistersTo at (length a.owed) a m × (b ≡ record m { stage = stage.Calling })
BeginsAt stage.Calling at a b = b ≡ a
BeginsAt stage.Stopped at a b = b ≡ a

abbrev pub Begins : ℕ → App → App → Type 0
Begins at a b = BeginsAt a.stage at a b

-- One callback is tried.

-- it is made: nobody held a channel of the device or had a visit, as far as the row knows, and it is listed
pub record Fires (at d : ℕ) (a b : App) : Type 0 where
  pub unfired : (seat_of a.set.row d).view.fired ≡ 0
  pub unheld : held_count (seat_of a.set.row d).view ≡ 0
  pub body : b ≡ record a { set = with_row a.set d seat_fired; owed = slice_set a.owed d false; called = a.called ++ record { at = at; device = d } ∷ [] }

-- it is not: the word that was found is another than that of a shut device with nothing open
pub record Fails (d : ℕ) (a b : App) : Type 0 where
  pub seen : ℕ
  pub another : seen ≢ closing_word (seat_of a.set.row d).view.count
  pub body : b ≡ record a { set = with_row a.set d (seat_tried seen) }

-- the callback of device d is tried where it is owed
abbrev pub TriesAs : Bool → ℕ → ℕ → App → App → Type 0
TriesAs true at d a b = Fires at d a b ⊎ Fails d a b
TriesAs false at d a b = b ≡ a

abbrev pub Tries : ℕ → ℕ → App → App → Type 0
Tries at d a b = TriesAs (flag_at a.owed d) at d a b

-- those of the devices before n, in their order
abbrev pub TriesTo : ℕ → ℕ → App → App → Type 0
TriesTo at zero a b = b ≡ a
TriesTo at (suc n) a b = (m : App) × TriesTo at n a m × Tries at n m b

-- A Stop to each of the first n owners, in their order, where owner 0 is this thread.
abbrev pub StopsTo : ℕ → ℕ → ActsEnd Mail → ActsEnd Mail → Type 0
StopsTo first zero a b = b ≡ a
StopsTo first (suc n) a b = (m : ActsEnd Mail) × StopsTo first n a m × Asks (first + n) content.Stop m b

-- The Stops are asked for, the poller with this number is removed, and the end is asked for.
pub record Ends (number : ℕ) (s t : Doing Mail App) : Type 0 where
  pub asked : ActsEnd Mail
  pub stops : StopsTo (owner_of (arc_value s.body.script) 0) (length s.body.owed) s.acts asked
  pub removed : Removes number asked.pollers t.acts.pollers
  pub acts : t.acts ≡ record asked { pollers = t.acts.pollers; asked_end = true }
  pub body : t.body ≡ record s.body { stage = stage.Stopped }

-- that is done where no callback is owed
abbrev pub EndsAs : Bool → ℕ → Doing Mail App → Doing Mail App → Type 0
EndsAs true number s t = Ends number s t
EndsAs false number s t = t ≡ s

abbrev pub EndsWhereDone : ℕ → Doing Mail App → Doing Mail App → Type 0
EndsWhereDone number s t = EndsAs (none_set s.body.owed) number s t

-- a line was listed, or a send asked for
abbrev pub did_something : Doing Mail App → Doing Mail App → Bool
did_something s t = nat_lt (length s.body.did) (length t.body.did) || nat_lt (length s.body.called) (length t.body.called) || nat_lt (length s.acts.pending) (length t.acts.pending)

-- a tick that does something
pub record Steps (number : ℕ) (work : Work) (s t : Doing Mail App) : Type 0 where
  pub begun : App
  pub begins : Begins s.acts.ran s.body begun
  pub called : App
  pub calls : TriesTo s.acts.ran (length begun.owed) begun called
  pub ends : EndsWhereDone number (record { body = called; acts = s.acts }) t
  pub answer : work ≡ (if did_something s t then Busy else Idle)

-- a tick
abbrev pub TicksAs : Bool → ℕ → Work → Doing Mail App → Doing Mail App → Type 0
TicksAs true number work s t = Steps number work s t
TicksAs false number work s t = (work ≡ Idle) × (t ≡ s)

-- what a tick takes for granted
pub record MayTick (b : App) (a : ActsEnd Mail) : Type 0 where
  pub run : Run
  pub app : IsApp run (lines_at b.stage run.script) b
  pub threads : a.threads ≡ thread_count run.script
