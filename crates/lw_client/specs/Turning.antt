-- What a tick of a client does.
use Rattle.std.specs.Prelude.{ℕ, zero, suc, ◌≡◌, ◌≢◌, ◌⊎◌, ◌+◌, ◌<◌, ◌≤◌, ◌==◌, ◌&&◌, nat_lt, Bool, true, false, [], ◌∷◌, ◌++◌, length, Some, None, is_none, All}
use Rattle.std.specs.Arc.{arc_value}
use Rattle.lw_latch.specs.DeviceWord.{held_count, closing_word}
use Rattle.lw_model.specs.declared.record.Answer.TheVariants as answer
use Rattle.lw_model.specs.Threads.{op_at}
use Rattle.lw_poller.specs.Changes.{Resumes, Removes}
use Rattle.lw_poller.specs.Pollers.{Pollers}
use Rattle.lw_device.specs.Rows.{seat_of, seat_fired, seat_tried}
use Rattle.lw_channel.specs.Channels.{Channels, IsEmpty, channel_of, channel_given_back, with_channel, with_row}
use Rattle.lw_thread.specs.declared.body.Work.{Work}
use Rattle.lw_thread.specs.declared.body.Work.TheVariants.{Busy, Idle}
use Rattle.lw_thread.specs.Acts.{ActsEnd}
use Rattle.lw_mail.specs.declared.mail.Mail.{Mail}
use Rattle.lw_mail.specs.declared.mail.Content.{Content}
use Rattle.lw_mail.specs.declared.mail.Content.TheVariants as content
use Rattle.lw_passing.specs.Passing.{Asks}
use Rattle.lw_client.specs.declared.client.Client.{Client}
use Rattle.lw_client.specs.declared.client.Stage.{Stage}
use Rattle.lw_client.specs.declared.client.Stage.TheVariants.{Runs, Closed, Done}
use Rattle.lw_client.specs.declared.client.Waits.{Waits}
use Rattle.lw_client.specs.declared.client.Waits.TheVariants as waits
use Rattle.lw_client.specs.Clients.{use_of, active}
use Rattle.lw_client.specs.Doing.{State, Becomes, listed, with_set, with_use, use_deferred, use_called, DoesNext, Stops}

-- First the callbacks.

-- the callback is made: the device was found shut and unfired, with nothing open
abbrev pub called_back : ℕ → ℕ → Channels → Client → Client
called_back at d x b = record (with_use d use_called (with_set (with_row x d seat_fired) b)) { called = b.called ++ record { at = at; device = d } ∷ [] }

pub record CallsBack (d : ℕ) (x : Channels) (s t : State) : Type 0 where
  pub unfired : (seat_of x.row d).view.fired ≡ 0
  pub none_held : held_count (seat_of x.row d).view ≡ 0
  pub becomes : Becomes (called_back s.acts.ran d x s.body) s t

-- it isn't due yet: another word was found
pub record IsNotDue (d : ℕ) (x : Channels) (s t : State) : Type 0 where
  pub seen : ℕ
  pub other : seen ≢ closing_word (seat_of x.row d).view.count
  pub becomes : Becomes (with_set (with_row x d (seat_tried seen)) s.body) s t

-- a callback that is owed is tried
abbrev pub TriesAs : Bool → ℕ → State → State → Type 0
TriesAs true d s t = (x : Channels) × (s.body.set ≡ Some x) × (CallsBack d x s t ⊎ IsNotDue d x s t)
TriesAs false d s t = Becomes s.body s t

abbrev pub Tries : ℕ → State → State → Type 0
Tries d s t = TriesAs (use_of s.body d).owes d s t

-- of each device below this one, in order
abbrev pub TriesBelow : ℕ → State → State → Type 0
TriesBelow zero s t = t ≡ s
TriesBelow (suc d) s t = (m : State) × TriesBelow d s m × Tries d m t

-- Then up to eight ops.

-- so many are done, one after the other
abbrev pub DoesSome : ℕ → ℕ → State → State → Type 0
DoesSome now zero s t = t ≡ s
DoesSome now (suc n) s t = (m : State) × DoesSome now n s m × DoesNext now m t

-- the most ops of a tick
abbrev pub most_ops : ℕ
most_ops = 8

-- fewer only where it stops
pub record DoesOps (now : ℕ) (s t : State) : Type 0 where
  pub count : ℕ
  pub most : count ≤ most_ops
  pub does : DoesSome now count s t
  pub stops : count < most_ops → Stops t.body

-- Then it closes.

abbrev pub is_running : Stage → Bool
is_running Runs = true
is_running _ = false

abbrev pub is_free : Waits → Bool
is_free waits.Nothing = true
is_free _ = false

-- whether all ops are done, no request is unanswered, nothing is waited for, and it hasn't closed
abbrev pub may_close : Client → Bool
may_close b = is_running b.stage && is_none (op_at (arc_value b.script) b.thread b.next) && b.requests == 0 && is_free b.waits

abbrev pub closed : ℕ → Client → Client
closed at b = record b { did = b.did ++ record { at = at; op = b.next; answer = answer.Closed } ∷ []; stage = Closed }

-- all references of a device are given back, with one PutSelf, where there is one
pub record GivesAll (d : ℕ) (x : Channels) (s t : State) : Type 0 where
  pub referenced : 1 ≤ (channel_of x d).references
  pub body : t.body ≡ with_use d use_deferred (with_set (with_channel x d channel_given_back) s.body)
  pub sent : Asks s.body.thread (content.PutSelf d) s.acts t.acts

abbrev pub GivesNone : ℕ → Channels → State → State → Type 0
GivesNone d x s t = ((channel_of x d).references ≡ 0) × Becomes s.body s t

abbrev pub GivesBack : ℕ → State → State → Type 0
GivesBack d s t = (x : Channels) × (s.body.set ≡ Some x) × (GivesAll d x s t ⊎ GivesNone d x s t)

-- of each device below this one, in order
abbrev pub GivesBelow : ℕ → State → State → Type 0
GivesBelow zero s t = t ≡ s
GivesBelow (suc d) s t = (m : State) × GivesBelow d s m × GivesBack d m t

abbrev pub ClosesAs : Bool → State → State → Type 0
ClosesAs true s t = GivesBelow (length s.body.uses) (record { body = closed s.acts.ran s.body; acts = s.acts }) t
ClosesAs false s t = Becomes s.body s t

abbrev pub Closes : State → State → Type 0
Closes s t = ClosesAs (may_close s.body) s t

-- Then it is done.

-- it has closed, has no channel, and owes no callback
pub record IsThrough (b : Client) (x : Channels) : Type 0 where
  pub closed : b.stage ≡ Closed
  pub its : b.set ≡ Some x
  pub empty : IsEmpty x
  pub none_owed : All (λ u. u.owes ≡ false) b.uses

abbrev pub CarriesSet : Channels → Content → Type 0
CarriesSet x (content.Done b) = b.value ≡ x
CarriesSet x _ = ⊥

-- its set goes to the app, its poller is removed, and its end is asked for
pub record SendsSet (x : Channels) (old new : ActsEnd Mail) : Type 0 where
  pub carrier : Content
  pub set : CarriesSet x carrier
  pub between : ActsEnd Mail
  pub sent : Asks 0 carrier old between
  pub removed : Removes active between.pollers new.pollers
  pub acts : new ≡ record between { pollers = new.pollers; asked_end = true }

pub record Tells (x : Channels) (s t : State) : Type 0 where
  pub through : IsThrough s.body x
  pub body : t.body ≡ record s.body { set = None; stage = Done }
  pub sends : SendsSet x s.acts t.acts

-- why it stays
abbrev pub Stays : Client → Type 0
Stays b =
    (b.stage ≢ Closed)
    ⊎ ((x : Channels) × (b.set ≡ Some x) × (IsEmpty x → ⊥))
    ⊎ (All (λ u. u.owes ≡ false) b.uses → ⊥)

abbrev pub Ends : State → State → Type 0
Ends s t = ((x : Channels) × Tells x s t) ⊎ (Stays s.body × Becomes s.body s t)

-- how much it has listed, and what is to be sent
abbrev pub told : State → ℕ
told s = length s.body.did + length s.body.called + length s.acts.pending

-- whether it listed a line or asked for a send
abbrev pub has_worked : State → State → Bool
has_worked s t = nat_lt (told s) (told t)

-- a call of the active poller, which has worked exactly where it listed a line or asked for a send
pub record Turns (now : ℕ) (worked : Bool) (s t : State) : Type 0 where
  pub called : State
  pub did : State
  pub closed : State
  pub tries : TriesBelow (length s.body.uses) s called
  pub does : DoesOps now called did
  pub closes : Closes did closed
  pub ends : Ends closed t
  pub work : worked ≡ has_worked s t

-- a call of the timed poller of a wait: the wait is over, its poller is removed, and the active one goes on
pub record EndsWait (number now : ℕ) (s t : State) : Type 0 where
  pub body : t.body ≡ record (listed s.acts.ran answer.Waited s.body) { waits = waits.Nothing }
  pub between : Pollers
  pub removed : Removes number s.acts.pollers between
  pub resumed : Resumes active now between t.acts.pollers
  pub acts : t.acts ≡ record s.acts { pollers = t.acts.pollers }

-- whether this is the poller of a wait
abbrev pub is_timer : Waits → ℕ → Bool
is_timer (waits.Timer poller k) number = poller == number
is_timer _ number = false

abbrev pub work_of : Bool → Work
work_of true = Busy
work_of false = Idle

abbrev pub TicksAs : Bool → ℕ → ℕ → Work → State → State → Type 0
TicksAs true number now work s t = EndsWait number now s t × (work ≡ Busy)
TicksAs false number now work s t = (worked : Bool) × Turns now worked s t × (work ≡ work_of worked)

abbrev pub Ticks : ℕ → ℕ → Work → State → State → Type 0
Ticks number now work s t = TicksAs (is_timer s.body.waits number) number now work s t
