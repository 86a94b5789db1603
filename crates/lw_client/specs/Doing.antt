-- How a client does an op.
use Rattle.std.specs.Prelude.{ℕ, ◌≡◌, ◌≢◌, ◌⊎◌, ◌+◌, ◌-◌, ◌<◌, ◌≤◌, true, false, [], ◌∷◌, ◌++◌, Option, Some, None, option_map, slice_set}
use Rattle.std.specs.Arc.{arc_value}
use Rattle.lw_latch.specs.DeviceWord.{KnowsOpen}
use Rattle.lw_model.specs.declared.record.Answer.{Answer}
use Rattle.lw_model.specs.declared.record.Answer.TheVariants as answer
use Rattle.lw_model.specs.Threads.{op_at, owner_of}
use Rattle.lw_pool.specs.declared.class.Class.{Class}
use Rattle.lw_pool.specs.PoolEnds.{BufferEnd, queue_of, count_of, lent_of, with_taken}
use Rattle.lw_poller.specs.Changes.{IsLeastFree, AddsTimed, Pauses}
use Rattle.lw_poller.specs.Pollers.{Pollers}
use Rattle.lw_device.specs.Rows.{seat_of, seat_visiting, seat_found}
use Rattle.lw_channel.specs.Channels.{Channels, channel_of, channel_submitted, with_channel, with_row}
use Rattle.lw_visit.specs.Tokens.{Visit, Cast, new_visit, new_cast}
use Rattle.lw_thread.specs.Acts.{Doing}
use Rattle.lw_mail.specs.declared.mail.Mail.{Mail}
use Rattle.lw_mail.specs.declared.mail.Content.{Content}
use Rattle.lw_mail.specs.declared.mail.Content.TheVariants as content
use Rattle.lw_passing.specs.Passing.{Asks}
use Rattle.lw_client.specs.declared.client.Client.{Client}
use Rattle.lw_client.specs.declared.client.Use.{Use}
use Rattle.lw_client.specs.declared.client.Waits.TheVariants as waits
use Rattle.lw_ops.specs.declared.task.Task.{Task}
use Rattle.lw_ops.specs.declared.task.Task.TheVariants as task
use Rattle.lw_ops.specs.Tasks.{task_for}
use Rattle.lw_ops.specs.Answering.{IsGot, IsPut, IsBegun}
use Rattle.lw_client.specs.Clients.{use_of, active}

-- What changes in a client.

-- a line is listed for the next op, when so many messages were run
abbrev pub listed : ℕ → Answer → Client → Client
listed at a b = record b { did = b.did ++ record { at = at; op = b.next; answer = a } ∷ []; next = b.next + 1 }

abbrev pub with_set : Channels → Client → Client
with_set x b = record b { set = Some x }

abbrev pub with_use : ℕ → (Use → Use) → Client → Client
with_use d f b = record b { uses = slice_set b.uses d (f (use_of b d)) }

abbrev pub use_asked : Use → Use
use_asked u = record u { requests = u.requests + 1 }

abbrev pub use_answered : Use → Use
use_answered u = record u { requests = u.requests - 1 }

abbrev pub use_deferred : Use → Use
use_deferred u = record u { puts = u.puts + 1 }

abbrev pub use_put : Use → Use
use_put u = record u { puts = u.puts - 1 }

abbrev pub use_owing : Use → Use
use_owing u = record u { owes = true }

abbrev pub use_called : Use → Use
use_called u = record u { owes = false }

-- a client in a call
abbrev pub State : Type 0
State = Doing Mail Client

-- the body becomes this one, and the acts stay
abbrev pub Becomes : Client → State → State → Type 0
Becomes b s t = (t.body ≡ b) × (t.acts ≡ s.acts)

-- What each op does, of which a line is listed but where a wait starts.

pub record Gets (d : ℕ) (s t : State) : Type 0 where
  pub before : Channels
  pub after : Channels
  pub answer : Answer
  pub its : s.body.set ≡ Some before
  pub got : IsGot d before after answer
  pub becomes : Becomes (listed s.acts.ran answer (with_set after s.body)) s t

-- the last put sends the thread itself a PutSelf
abbrev pub Gives : ℕ → Answer → Client → State → State → Type 0
Gives d answer.Deferred b s t = (t.body ≡ with_use d use_deferred b) × Asks s.body.thread (content.PutSelf d) s.acts t.acts
Gives d _ b s t = Becomes b s t

pub record Puts (d : ℕ) (s t : State) : Type 0 where
  pub none_unanswered : (use_of s.body d).requests ≡ 0
  pub before : Channels
  pub after : Channels
  pub answer : Answer
  pub its : s.body.set ≡ Some before
  pub put : IsPut d before after answer
  pub gives : Gives d answer (listed s.acts.ran answer (with_set after s.body)) s t

-- who begins an unregistration owes its callback
abbrev pub with_answer : ℕ → Answer → Client → Client
with_answer d (answer.Began n) b = with_use d use_owing b
with_answer d _ b = b

pub record Unregisters (d : ℕ) (s t : State) : Type 0 where
  pub none_unanswered : (use_of s.body d).requests ≡ 0
  pub before : Channels
  pub after : Channels
  pub answer : Answer
  pub its : s.body.set ≡ Some before
  pub begun : IsBegun d before after answer
  pub becomes : Becomes (with_answer d answer (listed s.acts.ran answer (with_set after s.body))) s t

-- the request of the next op goes out: its channel counts it, and so does the client; the op is listed as sent
abbrev pub asked : ℕ → ℕ → Channels → Client → Client
asked at d x b = listed at answer.Sent (record (with_use d use_asked b) { set = Some (with_channel x d channel_submitted); unanswered = slice_set b.unanswered b.next true; requests = b.requests + 1 })

-- a request, for which there has to be a reference, and room below the depth; a read takes a buffer of its class along
pub record SendsPlain (d : ℕ) (x : Channels) (s t : State) : Type 0 where
  pub referenced : 1 ≤ (channel_of x d).references
  pub room : s.body.requests < s.body.depth
  pub body : t.body ≡ asked s.acts.ran d x s.body
  pub sent : Asks (owner_of (arc_value s.body.script) d) (content.Request s.body.thread s.body.next) s.acts t.acts

pub record SendsRead (d : ℕ) (class : Class) (x : Channels) (s t : State) : Type 0 where
  pub referenced : 1 ≤ (channel_of x d).references
  pub room : s.body.requests < s.body.depth
  pub buffer : BufferEnd
  pub queue : buffer.queue ≡ queue_of class s.body.pool.pool
  pub class_is : buffer.class ≡ class
  pub body : t.body ≡ record (asked s.acts.ran d x s.body) { pool = with_taken class s.body.pool }
  pub sent : Asks (owner_of (arc_value s.body.script) d) (content.Read s.body.thread s.body.next buffer) s.acts t.acts

-- without a reference nothing is sent
pub record Refuses (d : ℕ) (x : Channels) (s t : State) : Type 0 where
  pub no_reference : (channel_of x d).references ≡ 0
  pub becomes : Becomes (listed s.acts.ran answer.NoChannel s.body) s t

abbrev pub AsksPlain : ℕ → State → State → Type 0
AsksPlain d s t = (x : Channels) × (s.body.set ≡ Some x) × (Refuses d x s t ⊎ SendsPlain d x s t)

abbrev pub AsksRead : ℕ → Class → State → State → Type 0
AsksRead d class s t = (x : Channels) × (s.body.set ≡ Some x) × (Refuses d x s t ⊎ SendsRead d class x s t)

-- the timed poller of a wait is added, and the active poller is paused
pub record StartsWait (now ticks : ℕ) (s t : State) : Type 0 where
  pub number : ℕ
  pub between : Pollers
  pub free : IsLeastFree s.acts.pollers number
  pub added : AddsTimed number now ticks s.acts.pollers between
  pub paused : Pauses active between t.acts.pollers
  pub acts : t.acts ≡ record s.acts { pollers = t.acts.pollers }
  pub body : t.body ≡ record s.body { waits = waits.Timer number s.body.next }

-- what carries a new token
abbrev pub CarriesVisit : Visit → Content → Type 0
CarriesVisit token (content.Visit b) = b.value ≡ token
CarriesVisit token _ = ⊥

abbrev pub CarriesCast : Cast → Content → Type 0
CarriesCast token (content.Cast b) = b.value ≡ token
CarriesCast token _ = ⊥

-- a visit begins where the device was found open, and its token goes to thread 0
pub record StartsVisit (d : ℕ) (s t : State) : Type 0 where
  pub before : Channels
  pub its : s.body.set ≡ Some before
  pub found_open : KnowsOpen (seat_of before.row d).view
  pub body : t.body ≡ record (listed s.acts.ran answer.Started (with_set (with_row before d seat_visiting) s.body)) { waits = waits.Visit s.body.next d }
  pub carrier : Content
  pub token : CarriesVisit (new_visit s.body.thread s.body.next d s.acts.threads) carrier
  pub sent : Asks 0 carrier s.acts t.acts

pub record FindsShut (d : ℕ) (s t : State) : Type 0 where
  pub before : Channels
  pub its : s.body.set ≡ Some before
  pub becomes : Becomes (listed s.acts.ran answer.Shut (with_set (with_row before d seat_found) s.body)) s t

pub record StartsCast (s t : State) : Type 0 where
  pub body : t.body ≡ record (listed s.acts.ran answer.Started s.body) { waits = waits.Cast s.body.next }
  pub carrier : Content
  pub token : CarriesCast (new_cast s.body.thread s.body.next s.acts.threads) carrier
  pub sent : Asks 0 carrier s.acts t.acts

-- what an op does that is done
abbrev pub Does : ℕ → Task → State → State → Type 0
Does now (task.Get d) s t = Gets d s t
Does now (task.Put d) s t = Puts d s t
Does now (task.Ask d) s t = AsksPlain d s t
Does now (task.Read d class) s t = AsksRead d class s t
Does now (task.Wait ticks) s t = StartsWait now ticks s t
Does now (task.Visit d) s t = StartsVisit d s t ⊎ FindsShut d s t
Does now task.Each s t = StartsCast s t
Does now (task.Unregister d) s t = Unregisters d s t

-- why an op has to wait: a put and an unregistration for the replies of the image; a request, for which there is a reference, for any
-- reply, and a read also for a buffer: the pool's class was found empty, so that a pass that is the only one has all of them out
abbrev pub IsFull : ℕ → Client → Type 0
IsFull d b = (x : Channels) × (b.set ≡ Some x) × (1 ≤ (channel_of x d).references) × (b.depth ≤ b.requests)

abbrev pub IsShort : ℕ → Class → Client → Type 0
IsShort d class b = (x : Channels) × (b.set ≡ Some x) × (1 ≤ (channel_of x d).references) × (b.requests < b.depth) × (b.pool.pool.users ≡ 1 → lent_of class b.pool ≡ count_of class b.pool.pool)

abbrev pub HasToWait : Task → Client → Type 0
HasToWait (task.Put d) b = 1 ≤ (use_of b d).requests
HasToWait (task.Unregister d) b = 1 ≤ (use_of b d).requests
HasToWait (task.Ask d) b = IsFull d b
HasToWait (task.Read d class) b = IsFull d b ⊎ IsShort d class b
HasToWait _ b = ⊥

-- what the next op asks for
abbrev pub next_task : Client → Option Task
next_task b = option_map (task_for (arc_value b.script)) (op_at (arc_value b.script) b.thread b.next)

-- nothing more is done in this tick: something is waited for, or no op is left, or the next has to wait
abbrev pub Stops : Client → Type 0
Stops b =
    (b.waits ≢ waits.Nothing)
    ⊎ (next_task b ≡ None)
    ⊎ ((x : Task) × (next_task b ≡ Some x) × HasToWait x b)

-- the next op is done
pub record DoesNext (now : ℕ) (s t : State) : Type 0 where
  pub free : s.body.waits ≡ waits.Nothing
  pub task : Task
  pub next : next_task s.body ≡ Some task
  pub does : Does now task s t
