-- What a client is, between its calls.
use Rattle.std.specs.Prelude.{ℕ, ◌≡◌, ◌≢◌, ◌+◌, ◌*◌, ◌<◌, ◌≤◌, ◌==◌, Bool, true, false, cond, List, [], ◌∷◌, length, Option, Some, None, slice_index_or}
use Rattle.std.specs.Arc.{arc_value}
use Rattle.lw_latch.specs.DeviceEnds.{SeatEnd}
use Rattle.lw_model.specs.declared.script.Script.{Script}
use Rattle.lw_model.specs.declared.script.Op.{Op}
use Rattle.lw_model.specs.declared.script.Op.TheVariants as op
use Rattle.lw_model.specs.ScriptRules.{block_at}
use Rattle.lw_model.specs.Threads.{is_client, depth_of, ops_of, op_at, is_on}
use Rattle.lw_pool.specs.declared.class.Class.{Class}
use Rattle.lw_pool.specs.declared.class.Class.TheVariants.{Small, Large}
use Rattle.lw_pool.specs.PoolEnds.{taken_of, given_of}
use Rattle.lw_poller.specs.Pollers.{same}
use Rattle.lw_device.specs.Rows.{latches, seat_of}
use Rattle.lw_channel.specs.declared.channel.Channel.{Channel}
use Rattle.lw_channel.specs.Channels.{Channels, channel_of}
use Rattle.lw_mail.specs.Runs.{Run}
use Rattle.lw_mail.specs.Fitting.{class_for}
use Rattle.lw_client.specs.declared.client.Client.{Client}
use Rattle.lw_client.specs.declared.client.Stage.{Stage}
use Rattle.lw_client.specs.declared.client.Stage.TheVariants.{Runs, Closed, Done}
use Rattle.lw_client.specs.declared.client.Waits.{Waits}
use Rattle.lw_client.specs.declared.client.Waits.TheVariants as waits
use Rattle.lw_client.specs.declared.client.Use.{Use}
use Rattle.lw_ops.specs.Tasks.{MayStart}

-- what is kept of a device that isn't there
abbrev pub no_use : Use
no_use = record { requests = 0; puts = 0; owes = false }

abbrev pub use_of : Client → ℕ → Use
use_of b d = slice_index_or b.uses d no_use

-- the number of the active poller
abbrev pub active : ℕ
active = 0

-- 1 once the client closed, which it lists behind its last op
abbrev pub closed_lines : Stage → ℕ
closed_lines Runs = 0
closed_lines Closed = 1
closed_lines Done = 1

abbrev pub is_done : Stage → Bool
is_done Runs = false
is_done Closed = false
is_done Done = true

-- whether a visit of the device is waited for
abbrev pub visits : Waits → ℕ → Bool
visits (waits.Visit k device) d = device == d
visits _ d = false

-- the sum of the weights of the ops that are marked
abbrev pub weigh : (ℕ → ℕ) → List Bool → ℕ
weigh w [] = 0
weigh w (x ∷ xs) = cond x (w 0) 0 + weigh (λ k. w (k + 1)) xs

-- an op weighs 1 where it is on this image, and where it is a read that is lent a buffer of this class; each op weighs 1
abbrev pub on_image : Script → ℕ → ℕ → ℕ → ℕ
on_image s t d k = cond (is_on s t d k) 1 0

abbrev pub is_class : Class → Class → ℕ
is_class Small Small = 1
is_class Large Large = 1
is_class _ _ = 0

abbrev pub lends : Script → Class → Option Op → ℕ
lends s class (Some (op.Read d start count)) = is_class class (class_for (count * block_at s d))
lends s class _ = 0

abbrev pub any_op : ℕ → ℕ
any_op k = 1

-- a client of this run: it shares the run's script, is the thread of one of its clients, has the depth that the script says, and its ops
-- are ones that it may have
pub record IsClientOf (r : Run) (script : Script) (thread depth : ℕ) : Type 0 where
  pub script_is : script ≡ r.script
  pub client : is_client r.script thread ≡ true
  pub depth_is : depth ≡ depth_of r.script thread
  pub devices : length r.registry ≡ length r.script.images
  pub few_images : length r.script.images ≤ 16
  pub few_clients : length r.script.clients ≤ 64
  pub few_ops : length (ops_of r.script thread) ≤ 100000
  pub ops : (k : ℕ) (o : Op) → op_at r.script thread k ≡ Some o → MayStart r.script o

-- it owes the callback where its seat began; else it has fired whatever it began
abbrev pub OwesAs : Bool → ℕ → ℕ → ℕ → ℕ → Type 0
OwesAs true number began_by begun fired = (begun ≡ 1) × (began_by ≡ number)
OwesAs false number began_by begun fired = begun ≤ fired

abbrev pub Owes : Bool → SeatEnd → Type 0
Owes owes e = OwesAs owes e.number e.began_by e.view.begun e.view.fired

-- what is kept of a device, where so many lines are listed: the seat is this thread's alone, and has a visit where one is waited for;
-- each PutSelf that is pending was sent by this client; and where a request is unanswered, a reference is left
pub record KeepsDevice (thread lines : ℕ) (visiting : Bool) (k : Channel) (e : SeatEnd) (u : Use) : Type 0 where
  pub alone : e.view.seats ≡ 1
  pub number : e.number ≡ thread
  pub visit : e.view.visit ≡ cond visiting 1 0
  pub owes : Owes u.owes e
  pub puts : k.pending ≡ u.puts
  pub balance : k.references + u.puts ≤ k.gets
  pub few_gets : k.gets ≤ lines
  pub few_requests : k.submitted ≤ lines
  pub referenced : 1 ≤ u.requests → 1 ≤ k.references

-- its set is one of the run's registry
pub record HasSet (r : Run) (thread lines : ℕ) (stage : Stage) (w : Waits) (uses : List Use) (x : Channels) : Type 0 where
  pub not_done : is_done stage ≡ false
  pub registry : latches x.row ≡ r.registry
  pub devices : length x.channels ≡ length r.script.images
  pub each : (d : ℕ) → d < length r.script.images → KeepsDevice thread lines (visits w d) (channel_of x d) (seat_of x.row d) (slice_index_or uses d no_use)

-- it has its set until it is done, and then owes no callback
abbrev pub SetFits : Run → ℕ → ℕ → Stage → Waits → List Use → Option Channels → Type 0
SetFits r thread lines stage w uses None = (stage ≡ Done) × ((k : ℕ) → (slice_index_or uses k no_use).owes ≡ false)
SetFits r thread lines stage w uses (Some x) = HasSet r thread lines stage w uses x

-- what it waits for is the op that comes next, or a visit or a cast that it started last
abbrev pub WaitsFor : Script → ℕ → ℕ → Waits → Type 0
WaitsFor s thread next waits.Nothing = Unit {0}
WaitsFor s thread next (waits.Timer poller k) = (k ≡ next) × ((ticks : ℕ) × (op_at s thread k ≡ Some (op.Wait ticks))) × (poller ≢ active)
WaitsFor s thread next (waits.Visit k d) = (k + 1 ≡ next) × (op_at s thread k ≡ Some (op.Visit d))
WaitsFor s thread next (waits.Cast k) = (k + 1 ≡ next) × (op_at s thread k ≡ Some op.Each)

-- once it has closed, all ops are done, no request is unanswered and nothing is waited for
pub record IsOver (s : Script) (thread next requests : ℕ) (w : Waits) : Type 0 where
  pub all_done : next ≡ length (ops_of s thread)
  pub none_unanswered : requests ≡ 0
  pub none_awaited : w ≡ waits.Nothing

abbrev pub StageFits : Script → ℕ → ℕ → ℕ → Waits → Stage → Type 0
StageFits s thread next requests w Runs = Unit {0}
StageFits s thread next requests w Closed = IsOver s thread next requests w
StageFits s thread next requests w Done = IsOver s thread next requests w

-- 1 where a live poller of the client has the number, and else 0: the active one's until it is done, and that of a wait
abbrev pub waiting_poller : Waits → ℕ → ℕ
waiting_poller (waits.Timer poller k) n = same n poller
waiting_poller _ n = 0

abbrev pub own_poller : Stage → ℕ → ℕ
own_poller Runs n = same n active
own_poller Closed n = same n active
own_poller Done n = 0

-- exactly its pollers are live
abbrev pub AreLive : (ℕ → ℕ) → Stage → Waits → Type 0
AreLive live stage w = (n : ℕ) → live n ≡ own_poller stage n + waiting_poller w n

-- none is live as yet: it waits for none
abbrev pub NoneLive : (ℕ → ℕ) → Waits → Type 0
NoneLive live w = ((n : ℕ) → live n ≡ 0) × ((n : ℕ) → waiting_poller w n ≡ 0)

-- What a client keeps: it is one of the run; it lists a line an op; it counts its unanswered requests, of each image and in all; the
-- buffers that its pass has lent are those of its reads that are unanswered.
pub record IsSound (r : Run) (b : Client) : Type 0 where
  pub of_run : IsClientOf r (arc_value b.script) b.thread b.depth
  pub pool : b.pool.pool ≡ r.pool
  pub pass : b.pool.number ≡ b.thread
  pub uses : length b.uses ≡ length r.script.images
  pub marks : length b.unanswered ≡ length (ops_of r.script b.thread)
  pub within : b.next ≤ length (ops_of r.script b.thread)
  pub lines : length b.did ≡ b.next + closed_lines b.stage
  pub set : SetFits r b.thread (length b.did) b.stage b.waits b.uses b.set
  pub unasked : (k : ℕ) → b.next ≤ k → slice_index_or b.unanswered k false ≡ false
  pub requests : (d : ℕ) → d < length r.script.images → (use_of b d).requests ≡ weigh (on_image r.script b.thread d) b.unanswered
  pub in_all : b.requests ≡ weigh any_op b.unanswered
  pub lent : (class : Class) → taken_of class b.pool ≡ given_of class b.pool + weigh (λ k. lends r.script class (op_at r.script b.thread k)) b.unanswered
  pub awaits : WaitsFor r.script b.thread b.next b.waits
  pub stage : StageFits r.script b.thread b.next b.requests b.waits b.stage
