-- What the next op may take for granted.
use Rattle.std.proofs.Common.{◌≡◌, ℕ, ◌+◌, ◌<◌, ◌≤◌, nat_lt, nat_le, Bool, true, false, cond, List, length, Option, Some, None, refl, sym, ap, subst, ◌∙◌, arith}
use Rattle.std.specs.Prelude.{option_map}
use Rattle.std.proofs.lemmas.Bool.{and_parts, leb-true}
use Rattle.lw_model.specs.declared.script.Script.{Script}
use Rattle.lw_model.specs.declared.script.Op.{Op}
use Rattle.lw_model.specs.Threads.{is_client, op_at, ops_of, owner_of, thread_count, is_on}
use Rattle.lw_channel.specs.Channels.{Channels}
use Rattle.lw_poller.specs.Pollers.{times, same}
use Rattle.lw_mail.specs.Runs.{Run}
use Rattle.lw_client.specs.declared.client.Client.{Client}
use Rattle.lw_client.specs.declared.client.Stage.{Stage}
use Rattle.lw_client.specs.declared.client.Stage.TheVariants.{Runs, Closed, Done}
use Rattle.lw_client.specs.declared.client.Waits.{Waits}
use Rattle.lw_client.specs.declared.client.Waits.TheVariants as waits
use Rattle.lw_client.specs.declared.client.Use.{Use}
use Rattle.lw_ops.specs.declared.task.Task.{Task}
use Rattle.lw_ops.specs.declared.task.Task.TheVariants as task
use Rattle.lw_ops.specs.Tasks.{MayStart, task_for}
use Rattle.lw_client.specs.Clients.{IsSound, HasSet, SetFits, StageFits, closed_lines, on_image, visits, own_poller, waiting_poller}
use Rattle.lw_client.specs.Doing.{State, next_task}
use Rattle.lw_client.specs.Going.{IsWell}
use Rattle.lw_client.specs.Using.{CanUse, IsFree, NoVisit, MayDo}
use Rattle.lw_client.proofs.Weighing.{weigh_few}
use Rattle.lw_client.proofs.Devices.{seats_of_registry}
use Rattle.lw_client.proofs.Facts.{is_below, mapped, task_image, image_is, in_images, is_wait}

-- the set of a client that isn't done
pub its_set : (r : Run) (thread lines : ℕ) (stage : Stage) (w : Waits) (uses : List Use) (o : Option Channels) → (stage ≡ Done → ⊥) → SetFits r thread lines stage w uses o → (x : Channels) × (o ≡ Some x) × HasSet r thread lines stage w uses x
its_set r thread lines stage w uses None running h = absurd (running h.0)
its_set r thread lines stage w uses (Some x) running h = (x, refl, h)

-- the set that it has fits
pub has_set : (r : Run) (b : Client) (x : Channels) → IsSound r b → b.set ≡ Some x → HasSet r b.thread (length b.did) b.stage b.waits b.uses x
has_set r b x h e = subst (SetFits r b.thread (length b.did) b.stage b.waits b.uses) e h.set

-- a client with an op left runs
pub runs_on : (s : Script) (thread next requests : ℕ) (w : Waits) (stage : Stage) → next < length (ops_of s thread) → StageFits s thread next requests w stage → stage ≡ Runs
runs_on s thread next requests w Runs l h = refl
runs_on s thread next requests w Closed l h = absurd (omega (arith, l, h.all_done))
runs_on s thread next requests w Done l h = absurd (omega (arith, l, h.all_done))

pub running_not_done : (stage : Stage) → stage ≡ Runs → stage ≡ Done → ⊥
running_not_done stage e f = absurd (cc)

pub few_lines : (stage : Stage) → closed_lines stage ≤ 1
few_lines Runs = omega arith
few_lines Closed = omega arith
few_lines Done = omega arith

pub on_image_one : (s : Script) (t d k : ℕ) → on_image s t d k ≤ 1
on_image_one s t d k = at (is_on s t d k)
  where
    at : (b : Bool) → cond b 1 0 ≤ 1
    at true = omega arith
    at false = omega arith

-- the numbers of a client and of an image's owner are those of threads
pub client_is_thread : (s : Script) (t : ℕ) → is_client s t ≡ true → t < thread_count s
client_is_thread s t e =
    let parts = and_parts (nat_lt 0 t) (nat_le t (length s.clients)) e in
    let l = leb-true t (length s.clients) parts.1 in
    omega (arith, l)

-- the op that comes next
pub record Next (r : Run) (b : Client) (x : Task) : Type 0 where
  pub of : Op
  pub is : op_at r.script b.thread b.next ≡ Some of
  pub task : task_for r.script of ≡ x
  pub below : b.next < length (ops_of r.script b.thread)
  pub may : MayStart r.script of
  pub runs : b.stage ≡ Runs

pub next_is : (r : Run) (b : Client) (x : Task) → IsSound r b → next_task b ≡ Some x → Next r b x
next_is r b x h e =
    let o = h.of_run in
    let f : option_map (task_for r.script) (op_at r.script b.thread b.next) ≡ Some x = subst (λ s. option_map (task_for s) (op_at s b.thread b.next) ≡ Some x) o.script_is e in
    let m = mapped (task_for r.script) (op_at r.script b.thread b.next) x f in
    let below = is_below (ops_of r.script b.thread) b.next m.0 m.1 in
    record {
      of = m.0;
      is = m.1;
      task = m.2;
      below = below;
      may = o.ops b.next m.0 m.1;
      runs = runs_on r.script b.thread b.next b.requests b.waits b.stage below h.stage;
    }

-- it uses a device of the run
pub can_use : (r : Run) (s : State) (x : Task) (d : ℕ) → IsSound r s.body → s.acts.threads ≡ thread_count r.script → Next r s.body x → task_image x ≡ Some d → CanUse s.acts.threads d s.body
can_use r s x d h threads n image =
    let b = s.body in
    let o = h.of_run in
    let within : d < length r.script.images = in_images r.script n.of d (image_is r.script n.of ∙ ap task_image n.task ∙ image) n.may in
    let set = its_set r b.thread (length b.did) b.stage b.waits b.uses b.set (running_not_done b.stage n.runs) h.set in
    let k = set.2.each d within in
    let few = weigh_few (on_image r.script b.thread d) b.unanswered (on_image_one r.script b.thread d) in
    let lines = h.lines in
    let closed = few_lines b.stage in
    let self = client_is_thread r.script b.thread o.client in
    record {
      set = set.0;
      its = set.1;
      device = omega (arith, within, seats_of_registry set.0.row r.registry (length r.script.images) set.2.registry o.devices);
      uses = omega (arith, within, h.uses);
      gets = omega (arith, k.few_gets, lines, closed, n.below, o.few_ops);
      submitted = omega (arith, k.few_requests, lines, closed, n.below, o.few_ops);
      lines = omega (arith, n.below, o.few_ops);
      puts = omega (arith, k.balance, k.few_gets, lines, closed, n.below, o.few_ops);
      requests = omega (arith, h.requests d within, few, h.marks, o.few_ops);
      mark = omega (arith, n.below, h.marks);
      images = omega (arith, within, o.few_images);
      clients = subst (λ c. length c.clients ≤ 64) (sym o.script_is) o.few_clients;
      owner = subst (λ c. owner_of c d < s.acts.threads) (sym o.script_is) (omega (arith, within, threads));
      self = omega (arith, self, threads);
    }

-- where nothing is waited for, no visit is under way
no_visit : (r : Run) (b : Client) (x : Task) (d : ℕ) → IsSound r b → b.waits ≡ waits.Nothing → Next r b x → d < length r.script.images → NoVisit d b
no_visit r b x d h free n within y e =
    let set = has_set r b y h e in
    let k = set.each d within in
    k.visit ∙ ap (λ w. cond (visits w d) 1 0) free

-- the active poller is live, and another number is free
is_free : (s : State) → s.body.stage ≡ Runs → s.body.waits ≡ waits.Nothing → ((n : ℕ) → times n s.acts.pollers ≡ own_poller s.body.stage n + waiting_poller s.body.waits n) → IsFree s.acts
is_free s runs free live =
    let at : (n : ℕ) → times n s.acts.pollers ≡ same n 0 + 0 = λ n. live n ∙ ap (λ g. own_poller g n + waiting_poller s.body.waits n) runs ∙ ap (λ w. same n 0 + waiting_poller w n) free in
    record { free = record { free = 1; below = omega arith; none = at 1 }; live = at 0 }

ticks_of : (s : Script) (o : Op) (n : ℕ) → task_for s o ≡ task.Wait n → MayStart s o → 1 ≤ n
ticks_of s o n e m = subst (MayStart s) (is_wait s o n e) m

pub may_do : (r : Run) (s : State) (x : Task) → IsWell r s → s.body.waits ≡ waits.Nothing → next_task s.body ≡ Some x → MayDo s.acts s.body x
may_do r s x h free e = at x (next_is r s.body x h.sound e)
  where
    at : (y : Task) → Next r s.body y → MayDo s.acts s.body y
    at (task.Get d) n = can_use r s (task.Get d) d h.sound h.threads n refl
    at (task.Put d) n = can_use r s (task.Put d) d h.sound h.threads n refl
    at (task.Ask d) n = can_use r s (task.Ask d) d h.sound h.threads n refl
    at (task.Read d class) n = can_use r s (task.Read d class) d h.sound h.threads n refl
    at (task.Wait ticks) n = (ticks_of r.script n.of ticks n.task n.may, is_free s n.runs free h.pollers)
    at (task.Visit d) n = (can_use r s (task.Visit d) d h.sound h.threads n refl, no_visit r s.body (task.Visit d) d h.sound free n (in_images r.script n.of d (image_is r.script n.of ∙ ap task_image n.task) n.may))
    at task.Each n = (omega (arith, n.below, h.sound.of_run.few_ops), omega (arith, h.threads))
    at (task.Unregister d) n = can_use r s (task.Unregister d) d h.sound h.threads n refl
