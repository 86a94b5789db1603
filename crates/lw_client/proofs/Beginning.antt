-- A client that has done nothing.
use Rattle.std.proofs.Common.{◌≡◌, ℕ, zero, suc, ◌+◌, Bool, false, List, [], length, Some, replicate, get_or, refl, sym, ap, subst, ◌∙◌, arith, inl, inr}
use Rattle.std.specs.Prelude.{slice_index_or}
use Rattle.std.proofs.lemmas.List.{length-replicate}
use Rattle.std.specs.Arc.{arc_value}
use Rattle.lw_model.specs.Threads.{ops_of, op_at, thread_count}
use Rattle.lw_latch.specs.DeviceEnds.{DeviceLatch, new_seat}
use Rattle.lw_pool.specs.declared.class.Class.{Class}
use Rattle.lw_pool.specs.declared.class.Class.TheVariants.{Small, Large}
use Rattle.lw_pool.specs.PoolEnds.{PoolEnd, new_pass, taken_of, given_of}
use Rattle.lw_device.specs.Rows.{no_seat, seat_of, new_row}
use Rattle.lw_device.proofs.RowLaws.{seat_of-new_row, latches-new_row, length-new_row}
use Rattle.lw_channel.specs.Channels.{no_channel, channel_of, new_set}
use Rattle.lw_thread.specs.Acts.{Known, no_asks}
use Rattle.lw_whole.specs.Letters.{Letter}
use Rattle.lw_mail.specs.Runs.{Run}
use Rattle.lw_client.specs.declared.client.Client.{Client}
use Rattle.lw_client.specs.declared.client.Stage.TheVariants.{Runs}
use Rattle.lw_client.specs.declared.client.Waits.TheVariants as waits
use Rattle.lw_client.specs.Clients.{IsSound, HasSet, SetFits, StageFits, WaitsFor, KeepsDevice, closed_lines, on_image, any_op, lends, no_use, own_poller, waiting_poller}
use Rattle.lw_client.specs.Keeping.{Keeps, MayBegin, first_poller}
use Rattle.lw_client.proofs.Weighing.{weigh_none}

none_marked : (n k : ℕ) → slice_index_or (replicate n false) k false ≡ false
none_marked zero k = refl
none_marked (suc n) zero = refl
none_marked (suc n) (suc k) = none_marked n k

none_used : (n k : ℕ) → slice_index_or (replicate n no_use) k no_use ≡ no_use
none_used zero k = refl
none_used (suc n) zero = refl
none_used (suc n) (suc k) = none_used n k

none_held : (n k : ℕ) → slice_index_or (replicate n no_channel) k no_channel ≡ no_channel
none_held zero k = refl
none_held (suc n) zero = refl
none_held (suc n) (suc k) = none_held n k

-- what is kept of a device that wasn't used
new_device : (thread : ℕ) (l : DeviceLatch) → KeepsDevice thread 0 false no_channel (new_seat l thread) no_use
new_device thread l = record { alone = refl; number = refl; visit = refl; owes = omega arith; puts = refl; balance = omega arith; few_gets = omega arith; few_requests = omega arith; referenced = λ one. absurd (omega (arith, one)) }

-- a new client
pub record IsFresh (b : Client) : Type 0 where
  pub uses : b.uses ≡ replicate (length (arc_value b.script).images) no_use
  pub marks : b.unanswered ≡ replicate (length (ops_of (arc_value b.script) b.thread)) false
  pub requests : b.requests ≡ 0
  pub next : b.next ≡ 0
  pub waits : b.waits ≡ waits.Nothing
  pub stage : b.stage ≡ Runs
  pub did : b.did ≡ []

module _ (r : Run) (b : Client) (f : IsFresh b) (m : MayBegin r b.thread b) where
  unmarked : (k : ℕ) → slice_index_or b.unanswered k false ≡ false
  unmarked k = ap (λ (xs : List Bool). slice_index_or xs k false) f.marks ∙ none_marked (length (ops_of (arc_value b.script) b.thread)) k

  unused : (d : ℕ) → slice_index_or b.uses d no_use ≡ no_use
  unused d = ap (λ us. slice_index_or us d no_use) f.uses ∙ none_used (length (arc_value b.script).images) d

  set_is : HasSet r b.thread 0 Runs waits.Nothing b.uses (new_set (new_row r.registry b.thread))
  set_is = record {
    not_done = refl;
    registry = latches-new_row r.registry b.thread;
    devices = length-replicate (length (new_row r.registry b.thread).seats) no_channel ∙ length-new_row r.registry b.thread ∙ m.of_run.devices;
    each = λ d l.
        (let none : DeviceLatch = no_seat.latch in
        let seat = seat_of-new_row r.registry b.thread d none (omega (arith, l, m.of_run.devices)) in
        let held = none_held (length (new_row r.registry b.thread).seats) d in
        subst (λ u. KeepsDevice b.thread 0 false (channel_of (new_set (new_row r.registry b.thread)) d) (seat_of (new_row r.registry b.thread) d) u) (sym (unused d))
        (subst (λ e. KeepsDevice b.thread 0 false (channel_of (new_set (new_row r.registry b.thread)) d) e no_use) (sym seat)
        (subst (λ k. KeepsDevice b.thread 0 false k (new_seat (get_or r.registry d none) b.thread) no_use) (sym held)
        (new_device b.thread (get_or r.registry d none)))));
  }

  taken_none : (class : Class) → taken_of class (new_pass r.pool b.thread) ≡ given_of class (new_pass r.pool b.thread) + 0
  taken_none Small = refl
  taken_none Large = refl

  sound_new : IsSound r b
  sound_new = record {
    of_run = m.of_run;
    pool = ap (λ (p : PoolEnd). p.pool) m.pool;
    pass = ap (λ (p : PoolEnd). p.number) m.pool;
    uses = ap length f.uses ∙ length-replicate (length (arc_value b.script).images) no_use ∙ ap (λ s. length s.images) m.of_run.script_is;
    marks = ap length f.marks ∙ length-replicate (length (ops_of (arc_value b.script) b.thread)) false ∙ ap (λ s. length (ops_of s b.thread)) m.of_run.script_is;
    within = omega (arith, f.next);
    lines = (let none = ap length f.did in let stage = ap closed_lines f.stage in omega (arith, none, stage, f.next));
    set = subst (SetFits r b.thread (length b.did) b.stage b.waits b.uses) (sym m.set)
        (subst (λ n. HasSet r b.thread n b.stage b.waits b.uses (new_set (new_row r.registry b.thread))) (sym (ap length f.did))
        (subst (λ g. HasSet r b.thread 0 g b.waits b.uses (new_set (new_row r.registry b.thread))) (sym f.stage)
        (subst (λ w. HasSet r b.thread 0 Runs w b.uses (new_set (new_row r.registry b.thread))) (sym f.waits) set_is)));
    unasked = λ k le. unmarked k;
    requests = λ d l. (let u = ap (λ u. u.requests) (unused d) in let w = weigh_none (on_image r.script b.thread d) b.unanswered unmarked in omega (arith, u, w));
    in_all = (let w = weigh_none any_op b.unanswered unmarked in omega (arith, f.requests, w));
    lent = λ class.
        (let w = weigh_none (λ k. lends r.script class (op_at r.script b.thread k)) b.unanswered unmarked in
        let t = ap (taken_of class) m.pool in
        let g = ap (given_of class) m.pool in
        let z = taken_none class in
        omega (arith, w, t, g, z));
    awaits = subst (WaitsFor r.script b.thread b.next) (sym f.waits) tt;
    stage = subst (StageFits r.script b.thread b.next b.requests b.waits) (sym f.stage) tt;
  }

  pub keeps_new : (k : Known Letter Run) → k.family ≡ Some r → k.thread ≡ b.thread → length k.sent ≡ thread_count r.script → Keeps k no_asks b × Keeps k first_poller b
  keeps_new k family number threads = (
    record { run = r; family = family; number = number; threads = threads; sound = sound_new; pollers = inr (λ n. refl, λ n. ap (λ w. waiting_poller w n) f.waits) },
    record { run = r; family = family; number = number; threads = threads; sound = sound_new; pollers = inl (λ n. (let own = ap (λ g. own_poller g n) f.stage in let wait = ap (λ w. waiting_poller w n) f.waits in omega (arith, own, wait))) },
  )

-- so it is lawful as it begins
pub keeps_fresh : (b : Client) (thread : ℕ) → b.thread ≡ thread → b.uses ≡ replicate (length (arc_value b.script).images) no_use → b.unanswered ≡ replicate (length (ops_of (arc_value b.script) thread)) false
    → b.requests ≡ 0 → b.next ≡ 0 → b.waits ≡ waits.Nothing → b.stage ≡ Runs → b.did ≡ []
    → (run : Run) (k : Known Letter Run) → MayBegin run thread b → k.family ≡ Some run → k.thread ≡ thread → length k.sent ≡ thread_count run.script → Keeps k no_asks b × Keeps k first_poller b
keeps_fresh b thread e uses marks requests next waits stage did run k may family number threads = keeps_new run b
    (record { uses = uses; marks = marks ∙ ap (λ n. replicate (length (ops_of (arc_value b.script) n)) false) (sym e); requests = requests; next = next; waits = waits; stage = stage; did = did })
    (subst (λ n. MayBegin run n b) (sym e) may) k family (number ∙ sym e) threads
