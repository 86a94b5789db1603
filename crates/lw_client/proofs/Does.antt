-- A client that does its next op goes on well.
use Rattle.std.proofs.Common.{◌≡◌, ℕ, ◌+◌, length, refl, sym, ap, subst, ◌∙◌, arith, ⊎_elim, inl, inr}
use Rattle.std.specs.Arc.{arc_value}
use Rattle.std.proofs.lemmas.List.{length_push}
use Rattle.lw_model.specs.declared.record.Answer.{Answer}
use Rattle.lw_model.specs.declared.record.Answer.TheVariants as answer
use Rattle.lw_model.specs.Threads.{op_at, owner_of}
use Rattle.lw_pool.specs.declared.class.Class.{Class}
use Rattle.lw_pool.specs.PoolEnds.{queue_of, with_taken}
use Rattle.lw_device.specs.Rows.{seat_visiting, seat_found}
use Rattle.lw_channel.specs.Channels.{Channels, with_row}
use Rattle.lw_poller.specs.Pollers.{times}
use Rattle.lw_thread.specs.Acts.{ActsEnd}
use Rattle.lw_thread.specs.Calls.{Adds}
use Rattle.lw_thread.proofs.Adding.{adds_change, adds_both}
use Rattle.lw_mail.specs.Runs.{Run}
use Rattle.lw_mail.specs.Fitting.{Fits, MayAsk, MayRead}
use Rattle.lw_mail.specs.declared.mail.Mail.{Mail}
use Rattle.lw_mail.specs.declared.mail.Content.{Content}
use Rattle.lw_mail.specs.declared.mail.Content.TheVariants as content
use Rattle.lw_passing.specs.Passing.{Asks}
use Rattle.lw_client.specs.declared.client.Client.{Client}
use Rattle.lw_client.specs.declared.client.Stage.TheVariants.{Runs}
use Rattle.lw_client.specs.declared.client.Waits.TheVariants as waits
use Rattle.lw_ops.specs.declared.task.Task.{Task}
use Rattle.lw_ops.specs.declared.task.Task.TheVariants as task
use Rattle.lw_client.specs.Clients.{IsSound, own_poller, waiting_poller, active}
use Rattle.lw_client.specs.Doing.{State, Becomes, Does, DoesNext, Gives, with_answer, SendsPlain, SendsRead, Refuses, StartsWait, StartsVisit, FindsShut, listed, asked, with_set}
use Rattle.lw_client.specs.Going.{IsWell, Lists}
use Rattle.lw_client.proofs.Facts.{task_image, image_is, in_images}
use Rattle.lw_client.proofs.Fits.{may_ask, may_read, new_visit_fits, new_cast_fits}
use Rattle.lw_client.proofs.Goes.{lists_quietly, lists_asking, lists_polling, well_on}
use Rattle.lw_client.proofs.May.{Next, next_is, client_is_thread}
use Rattle.lw_client.proofs.Pollers.{times_added, times_paused}
use Rattle.lw_client.proofs.Steps.{sound_done}

-- the acts behind a send
pub asked_pollers : (to : ℕ) (c : Content) (old new : ActsEnd Mail) → Asks to c old new → new.pollers ≡ old.pollers
asked_pollers to c old new h = ap (λ (a : ActsEnd Mail). a.pollers) h.added

pub asked_threads : (to : ℕ) (c : Content) (old new : ActsEnd Mail) → Asks to c old new → new.threads ≡ old.threads
asked_threads to c old new h = ap (λ (a : ActsEnd Mail). a.threads) h.added

-- the active poller of a running client is live
pub active_live : (r : Run) (s : State) → IsWell r s → s.body.stage ≡ Runs → s.body.waits ≡ waits.Nothing → times active s.acts.pollers ≡ 1
active_live r s w runs free = w.pollers active ∙ ap (λ g. own_poller g active + waiting_poller s.body.waits active) runs ∙ ap (λ v. 1 + waiting_poller v active) free

-- a line is one more
pub line_more : (b : Client) (a : Answer) (at : ℕ) → length (listed at a b).did ≡ length b.did + 1
line_more b a at = length_push b.did (record { at = at; op = b.next; answer = a })

module _ (now : ℕ) (s t : State) (h : DoesNext now s t) where
  next : (r : Run) → IsWell r s → Next r s.body h.task
  next r w = next_is r s.body h.task w.sound h.next

  sound : (r : Run) → IsWell r s → IsSound r t.body
  sound r w =
      let n = next r w in
      sound_done r s t h.task w.sound n h.free now (active_live r s w n.runs h.free) h.does

  -- the acts' pollers and the stage stay, and no timer is waited for
  well : t.acts.pollers ≡ s.acts.pollers → t.acts.threads ≡ s.acts.threads → t.body.stage ≡ s.body.stage → ((n : ℕ) → waiting_poller t.body.waits n ≡ 0) → (r : Run) → IsWell r s → IsWell r t
  well pollers threads stage none r w = well_on r s t w (sound r w) pollers threads stage (λ n. none n ∙ sym (ap (λ v. waiting_poller v n) h.free))

  none_before : (n : ℕ) → waiting_poller s.body.waits n ≡ 0
  none_before n = ap (λ v. waiting_poller v n) h.free

  quiet : (c : Client) (a : Answer) → Becomes c s t → c.thread ≡ s.body.thread → c.stage ≡ s.body.stage → c.waits ≡ s.body.waits → c.did ≡ (listed s.acts.ran a s.body).did → c.called ≡ s.body.called → Lists s t
  quiet c a e thread stage waits did called = lists_quietly s t
      (well (ap (λ (x : ActsEnd Mail). x.pollers) e.1) (ap (λ (x : ActsEnd Mail). x.threads) e.1) (ap (λ (x : Client). x.stage) e.0 ∙ stage) (λ n. ap (λ (x : Client). waiting_poller x.waits n) e.0 ∙ ap (λ w. waiting_poller w n) waits ∙ none_before n))
      e.1
      (omega (arith, ap (λ (x : Client). length x.did) e.0, ap length did, line_more s.body a s.acts.ran, ap (λ (x : Client). length x.called) e.0, ap length called))
      (ap (λ (x : Client). x.thread) e.0 ∙ thread)

  loud : (c : Client) (a : Answer) (to : ℕ) (m : Content) → t.body ≡ c → Asks to m s.acts t.acts → c.thread ≡ s.body.thread → c.stage ≡ s.body.stage → ((n : ℕ) → waiting_poller c.waits n ≡ 0) → c.did ≡ (listed s.acts.ran a s.body).did → c.called ≡ s.body.called → ((r : Run) → IsWell r s → Fits to r m) → Lists s t
  loud c a to m e asked thread stage waits did called fit = lists_asking s t to m
      (well (asked_pollers to m s.acts t.acts asked) (asked_threads to m s.acts t.acts asked) (ap (λ (x : Client). x.stage) e ∙ stage) (λ n. ap (λ (x : Client). waiting_poller x.waits n) e ∙ waits n))
      asked fit
      (omega (arith, ap (λ (x : Client). length x.did) e, ap length did, line_more s.body a s.acts.ran, ap (λ (x : Client). length x.called) e, ap length called))
      (ap (λ (x : Client). x.thread) e ∙ thread)

  gives : (d : ℕ) (a : Answer) (c : Client) → Gives d a c s t → c.thread ≡ s.body.thread → c.stage ≡ s.body.stage → c.waits ≡ s.body.waits → c.did ≡ (listed s.acts.ran a s.body).did → c.called ≡ s.body.called → Lists s t
  gives d answer.Deferred c g thread stage waits did called = loud _ answer.Deferred s.body.thread (content.PutSelf d) g.0 g.1 thread stage (λ n. ap (λ w. waiting_poller w n) waits ∙ none_before n) did called (λ r w. tt)
  gives d answer.Counted c g thread stage waits did called = quiet c answer.Counted g thread stage waits did called
  gives d answer.NoChannel c g thread stage waits did called = quiet c answer.NoChannel g thread stage waits did called
  gives d (answer.Given m) c g thread stage waits did called = quiet c (answer.Given m) g thread stage waits did called
  gives d (answer.Again m) c g thread stage waits did called = quiet c (answer.Again m) g thread stage waits did called
  gives d answer.Shut c g thread stage waits did called = quiet c answer.Shut g thread stage waits did called
  gives d answer.Sent c g thread stage waits did called = quiet c answer.Sent g thread stage waits did called
  gives d answer.Waited c g thread stage waits did called = quiet c answer.Waited g thread stage waits did called
  gives d answer.Started c g thread stage waits did called = quiet c answer.Started g thread stage waits did called
  gives d (answer.Began m) c g thread stage waits did called = quiet c (answer.Began m) g thread stage waits did called
  gives d answer.Already c g thread stage waits did called = quiet c answer.Already g thread stage waits did called
  gives d answer.Closed c g thread stage waits did called = quiet c answer.Closed g thread stage waits did called

  unregisters : (d : ℕ) (a : Answer) (c : Client) → Becomes (with_answer d a c) s t → c.thread ≡ s.body.thread → c.stage ≡ s.body.stage → c.waits ≡ s.body.waits → c.did ≡ (listed s.acts.ran a s.body).did → c.called ≡ s.body.called → Lists s t
  unregisters d (answer.Began m) c g thread stage waits did called = quiet (with_answer d (answer.Began m) c) (answer.Began m) g thread stage waits did called
  unregisters d answer.Already c g thread stage waits did called = quiet c answer.Already g thread stage waits did called
  unregisters d answer.Deferred c g thread stage waits did called = quiet c answer.Deferred g thread stage waits did called
  unregisters d answer.Counted c g thread stage waits did called = quiet c answer.Counted g thread stage waits did called
  unregisters d answer.NoChannel c g thread stage waits did called = quiet c answer.NoChannel g thread stage waits did called
  unregisters d (answer.Given m) c g thread stage waits did called = quiet c (answer.Given m) g thread stage waits did called
  unregisters d (answer.Again m) c g thread stage waits did called = quiet c (answer.Again m) g thread stage waits did called
  unregisters d answer.Shut c g thread stage waits did called = quiet c answer.Shut g thread stage waits did called
  unregisters d answer.Sent c g thread stage waits did called = quiet c answer.Sent g thread stage waits did called
  unregisters d answer.Waited c g thread stage waits did called = quiet c answer.Waited g thread stage waits did called
  unregisters d answer.Started c g thread stage waits did called = quiet c answer.Started g thread stage waits did called
  unregisters d answer.Closed c g thread stage waits did called = quiet c answer.Closed g thread stage waits did called

  -- the request fits its owner
  plain_fits : (d : ℕ) → h.task ≡ task.Ask d → (r : Run) → IsWell r s → Fits (owner_of (arc_value s.body.script) d) r (content.Request s.body.thread s.body.next)
  plain_fits d e r w =
      let n = next r w in
      subst (λ x. MayAsk r.script (owner_of x d) (op_at r.script s.body.thread s.body.next)) (sym w.sound.of_run.script_is)
      (subst (MayAsk r.script (owner_of r.script d)) (sym n.is) (may_ask r.script n.of d (n.task ∙ e) n.may))

  read_fits : (d : ℕ) (class : Class) (y : Channels) → h.task ≡ task.Read d class → (q : SendsRead d class y s t) → (r : Run) → IsWell r s → Fits (owner_of (arc_value s.body.script) d) r (content.Read s.body.thread s.body.next q.buffer)
  read_fits d class y e q r w =
      let n = next r w in
      subst (λ x. MayRead r (owner_of x d) q.buffer (op_at r.script s.body.thread s.body.next)) (sym w.sound.of_run.script_is)
      (subst (MayRead r (owner_of r.script d) q.buffer) (sym n.is) (may_read r n.of d class q.buffer (n.task ∙ e) n.may (q.queue ∙ ap (queue_of class) w.sound.pool) q.class_is))

  -- a wait adds its poller
  waits_on : (ticks : ℕ) → StartsWait now ticks s t → Lists s t
  waits_on ticks g = lists_polling s t t.acts.pollers well_now g.acts adds (omega (arith, ap (λ (x : Client). length x.did) g.body, ap (λ (x : Client). length x.called) g.body)) (ap (λ (x : Client). x.thread) g.body)
    where
      well_now : (r : Run) → IsWell r s → IsWell r t
      well_now r w = record {
        sound = sound r w;
        pollers = λ n.
            (let added = times_added g.number now ticks s.acts.pollers g.between g.added n in
            let paused = times_paused active g.between t.acts.pollers g.paused n in
            let live = w.pollers n in
            let before = none_before n in
            let own = ap (λ (x : Client). own_poller x.stage n) g.body in
            let wait = ap (λ (x : Client). waiting_poller x.waits n) g.body in
            omega (arith, added, paused, live, before, own, wait));
        threads = ap (λ (x : ActsEnd Mail). x.threads) g.acts ∙ w.threads;
      }

      adds : Adds s.acts t.acts
      adds =
          let mid : ActsEnd Mail = record s.acts { pollers = g.between } in
          adds_both s.acts mid t.acts
          (adds_change s.acts mid refl (inr (inl (g.number, g.free, now, ticks, g.added))))
          (adds_change mid t.acts g.acts (inr (inr (inl (active, g.paused)))))

  visit_fits : (d : ℕ) → h.task ≡ task.Visit d → (q : StartsVisit d s t) → (r : Run) → IsWell r s → Fits 0 r q.carrier
  visit_fits d e q r w =
      let n = next r w in
      new_visit_fits r s.body.thread s.body.next d s.acts.threads q.carrier q.token w.threads (client_is_thread r.script s.body.thread w.sound.of_run.client)
      (in_images r.script n.of d (image_is r.script n.of ∙ ap task_image n.task ∙ ap task_image e) n.may)

  pub does_lists : Lists s t
  does_lists = at h.task refl h.does
    where
      at : (y : Task) → h.task ≡ y → Does now y s t → Lists s t
      at (task.Get d) e g = quiet (listed s.acts.ran g.answer (with_set g.after s.body)) g.answer g.becomes refl refl refl refl refl
      at (task.Put d) e g = gives d g.answer (listed s.acts.ran g.answer (with_set g.after s.body)) g.gives refl refl refl refl refl
      at (task.Ask d) e g = ⊎_elim
          (λ (q : Refuses d g.0 s t). quiet (listed s.acts.ran answer.NoChannel s.body) answer.NoChannel q.becomes refl refl refl refl refl)
          (λ (q : SendsPlain d g.0 s t). loud (asked s.acts.ran d g.0 s.body) answer.Sent (owner_of (arc_value s.body.script) d) (content.Request s.body.thread s.body.next) q.body q.sent refl refl none_before refl refl (plain_fits d e))
          g.2
      at (task.Read d class) e g = ⊎_elim
          (λ (q : Refuses d g.0 s t). quiet (listed s.acts.ran answer.NoChannel s.body) answer.NoChannel q.becomes refl refl refl refl refl)
          (λ (q : SendsRead d class g.0 s t). loud (record (asked s.acts.ran d g.0 s.body) { pool = with_taken class s.body.pool }) answer.Sent (owner_of (arc_value s.body.script) d) (content.Read s.body.thread s.body.next q.buffer) q.body q.sent refl refl none_before refl refl (read_fits d class g.0 e q))
          g.2
      at (task.Wait ticks) e g = waits_on ticks g
      at (task.Visit d) e g = ⊎_elim
          (λ (q : StartsVisit d s t). loud (record (listed s.acts.ran answer.Started (with_set (with_row q.before d seat_visiting) s.body)) { waits = waits.Visit s.body.next d }) answer.Started 0 q.carrier q.body q.sent refl refl (λ n. refl) refl refl (visit_fits d e q))
          (λ (q : FindsShut d s t). quiet (listed s.acts.ran answer.Shut (with_set (with_row q.before d seat_found) s.body)) answer.Shut q.becomes refl refl refl refl refl)
          g
      at task.Each e g = loud (record (listed s.acts.ran answer.Started s.body) { waits = waits.Cast s.body.next }) answer.Started 0 g.carrier g.body g.sent refl refl (λ n. refl) refl refl
          (λ r w. new_cast_fits r s.body.thread s.body.next s.acts.threads g.carrier g.token w.threads (client_is_thread r.script s.body.thread w.sound.of_run.client))
      at (task.Unregister d) e g = unregisters d g.answer (listed s.acts.ran g.answer (with_set g.after s.body)) g.becomes refl refl refl refl refl
