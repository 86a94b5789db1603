-- A client whose wait ends goes on well.
use Rattle.std.proofs.Common.{◌≡◌, ◌≢◌, ℕ, ◌+◌, ◌<◌, ◌≤◌, true, length, Option, Some, None, refl, sym, ap, subst, ◌∙◌, arith, inl, inr}
use Rattle.std.proofs.lemmas.Bool.{eqb-true, true≢false}
use Rattle.std.proofs.lemmas.List.{length_push}
use Rattle.lw_model.specs.declared.script.Op.TheVariants as op
use Rattle.lw_model.specs.declared.record.Answer.TheVariants as answer
use Rattle.lw_model.specs.Threads.{op_at, ops_of}
use Rattle.lw_channel.specs.Channels.{Channels}
use Rattle.lw_poller.specs.Pollers.{Pollers, times}
use Rattle.lw_poller.specs.Changes.{Removes}
use Rattle.lw_poller.proofs.Counts.{same_other}
use Rattle.lw_thread.specs.Acts.{ActsEnd}
use Rattle.lw_thread.proofs.Adding.{adds_change, adds_both}
use Rattle.lw_mail.specs.Runs.{Run}
use Rattle.lw_mail.specs.declared.mail.Mail.{Mail}
use Rattle.lw_client.specs.declared.client.Client.{Client}
use Rattle.lw_client.specs.declared.client.Stage.TheVariants.{Runs}
use Rattle.lw_client.specs.declared.client.Waits.{Waits}
use Rattle.lw_client.specs.declared.client.Waits.TheVariants as waits
use Rattle.lw_client.specs.Clients.{IsSound, SetFits, WaitsFor, own_poller, waiting_poller, visits, active}
use Rattle.lw_client.specs.Doing.{State}
use Rattle.lw_client.specs.Going.{IsWell, Goes}
use Rattle.lw_client.specs.Turning.{EndsWait, is_timer}
use Rattle.lw_client.proofs.Facts.{is_below}
use Rattle.lw_client.proofs.Goes.{lists_polling}
use Rattle.lw_client.proofs.Listed.{listed_plain, set_longer}
use Rattle.lw_client.proofs.May.{runs_on}
use Rattle.lw_client.proofs.Pollers.{times_removed, times_resumed}

pub still_live : (number : ℕ) (s t : Pollers) → number ≢ active → times active s ≡ 1 → Removes number s t → 1 ≤ times active t
still_live number s t other live removed =
    let r = times_removed number s t removed active in
    let z = same_other active number other in
    omega (arith, r, z, live)

-- the wait that a timer is of
pub record Waited (r : Run) (b : Client) (number : ℕ) : Type 0 where
  pub waits_is : b.waits ≡ waits.Timer number b.next
  pub below : b.next < length (ops_of r.script b.thread)
  pub runs : b.stage ≡ Runs
  pub other : number ≢ active

pub waited : (r : Run) (b : Client) (number : ℕ) → IsSound r b → is_timer b.waits number ≡ true → Waited r b number
waited r b number h e = at b.waits refl e h.awaits
  where
    at : (w : Waits) → b.waits ≡ w → is_timer w number ≡ true → WaitsFor r.script b.thread b.next w → Waited r b number
    at (waits.Timer p k) is e f =
        let same : p ≡ number = eqb-true p number e in
        let below = is_below (ops_of r.script b.thread) b.next (op.Wait f.1.0) (subst (λ j. op_at r.script b.thread j ≡ Some (op.Wait f.1.0)) f.0 f.1.1) in
        record {
          waits_is = is ∙ ap (λ q. waits.Timer q k) same ∙ ap (waits.Timer number) f.0;
          below = below;
          runs = runs_on r.script b.thread b.next b.requests b.waits b.stage below h.stage;
          other = subst (λ q. q ≢ active) same f.2;
        }
    at waits.Nothing is e f = absurd (true≢false (sym e))
    at (waits.Visit k d) is e f = absurd (true≢false (sym e))
    at (waits.Cast k) is e f = absurd (true≢false (sym e))

module _ (number now : ℕ) (s t : State) (timer : is_timer s.body.waits number ≡ true) (g : EndsWait number now s t) where
  sound : (r : Run) → IsSound r s.body → IsSound r t.body
  sound r h =
      let b = s.body in
      let w = waited r b number h timer in
      subst (IsSound r) (sym g.body) (listed_plain r b h w.below w.runs s.acts.ran answer.Waited b.set b.uses waits.Nothing h.uses (fits w.waits_is b.set h.set) (λ i. refl) tt)
    where
      fits : s.body.waits ≡ waits.Timer number s.body.next → (o : Option Channels) → SetFits r s.body.thread (length s.body.did) s.body.stage s.body.waits s.body.uses o → SetFits r s.body.thread (length s.body.did + 1) s.body.stage waits.Nothing s.body.uses o
      fits e None f = f
      fits e (Some x) f = set_longer r s.body.thread (length s.body.did) (length s.body.did + 1) s.body.stage s.body.waits waits.Nothing s.body.uses x (λ i. sym (ap (λ w. visits w i) e)) (omega arith) f

  pub wait_goes : Goes s t
  wait_goes =
      (lists_polling s t t.acts.pollers
      (λ r w. record {
        sound = sound r w.sound;
        pollers = λ n.
            (let q = waited r s.body number w.sound timer in
            let removed = times_removed number s.acts.pollers g.between g.removed n in
            let resumed = times_resumed active now g.between t.acts.pollers g.resumed n in
            let live = w.pollers n in
            let before = ap (λ v. waiting_poller v n) q.waits_is in
            let own = ap (λ (x : Client). own_poller x.stage n) g.body in
            let after = ap (λ (x : Client). waiting_poller x.waits n) g.body in
            omega (arith, removed, resumed, live, before, own, after));
        threads = ap (λ (x : ActsEnd Mail). x.threads) g.acts ∙ w.threads;
      })
      g.acts
      (let mid : ActsEnd Mail = record s.acts { pollers = g.between } in
      adds_both s.acts mid t.acts
      (adds_change s.acts mid refl (inr (inr (inr (inr (number, g.removed))))))
      (adds_change mid t.acts g.acts (inr (inr (inr (inl (active, now, g.resumed)))))))
      (let longer = length_push s.body.did (record { at = s.acts.ran; op = s.body.next; answer = answer.Waited }) in
      omega (arith, longer, ap (λ (x : Client). length x.did) g.body, ap (λ (x : Client). length x.called) g.body))
      (ap (λ (x : Client). x.thread) g.body)).goes

-- the active poller of a client that waits by a timer is live
pub active_waiting : (r : Run) (s : State) (number : ℕ) → IsWell r s → is_timer s.body.waits number ≡ true → times active s.acts.pollers ≡ 1
active_waiting r s number w timer =
    let q = waited r s.body number w.sound timer in
    let live = w.pollers active in
    let own = ap (λ g. own_poller g active) q.runs in
    let waiting = ap (λ v. waiting_poller v active) q.waits_is in
    let other = same_other active number q.other in
    omega (arith, live, own, waiting, other)
