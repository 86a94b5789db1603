-- A client that tries a callback goes on well.
use Rattle.std.proofs.Common.{◌≡◌, ℕ, ◌+◌, ◌<◌, ◌≤◌, Bool, true, false, [], ◌∷◌, ◌++◌, length, Option, Some, None, refl, sym, ap, subst, ◌∙◌, arith, ⊎_elim, length-set}
use Rattle.std.specs.Prelude.{slice_set}
use Rattle.std.proofs.lemmas.List.{length_push}
use Rattle.std.proofs.lemmas.Bool.{true≢false}
use Rattle.lw_device.specs.Rows.{seat_of, seat_fired, seat_tried}
use Rattle.lw_channel.specs.Channels.{Channels, channel_of, with_row}
use Rattle.lw_thread.specs.Acts.{ActsEnd}
use Rattle.lw_mail.specs.Runs.{Run}
use Rattle.lw_client.specs.declared.client.Client.{Client}
use Rattle.lw_client.specs.declared.client.Use.{Use}
use Rattle.lw_client.specs.Clients.{IsSound, SetFits, Owes, use_of, no_use, visits, waiting_poller}
use Rattle.lw_client.specs.Doing.{State, Becomes, with_set, use_called}
use Rattle.lw_client.specs.Going.{IsWell, Lists, lines_of}
use Rattle.lw_client.specs.Turning.{Tries, TriesAs, CallsBack, IsNotDue, called_back}
use Rattle.lw_client.specs.Using.{MayCall}
use Rattle.lw_client.proofs.Changes.{fired, tried}
use Rattle.lw_client.proofs.Devices.{seats_of_registry}
use Rattle.lw_client.proofs.Goes.{lists_quietly, well_on}
use Rattle.lw_client.proofs.Lists.{reads_set, reads_same}
use Rattle.lw_client.proofs.May.{has_set}
use Rattle.lw_client.proofs.Sound.{row_on}
use Rattle.lw_client.proofs.Stays.{devices_on}
use Rattle.lw_client.proofs.Steps.{requests_kept}

pub may_call : (r : Run) (b : Client) (d : ℕ) → IsSound r b → d < length b.uses → MayCall d b
may_call r b d h l = at b.set refl h.set
  where
    at : (o : Option Channels) → b.set ≡ o → SetFits r b.thread (length b.did) b.stage b.waits b.uses o → MayCall d b
    at None e f = record {
      uses = l;
      set = record { row = record { thread = 0; seats = [] }; channels = [] };
      its = λ owed. absurd (true≢false (sym owed ∙ f.1 d));
      device = λ owed. absurd (true≢false (sym owed ∙ f.1 d));
      began = λ owed. absurd (true≢false (sym owed ∙ f.1 d));
    }
    at (Some x) e f =
        let within : d < length r.script.images = omega (arith, l, h.uses) in
        let k = f.each d within in
        record {
          uses = l;
          set = x;
          its = λ owed. e;
          device = λ owed. omega (arith, within, seats_of_registry x.row r.registry (length r.script.images) f.registry h.of_run.devices);
          began = λ owed.
              (let o : Owes true (seat_of x.row d) = subst (λ v. Owes v (seat_of x.row d)) owed k.owes in
              (omega (arith, o.0), o.1));
        }

module _ (d : ℕ) (s t : State) where
  sound_called : (r : Run) (x : Channels) → IsSound r s.body → d < length s.body.uses → (use_of s.body d).owes ≡ true → s.body.set ≡ Some x → CallsBack d x s t → IsSound r t.body
  sound_called r x h l owed its g =
      let b = s.body in
      let within : d < length r.script.images = omega (arith, l, h.uses) in
      let set = has_set r b x h its in
      let u : Use = use_called (use_of b d) in
      let k = set.each d within in
      subst (IsSound r) (sym g.becomes.0) (devices_on r b h (Some (with_row x d seat_fired)) (slice_set b.uses d u) (b.called ++ record { at = s.acts.ran; device = d } ∷ []) (length-set b.uses d u)
      (row_on r b x d (length b.did) (omega arith) set h.of_run.devices within seat_fired (slice_set b.uses d u) u b.waits (reads_set no_use d b.uses u l) (λ i other. refl) (λ e. refl)
      (fired b.thread (length b.did) (visits b.waits d) (channel_of x d) (seat_of x.row d) (use_of b d) k (subst (λ v. Owes v (seat_of x.row d)) owed k.owes)))
      (requests_kept d b.uses u l refl))

  sound_tried : (r : Run) (x : Channels) → IsSound r s.body → d < length s.body.uses → s.body.set ≡ Some x → IsNotDue d x s t → IsSound r t.body
  sound_tried r x h l its g =
      let b = s.body in
      let within : d < length r.script.images = omega (arith, l, h.uses) in
      let set = has_set r b x h its in
      subst (IsSound r) (sym g.becomes.0) (devices_on r b h (Some (with_row x d (seat_tried g.seen))) b.uses b.called refl
      (row_on r b x d (length b.did) (omega arith) set h.of_run.devices within (seat_tried g.seen) b.uses (use_of b d) b.waits (reads_same no_use d b.uses) (λ i other. refl) (λ e. refl)
      (tried b.thread (length b.did) (visits b.waits d) (channel_of x d) (seat_of x.row d) (use_of b d) (set.each d within) g.seen))
      (λ i. refl))

  -- nothing but what is kept of devices and the callbacks changed
  quiet : (c : Client) → Becomes c s t → c.thread ≡ s.body.thread → c.stage ≡ s.body.stage → c.waits ≡ s.body.waits → lines_of s ≤ length c.did + length c.called → ((r : Run) → IsWell r s → IsSound r t.body) → Lists s t
  quiet c e thread stage waits more sound = lists_quietly s t
      (λ r w. well_on r s t w (sound r w) (ap (λ (x : ActsEnd _). x.pollers) e.1) (ap (λ (x : ActsEnd _). x.threads) e.1) (ap (λ (x : Client). x.stage) e.0 ∙ stage) (λ n. ap (λ (x : Client). waiting_poller x.waits n) e.0 ∙ ap (λ v. waiting_poller v n) waits))
      e.1
      (omega (arith, more, ap (λ (x : Client). length x.did) e.0, ap (λ (x : Client). length x.called) e.0))
      (ap (λ (x : Client). x.thread) e.0 ∙ thread)

  pub tries_lists : d < length s.body.uses → Tries d s t → Lists s t
  tries_lists l h = at (use_of s.body d).owes refl h
    where
      at : (v : Bool) → (use_of s.body d).owes ≡ v → TriesAs v d s t → Lists s t
      at false e g = quiet s.body g refl refl refl (omega arith) (λ r w. subst (IsSound r) (sym g.0) w.sound)
      at true e g = ⊎_elim
          (λ (q : CallsBack d g.0 s t). quiet (called_back s.acts.ran d g.0 s.body) q.becomes refl refl refl (let longer = length_push s.body.called (record { at = s.acts.ran; device = d }) in omega (arith, longer)) (λ r w. sound_called r g.0 w.sound l e g.1 q))
          (λ (q : IsNotDue d g.0 s t). quiet (with_set (with_row g.0 d (seat_tried q.seen)) s.body) q.becomes refl refl refl (omega arith) (λ r w. sound_tried r g.0 w.sound l g.1 q))
          g.2
