-- A client's log and state agree behind a message that it ran.
use Rattle.std.proofs.Common.{ℕ, ◌≡◌, ◌+◌, ◌-◌, ◌≤◌, ◌<◌, Bool, true, false, ◌&&◌, List, [], ◌∷◌, ◌++◌, reverse, length, arith, refl, sym, ap, ap₂, ◌∙◌, subst, cond, get_or}
use Rattle.std.specs.Prelude.{IfSome, map, not, ◌==◌, filter, filter_map, count_by, Option, Some, None, option_map, option_to_list, is_some, is_none, slice_get, slice_set, vec_len}
use Rattle.std.specs.List.{list_any, range_with_len}
use Rattle.std.proofs.lemmas.Option.{slice_get-get_or, same_Some, none-some, slice_get_within}
use Rattle.std.proofs.lemmas.Bool.{eqb-true, ne_eqb}
use Rattle.std.proofs.Math.ListN.{length-set}
use Rattle.std.proofs.lemmas.List.{append-nil, length-append}
use Rattle.std.proofs.lemmas.List.Folds.{list_any-append}
use Rattle.std.proofs.lemmas.List.Elements.{filter_map-append}
use Rattle.lw_base.specs.declared.message.Tag.{Tag}
use Rattle.lw_base.specs.declared.message.What.{What}
use Rattle.lw_base.specs.declared.message.What.TheVariants as what
use Rattle.lw_base.proofs.Bools.{or_false}
use Rattle.lw_model.specs.declared.script.Script.{Script}
use Rattle.lw_model.specs.declared.step.Step.{Step}
use Rattle.lw_model.specs.declared.step.Step.TheVariants as step
use Rattle.lw_model.specs.Threads.{is_on, is_client, ops_of, depth_of}
use Rattle.lw_model.specs.Holding.{says, always, is_closed, is_putself, ordinal_given}
use Rattle.lw_model.specs.Answers.{unanswered}
use Rattle.lw_model.specs.Devices.{is_refusal}
use Rattle.lw_target.specs.declared.channel.Channel.{Channel}
use Rattle.lw_target.specs.declared.client.Client.{Client}
use Rattle.lw_target.specs.declared.device.Device.{Device}
use Rattle.lw_target.specs.declared.mail.Mail.{Mail}
use Rattle.lw_target.specs.declared.mail.Load.{Load}
use Rattle.lw_target.specs.ClientLog.{Follows, IsOf, KeepsDevice, steps_so_far, past_so_far, sent_so_far, sends_of_steps, was_refused, lines_fit, ats_ascend}
use Rattle.lw_target.specs.ClientCalls.{RanMessage, AllAgree, ends_of, still_unanswered, reply_carried}
use Rattle.lw_target.specs.Client.{Received, TookPut}
use Rattle.lw_target.specs.Effects.{after_put, is_destroyed, devices_after}
use Rattle.lw_target.specs.Work.{client_work}
use Rattle.lw_target.proofs.Steps.{work_is}
use Rattle.lw_target.proofs.LogGrowth.{steps_ran, past_push, fit_push, sends_push, ats_ran, filter_reverse}
use Rattle.lw_target.proofs.Kept.{after_message, keeps_ran}
use Rattle.lw_target.proofs.Places.{at_some, got, map_kept, counted}

-- a client of the same script
pub same_script : (s : Script) (old new : Client) → new.thread ≡ old.thread → new.first_owner ≡ old.first_owner → new.of ≡ old.of → vec_len new.channels ≡ vec_len old.channels → IsOf s old → IsOf s new
same_script s old new thread first_owner of channels h = record {
  client = ap (is_client s) thread ∙ h.client;
  ops = ap (ops_of s) thread ∙ h.ops ∙ ap (λ o. o.ops) (sym of);
  depth = ap (depth_of s) thread ∙ h.depth ∙ ap (λ o. o.depth) (sym of);
  devices = h.devices ∙ sym channels;
  owners = h.owners ∙ sym first_owner;
}

-- what stays and what changes behind a message
pub record RanStep (old new : Client) (m : Tag) : Type 0 where
  pub thread : new.thread ≡ old.thread
  pub first_owner : new.first_owner ≡ old.first_owner
  pub of : new.of ≡ old.of
  pub next : new.next ≡ old.next
  pub closed : new.closed ≡ old.closed
  pub done : new.done ≡ old.done
  pub did : new.did ≡ old.did
  pub unanswered : new.unanswered.items ≡ still_unanswered m.what old.unanswered.items
  pub channels : (d : ℕ) → slice_get new.channels.items d ≡ option_map (after_message (is_putself d m.what)) (slice_get old.channels.items d)
  pub length : vec_len new.channels ≡ vec_len old.channels
  pub standing : old.standing ≡ count_by (λ k. is_some k.ordinal) old.channels.items → new.standing ≡ count_by (λ k. is_some k.ordinal) new.channels.items
  pub fewer : new.standing ≤ old.standing

-- what this was before it became so
pub came_from : {X : Type 0} (f : X → X) (o : Option X) (k' : X) → option_map f o ≡ Some k' → (k : X) × (o ≡ Some k) × (f k ≡ k')
came_from f None k' e = absurd (none-some k' e)
came_from f (Some k) k' e = (k, refl, same_Some (f k) k' e)

still_reverse : (w : What) (us : List ℕ) → still_unanswered w (reverse us) ≡ reverse (elim w as (λ x. List ℕ) [ what.Reply k ↦ filter (λ j. not (j == k)) us | _ ↦ us ])
still_reverse (what.Reply k) us = filter_reverse (λ j. not (j == k)) us
still_reverse _ us = refl

given_push : (on : ℕ → Bool) (steps : List Step) (i : ℕ) (m : Tag) → filter_map (ordinal_given on) (steps ++ step.Ran i m ∷ []) ≡ filter_map (ordinal_given on) steps
given_push on steps i m = filter_map-append (ordinal_given on) steps (step.Ran i m ∷ []) ∙ append-nil (filter_map (ordinal_given on) steps)

pub ran_follows : (s : Script) (old new : Client) (ran : List Tag) (m : Tag) → RanStep old new m → Follows s old ran → Follows s new (ran ++ m ∷ [])
ran_follows s old new ran m r h =
    let grown = steps_ran old new ran m r.did h.ats in
    let past = past_so_far old ran in
    let now : past_so_far new (ran ++ m ∷ []) ≡ step.Ran (length ran) m ∷ past = ap reverse grown ∙ past_push (steps_so_far old ran) (step.Ran (length ran) m) in
    record {
      of = same_script s old new r.thread r.first_owner r.of r.length h.of;
      listed = ap length r.did ∙ h.listed ∙ ap₂ (λ (n : ℕ) (b : Bool). n + cond b 1 0) (sym r.next) (sym r.closed);
      closed = λ e. r.next ∙ h.closed (sym r.closed ∙ e) ∙ ap (λ o. length o.ops) (sym r.of);
      says_closed = ap (list_any (says always is_closed)) now ∙ h.says_closed ∙ sym r.closed;
      devices = λ d k' e.
          let w = came_from (after_message (is_putself d m.what)) (slice_get old.channels.items d) k' (sym (r.channels d) ∙ e) in
          subst (λ (q : List Step). KeepsDevice s new.thread q d k') (sym now)
          (subst (λ (t : ℕ). KeepsDevice s t (step.Ran (length ran) m ∷ past) d k') (sym r.thread)
          (subst (λ (k : Channel). KeepsDevice s old.thread (step.Ran (length ran) m ∷ past) d k) w.2
          (keeps_ran s old.thread (length ran) d past m w.0 (h.devices d w.0 w.1))));
      standing = r.standing h.standing;
      unanswered = r.unanswered ∙ ap (still_unanswered m.what) h.unanswered ∙ still_reverse m.what (unanswered past) ∙ ap (λ (q : List Step). reverse (unanswered q)) (sym now);
      lines = subst (λ (t : ℕ). lines_fit s t (steps_so_far new (ran ++ m ∷ [])) ≡ true) (sym r.thread)
          (ap (lines_fit s old.thread) grown ∙ fit_push s old.thread (steps_so_far old ran) (step.Ran (length ran) m) h.lines refl);
      ats = ap₂ ats_ascend (length-append ran (m ∷ [])) r.did ∙ ats_ran (length ran) old.did h.ats;
      done = λ e. let both = h.done (sym r.done ∙ e) in (r.closed ∙ both.0, omega (arith, r.fewer, both.1));
      gets = λ d. subst (λ (t : ℕ). length (filter_map (ordinal_given (is_on s t d)) (steps_so_far new (ran ++ m ∷ []))) ≤ new.next) (sym r.thread)
          (omega (arith, h.gets d, r.next, ap length (ap (filter_map (ordinal_given (is_on s old.thread d))) grown ∙ given_push (is_on s old.thread d) (steps_so_far old ran) (length ran) m)));
    }

pub ran_sends : (s : Script) (old new : Client) (ran : List Tag) (m : Tag) → RanStep old new m → Follows s old ran → sent_so_far s new (ran ++ m ∷ []) ≡ sent_so_far s old ran
ran_sends s old new ran m r h =
    let grown = steps_ran old new ran m r.did h.ats in
    ap₂ (λ (t : ℕ) (b : Bool). sends_of_steps s t (steps_so_far new (ran ++ m ∷ [])) ++ cond b ((0, what.Done) ∷ []) []) r.thread r.done
    ∙ ap (λ (q : List Step). sends_of_steps s old.thread q ++ cond old.done ((0, what.Done) ∷ []) []) grown
    ∙ ap (λ (q : List (ℕ × What)). q ++ cond old.done ((0, what.Done) ∷ []) [])
    (sends_push s old.thread (steps_so_far old ran) (step.Ran (length ran) m) ∙ append-nil (sends_of_steps s old.thread (steps_so_far old ran)))

pub ran_refused : (s : Script) (old new : Client) (ran : List Tag) (m : Tag) → RanStep old new m → Follows s old ran → was_refused new (ran ++ m ∷ []) ≡ was_refused old ran
ran_refused s old new ran m r h =
    ap (list_any (says always is_refusal)) (steps_ran old new ran m r.did h.ats)
    ∙ list_any-append (says always is_refusal) (steps_so_far old ran) (step.Ran (length ran) m ∷ [])
    ∙ or_false (list_any (says always is_refusal) (steps_so_far old ran))

pending_left : (b : Bool) (o : Option Channel)
    → ◌≡◌ {A = ℕ} (elim (option_map (after_message b) o) as (λ q. ℕ) [ Some k ↦ k.pending | None ↦ 0 ]) (elim o as (λ q. ℕ) [ Some k ↦ k.pending | None ↦ 0 ] - cond b 1 0)
pending_left true None = omega arith
pending_left false None = omega arith
pending_left true (Some k) = refl
pending_left false (Some k) = omega arith

-- what the client's part of a message is
pub ran_message : (old new : Client) (m : Mail) → RanStep old new m.tag → new.replies ≡ old.replies ++ option_to_list (reply_carried m.tag.what m.load) → RanMessage old new m
ran_message old new m r replies = record {
  next = r.next;
  closed = r.closed;
  done = r.done;
  replies = replies;
  unanswered = r.unanswered;
  pending = λ d. ap (λ (o : Option Channel). elim o as (λ q. ℕ) [ Some k ↦ k.pending | None ↦ 0 ]) (r.channels d)
      ∙ pending_left (is_putself d m.tag.what) (slice_get old.channels.items d);
  follows = λ s ran h. ran_follows s old new ran m.tag r h;
  sends = λ s ran h. ran_sends s old new ran m.tag r h;
  refused = λ s ran h. ran_refused s old new ran m.tag r h;
}

-- what a message does to the devices
pub record DevicesRan (old : Client) (devices devices' : List Device) (m : Tag) : Type 0 where
  pub each : (d : ℕ) (v' : Device) → slice_get devices' d ≡ Some v' → (v : Device) × (slice_get devices d ≡ Some v) × (v'.given ≡ v.given)
      × ((k : Channel) → slice_get old.channels.items d ≡ Some k → v.standing ≡ cond (is_some k.ordinal) 1 0 → v'.standing ≡ cond (is_some (after_message (is_putself d m.what) k).ordinal) 1 0)

pub ran_agree : (s : Script) (old new : Client) (ran : List Tag) (m : Tag) (devices devices' : List Device) → RanStep old new m → DevicesRan old devices devices' m
    → Follows s old ran → AllAgree s old ran devices → AllAgree s new (ran ++ m ∷ []) devices'
ran_agree s old new ran m devices devices' r v h all = λ d k' w' ek ev.
    let kept = came_from (after_message (is_putself d m.what)) (slice_get old.channels.items d) k' (sym (r.channels d) ∙ ek) in
    let one = v.each d w' ev in
    let agrees = all d kept.0 one.0 kept.1 one.1 in
    record {
      standing = one.3 kept.0 kept.1 agrees.standing ∙ ap (λ (k : Channel). cond (is_some k.ordinal) 1 0) kept.2;
      given = ap (λ (t : ℕ). filter_map (ordinal_given (is_on s t d)) (steps_so_far new (ran ++ m ∷ []))) r.thread
          ∙ ap (filter_map (ordinal_given (is_on s old.thread d))) (steps_ran old new ran m r.did h.ats)
          ∙ given_push (is_on s old.thread d) (steps_so_far old ran) (length ran) m ∙ agrees.given ∙ ap (range_with_len 0) (sym one.2);
    }

-- ---- each message

unmoved : (b : Bool) → b ≡ false → (o : Option Channel) → o ≡ option_map (after_message b) o
unmoved b e None = refl
unmoved b e (Some k) = ap (λ (c : Bool). Some (cond c (after_put k) k)) (sym e)

same_devices : (b : Bool) → b ≡ false → (v : Device) (k : Channel) → v.standing ≡ cond (is_some k.ordinal) 1 0 → v.standing ≡ cond (is_some (after_message b k).ordinal) 1 0
same_devices b e v k h = h ∙ ap (λ (c : Bool). cond (is_some (cond c (after_put k) k).ordinal) 1 0) (sym e)

pub devices_stay : (old : Client) (devices : List Device) (m : Tag) → ((d : ℕ) → d < length old.channels.items → is_putself d m.what ≡ false) → DevicesRan old devices devices m
devices_stay old devices m none = record {
  each = λ d v' e. (v', e, refl, λ k ek h. same_devices (is_putself d m.what) (none d (slice_get_within old.channels.items d k ek)) v' k h);
}

pub step_reply : (old new : Client) (m : Mail) (k : ℕ) → m.tag.what ≡ what.Reply k → Received old new k m.load → RanStep old new m.tag
step_reply old new m k is r =
    let none : (d : ℕ) → is_putself d m.tag.what ≡ false = λ d. ap (is_putself d) is in
    record {
      thread = r.thread;
      first_owner = r.first_owner;
      of = r.of;
      next = r.next;
      closed = r.closed;
      done = r.done;
      did = r.did;
      unanswered = r.unanswered ∙ ap (λ (w : What). still_unanswered w old.unanswered.items) (sym is);
      channels = λ d. ap (λ c. slice_get c.items d) r.channels ∙ unmoved (is_putself d m.tag.what) (none d) (slice_get old.channels.items d);
      length = ap vec_len r.channels;
      standing = λ e. r.standing ∙ e ∙ ap (λ c. count_by (λ (k : Channel). is_some k.ordinal) c.items) (sym r.channels);
      fewer = omega (arith, r.standing);
    }

pub replies_reply : (old new : Client) (m : Mail) (k : ℕ) → m.tag.what ≡ what.Reply k → Received old new k m.load
    → new.replies ≡ old.replies ++ option_to_list (reply_carried m.tag.what m.load)
replies_reply old new m k is r = r.replies ∙ ap (λ (w : What). old.replies ++ option_to_list (reply_carried w m.load)) (sym is)

-- no reply was carried by another message
pub no_reply : (w : What) (carried : Load) → ((k : ℕ) → w ≡ what.Reply k → ⊥) → reply_carried w carried ≡ None
no_reply (what.Reply k) carried h = absurd (h k refl)
no_reply _ carried h = refl

not_reply : (w : What) (us : List ℕ) → ((k : ℕ) → w ≡ what.Reply k → ⊥) → us ≡ still_unanswered w us
not_reply (what.Reply k) us h = absurd (h k refl)
not_reply _ us h = refl

pub replies_stay : (old new : Client) (m : Mail) → new.replies ≡ old.replies → ((k : ℕ) → m.tag.what ≡ what.Reply k → ⊥) → new.replies ≡ old.replies ++ option_to_list (reply_carried m.tag.what m.load)
replies_stay old new m same h =
    same ∙ sym (append-nil old.replies) ∙ ap (λ o. old.replies ++ option_to_list o) (sym (no_reply m.tag.what m.load h))

pub step_none : (old : Client) (m : Tag) → ((k : ℕ) → m.what ≡ what.Reply k → ⊥) → ((d : ℕ) → d < length old.channels.items → is_putself d m.what ≡ false) → RanStep old old m
step_none old m reply put = record {
  thread = refl;
  first_owner = refl;
  of = refl;
  next = refl;
  closed = refl;
  done = refl;
  did = refl;
  unanswered = not_reply m.what old.unanswered.items reply;
  channels = λ d. at d (slice_get old.channels.items d) refl;
  length = refl;
  standing = λ e. e;
  fewer = omega arith;
}
  where
    at : (d : ℕ) (o : Option Channel) → slice_get old.channels.items d ≡ o → o ≡ option_map (after_message (is_putself d m.what)) o
    at d None e = refl
    at d (Some k) e = unmoved (is_putself d m.what) (put d (slice_get_within old.channels.items d k e)) (Some k)

-- a channel that is destroyed stood, and stands no more
destroyed_counts : (k : Channel) → cond (is_some k.ordinal) 1 0 ≡ cond (is_some (after_put k).ordinal) 1 0 + cond (is_destroyed k) 1 0
destroyed_counts k = at (k.pending == 1 && k.references == 0) k.ordinal
  where
    at : (b : Bool) (o : Option ℕ) → cond (is_some o) 1 0 ≡ cond (is_some (cond b None o)) 1 0 + cond (is_none (cond b None o) && is_some o) 1 0
    at true None = omega arith
    at true (Some n) = omega arith
    at false None = omega arith
    at false (Some n) = omega arith

pub step_put : (old new : Client) (m : Tag) (d : ℕ) (k : Channel) → m.what ≡ what.PutSelf d → slice_get old.channels.items d ≡ Some k → TookPut old new d k → RanStep old new m
step_put old new m d k is kept r = record {
  thread = r.thread;
  first_owner = r.first_owner;
  of = r.of;
  next = r.next;
  closed = r.closed;
  done = r.done;
  did = r.did;
  unanswered = ap (λ v. v.items) r.unanswered ∙ ap (λ (w : What). still_unanswered w old.unanswered.items) (sym is);
  channels = λ e. ap (λ l. slice_get l e) r.channels ∙ got after_put old.channels.items d k kept e
      ∙ ap (λ (w : What). option_map (after_message (is_putself e w)) (slice_get old.channels.items e)) (sym is);
  length = omega (arith, old.channels.ok.0, new.channels.ok.0, simp length-set at (ap length r.channels));
  standing = λ e.
      let count = counted (λ (k : Channel). is_some k.ordinal) old.channels.items d k (after_put k) kept in
      omega (arith, e, r.standing, count, destroyed_counts k, ap (count_by (λ (k : Channel). is_some k.ordinal)) r.channels);
  fewer = omega (arith, r.standing);
}

-- a device of which a channel was destroyed counts one less
released : (k : Channel) (v : Device) → v.standing ≡ cond (is_some k.ordinal) 1 0 → v.standing - cond (is_destroyed k) 1 0 ≡ cond (is_some (after_put k).ordinal) 1 0
released k v h = omega (arith, h, destroyed_counts k)

pub devices_put : (old : Client) (devices devices' : List Device) (m : Tag) (d : ℕ) (k : Channel) (v : Device) → m.what ≡ what.PutSelf d
    → slice_get old.channels.items d ≡ Some k → slice_get devices d ≡ Some v → devices' ≡ devices_after devices d k v → DevicesRan old devices devices' m
devices_put old devices devices' m d k v is kept seen changed = record { each = λ e v' ev. at e v' ev (is_destroyed k) refl (d == e) refl }
  where
    lesser : Device → Device
    lesser w = record w { standing = w.standing - 1 }

    Each : ℕ → Device → Type 0
    Each e v' = (w : Device) × (slice_get devices e ≡ Some w) × (v'.given ≡ w.given)
        × ((j : Channel) → slice_get old.channels.items e ≡ Some j → w.standing ≡ cond (is_some j.ordinal) 1 0 → v'.standing ≡ cond (is_some (after_message (is_putself e m.what) j).ordinal) 1 0)

    tested : (e : ℕ) (b : Bool) → (d == e) ≡ b → is_putself e m.what ≡ b
    tested e b eb = ap (is_putself e) is ∙ eb

    same : (e : ℕ) (j : Channel) → (d == e) ≡ true → slice_get old.channels.items e ≡ Some j → k ≡ j
    same e j eb ej = same_Some k j (sym kept ∙ ap (slice_get old.channels.items) (eqb-true d e eb) ∙ ej)

    at : (e : ℕ) (v' : Device) → slice_get devices' e ≡ Some v' → (x : Bool) → is_destroyed k ≡ x → (b : Bool) → (d == e) ≡ b
        → (w : Device) × (slice_get devices e ≡ Some w) × (v'.given ≡ w.given)
        × ((j : Channel) → slice_get old.channels.items e ≡ Some j → w.standing ≡ cond (is_some j.ordinal) 1 0 → v'.standing ≡ cond (is_some (after_message (is_putself e m.what) j).ordinal) 1 0)
    at e v' ev false ex false eb = (
      v',
      ap (λ l. slice_get l e) (sym (changed ∙ ap (λ (c : Bool). cond c (slice_set devices d (record v { standing = v.standing - 1 })) devices) ex)) ∙ ev,
      refl,
      λ j ej h. same_devices (is_putself e m.what) (tested e false eb) v' j h,
    )
    at e v' ev false ex true eb = (
      v',
      ap (λ l. slice_get l e) (sym (changed ∙ ap (λ (c : Bool). cond c (slice_set devices d (record v { standing = v.standing - 1 })) devices) ex)) ∙ ev,
      refl,
      λ j ej h.
          let r = released j v' h in
          let gone : ◌≡◌ {A = ℕ} (cond (is_destroyed j) 1 0) 0 = ap (λ (q : Channel). cond (is_destroyed q) 1 0) (sym (same e j eb ej)) ∙ ap (λ (c : Bool). cond c 1 0) ex in
          omega (arith, r, gone) ∙ ap (λ (c : Bool). cond (is_some (after_message c j).ordinal) 1 0) (sym (tested e true eb)),
    )
    at e v' ev true ex b eb =
        let set : devices' ≡ slice_set devices d (lesser v) = changed ∙ ap (λ (c : Bool). cond c (slice_set devices d (lesser v)) devices) ex in
        let w = came_from (λ (y : Device). cond (d == e) (lesser y) y) (slice_get devices e) v' (sym (got lesser devices d v seen e) ∙ ap (λ l. slice_get l e) (sym set) ∙ ev) in
        let became : cond b (lesser w.0) w.0 ≡ v' = ap (λ (c : Bool). cond c (lesser w.0) w.0) (sym eb) ∙ w.2 in (
          w.0,
          w.1,
          one b w.0 v' became,
          λ j ej h.
              stood b (d == e) eb w.0 v' j became h (λ t. ap is_destroyed (sym (same e j (eb ∙ t) ej)) ∙ ex) ∙ ap (λ (c : Bool). cond (is_some (after_message c j).ordinal) 1 0) (sym (tested e b eb)),
        )
      where
        one : (b : Bool) (w v' : Device) → cond b (lesser w) w ≡ v' → v'.given ≡ w.given
        one true w v' is' = ap (λ (q : Device). q.given) (sym is')
        one false w v' is' = ap (λ (q : Device). q.given) (sym is')

        stood : (b c : Bool) → c ≡ b → (w v' : Device) (j : Channel) → cond b (lesser w) w ≡ v' → w.standing ≡ cond (is_some j.ordinal) 1 0
            → (b ≡ true → is_destroyed j ≡ true) → v'.standing ≡ cond (is_some (after_message b j).ordinal) 1 0
        stood false c eb' w v' j is' h dead = ap (λ (q : Device). q.standing) (sym is') ∙ h
        stood true c eb' w v' j is' h dead =
            let gone : ◌≡◌ {A = ℕ} (cond (is_destroyed j) 1 0) 1 = ap (λ (q : Bool). cond q 1 0) (dead refl) in
            let r = released j w h in
            omega (arith, r, gone, ap (λ (q : Device). q.standing) is')

pub ends_put : (devices devices' : List Device) (d : ℕ) (k : Channel) (v : Device) → slice_get devices d ≡ Some v → devices' ≡ devices_after devices d k v → ends_of devices' ≡ ends_of devices
ends_put devices devices' d k v seen changed = ap ends_of changed ∙ at (is_destroyed k)
  where
    at : (b : Bool) → ends_of (cond b (slice_set devices d (record v { standing = v.standing - 1 })) devices) ≡ ends_of devices
    at true = map_kept (λ (v : Device). (v.shut_by, v.callbacks)) devices d v (record v { standing = v.standing - 1 }) seen refl
    at false = refl

pub given_put : (devices devices' : List Device) (d : ℕ) (k : Channel) (v : Device) → slice_get devices d ≡ Some v → devices' ≡ devices_after devices d k v → map (λ (x : Device). x.given) devices' ≡ map (λ (x : Device). x.given) devices
given_put devices devices' d k v seen changed = ap (map (λ (x : Device). x.given)) changed ∙ at (is_destroyed k)
  where
    at : (b : Bool) → map (λ (x : Device). x.given) (cond b (slice_set devices d (record v { standing = v.standing - 1 })) devices) ≡ map (λ (x : Device). x.given) devices
    at true = map_kept (λ (x : Device). x.given) devices d v (record v { standing = v.standing - 1 }) seen refl
    at false = refl

-- a message behind a put of a device that is not there
pub put_past : (m : Tag) (d n : ℕ) → m.what ≡ what.PutSelf d → n ≤ d → (e : ℕ) → e < n → is_putself e m.what ≡ false
put_past m d n is past e within = ap (is_putself e) is ∙ ne_eqb d e (λ same. absurd (omega (arith, same)))

pub no_reply_put : (m : Tag) (d : ℕ) → m.what ≡ what.PutSelf d → (k : ℕ) → m.what ≡ what.Reply k → ⊥
no_reply_put m d is k e = let wrong : what.PutSelf d ≡ what.Reply k = sym is ∙ e in cc

pub not_putself : (w : What) → ((d : ℕ) → w ≡ what.PutSelf d → ⊥) → (e : ℕ) → is_putself e w ≡ false
not_putself (what.PutSelf d) h e = absurd (h d refl)
not_putself _ h e = refl

-- a put that was taken, with the channel and the device
pub record PutTaken (old new : Client) (devices devices' : List Device) (d : ℕ) : Type 0 where
  pub k : Channel
  pub v : Device
  pub kept : slice_get old.channels.items d ≡ Some k
  pub seen : slice_get devices d ≡ Some v
  pub client : TookPut old new d k
  pub changed : devices' ≡ devices_after devices d k v

pub put_taken : (old new : Client) (devices devices' : List Device) (d : ℕ) → d < vec_len old.channels → length devices ≡ vec_len old.channels
    → IfSome (slice_get old.channels.items d) (λ k. TookPut old new d k)
    → IfSome (slice_get old.channels.items d) (λ k. IfSome (slice_get devices d) (λ v. devices' ≡ devices_after devices d k v))
    → PutTaken old new devices devices' d
put_taken old new devices devices' d within same client changed =
    let k0 : Channel = record { ordinal = None; references = 0; pending = 0 } in
    let v0 : Device = record { standing = 0; given = 0; shut_by = None; callbacks = 0 } in
    let k = get_or old.channels.items d k0 in
    let v = get_or devices d v0 in
    let kept : slice_get old.channels.items d ≡ Some k = slice_get-get_or old.channels.items d k0 (omega (arith, within, old.channels.ok.0)) in
    let seen : slice_get devices d ≡ Some v = slice_get-get_or devices d v0 (omega (arith, within, same)) in
    record {
      k = k;
      v = v;
      kept = kept;
      seen = seen;
      client = at_some (slice_get old.channels.items d) (λ k. TookPut old new d k) k kept client;
      changed = at_some (slice_get devices d) (λ v. devices' ≡ devices_after devices d k v) v seen
          (at_some (slice_get old.channels.items d) (λ k. IfSome (slice_get devices d) (λ v. devices' ≡ devices_after devices d k v)) k kept changed);
    }

pub same_work : (old new : Client) (m : Tag) → RanStep old new m → client_work new ≡ client_work old
same_work old new m r =
    work_is old new old.next old.closed old.done r.of r.next r.closed r.done r.length ∙ refl
