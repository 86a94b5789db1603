-- A client's tick, part by part.
use Rattle.std.proofs.Common.{ℕ, ◌≡◌, ◌+◌, ◌≤◌, ◌<◌, Bool, true, false, List, [], ◌∷◌, ◌++◌, reverse, length, arith, refl, sym, ap, ap₂, ◌∙◌, subst, cond, append_assoc, get_or, inl, inr}
use Rattle.std.specs.Prelude.{◌&&◌, ◌||◌, filter_map, count_by, Option, Some, None, is_some, is_none, slice_get, vec_len, nat_lt, nat_le, if◌then◌else◌, ◌==◌, IfSome}
use Rattle.std.specs.List.{list_any, list_all}
use Rattle.std.proofs.lemmas.Option.{none-some, slice_get-get_or}
use Rattle.std.proofs.lemmas.Bool.{leb-true, or_parts}
use Rattle.std.proofs.lemmas.List.{append-nil, map-append}
use Rattle.std.proofs.lemmas.List.Elements.{filter_map-append}
use Rattle.std.proofs.lemmas.List.Sums.{sum_by-append}
use Rattle.lw_base.specs.declared.message.Tag.{Tag}
use Rattle.lw_base.specs.declared.message.What.{What}
use Rattle.lw_base.specs.declared.message.What.TheVariants as what
use Rattle.lw_model.specs.declared.script.Script.{Script}
use Rattle.lw_model.specs.declared.script.Op.{Op}
use Rattle.lw_model.specs.declared.step.Step.{Step}
use Rattle.lw_model.specs.declared.record.Did.{Did}
use Rattle.lw_model.specs.declared.record.Answer.TheVariants as answer
use Rattle.lw_model.specs.OwnOrder.{own_order}
use Rattle.lw_model.specs.Threads.{is_on}
use Rattle.lw_model.specs.Holding.{says, always, is_closed, is_putself, ordinal_given}
use Rattle.lw_model.specs.Answers.{unanswered}
use Rattle.lw_model.specs.Devices.{is_refusal}
use Rattle.lw_target.specs.declared.action.Action.{Action}
use Rattle.lw_target.specs.declared.action.Action.TheVariants as action
use Rattle.lw_target.specs.declared.acts.Outgoing.{Outgoing}
use Rattle.lw_target.specs.declared.channel.Channel.{Channel}
use Rattle.lw_target.specs.declared.client.Client.{Client}
use Rattle.lw_target.specs.declared.device.Device.{Device}
use Rattle.lw_target.specs.declared.mail.Load.TheVariants as load
use Rattle.lw_target.specs.Actions.{device_of, names_image}
use Rattle.lw_target.specs.Answers.{answer_to}
use Rattle.lw_target.specs.Client.{Paused, Telling}
use Rattle.lw_target.specs.ClientLog.{Follows, KeepsDevice, log_of, steps_so_far, past_so_far, sends_of_steps, lines_fit, ats_ascend, IsHeldUp}
use Rattle.lw_target.specs.ClientCalls.{WentOn, Rests, all_usable, ends_of, pending_of, requested, receivers, putselfs_to}
use Rattle.lw_target.specs.Messages.{Asked}
use Rattle.std.proofs.Math.Bridge.{le_prop}
use Rattle.std.proofs.Math.Bool.{Bool-set}
use Rattle.lw_model.specs.declared.record.Reply.{Reply}
use Rattle.lw_model.specs.Printable.{has_bytes}
use Rattle.lw_target.specs.Effects.{AllHold}
use Rattle.lw_target.specs.Ops.{is_servable}
use Rattle.lw_target.proofs.RanMessages.{same_script}
use Rattle.lw_target.proofs.Places.{at_some}

-- ---- nothing, and one thing behind another

-- the same data
pub record Same (old new : Client) : Type 0 where
  pub thread : new.thread ≡ old.thread
  pub first_owner : new.first_owner ≡ old.first_owner
  pub of : new.of ≡ old.of
  pub next : new.next ≡ old.next
  pub channels : new.channels ≡ old.channels
  pub standing : new.standing ≡ old.standing
  pub unanswered : new.unanswered ≡ old.unanswered
  pub closed : new.closed ≡ old.closed
  pub done : new.done ≡ old.done
  pub did : new.did ≡ old.did
  pub replies : new.replies ≡ old.replies

same_steps : (old new : Client) (ran : List Tag) → new.did ≡ old.did → steps_so_far new ran ≡ steps_so_far old ran
same_steps old new ran e = ap (λ (did : List Did). own_order (log_of ran did old.replies)) e

same_follows : (s : Script) (old new : Client) (ran : List Tag) → Same old new → Follows s old ran → Follows s new ran
same_follows s old new ran p h =
    let grown = same_steps old new ran p.did in
    let now : past_so_far new ran ≡ past_so_far old ran = ap reverse grown in
    record {
      of = same_script s old new p.thread p.first_owner p.of (ap vec_len p.channels) h.of;
      listed = ap length p.did ∙ h.listed ∙ ap₂ (λ (n : ℕ) (b : Bool). n + cond b 1 0) (sym p.next) (sym p.closed);
      closed = λ e. p.next ∙ h.closed (sym p.closed ∙ e) ∙ ap (λ o. length o.ops) (sym p.of);
      says_closed = ap (list_any (says always is_closed)) now ∙ h.says_closed ∙ sym p.closed;
      devices = λ e k ek.
          subst (λ (q : List Step). KeepsDevice s new.thread q e k) (sym now)
          (subst (λ (t : ℕ). KeepsDevice s t (past_so_far old ran) e k) (sym p.thread) (h.devices e k (ap (λ c. slice_get c.items e) (sym p.channels) ∙ ek)));
      standing = p.standing ∙ h.standing ∙ ap (λ c. count_by (λ (k : Channel). is_some k.ordinal) c.items) (sym p.channels);
      unanswered = ap (λ v. v.items) p.unanswered ∙ h.unanswered ∙ ap (λ (q : List Step). reverse (unanswered q)) (sym now);
      lines = subst (λ (t : ℕ). lines_fit s t (steps_so_far new ran) ≡ true) (sym p.thread) (ap (lines_fit s old.thread) grown ∙ h.lines);
      ats = ap (ats_ascend (length ran)) p.did ∙ h.ats;
      done = λ e. let both = h.done (sym p.done ∙ e) in (p.closed ∙ both.0, p.standing ∙ both.1);
      gets = λ e. subst (λ (t : ℕ). length (filter_map (ordinal_given (is_on s t e)) (steps_so_far new ran)) ≤ new.next) (sym p.thread)
          (omega (arith, p.next, h.gets e, ap length (ap (filter_map (ordinal_given (is_on s old.thread e))) grown)));
    }

pub went_none : (old new : Client) (acts : Asked) (devices : List Device) → Same old new → WentOn old new acts acts devices devices
went_none old new acts devices p = record {
  replies = p.replies;
  ran = refl;
  unanswered = λ sent e. ap (λ v. v.items) p.unanswered ∙ e;
  pending = λ d sent e. ap (λ c. let n : ℕ = elim (slice_get {X = Channel} c.items d) [ Some k ↦ k.pending | None ↦ 0 ] in n) p.channels ∙ e;
  follows = λ s ran h at. same_follows s old new ran p h;
  sends = λ s ran sent h at e.
      ap₂ (λ (t : ℕ) (b : Bool). sends_of_steps s t (steps_so_far new ran) ++ cond b ((0, what.Done) ∷ []) []) p.thread p.done
      ∙ ap (λ (q : List Step). sends_of_steps s old.thread q ++ cond old.done ((0, what.Done) ∷ []) []) (same_steps old new ran p.did) ∙ e;
  usable = λ s ran h at all no'. ap (list_any (says always is_refusal)) (same_steps old new ran p.did) ∙ no';
  agree = λ s ran h at all. λ e k v ek ev.
      let agrees = all e k v (ap (λ c. slice_get c.items e) (sym p.channels) ∙ ek) ev in
      record {
        standing = agrees.standing;
        given = ap (λ (t : ℕ). filter_map (ordinal_given (is_on s t e)) (steps_so_far new ran)) p.thread
            ∙ ap (filter_map (ordinal_given (is_on s old.thread e))) (same_steps old new ran p.did) ∙ agrees.given;
      };
  ends = refl;
}

pub went_still : (c : Client) (acts : Asked) (devices : List Device) → WentOn c c acts acts devices devices
went_still c acts devices = went_none c c acts devices (record {
  thread = refl;
  first_owner = refl;
  of = refl;
  next = refl;
  channels = refl;
  standing = refl;
  unanswered = refl;
  closed = refl;
  done = refl;
  did = refl;
  replies = refl;
})

usable_by_ends : (devices : List Device) → all_usable devices ≡ list_all (λ (e : Option ℕ × ℕ). is_none e.0) (ends_of devices)
usable_by_ends [] = refl
usable_by_ends (v ∷ devices) = ap (λ (b : Bool). is_none v.shut_by && b) (usable_by_ends devices)

still_usable : (devices devices' : List Device) → ends_of devices' ≡ ends_of devices → all_usable devices ≡ true → all_usable devices' ≡ true
still_usable devices devices' e all =
    usable_by_ends devices' ∙ ap (list_all (λ (e : Option ℕ × ℕ). is_none e.0)) e ∙ sym (usable_by_ends devices) ∙ all

pub went_then : (a b c : Client) (x y z : Asked) (ds es fs : List Device) → WentOn a b x y ds es → WentOn b c y z es fs → WentOn a c x z ds fs
went_then a b c x y z ds es fs f g = record {
  replies = g.replies ∙ f.replies;
  ran = g.ran ∙ f.ran;
  unanswered = λ sent e. g.unanswered sent (f.unanswered sent e);
  pending = λ d sent e. g.pending d sent (f.pending d sent e);
  follows = λ s ran h at. g.follows s ran (f.follows s ran h at) (f.ran ∙ at);
  sends = λ s ran sent h at e. g.sends s ran sent (f.follows s ran h at) (f.ran ∙ at) (f.sends s ran sent h at e);
  usable = λ s ran h at all none. g.usable s ran (f.follows s ran h at) (f.ran ∙ at) (still_usable ds es f.ends all) (f.usable s ran h at all none);
  agree = λ s ran h at all. g.agree s ran (f.follows s ran h at) (f.ran ∙ at) (f.agree s ran h at all);
  ends = g.ends ∙ f.ends;
}

-- ---- the message to the app

tell_follows : (s : Script) (old new : Client) (ran : List Tag) (before after : Asked) → old.closed ≡ true → old.standing ≡ 0 → Telling old new before after → Follows s old ran → Follows s new ran
tell_follows s old new ran before after closed none p h =
    let grown = same_steps old new ran p.did in
    let now : past_so_far new ran ≡ past_so_far old ran = ap reverse grown in
    record {
      of = same_script s old new p.thread p.first_owner p.of (ap vec_len p.channels) h.of;
      listed = ap length p.did ∙ h.listed ∙ ap₂ (λ (n : ℕ) (b : Bool). n + cond b 1 0) (sym p.next) (sym p.closed);
      closed = λ e. p.next ∙ h.closed (sym p.closed ∙ e) ∙ ap (λ o. length o.ops) (sym p.of);
      says_closed = ap (list_any (says always is_closed)) now ∙ h.says_closed ∙ sym p.closed;
      devices = λ e k ek.
          subst (λ (q : List Step). KeepsDevice s new.thread q e k) (sym now)
          (subst (λ (t : ℕ). KeepsDevice s t (past_so_far old ran) e k) (sym p.thread) (h.devices e k (ap (λ c. slice_get c.items e) (sym p.channels) ∙ ek)));
      standing = p.standing ∙ h.standing ∙ ap (λ c. count_by (λ (k : Channel). is_some k.ordinal) c.items) (sym p.channels);
      unanswered = ap (λ v. v.items) p.unanswered ∙ h.unanswered ∙ ap (λ (q : List Step). reverse (unanswered q)) (sym now);
      lines = subst (λ (t : ℕ). lines_fit s t (steps_so_far new ran) ≡ true) (sym p.thread) (ap (lines_fit s old.thread) grown ∙ h.lines);
      ats = ap (ats_ascend (length ran)) p.did ∙ h.ats;
      done = λ e. (p.closed ∙ closed, p.standing ∙ none);
      gets = λ e. subst (λ (t : ℕ). length (filter_map (ordinal_given (is_on s t e)) (steps_so_far new ran)) ≤ new.next) (sym p.thread)
          (omega (arith, p.next, h.gets e, ap length (ap (filter_map (ordinal_given (is_on s old.thread e))) grown)));
    }

pub tell_went_on : (old new : Client) (before after : Asked) (devices : List Device) → old.done ≡ false → old.closed ≡ true → old.standing ≡ 0 → Telling old new before after
    → WentOn old new before after devices devices
tell_went_on old new before after devices undone closed none p =
    let out : Outgoing = record { to = 0; what = what.Done; load = load.Nothing } in
    record {
      replies = p.replies;
      ran = ap (λ (a : Asked). a.ran) p.acts;
      unanswered = λ sent e. ap (λ v. v.items) p.unanswered ∙ e
          ∙ ap (λ l. sent ++ l) (sym (append-nil (filter_map (λ (o : Outgoing). requested o.what) before.sends)) ∙ sym (filter_map-append (λ (o : Outgoing). requested o.what) before.sends (out ∷ [])))
          ∙ ap (λ (a : Asked). sent ++ filter_map (λ (o : Outgoing). requested o.what) a.sends) (sym p.acts);
      pending = λ d sent e.
          let count : putselfs_to d after.sends ≡ putselfs_to d before.sends + 0 =
          ap (λ (a : Asked). putselfs_to d a.sends) p.acts ∙ sum_by-append (λ (o : Outgoing). cond (is_putself d o.what) 1 0) before.sends (out ∷ []) in
          let same : pending_of new d ≡ pending_of old d = ap (λ c. let n : ℕ = elim (slice_get {X = Channel} c.items d) [ Some k ↦ k.pending | None ↦ 0 ] in n) p.channels in
          omega (arith, count, same, e);
      follows = λ s ran h at. tell_follows s old new ran before after closed none p h;
      sends = λ s ran sent h at e.
          let steps = steps_so_far old ran in
          let nothing : cond old.done ((0, what.Done) ∷ []) [] ≡ [] = ap (λ (b : Bool). let q : List (ℕ × What) = cond b ((0, what.Done) ∷ []) [] in q) undone in
          let was : sends_of_steps s old.thread steps ≡ sent ++ receivers before.sends =
          sym (append-nil (sends_of_steps s old.thread steps)) ∙ ap (λ q. sends_of_steps s old.thread steps ++ q) (sym nothing) ∙ e in
          ap₂ (λ (t : ℕ) (b : Bool). sends_of_steps s t (steps_so_far new ran) ++ cond b ((0, what.Done) ∷ []) []) p.thread p.done
          ∙ ap (λ (q : List Step). sends_of_steps s old.thread q ++ ((0, what.Done) ∷ [])) (same_steps old new ran p.did)
          ∙ ap (λ (q : List (ℕ × What)). q ++ ((0, what.Done) ∷ [])) was
          ∙ append_assoc sent (receivers before.sends) ((0, what.Done) ∷ [])
          ∙ ap (λ q. sent ++ q) (sym (map-append (λ (o : Outgoing). (o.to, o.what)) before.sends (out ∷ [])))
          ∙ ap (λ (a : Asked). sent ++ receivers a.sends) (sym p.acts);
      usable = λ s ran h at all no'. ap (list_any (says always is_refusal)) (same_steps old new ran p.did) ∙ no';
      agree = λ s ran h at all. λ e k v ek ev.
          let agrees = all e k v (ap (λ c. slice_get c.items e) (sym p.channels) ∙ ek) ev in
          record {
            standing = agrees.standing;
            given = ap (λ (t : ℕ). filter_map (ordinal_given (is_on s t e)) (steps_so_far new ran)) p.thread
                ∙ ap (filter_map (ordinal_given (is_on s old.thread e))) (same_steps old new ran p.did) ∙ agrees.given;
          };
      ends = refl;
    }

-- ---- what waits

some_any : {X : Type 0} (p : X → Bool) (xs : List X) → list_any p xs ≡ true → 0 < length xs
some_any p [] e = let wrong : false ≡ true = e in cc
some_any p (x ∷ xs) e = omega arith

-- an op waits where a request is unanswered
pub waits_for : (ops : List Op) (waiting : List ℕ) (depth : ℕ) (act : Action) (v : Device) (k : Channel) → 1 ≤ depth → None ≡ answer_to ops waiting depth act v k → 0 < length waiting
waits_for ops waiting depth (action.Get d) v k deep e = absurd (none-some _ e)
waits_for ops waiting depth (action.Put d) v k deep e = at (k.references == 0) (list_any (names_image ops d) waiting) (nat_lt 1 k.references) refl e
  where
    at : (none waits many : Bool) → list_any (names_image ops d) waiting ≡ waits
        → None ≡ (if none then Some answer.NoChannel else (if waits then None else (if many then Some answer.Counted else Some answer.Deferred))) → 0 < length waiting
    at true waits many ew e = absurd (none-some _ e)
    at false true many ew e = some_any (names_image ops d) waiting ew
    at false false true ew e = absurd (none-some _ e)
    at false false false ew e = absurd (none-some _ e)
waits_for ops waiting depth (action.Ask d) v k deep e = at (k.references == 0) (nat_le depth (length waiting)) refl e
  where
    at : (none full : Bool) → nat_le depth (length waiting) ≡ full → None ≡ (if none then Some answer.NoChannel else (if full then None else Some answer.Sent)) → 0 < length waiting
    at true full ef e = absurd (none-some _ e)
    at false true ef e = let least = leb-true depth (length waiting) ef in omega (arith, least, deep)
    at false false ef e = absurd (none-some _ e)

-- ---- a client with the same data is the same

within_same : {m n : ℕ} (a b : m ≤ n) → a ≡ b
within_same a b = le_prop a b

true_same : (b : Bool) (p q : b ≡ true) → p ≡ q
true_same b p q = Bool-set b true p q

held_same : (n : ℕ) (ks : List Channel) (a b : AllHold n ks) → a ≡ b
held_same n ks = hlevel (le_prop)

pub same_client : (c : Client) (within : c.next ≤ length c.of.ops) (short : length c.of.ops ≤ 100000) (few : vec_len c.channels ≤ 16) (held : AllHold c.next c.channels.items)
    (owners : c.first_owner ≤ 65) (serves : list_all (is_servable (vec_len c.channels)) c.of.ops ≡ true) (replied : list_all (λ (r : Reply). has_bytes r.answer) c.replies ≡ true)
    → ◌≡◌ {A = Client} (record {
      thread = c.thread;
      first_owner = c.first_owner;
      of = c.of;
      next = c.next;
      channels = c.channels;
      standing = c.standing;
      unanswered = c.unanswered;
      closed = c.closed;
      done = c.done;
      did = c.did;
      replies = c.replies;
      within = within;
      short = short;
      few = few;
      held = held;
      owners = owners;
      serves = serves;
      replied = replied;
    }) c
same_client c within short few held owners serves replied =
    let of = λ (w : c.next ≤ length c.of.ops) (s : length c.of.ops ≤ 100000) (f : vec_len c.channels ≤ 16) (h : AllHold c.next c.channels.items) (o : c.first_owner ≤ 65)
    (v : list_all (is_servable (vec_len c.channels)) c.of.ops ≡ true) (r : list_all (λ (r : Reply). has_bytes r.answer) c.replies ≡ true).
    let q : Client = record {
      thread = c.thread;
      first_owner = c.first_owner;
      of = c.of;
      next = c.next;
      channels = c.channels;
      standing = c.standing;
      unanswered = c.unanswered;
      closed = c.closed;
      done = c.done;
      did = c.did;
      replies = c.replies;
      within = w;
      short = s;
      few = f;
      held = h;
      owners = o;
      serves = v;
      replied = r;
    } in q in
    ap (λ (w : c.next ≤ length c.of.ops). of w short few held owners serves replied) (within_same within c.within)
    ∙ ap (λ (s : length c.of.ops ≤ 100000). of c.within s few held owners serves replied) (within_same short c.short)
    ∙ ap (λ (f : vec_len c.channels ≤ 16). of c.within c.short f held owners serves replied) (within_same few c.few)
    ∙ ap (λ (h : AllHold c.next c.channels.items). of c.within c.short c.few h owners serves replied) (held_same c.next c.channels.items held c.held)
    ∙ ap (λ (o : c.first_owner ≤ 65). of c.within c.short c.few c.held o serves replied) (within_same owners c.owners)
    ∙ ap (λ (v : list_all (is_servable (vec_len c.channels)) c.of.ops ≡ true). of c.within c.short c.few c.held c.owners v replied) (true_same _ serves c.serves)
    ∙ ap (λ (r : list_all (λ (r : Reply). has_bytes r.answer) c.replies ≡ true). of c.within c.short c.few c.held c.owners c.serves r) (true_same _ replied c.replied)

pub waits_known : (old : Client) (devices : List Device) (act : Action) → device_of act < vec_len old.channels → length devices ≡ vec_len old.channels → 1 ≤ old.of.depth
    → IfSome (slice_get devices (device_of act)) (λ v. IfSome (slice_get old.channels.items (device_of act)) (λ k. None ≡ answer_to old.of.ops old.unanswered.items old.of.depth act v k))
    → 0 < length old.unanswered.items
waits_known old devices act within same deep e =
    let d = device_of act in
    let k0 : Channel = record { ordinal = None; references = 0; pending = 0 } in
    let v0 : Device = record { standing = 0; given = 0; shut_by = None; callbacks = 0 } in
    let kept = slice_get-get_or old.channels.items d k0 (omega (arith, within, old.channels.ok.0)) in
    let seen = slice_get-get_or devices d v0 (omega (arith, within, same)) in
    waits_for old.of.ops old.unanswered.items old.of.depth act (get_or devices d v0) (get_or old.channels.items d k0) deep
    (at_some (slice_get old.channels.items d) (λ k. None ≡ answer_to old.of.ops old.unanswered.items old.of.depth act (get_or devices d v0) k) (get_or old.channels.items d k0) kept
    (at_some (slice_get devices d) (λ v. IfSome (slice_get old.channels.items d) (λ k. None ≡ answer_to old.of.ops old.unanswered.items old.of.depth act v k)) (get_or devices d v0) seen e))

-- a tick of which no part did anything
pub rests_all : (a b c d : Client) (w x y z : Asked) (ds es : List Device) (p q r : Bool)
    → (p ≡ false → Paused a b w x ds es) → (q ≡ false → (c ≡ b) × (y ≡ x) × (b.next ≡ length b.of.ops → b.closed ≡ false → 0 < length b.unanswered.items))
    → (r ≡ false → (d ≡ c) × (z ≡ y) × (c.done ≡ false → c.closed ≡ true → 0 < c.standing)) → ((p || q) || r) ≡ false → Rests a d w z ds es
rests_all a b c d w x y z ds es p q r f g h e =
    let outer = or_parts (p || q) r e in
    let inner = or_parts p q outer.0 in
    let one = f inner.0 in
    let two = g inner.1 in
    let three = h outer.1 in
    let back : c ≡ a = two.0 ∙ one.client in
    record {
      client = three.0 ∙ back;
      acts = three.1 ∙ two.1 ∙ one.acts;
      same = one.same;
      held_up = λ undone deep. elim (one.held_up deep) [
        | inr some ↦ inl some
        | inl ended ↦ at a.closed refl undone ended
            (λ open'. subst (λ (c : Client). c.next ≡ length c.of.ops → c.closed ≡ false → 0 < length c.unanswered.items) one.client two.2 ended open')
            (λ closed. subst (λ (c : Client). c.done ≡ false → c.closed ≡ true → 0 < c.standing) back three.2 undone closed)
      ];
    }
  where
    at : (b : Bool) → a.closed ≡ b → a.done ≡ false → a.next ≡ length a.of.ops → (a.closed ≡ false → 0 < length a.unanswered.items) → (a.closed ≡ true → 0 < a.standing) → IsHeldUp a
    at true e undone ended p q = inr (e, q e)
    at false e undone ended p q = inl (p e)
