-- An op that was done, and the close: what is left to do after them.
use Rattle.std.proofs.Common.{ℕ, ◌≡◌, ◌+◌, ◌≤◌, ◌<◌, Bool, true, false, List, [], ◌++◌, length, cond, nat_lt, arith, refl, sym, ap, ◌∙◌, subst, get_or}
use Rattle.std.specs.Prelude.{vec_len, IfSome, slice_get, Option, Some, None, slice_set, ◌==◌, if◌then◌else◌}
use Rattle.std.specs.List.{list_any}
use Rattle.std.proofs.lemmas.Option.{slice_get_read, slice_get-get_or}
use Rattle.std.proofs.Math.ListN.{length-set}
use Rattle.std.proofs.lemmas.List.{length-map}
use Rattle.std.proofs.lemmas.List.Elements.{All-append, All-cons, All-nil, All-same}
use Rattle.std.proofs.lemmas.List.Sums.{sum_by-append}
use Rattle.lw_model.specs.declared.script.Op.{Op}
use Rattle.lw_model.specs.declared.record.Answer.{Answer}
use Rattle.lw_model.specs.declared.record.Answer.TheVariants as answer
use Rattle.lw_target.specs.declared.action.Action.{Action}
use Rattle.lw_target.specs.declared.action.Action.TheVariants as action
use Rattle.lw_target.specs.declared.acts.Outgoing.{Outgoing}
use Rattle.lw_target.specs.declared.channel.Channel.{Channel}
use Rattle.lw_target.specs.declared.client.Client.{Client}
use Rattle.lw_target.specs.declared.device.Device.{Device}
use Rattle.lw_target.specs.Actions.{action_on, device_of, is_ask, names_image}
use Rattle.lw_target.specs.Answers.{answer_to}
use Rattle.lw_target.specs.Client.{Handled, Closing, Progress}
use Rattle.lw_target.specs.Effects.{device_after, sends_after, puts_of}
use Rattle.lw_target.specs.Messages.{Asked, asked_work, weight}
use Rattle.lw_target.specs.Ops.{AllOfOps, IsOfOps, asks_bytes}
use Rattle.lw_target.proofs.Holdings.{puts_work, puts_of_ops}
use Rattle.lw_target.proofs.Steps.{work_is}

-- a client did its next op
pub record OpDone (old new : Client) (before after : Asked) (devices devices' : List Device) : Type 0 where
  pub op : Op
  pub k : Channel
  pub v : Device
  pub answer : Answer
  pub more : old.next < length old.of.ops
  pub found : slice_get old.of.ops old.next ≡ Some op
  pub asks : asks_bytes op ≡ is_ask (action_on op)
  pub within : device_of (action_on op) < vec_len old.channels
  pub kept : slice_get old.channels.items (device_of (action_on op)) ≡ Some k
  pub seen : slice_get devices (device_of (action_on op)) ≡ Some v
  pub answered : answer_to old.of.ops old.unanswered.items old.of.depth (action_on op) v k ≡ Some answer
  pub handled : Handled old new before after (device_of (action_on op)) k op answer
  pub counted : devices' ≡ slice_set devices (device_of (action_on op)) (device_after answer v)

-- a request is sent for an op that asks for one alone
is_asked : (ops : List Op) (waiting : List ℕ) (depth : ℕ) (a : Action) (v : Device) (k : Channel) → answer_to ops waiting depth a v k ≡ Some answer.Sent → is_ask a ≡ true
is_asked ops waiting depth (action.Get d) v k e = absurd (got v.shut_by k.ordinal e)
  where
    got : (shut found : Option ℕ) → ◌≡◌ {A = Option Answer} (Some (elim shut [ Some t ↦ answer.Shut | None ↦ elim found [ Some n ↦ answer.Again n | None ↦ answer.Given v.given ] ])) (Some answer.Sent) → ⊥
    got (Some t) found e = cc
    got None (Some n) e = cc
    got None None e = cc
is_asked ops waiting depth (action.Put d) v k e = absurd (put (k.references == 0) (list_any (names_image ops d) waiting) (nat_lt 1 k.references) e)
  where
    put : (none waits many : Bool) → (if none then Some answer.NoChannel else (if waits then None else (if many then Some answer.Counted else Some answer.Deferred))) ≡ Some answer.Sent → ⊥
    put true waits many e = cc
    put false true many e = cc
    put false false true e = cc
    put false false false e = cc
is_asked ops waiting depth (action.Ask d) v k e = refl

sends_of_ops : (ops : List Op) (a : Answer) (thread first_owner d n : ℕ) (o : Op) → slice_get ops n ≡ Some o
    → (a ≡ answer.Sent → asks_bytes o ≡ true) → AllOfOps ops (sends_after a thread first_owner d n o)
sends_of_ops ops answer.Sent thread first_owner d n o found asks = All-cons (IsOfOps ops) _ [] (o, found, asks refl, refl) (All-nil (IsOfOps ops))
sends_of_ops ops answer.Deferred thread first_owner d n o found asks = All-cons (IsOfOps ops) _ [] tt (All-nil (IsOfOps ops))
sends_of_ops ops (answer.Given g) thread first_owner d n o found asks = All-nil (IsOfOps ops)
sends_of_ops ops (answer.Again g) thread first_owner d n o found asks = All-nil (IsOfOps ops)
sends_of_ops ops (answer.Began g) thread first_owner d n o found asks = All-nil (IsOfOps ops)
sends_of_ops ops _ thread first_owner d n o found asks = All-nil (IsOfOps ops)

sends_work : (a : Answer) (thread first_owner d n : ℕ) (o : Op) → asked_work (sends_after a thread first_owner d n o) ≤ 2
sends_work answer.Sent thread first_owner d n o = omega arith
sends_work answer.Deferred thread first_owner d n o = omega arith
sends_work _ thread first_owner d n o = omega arith

pub op_progress : (old new : Client) (before after : Asked) (devices devices' : List Device) → OpDone old new before after devices devices' → Progress old new before after 1
op_progress old new before after devices devices' f =
    let h = f.handled in
    let channels : vec_len new.channels ≡ vec_len old.channels =
    omega (arith, old.channels.ok.0, new.channels.ok.0, simp length-set at (ap length h.channels)) in
    let outs = sends_after f.answer old.thread old.first_owner (device_of (action_on f.op)) old.next f.op in
    let sends : after.sends ≡ before.sends ++ outs = ap (λ (a : Asked). a.sends) h.acts in
    let asks : f.answer ≡ answer.Sent → asks_bytes f.op ≡ true =
    λ e. f.asks ∙ is_asked old.of.ops old.unanswered.items old.of.depth (action_on f.op) f.v f.k (f.answered ∙ ap (λ a. Some a) e) in
    let work = work_is old new (old.next + 1) old.closed old.done h.of h.next h.closed h.done channels in
    record {
      of = h.of;
      channels = channels;
      ran = ap (λ (a : Asked). a.ran) h.acts;
      sends = λ all. All-same (IsOfOps old.of.ops) after.sends (before.sends ++ outs) sends
          (All-append (IsOfOps old.of.ops) before.sends outs all
          (sends_of_ops old.of.ops f.answer old.thread old.first_owner (device_of (action_on f.op)) old.next f.op f.found asks));
      work = omega (
        arith,
        f.more,
        work,
        ap asked_work sends,
        sum_by-append (λ (s : Outgoing). weight s.what) before.sends outs,
        sends_work f.answer old.thread old.first_owner (device_of (action_on f.op)) old.next f.op,
      );
    }

pub close_progress : (old new : Client) (before after : Asked) → old.closed ≡ false → Closing old new before after → Progress old new before after 1
close_progress old new before after was h =
    let channels : vec_len new.channels ≡ vec_len old.channels =
    omega (arith, old.channels.ok.0, new.channels.ok.0, simp length-map at (ap length h.channels)) in
    let outs = puts_of old.thread 0 old.channels.items in
    let sends : after.sends ≡ before.sends ++ outs = ap (λ (a : Asked). a.sends) h.acts in
    let work = work_is old new old.next true old.done h.of h.next h.closed h.done channels in
    let had : ◌≡◌ {A = ℕ} (cond old.closed 0 (1 + vec_len old.channels)) (1 + vec_len old.channels) = ap (λ b. cond b 0 (1 + vec_len old.channels)) was in
    record {
      of = h.of;
      channels = channels;
      ran = ap (λ (a : Asked). a.ran) h.acts;
      sends = λ all. All-same (IsOfOps old.of.ops) after.sends (before.sends ++ outs) sends
          (All-append (IsOfOps old.of.ops) before.sends outs all (puts_of_ops old.of.ops old.thread 0 old.channels.items));
      work = omega (arith, work, had, ap asked_work sends, sum_by-append (λ (s : Outgoing). weight s.what) before.sends outs, puts_work old.thread 0 old.channels.items);
    }

-- what the calls that do the next op say of it
pub record Calls (old new : Client) (before after : Asked) (devices devices' : List Device) (o : Op) (act : Action) (a : Answer) (image : ℕ) (v0 : Device) : Type 0 where
  pub more : (old.next ≡ length old.of.ops) → ⊥
  pub op : o ≡ get_or old.of.ops old.next o
  pub does : act ≡ action_on o
  pub asks : asks_bytes o ≡ is_ask act
  pub within : device_of act < vec_len old.channels
  pub at : image ≡ device_of act
  pub length : length devices ≡ vec_len old.channels
  pub answered : IfSome (slice_get devices (device_of act)) (λ v. IfSome (slice_get old.channels.items (device_of act)) (λ k. Some a ≡ answer_to old.of.ops old.unanswered.items old.of.depth act v k))
  pub handled : IfSome (slice_get old.of.ops old.next) (λ o. IfSome (slice_get old.channels.items image) (λ k. Handled old new before after image k o a))
  pub counted : devices' ≡ slice_set devices image (device_after a (get_or devices image v0))

pub calls_did : (old new : Client) (before after : Asked) (devices devices' : List Device) (o : Op) (act : Action) (a : Answer) (image : ℕ) (v0 : Device)
    → Calls old new before after devices devices' o act a image v0 → OpDone old new before after devices devices'
calls_did old new before after devices devices' o act a image v0 c =
    let more : old.next < length old.of.ops = omega (arith, old.within, c.more) in
    let found : slice_get old.of.ops old.next ≡ Some o = slice_get_read old.of.ops (length old.of.ops) old.next o refl more c.op in
    let d = device_of (action_on o) in
    let at : image ≡ d = c.at ∙ ap device_of c.does in
    let inside : d < length old.channels.items = omega (arith, old.channels.ok.0, c.within, ap device_of c.does) in
    let k0 : Channel = record { ordinal = None; references = 0; pending = 0 } in
    let kept : slice_get old.channels.items d ≡ Some (get_or old.channels.items d k0) = slice_get-get_or old.channels.items d k0 inside in
    let seen : slice_get devices d ≡ Some (get_or devices d v0) = slice_get-get_or devices d v0 (omega (arith, c.length, old.channels.ok.0, inside)) in
    record {
      op = o;
      k = get_or old.channels.items d k0;
      v = get_or devices d v0;
      answer = a;
      more = more;
      found = found;
      asks = c.asks ∙ ap is_ask c.does;
      within = subst (λ (x : Action). device_of x < vec_len old.channels) c.does c.within;
      kept = kept;
      seen = seen;
      answered = sym (subst (λ (r : Option Channel). IfSome r (λ k. Some a ≡ answer_to old.of.ops old.unanswered.items old.of.depth (action_on o) (get_or devices d v0) k)) kept
          (subst (λ (r : Option Device). IfSome r (λ v. IfSome (slice_get old.channels.items d) (λ k. Some a ≡ answer_to old.of.ops old.unanswered.items old.of.depth (action_on o) v k))) seen
          (subst (λ (x : Action). IfSome (slice_get devices (device_of x)) (λ v. IfSome (slice_get old.channels.items (device_of x)) (λ k. Some a ≡ answer_to old.of.ops old.unanswered.items old.of.depth x v k))) c.does c.answered)));
      handled = subst (λ (r : Option Channel). IfSome r (λ k. Handled old new before after d k o a)) kept
          (subst (λ (r : Option Op). IfSome r (λ p. IfSome (slice_get old.channels.items d) (λ k. Handled old new before after d k p a))) found
          (subst (λ (x : ℕ). IfSome (slice_get old.of.ops old.next) (λ p. IfSome (slice_get old.channels.items x) (λ k. Handled old new before after x k p a))) at c.handled));
      counted = c.counted ∙ ap (λ (x : ℕ). slice_set devices x (device_after a (get_or devices x v0))) at;
    }
