-- What a client's next op changes of its log, of its sends and of the devices.
use Rattle.std.proofs.Common.{ℕ, ◌≡◌, ◌+◌, ◌≤◌, Bool, true, false, ◌&&◌, List, [], ◌∷◌, ◌++◌, length, arith, refl, sym, ap, ap₂, ◌∙◌, cond, append_assoc}
use Rattle.std.specs.Prelude.{◌==◌, filter_map, Option, Some, None, option_map, is_some, is_none, slice_get}
use Rattle.std.specs.List.{list_any, range_with_len}
use Rattle.std.proofs.lemmas.Option.{same_Some, none-some}
use Rattle.std.proofs.lemmas.Bool.{eqb-true}
use Rattle.std.proofs.lemmas.List.{append-nil, map-append}
use Rattle.std.proofs.lemmas.List.Elements.{filter_map-append}
use Rattle.std.proofs.lemmas.List.FromFn.{length-range_with_len}
use Rattle.std.proofs.lemmas.List.Sums.{sum_by-append}
use Rattle.lw_base.specs.declared.message.Tag.{Tag}
use Rattle.lw_base.specs.declared.message.What.{What}
use Rattle.lw_base.specs.declared.message.What.TheVariants as what
use Rattle.lw_base.proofs.Lists.{none_is}
use Rattle.lw_model.specs.declared.script.Script.{Script}
use Rattle.lw_model.specs.declared.step.Step.TheVariants as step
use Rattle.lw_model.specs.declared.record.Answer.{Answer}
use Rattle.lw_model.specs.Threads.{is_on}
use Rattle.lw_model.specs.Holding.{says, always, is_deferred, is_putself, ordinal_given}
use Rattle.lw_model.specs.Devices.{is_refusal}
use Rattle.lw_model.proofs.Passing.{item_passes}
use Rattle.lw_target.specs.declared.acts.Outgoing.{Outgoing}
use Rattle.lw_target.specs.declared.channel.Channel.{Channel}
use Rattle.lw_target.specs.declared.client.Client.{Client}
use Rattle.lw_target.specs.declared.device.Device.{Device}
use Rattle.lw_target.specs.ClientLog.{Follows, steps_so_far, past_so_far, sent_so_far, sends_of_steps, was_refused}
use Rattle.lw_target.specs.ClientCalls.{WentOn, AllAgree, all_usable, ends_of, pending_of, requested, receivers, putselfs_to}
use Rattle.lw_target.specs.Actions.{action_on, device_of}
use Rattle.lw_target.specs.Effects.{channel_after, device_after, sends_after}
use Rattle.lw_target.specs.Messages.{Asked}
use Rattle.lw_target.proofs.LogGrowth.{steps_did, sends_push, any_push}
use Rattle.lw_target.proofs.Places.{got, map_kept}
use Rattle.lw_target.proofs.RanMessages.{came_from}
use Rattle.lw_target.proofs.Handling.{OpDone}
use Rattle.lw_target.proofs.Listing.{known, line_of, on_op, op_follows, requested_by, putselfs_by, sends_by, pending_after, ends_after, stands_after, given_after}

-- what the op sent
abbrev outs_of : (old new : Client) (before after : Asked) (devices devices' : List Device) → OpDone old new before after devices devices' → List Outgoing
outs_of old new before after devices devices' f = sends_after f.answer old.thread old.first_owner (device_of (action_on f.op)) old.next f.op

op_unanswered : (old new : Client) (before after : Asked) (devices devices' : List Device) → OpDone old new before after devices devices'
    → (sent : List ℕ) → old.unanswered.items ≡ sent ++ filter_map (λ o. requested o.what) before.sends → new.unanswered.items ≡ sent ++ filter_map (λ o. requested o.what) after.sends
op_unanswered old new before after devices devices' f sent e =
    let outs = outs_of old new before after devices devices' f in
    let q = λ (sends : List Outgoing). filter_map (λ (o : Outgoing). requested o.what) sends in
    f.handled.unanswered
    ∙ ap₂ (λ (a b : List ℕ). a ++ b) e (sym (requested_by f.answer old.thread old.first_owner (device_of (action_on f.op)) old.next f.op))
    ∙ append_assoc sent (q before.sends) (q outs)
    ∙ ap (λ l. sent ++ l) (sym (filter_map-append (λ (o : Outgoing). requested o.what) before.sends outs))
    ∙ ap (λ (a : Asked). sent ++ q a.sends) (sym f.handled.acts)

op_pending : (old new : Client) (before after : Asked) (devices devices' : List Device) → OpDone old new before after devices devices'
    → (e sent : ℕ) → pending_of old e ≡ sent + putselfs_to e before.sends → pending_of new e ≡ sent + putselfs_to e after.sends
op_pending old new before after devices devices' f e sent h =
    let d = device_of (action_on f.op) in
    let outs = outs_of old new before after devices devices' f in
    let pend = λ (o : Option Channel). let n : ℕ = elim o [ Some k ↦ k.pending | None ↦ 0 ] in n in
    let shown : pending_of new e ≡ pend (option_map (λ (y : Channel). cond (d == e) (channel_after f.answer y) y) (slice_get old.channels.items e)) =
    ap (λ l. pend (slice_get l e)) f.handled.channels ∙ ap pend (got (channel_after f.answer) old.channels.items d f.k f.kept e) in
    let count : putselfs_to e after.sends ≡ putselfs_to e before.sends + putselfs_to e outs =
    ap (λ (a : Asked). putselfs_to e a.sends) f.handled.acts ∙ sum_by-append (λ (o : Outgoing). cond (is_putself e o.what) 1 0) before.sends outs in
    let by = putselfs_by e f.answer old.thread old.first_owner d old.next f.op in
    let more = more_pending (d == e) (slice_get old.channels.items e) f.answer f.k (λ t. ap (slice_get old.channels.items) (sym (eqb-true d e t)) ∙ f.kept) in
    omega (arith, shown, more, count, by, h)
  where
    more_pending : (b : Bool) (o : Option Channel) (a : Answer) (k : Channel) → (b ≡ true → o ≡ Some k)
        → ◌≡◌ {A = ℕ} (elim (option_map (λ (y : Channel). cond b (channel_after a y) y) o) as (λ q. ℕ) [ Some k ↦ k.pending | None ↦ 0 ]) (elim o as (λ q. ℕ) [ Some k ↦ k.pending | None ↦ 0 ] + cond (b && is_deferred a) 1 0)
    more_pending b (Some j) a k here = pending_after b a j
    more_pending true None a k here = absurd (none-some k (here refl))
    more_pending false None a k here = omega arith

op_sends : (s : Script) (old new : Client) (ran : List Tag) (before after : Asked) (devices devices' : List Device) → OpDone old new before after devices devices'
    → (sent : List (ℕ × What)) → Follows s old ran → before.ran ≡ length ran → sent_so_far s old ran ≡ sent ++ receivers before.sends → sent_so_far s new ran ≡ sent ++ receivers after.sends
op_sends s old new ran before after devices devices' f sent h at e =
    let w = known s old new ran before after devices devices' f h in
    let p = f.handled in
    let d = device_of (action_on f.op) in
    let x = line_of old before f.answer in
    let i = length old.did in
    let steps = steps_so_far old ran in
    let outs = outs_of old new before after devices devices' f in
    let past = past_so_far old ran in
    let undone : cond old.done ((0, what.Done) ∷ []) [] ≡ [] = ap (λ (b : Bool). let q : List (ℕ × What) = cond b ((0, what.Done) ∷ []) [] in q) w.undone in
    let was : sends_of_steps s old.thread steps ≡ sent ++ receivers before.sends =
    sym (append-nil (sends_of_steps s old.thread steps)) ∙ ap (λ q. sends_of_steps s old.thread steps ++ q) (sym undone) ∙ e in
    ap₂ (λ (t : ℕ) (b : Bool). sends_of_steps s t (steps_so_far new ran) ++ cond b ((0, what.Done) ∷ []) []) p.thread (p.done ∙ w.undone)
    ∙ append-nil (sends_of_steps s old.thread (steps_so_far new ran))
    ∙ ap (sends_of_steps s old.thread) (steps_did old new ran x p.did at h.ats)
    ∙ sends_push s old.thread steps (step.Did i x)
    ∙ ap₂ (λ (a b : List (ℕ × What)). a ++ b) was (sends_by s old.thread i old.first_owner d past x f.op w.at w.facts.going h.of.owners)
    ∙ append_assoc sent (receivers before.sends) (receivers outs)
    ∙ ap (λ q. sent ++ q) (sym (map-append (λ (o : Outgoing). (o.to, o.what)) before.sends outs))
    ∙ ap (λ (a : Asked). sent ++ receivers a.sends) (sym p.acts)

op_usable : (s : Script) (old new : Client) (ran : List Tag) (before after : Asked) (devices devices' : List Device) → OpDone old new before after devices devices'
    → Follows s old ran → before.ran ≡ length ran → all_usable devices ≡ true → was_refused old ran ≡ false → was_refused new ran ≡ false
op_usable s old new ran before after devices devices' f h at all none =
    let w = known s old new ran before after devices devices' f h in
    let x = line_of old before f.answer in
    let open' = none_is f.v.shut_by (item_passes (λ (v : Device). is_none v.shut_by) devices (device_of (action_on f.op)) f.v all f.seen) in
    ap (list_any (says always is_refusal)) (steps_did old new ran x f.handled.did at h.ats)
    ∙ any_push (says always is_refusal) (steps_so_far old ran) (step.Did (length old.did) x) none (w.facts.usable open')

op_agree : (s : Script) (old new : Client) (ran : List Tag) (before after : Asked) (devices devices' : List Device) → OpDone old new before after devices devices'
    → Follows s old ran → before.ran ≡ length ran → AllAgree s old ran devices → AllAgree s new ran devices'
op_agree s old new ran before after devices devices' f h at all = λ e k' v' ek ev.
    let w = known s old new ran before after devices devices' f h in
    let d = device_of (action_on f.op) in
    let x = line_of old before f.answer in
    let i = length old.did in
    let kept = came_from (λ (y : Channel). cond (d == e) (channel_after f.answer y) y) (slice_get old.channels.items e) k'
    (sym (got (channel_after f.answer) old.channels.items d f.k f.kept e) ∙ ap (λ l. slice_get l e) (sym f.handled.channels) ∙ ek) in
    let seen = came_from (λ (y : Device). cond (d == e) (device_after f.answer y) y) (slice_get devices e) v'
    (sym (got (device_after f.answer) devices d f.v f.seen e) ∙ ap (λ l. slice_get l e) (sym f.counted) ∙ ev) in
    let agrees = all e kept.0 seen.0 kept.1 seen.1 in
    let on = is_on s old.thread e in
    let same_k : (d == e) ≡ true → f.k ≡ kept.0 = λ t. same_Some f.k kept.0 (sym f.kept ∙ ap (slice_get old.channels.items) (eqb-true d e t) ∙ kept.1) in
    let same_v : (d == e) ≡ true → f.v ≡ seen.0 = λ t. same_Some f.v seen.0 (sym f.seen ∙ ap (slice_get devices) (eqb-true d e t) ∙ seen.1) in
    let few : seen.0.given ≤ 100000 = omega (arith, h.gets e, ap length agrees.given, length-range_with_len 0 seen.0.given, old.within, old.short) in
    record {
      standing = ap (λ (v : Device). v.standing) (sym seen.2)
          ∙ stands_after (d == e) f.answer kept.0 seen.0 (λ t n g. ap (λ (k : Channel). k.ordinal) (sym (same_k t)) ∙ (w.facts.given n g).1) agrees.standing
          ∙ ap {B = ℕ} (λ (k : Channel). cond (is_some k.ordinal) 1 0) kept.2;
      given = ap (λ (t : ℕ). filter_map (ordinal_given (is_on s t e)) (steps_so_far new ran)) f.handled.thread
          ∙ ap (filter_map (ordinal_given on)) (steps_did old new ran x f.handled.did at h.ats)
          ∙ given_after on (d == e) (steps_so_far old ran) i x seen.0 (on_op s old.thread e d old.next w.at)
          (λ t n g. (w.facts.given n g).0 ∙ ap (λ (v : Device). v.given) (same_v t)) few agrees.given
          ∙ ap (λ (v : Device). range_with_len 0 v.given) seen.2;
    }

pub op_went_on : (old new : Client) (before after : Asked) (devices devices' : List Device) → OpDone old new before after devices devices' → WentOn old new before after devices devices'
op_went_on old new before after devices devices' f = record {
  replies = f.handled.replies;
  ran = ap (λ (a : Asked). a.ran) f.handled.acts;
  unanswered = op_unanswered old new before after devices devices' f;
  pending = op_pending old new before after devices devices' f;
  follows = λ s ran h at. op_follows s old new ran before after devices devices' f h at;
  sends = λ s ran sent h at e. op_sends s old new ran before after devices devices' f sent h at e;
  usable = λ s ran h at all none. op_usable s old new ran before after devices devices' f h at all none;
  agree = λ s ran h at all. op_agree s old new ran before after devices devices' f h at all;
  ends = ap ends_of f.counted
      ∙ map_kept (λ (v : Device). (v.shut_by, v.callbacks)) devices (device_of (action_on f.op)) f.v (device_after f.answer f.v) f.seen (ends_after f.answer f.v);
}
