-- What a client's close and its message to the app change of its log, of its sends and of the devices.
use Rattle.std.proofs.Common.{ℕ, zero, suc, ◌≡◌, ◌+◌, ◌≤◌, ◌<◌, Bool, true, false, ◌&&◌, List, [], ◌∷◌, ◌++◌, map, reverse, length, arith, refl, sym, ap, ap₂, ◌∙◌, subst, cond, append_assoc, nat_lt, zero-add}
use Rattle.std.specs.Prelude.{◌==◌, filter, filter_map, count_by, Option, Some, None, option_map, is_some, slice_get}
use Rattle.std.specs.List.{cons_option, list_any, range_with_len}
use Rattle.std.proofs.lemmas.Option.{slice_get-map, slice_get_past}
use Rattle.std.proofs.lemmas.Bool.{eq-eqb, ne_eqb, le-leb}
use Rattle.std.proofs.lemmas.List.{append-nil, length-append, length-map, map-append, length-reverse}
use Rattle.std.proofs.lemmas.List.Elements.{filter_map-append}
use Rattle.std.proofs.lemmas.List.Sums.{sum_by-append, sum_by-cons}
use Rattle.lw_base.specs.declared.message.Tag.{Tag}
use Rattle.lw_base.specs.declared.message.What.{What}
use Rattle.lw_base.specs.declared.message.What.TheVariants as what
use Rattle.lw_base.proofs.Bools.{and_true, and_false}
use Rattle.lw_model.specs.declared.script.Script.{Script}
use Rattle.lw_model.specs.declared.script.Op.{Op}
use Rattle.lw_model.specs.declared.step.Step.{Step}
use Rattle.lw_model.specs.declared.step.Step.TheVariants as step
use Rattle.lw_model.specs.declared.record.Did.{Did}
use Rattle.lw_model.specs.declared.record.Answer.TheVariants as answer
use Rattle.lw_model.specs.Threads.{is_on, op_at, ops_of}
use Rattle.lw_model.specs.Holding.{says, always, is_closed, is_putself, references, ordinal_given}
use Rattle.lw_model.specs.Answers.{unanswered, answer_fits}
use Rattle.lw_model.specs.Devices.{is_refusal}
use Rattle.lw_target.specs.declared.acts.Outgoing.{Outgoing}
use Rattle.lw_target.specs.declared.channel.Channel.{Channel}
use Rattle.lw_target.specs.declared.client.Client.{Client}
use Rattle.lw_target.specs.declared.device.Device.{Device}
use Rattle.lw_target.specs.ClientLog.{Follows, KeepsDevice, steps_so_far, past_so_far, sent_so_far, sends_of_steps, line_fits, lines_fit, ats_ascend}
use Rattle.lw_target.specs.ClientCalls.{WentOn, AllAgree, pending_of, requested, receivers, putselfs_to}
use Rattle.lw_target.specs.Client.{Closing}
use Rattle.lw_target.specs.Effects.{gave_back, puts_of, putself_of}
use Rattle.lw_target.specs.Messages.{Asked}
use Rattle.lw_target.proofs.LogGrowth.{steps_did, past_push, fit_push, sends_push, any_push, ats_push}
use Rattle.lw_target.proofs.Kept.{keeps_closed}
use Rattle.lw_target.proofs.RanMessages.{same_script, came_from}
use Rattle.lw_target.proofs.Listing.{five, no_longer}

-- ---- what a close sends

puts_requested : (thread d : ℕ) (ks : List Channel) → filter_map (λ (m : Outgoing). requested m.what) (puts_of thread d ks) ≡ []
puts_requested thread d [] = refl
puts_requested thread d (k ∷ ks) = at (nat_lt 0 k.references) (puts_requested thread (d + 1) ks)
  where
    at : (b : Bool) → filter_map (λ (m : Outgoing). requested m.what) (puts_of thread (d + 1) ks) ≡ []
        → filter_map (λ (m : Outgoing). requested m.what) (cond b (putself_of thread d ∷ puts_of thread (d + 1) ks) (puts_of thread (d + 1) ks)) ≡ []
    at true e = e
    at false e = e

count_first : (e d thread : ℕ) (b : Bool) (rest : List Outgoing) → putselfs_to e (cond b (putself_of thread d ∷ rest) rest) ≡ cond (b && d == e) 1 0 + putselfs_to e rest
count_first e d thread true rest = sum_by-cons (λ (o : Outgoing). cond (is_putself e o.what) 1 0) (putself_of thread d) rest
count_first e d thread false rest = sym (zero-add (putselfs_to e rest))

count_below : (thread d e : ℕ) (ks : List Channel) → e < d → putselfs_to e (puts_of thread d ks) ≡ 0
count_below thread d e [] h = refl
count_below thread d e (k ∷ ks) h =
    count_first e d thread (nat_lt 0 k.references) (puts_of thread (d + 1) ks)
    ∙ ap (λ (b : Bool). cond (nat_lt 0 k.references && b) 1 0 + putselfs_to e (puts_of thread (d + 1) ks)) (ne_eqb d e (λ w. absurd (omega (arith, w, h))))
    ∙ ap (λ (b : Bool). cond b 1 0 + putselfs_to e (puts_of thread (d + 1) ks)) (and_false (nat_lt 0 k.references))
    ∙ omega (arith, count_below thread (d + 1) e ks (omega (arith, h)))

abbrev gives : Option Channel → ℕ
gives None = 0
gives (Some k) = cond (nat_lt 0 k.references) 1 0

count_puts : (thread d j : ℕ) (ks : List Channel) → putselfs_to (d + j) (puts_of thread d ks) ≡ gives (slice_get ks j)
count_puts thread d j [] = refl
count_puts thread d zero (k ∷ ks) =
    count_first (d + 0) d thread (nat_lt 0 k.references) (puts_of thread (d + 1) ks)
    ∙ ap (λ (b : Bool). cond (nat_lt 0 k.references && b) 1 0 + putselfs_to (d + 0) (puts_of thread (d + 1) ks)) (eq-eqb d (d + 0) (omega arith))
    ∙ ap (λ (b : Bool). cond b 1 0 + putselfs_to (d + 0) (puts_of thread (d + 1) ks)) (and_true (nat_lt 0 k.references))
    ∙ omega (arith, count_below thread (d + 1) (d + 0) ks (omega arith))
count_puts thread d (suc j) (k ∷ ks) =
    count_first (d + suc j) d thread (nat_lt 0 k.references) (puts_of thread (d + 1) ks)
    ∙ ap (λ (b : Bool). cond (nat_lt 0 k.references && b) 1 0 + putselfs_to (d + suc j) (puts_of thread (d + 1) ks)) (ne_eqb d (d + suc j) (λ w. absurd (omega (arith, w))))
    ∙ ap (λ (b : Bool). cond b 1 0 + putselfs_to (d + suc j) (puts_of thread (d + 1) ks)) (and_false (nat_lt 0 k.references))
    ∙ zero-add (putselfs_to (d + suc j) (puts_of thread (d + 1) ks))
    ∙ ap (λ (e : ℕ). putselfs_to e (puts_of thread (d + 1) ks)) (omega arith)
    ∙ count_puts thread (d + 1) j ks

puts_sends : (refs : ℕ → ℕ) (t d : ℕ) (ks : List Channel) → ((j : ℕ) (k : Channel) → slice_get ks j ≡ Some k → refs (d + j) ≡ k.references)
    → map (λ (e : ℕ). (t, what.PutSelf e)) (filter (λ e. nat_lt 0 (refs e)) (range_with_len d (length ks))) ≡ receivers (puts_of t d ks)
puts_sends refs t d [] h = refl
puts_sends refs t d (k ∷ ks) h =
    ap (λ (n : ℕ). map (λ (e : ℕ). (t, what.PutSelf e)) (cond (nat_lt 0 n) (d ∷ filter (λ e. nat_lt 0 (refs e)) (range_with_len (d + 1) (length ks))) (filter (λ e. nat_lt 0 (refs e)) (range_with_len (d + 1) (length ks)))))
    (ap refs (omega arith) ∙ h 0 k refl)
    ∙ at (nat_lt 0 k.references) (puts_sends refs t (d + 1) ks (λ j k' e. ap refs (omega arith) ∙ h (suc j) k' e))
  where
    at : (b : Bool) → map (λ (e : ℕ). (t, what.PutSelf e)) (filter (λ e. nat_lt 0 (refs e)) (range_with_len (d + 1) (length ks))) ≡ receivers (puts_of t (d + 1) ks)
        → map (λ (e : ℕ). (t, what.PutSelf e)) (cond b (d ∷ filter (λ e. nat_lt 0 (refs e)) (range_with_len (d + 1) (length ks))) (filter (λ e. nat_lt 0 (refs e)) (range_with_len (d + 1) (length ks))))
        ≡ receivers (cond b (putself_of t d ∷ puts_of t (d + 1) ks) (puts_of t (d + 1) ks))
    at true e = ap (λ q. (t, what.PutSelf d) ∷ q) e
    at false e = e

-- ---- what a close keeps

given_closed : (on : ℕ → Bool) (steps : List Step) (i : ℕ) (x : Did) → ordinal_given on (step.Did i x) ≡ None → filter_map (ordinal_given on) (steps ++ step.Did i x ∷ []) ≡ filter_map (ordinal_given on) steps
given_closed on steps i x none =
    filter_map-append (ordinal_given on) steps (step.Did i x ∷ [])
    ∙ ap (λ (o : Option ℕ). filter_map (ordinal_given on) steps ++ cons_option o []) none ∙ append-nil (filter_map (ordinal_given on) steps)

same_standing : (ks : List Channel) → count_by (λ (k : Channel). is_some k.ordinal) (map gave_back ks) ≡ count_by (λ (k : Channel). is_some k.ordinal) ks
same_standing [] = refl
same_standing (k ∷ ks) =
    sum_by-cons (λ (k : Channel). cond (is_some k.ordinal) 1 0) (gave_back k) (map gave_back ks)
    ∙ ap (λ n. cond (is_some k.ordinal) 1 0 + n) (same_standing ks) ∙ sym (sum_by-cons (λ (k : Channel). cond (is_some k.ordinal) 1 0) k ks)

none_left : (p : ℕ → Bool) (us : List ℕ) → length us ≡ 0 → length (filter p us) ≡ 0
none_left p [] e = refl
none_left p (u ∷ us) e = absurd (omega (arith, e))

-- the client closed where its ops are done and no request is unanswered
pub record Closes (old new : Client) (before after : Asked) : Type 0 where
  pub going : old.closed ≡ false
  pub ended : old.next ≡ length old.of.ops
  pub answered : length old.unanswered.items ≡ 0
  pub closing : Closing old new before after

abbrev line_of : Client → Asked → Did
line_of old before = record { at = before.ran; op = old.next; answer = answer.Closed }

close_follows : (s : Script) (old new : Client) (ran : List Tag) (before after : Asked) → Closes old new before after → Follows s old ran → before.ran ≡ length ran → Follows s new ran
close_follows s old new ran before after f h at =
    let p = f.closing in
    let x = line_of old before in
    let i = length old.did in
    let number : i ≡ old.next = h.listed ∙ ap (λ (b : Bool). old.next + cond b 1 0) f.going ∙ omega arith in
    let past = past_so_far old ran in
    let steps = steps_so_far old ran in
    let grown = steps_did old new ran x p.did at h.ats in
    let now : past_so_far new ran ≡ step.Did i x ∷ past = ap reverse grown ∙ past_push steps (step.Did i x) in
    let none : length (unanswered past) ≡ 0 = sym (length-reverse (unanswered past)) ∙ sym (ap length h.unanswered) ∙ f.answered in
    let undone = no_longer old.closed old.done f.going (λ e. (h.done e).0) in
    let behind : op_at s old.thread i ≡ None =
    ap (λ (q : List Op). slice_get q i) h.of.ops ∙ slice_get_past old.of.ops i (omega (arith, number, f.ended)) in
    let fits : line_fits s old.thread past (step.Did i x) ≡ true = five (eq-eqb old.next i (sym number))
    (le-leb i (length (ops_of s old.thread)) (omega (arith, number, f.ended, ap length h.of.ops)))
    (ap (λ (o : Option Op). answer_fits s old.thread past o answer.Closed) behind ∙ eq-eqb (length (unanswered past)) 0 none) refl refl in
    record {
      of = same_script s old new p.thread p.first_owner p.of (omega (arith, old.channels.ok.0, new.channels.ok.0, simp length-map at (ap length p.channels))) h.of;
      listed = ap length p.did ∙ length-append old.did (x ∷ []) ∙ omega (arith, number, p.next, ap {B = ℕ} (λ (b : Bool). cond b 1 0) p.closed);
      closed = λ e. p.next ∙ f.ended ∙ ap (λ o. length o.ops) (sym p.of);
      says_closed = ap (list_any (says always is_closed)) now ∙ sym p.closed;
      devices = λ e k' ek.
          let from = came_from gave_back (slice_get old.channels.items e) k' (sym (slice_get-map gave_back old.channels.items e) ∙ ap (λ l. slice_get l e) (sym p.channels) ∙ ek) in
          subst (λ (q : List Step). KeepsDevice s new.thread q e k') (sym now)
          (subst (λ (t : ℕ). KeepsDevice s t (step.Did i x ∷ past) e k') (sym p.thread)
          (subst (λ (k : Channel). KeepsDevice s old.thread (step.Did i x ∷ past) e k) from.2
          (keeps_closed s old.thread i e before.ran old.next past from.0 (none_left (is_on s old.thread e) (unanswered past) none) (h.devices e from.0 from.1))));
      standing = p.standing ∙ h.standing ∙ sym (same_standing old.channels.items) ∙ ap (count_by (λ (k : Channel). is_some k.ordinal)) (sym p.channels);
      unanswered = p.unanswered ∙ h.unanswered ∙ ap (λ (q : List Step). reverse (unanswered q)) (sym now);
      lines = subst (λ (t : ℕ). lines_fit s t (steps_so_far new ran) ≡ true) (sym p.thread)
          (ap (lines_fit s old.thread) grown ∙ fit_push s old.thread steps (step.Did i x) h.lines fits);
      ats = ap (ats_ascend (length ran)) p.did ∙ ats_push (length ran) old.did x at h.ats;
      done = λ e. let wrong : false ≡ true = sym undone ∙ sym p.done ∙ e in cc;
      gets = λ e. subst (λ (t : ℕ). length (filter_map (ordinal_given (is_on s t e)) (steps_so_far new ran)) ≤ new.next) (sym p.thread)
          (omega (arith, p.next, h.gets e, ap length (ap (filter_map (ordinal_given (is_on s old.thread e))) grown ∙ given_closed (is_on s old.thread e) steps i x refl)));
    }

close_sends : (s : Script) (old new : Client) (ran : List Tag) (before after : Asked) → Closes old new before after → (sent : List (ℕ × What)) → Follows s old ran
    → before.ran ≡ length ran → sent_so_far s old ran ≡ sent ++ receivers before.sends → sent_so_far s new ran ≡ sent ++ receivers after.sends
close_sends s old new ran before after f sent h at e =
    let p = f.closing in
    let x = line_of old before in
    let i = length old.did in
    let steps = steps_so_far old ran in
    let past = past_so_far old ran in
    let outs = puts_of old.thread 0 old.channels.items in
    let undone = no_longer old.closed old.done f.going (λ e. (h.done e).0) in
    let nothing : cond old.done ((0, what.Done) ∷ []) [] ≡ [] = ap (λ (b : Bool). let q : List (ℕ × What) = cond b ((0, what.Done) ∷ []) [] in q) undone in
    let was : sends_of_steps s old.thread steps ≡ sent ++ receivers before.sends =
    sym (append-nil (sends_of_steps s old.thread steps)) ∙ ap (λ q. sends_of_steps s old.thread steps ++ q) (sym nothing) ∙ e in
    let refs = λ (e : ℕ). references (is_on s old.thread e) past in
    let count : length s.images ≡ length old.channels.items = omega (arith, h.of.devices, old.channels.ok.0) in
    let sends = ap (λ (n : ℕ). map (λ (e : ℕ). (old.thread, what.PutSelf e)) (filter (λ e. nat_lt 0 (references (is_on s old.thread e) past)) (range_with_len 0 n))) count
    ∙ puts_sends refs old.thread 0 old.channels.items (λ j k ek. ap refs (zero-add j) ∙ (h.devices j k ek).references) in
    ap₂ (λ (t : ℕ) (b : Bool). sends_of_steps s t (steps_so_far new ran) ++ cond b ((0, what.Done) ∷ []) []) p.thread (p.done ∙ undone)
    ∙ append-nil (sends_of_steps s old.thread (steps_so_far new ran))
    ∙ ap (sends_of_steps s old.thread) (steps_did old new ran x p.did at h.ats)
    ∙ sends_push s old.thread steps (step.Did i x)
    ∙ ap₂ (λ (a b : List (ℕ × What)). a ++ b) was sends
    ∙ append_assoc sent (receivers before.sends) (receivers outs)
    ∙ ap (λ q. sent ++ q) (sym (map-append (λ (o : Outgoing). (o.to, o.what)) before.sends outs))
    ∙ ap (λ (a : Asked). sent ++ receivers a.sends) (sym p.acts)

close_pending : (old new : Client) (before after : Asked) → Closes old new before after
    → (e sent : ℕ) → pending_of old e ≡ sent + putselfs_to e before.sends → pending_of new e ≡ sent + putselfs_to e after.sends
close_pending old new before after f e sent h =
    let p = f.closing in
    let outs = puts_of old.thread 0 old.channels.items in
    let pend = λ (o : Option Channel). let n : ℕ = elim o [ Some k ↦ k.pending | None ↦ 0 ] in n in
    let shown : pending_of new e ≡ pend (option_map gave_back (slice_get old.channels.items e)) =
    ap (λ l. pend (slice_get l e)) p.channels ∙ ap pend (slice_get-map gave_back old.channels.items e) in
    let count : putselfs_to e after.sends ≡ putselfs_to e before.sends + putselfs_to e outs =
    ap (λ (a : Asked). putselfs_to e a.sends) p.acts ∙ sum_by-append (λ (o : Outgoing). cond (is_putself e o.what) 1 0) before.sends outs in
    let by : putselfs_to e outs ≡ gives (slice_get old.channels.items e) =
    ap (λ (n : ℕ). putselfs_to n outs) (sym (zero-add e)) ∙ count_puts old.thread 0 e old.channels.items in
    omega (arith, shown, count, by, h, more (slice_get old.channels.items e))
  where
    more : (o : Option Channel) → ◌≡◌ {A = ℕ} (elim (option_map gave_back o) as (λ q. ℕ) [ Some k ↦ k.pending | None ↦ 0 ]) (elim o as (λ q. ℕ) [ Some k ↦ k.pending | None ↦ 0 ] + gives o)
    more None = refl
    more (Some k) = refl

close_agree : (s : Script) (old new : Client) (ran : List Tag) (before after : Asked) (devices : List Device) → Closes old new before after → Follows s old ran
    → before.ran ≡ length ran → AllAgree s old ran devices → AllAgree s new ran devices
close_agree s old new ran before after devices f h at all = λ e k' v ek ev.
    let p = f.closing in
    let x = line_of old before in
    let i = length old.did in
    let from = came_from gave_back (slice_get old.channels.items e) k' (sym (slice_get-map gave_back old.channels.items e) ∙ ap (λ l. slice_get l e) (sym p.channels) ∙ ek) in
    let agrees = all e from.0 v from.1 ev in
    record {
      standing = agrees.standing ∙ ap {B = ℕ} (λ (k : Channel). cond (is_some k.ordinal) 1 0) from.2;
      given = ap (λ (t : ℕ). filter_map (ordinal_given (is_on s t e)) (steps_so_far new ran)) p.thread
          ∙ ap (filter_map (ordinal_given (is_on s old.thread e))) (steps_did old new ran x p.did at h.ats)
          ∙ given_closed (is_on s old.thread e) (steps_so_far old ran) i x refl ∙ agrees.given;
    }

close_unanswered : (old new : Client) (before after : Asked) → Closes old new before after
    → (sent : List ℕ) → old.unanswered.items ≡ sent ++ filter_map (λ o. requested o.what) before.sends → new.unanswered.items ≡ sent ++ filter_map (λ o. requested o.what) after.sends
close_unanswered old new before after f sent e =
    let p = f.closing in
    let outs = puts_of old.thread 0 old.channels.items in
    let q = λ (sends : List Outgoing). filter_map (λ (o : Outgoing). requested o.what) sends in
    p.unanswered ∙ e
    ∙ ap (λ l. sent ++ l) (sym (append-nil (q before.sends)) ∙ ap (λ l. q before.sends ++ l) (sym (puts_requested old.thread 0 old.channels.items))
    ∙ sym (filter_map-append (λ (o : Outgoing). requested o.what) before.sends outs))
    ∙ ap (λ (a : Asked). sent ++ q a.sends) (sym p.acts)

pub close_went_on : (old new : Client) (before after : Asked) (devices : List Device) → Closes old new before after → WentOn old new before after devices devices
close_went_on old new before after devices f = record {
  replies = f.closing.replies;
  ran = ap (λ (a : Asked). a.ran) f.closing.acts;
  unanswered = close_unanswered old new before after f;
  pending = close_pending old new before after f;
  follows = λ s ran h at. close_follows s old new ran before after f h at;
  sends = λ s ran sent h at e. close_sends s old new ran before after f sent h at e;
  usable = λ s ran h at all none.
      ap (list_any (says always is_refusal)) (steps_did old new ran (line_of old before) f.closing.did at h.ats)
      ∙ any_push (says always is_refusal) (steps_so_far old ran) (step.Did (length old.did) (line_of old before)) none refl;
  agree = λ s ran h at all. close_agree s old new ran before after devices f h at all;
  ends = refl;
}
