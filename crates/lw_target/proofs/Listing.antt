-- A client's log and state agree behind an op that it did.
use Rattle.std.proofs.Common.{ℕ, ◌≡◌, ◌+◌, ◌≤◌, ◌<◌, Bool, true, false, ◌&&◌, List, [], ◌∷◌, ◌++◌, reverse, length, arith, refl, sym, ap, ap₂, ◌∙◌, subst, cond, zero-add}
use Rattle.std.specs.Prelude.{not, ◌||◌, ◌==◌, filter, filter_map, count_by, Option, Some, None, option_map, option_to_list, is_some, slice_get, vec_len}
use Rattle.std.specs.List.{list_any, range_with_len, cons_option}
use Rattle.std.proofs.lemmas.Option.{same_Some}
use Rattle.std.proofs.lemmas.Bool.{eqb-true, eq-eqb, le-leb}
use Rattle.std.proofs.Math.ListN.{length-set}
use Rattle.std.proofs.lemmas.List.{append-nil, length-append}
use Rattle.std.proofs.lemmas.List.Folds.{list_any-append}
use Rattle.std.proofs.lemmas.List.Elements.{filter_map-append, filter_agree}
use Rattle.std.proofs.lemmas.List.Sums.{count_by-le-length}
use Rattle.lw_base.specs.declared.message.Tag.{Tag}
use Rattle.lw_base.specs.declared.message.What.TheVariants as what
use Rattle.lw_base.proofs.Bools.{and_true, and_false}
use Rattle.lw_base.proofs.Lists.{range_push, reverse_cons}
use Rattle.lw_model.specs.declared.script.Script.{Script}
use Rattle.lw_model.specs.declared.script.Op.{Op}
use Rattle.lw_model.specs.declared.step.Step.{Step}
use Rattle.lw_model.specs.declared.step.Step.TheVariants as step
use Rattle.lw_model.specs.declared.record.Did.{Did}
use Rattle.lw_model.specs.declared.record.Answer.{Answer}
use Rattle.lw_model.specs.declared.record.Answer.TheVariants as answer
use Rattle.lw_model.specs.Threads.{is_on, ops_of, op_at, image_at, owner_of}
use Rattle.lw_model.specs.Holding.{says, always, is_closed, is_sent, is_deferred, loses, ordinal_given}
use Rattle.lw_model.specs.Answers.{unanswered, unanswered_on, answer_fits}
use Rattle.lw_model.proofs.Passing.{item_passes}
use Rattle.lw_target.specs.declared.acts.Outgoing.{Outgoing}
use Rattle.lw_target.specs.declared.channel.Channel.{Channel}
use Rattle.lw_target.specs.declared.client.Client.{Client}
use Rattle.lw_target.specs.declared.device.Device.{Device}
use Rattle.lw_target.specs.ClientLog.{Follows, KeepsDevice, steps_so_far, past_so_far, sends_of, line_fits, lines_fit, ats_ascend}
use Rattle.lw_target.specs.ClientCalls.{requested, receivers, putselfs_to}
use Rattle.lw_target.specs.Actions.{action_on, device_of, names_image}
use Rattle.lw_target.specs.Effects.{channel_after, standing_after, device_after, sends_after}
use Rattle.lw_target.specs.Messages.{Asked}
use Rattle.lw_target.specs.Ops.{is_servable}
use Rattle.lw_target.proofs.LogGrowth.{steps_did, past_push, fit_push, ats_push}
use Rattle.lw_target.proofs.Kept.{IsApt, keeps_other, keeps_op}
use Rattle.lw_target.proofs.Places.{got, counted}
use Rattle.lw_target.proofs.RanMessages.{same_script, came_from}
use Rattle.lw_target.proofs.Handling.{OpDone}
use Rattle.lw_target.proofs.Replying.{image_is, at_client, on_client, OpFacts, facts}

-- ---- one op more

-- the line that an op lists
abbrev pub line_of : Client → Asked → Answer → Did
line_of old before a = record { at = before.ran; op = old.next; answer = a }

still_going : (old : Client) → old.next < length old.of.ops → (old.closed ≡ true → old.next ≡ length old.of.ops) → old.closed ≡ false
still_going old more closed = at old.closed refl
  where
    at : (b : Bool) → old.closed ≡ b → old.closed ≡ false
    at true e = absurd (omega (arith, more, closed e))
    at false e = e

pub no_longer : (b c : Bool) → b ≡ false → (c ≡ true → b ≡ true) → c ≡ false
no_longer b true e h = sym (h refl) ∙ e
no_longer b false e h = refl

filter_none : {X : Type 0} (p : X → Bool) (xs : List X) → list_any p xs ≡ false → filter p xs ≡ []
filter_none p [] e = refl
filter_none p (x ∷ xs) e = at (p x) (filter_none p xs) e
  where
    at : (b : Bool) → (list_any p xs ≡ false → filter p xs ≡ []) → (b || list_any p xs) ≡ false → cond b (x ∷ filter p xs) (filter p xs) ≡ []
    at true rest none = let wrong : true ≡ false = none in cc
    at false rest none = rest none

pub any_reverse : {X : Type 0} (p : X → Bool) (xs : List X) → list_any p (reverse xs) ≡ false → list_any p xs ≡ false
any_reverse p [] e = refl
any_reverse p (x ∷ xs) e = at (list_any p (reverse xs)) (p x) refl refl (sym (list_any-append p (reverse xs) (x ∷ [])) ∙ ap (list_any p) (sym (reverse_cons x xs)) ∙ e) (any_reverse p xs)
  where
    at : (a b : Bool) → list_any p (reverse xs) ≡ a → p x ≡ b → (a || (b || false)) ≡ false → (list_any p (reverse xs) ≡ false → list_any p xs ≡ false) → (b || list_any p xs) ≡ false
    at true b ea eb none rest = let wrong : true ≡ false = none in cc
    at false true ea eb none rest = let wrong : true ≡ false = none in cc
    at false false ea eb none rest = rest ea

-- the facts of an op that a client did
pub record Known (s : Script) (old new : Client) (ran : List Tag) (before after : Asked) (devices devices' : List Device) (f : OpDone old new before after devices devices') : Type 0 where
  pub going : old.closed ≡ false
  pub undone : old.done ≡ false
  pub number : length old.did ≡ old.next
  pub open' : list_any (says always is_closed) (past_so_far old ran) ≡ false
  pub at : image_at s old.thread old.next ≡ Some (device_of (action_on f.op))
  pub op : op_at s old.thread old.next ≡ Some f.op
  pub kept : KeepsDevice s old.thread (past_so_far old ran) (device_of (action_on f.op)) f.k
  pub facts : OpFacts s old.thread (past_so_far old ran) f.op f.v f.k f.answer

pub known : (s : Script) (old new : Client) (ran : List Tag) (before after : Asked) (devices devices' : List Device) (f : OpDone old new before after devices devices')
    → Follows s old ran → Known s old new ran before after devices devices' f
known s old new ran before after devices devices' f h =
    let going = still_going old f.more h.closed in
    let past = past_so_far old ran in
    let d = device_of (action_on f.op) in
    let serves = item_passes (is_servable (vec_len old.channels)) old.of.ops old.next f.op old.serves f.found in
    let kept = h.devices d f.k f.kept in
    let on = λ (k : ℕ). on_client s old.thread old.of.ops d k h.of.client h.of.ops in
    record {
      going = going;
      undone = no_longer old.closed old.done going (λ e. (h.done e).0);
      number = h.listed ∙ ap (λ (b : Bool). old.next + cond b 1 0) going ∙ omega arith;
      open' = h.says_closed ∙ going;
      at = at_client s old.thread old.of.ops old.next f.op d h.of.client h.of.ops f.found (image_is (vec_len old.channels) f.op serves);
      op = ap (λ (q : List Op). slice_get q old.next) h.of.ops ∙ f.found;
      kept = kept;
      facts = facts s old.thread (vec_len old.channels) past f.op old.of.ops old.unanswered.items old.of.depth f.v f.k f.answer serves kept h.unanswered h.of.depth
          (λ none. ap length (filter_agree (is_on s old.thread d) (names_image old.of.ops d) on (unanswered past)
          ∙ filter_none (names_image old.of.ops d) (unanswered past) (any_reverse (names_image old.of.ops d) (unanswered past) (ap (list_any (names_image old.of.ops d)) (sym h.unanswered) ∙ none))))
          f.answered;
    }

pub on_op : (s : Script) (t e d k : ℕ) → image_at s t k ≡ Some d → is_on s t e k ≡ (d == e)
on_op s t e d k at = ap (λ (o : Option ℕ). elim o as (λ q. Bool) [ None ↦ false | Some i ↦ i == e ]) at

keeps_each : (s : Script) (t i d e : ℕ) (past : List Step) (x : Did) (k j : Channel) → image_at s t x.op ≡ Some d → is_closed x.answer ≡ false
    → list_any (says always is_closed) past ≡ false → IsApt x.answer k → (loses x.answer ≡ true → length (unanswered_on s t d past) ≡ 0)
    → (d ≡ e → j ≡ k) → KeepsDevice s t past e j → KeepsDevice s t (step.Did i x ∷ past) e (cond (d == e) (channel_after x.answer j) j)
keeps_each s t i d e past x k j at going before apt gone same h = by (d == e) refl
  where
    by : (b : Bool) → (d == e) ≡ b → KeepsDevice s t (step.Did i x ∷ past) e (cond b (channel_after x.answer j) j)
    by true eb =
        let de : d ≡ e = eqb-true d e eb in
        keeps_op s t i e past x j (on_op s t e d x.op at ∙ eb) going before (subst (IsApt x.answer) (sym (same de)) apt)
        (λ w. ap (λ q. length (unanswered_on s t q past)) (sym de) ∙ gone w) h
    by false eb = keeps_other s t i e past x j (on_op s t e d x.op at ∙ eb) going h

-- ---- counts

standing_counts : (a : Answer) (k : Channel) (n m m' : ℕ) → n ≡ m → m ≤ 16 → ((g : ℕ) → a ≡ answer.Given g → k.ordinal ≡ None)
    → m' + cond (is_some k.ordinal) 1 0 ≡ m + cond (is_some (channel_after a k).ordinal) 1 0 → standing_after a n ≡ m'
standing_counts (answer.Given g) k n m m' e few given c =
    omega (arith, e, few, c, ap {B = ℕ} (λ (o : Option ℕ). cond (is_some o) 1 0) (given g refl))
standing_counts (answer.Again g) k n m m' e few given c = omega (arith, e, c)
standing_counts answer.Counted k n m m' e few given c = omega (arith, e, c)
standing_counts answer.Deferred k n m m' e few given c = omega (arith, e, c)
standing_counts _ k n m m' e few given c = omega (arith, e, c)

waiting_more : (b : Bool) (u : ℕ) (us : List ℕ) → reverse us ++ cond b (u ∷ []) [] ≡ reverse (cond b (u ∷ us) us)
waiting_more true u us = sym (reverse_cons u us)
waiting_more false u us = append-nil (reverse us)

gets_more : (on : ℕ → Bool) (steps : List Step) (i : ℕ) (x : Did) (n : ℕ) → length (filter_map (ordinal_given on) steps) ≤ n → length (filter_map (ordinal_given on) (steps ++ step.Did i x ∷ [])) ≤ n + 1
gets_more on steps i x n h =
    omega (
      arith,
      h,
      ap length (filter_map-append (ordinal_given on) steps (step.Did i x ∷ [])),
      length-append (filter_map (ordinal_given on) steps) (filter_map (ordinal_given on) (step.Did i x ∷ [])),
      one (ordinal_given on (step.Did i x)),
    )
  where
    one : (o : Option ℕ) → length (cons_option o []) ≤ 1
    one None = omega arith
    one (Some n) = omega arith

pub five : {a b c d e : Bool} → a ≡ true → b ≡ true → c ≡ true → d ≡ true → e ≡ true → (a && b && c && d && e) ≡ true
five ea eb ec ed ee = rw (ea, eb, ec, ed, ee) refl

pub op_follows : (s : Script) (old new : Client) (ran : List Tag) (before after : Asked) (devices devices' : List Device) → OpDone old new before after devices devices'
    → Follows s old ran → before.ran ≡ length ran → Follows s new ran
op_follows s old new ran before after devices devices' f h at =
    let w = known s old new ran before after devices devices' f h in
    let p = f.handled in
    let a = f.answer in
    let d = device_of (action_on f.op) in
    let x = line_of old before a in
    let i = length old.did in
    let past = past_so_far old ran in
    let steps = steps_so_far old ran in
    let grown = steps_did old new ran x p.did at h.ats in
    let now : past_so_far new ran ≡ step.Did i x ∷ past = ap reverse grown ∙ past_push steps (step.Did i x) in
    let open'' : (true && is_closed a || list_any (says always is_closed) past) ≡ false = ap (λ (b : Bool). b || list_any (says always is_closed) past) w.facts.going ∙ w.open' in
    let fits : line_fits s old.thread past (step.Did i x) ≡ true = five (eq-eqb old.next i (sym w.number))
    (le-leb i (length (ops_of s old.thread)) (omega (arith, w.number, f.more, ap length h.of.ops)))
    (ap (λ (n : ℕ). answer_fits s old.thread past (op_at s old.thread n) a) w.number ∙ ap (λ (o : Option Op). answer_fits s old.thread past o a) w.op ∙ w.facts.fits)
    w.facts.deep (ap not w.facts.unstarted) in
    record {
      of = same_script s old new p.thread p.first_owner p.of (omega (arith, old.channels.ok.0, new.channels.ok.0, simp length-set at (ap length p.channels))) h.of;
      listed = ap length p.did ∙ length-append old.did (x ∷ []) ∙ omega (arith, w.number, p.next, ap {B = ℕ} (λ (b : Bool). cond b 1 0) (p.closed ∙ w.going));
      closed = λ e. let wrong : false ≡ true = sym w.going ∙ sym p.closed ∙ e in cc;
      says_closed = ap (list_any (says always is_closed)) now ∙ open'' ∙ sym w.going ∙ sym p.closed;
      devices = λ e k' ek.
          let from = came_from (λ (y : Channel). cond (d == e) (channel_after a y) y) (slice_get old.channels.items e) k'
          (sym (got (channel_after a) old.channels.items d f.k f.kept e) ∙ ap (λ l. slice_get l e) (sym p.channels) ∙ ek) in
          subst (λ (q : List Step). KeepsDevice s new.thread q e k') (sym now)
          (subst (λ (t : ℕ). KeepsDevice s t (step.Did i x ∷ past) e k') (sym p.thread)
          (subst (λ (k : Channel). KeepsDevice s old.thread (step.Did i x ∷ past) e k) from.2
          (keeps_each s old.thread i d e past x f.k from.0 w.at w.facts.going w.open' w.facts.apt w.facts.gone
          (λ de. same_Some from.0 f.k (sym from.1 ∙ ap (slice_get old.channels.items) (sym de) ∙ f.kept)) (h.devices e from.0 from.1))));
      standing = p.standing ∙ standing_counts a f.k old.standing (count_by (λ (k : Channel). is_some k.ordinal) old.channels.items) (count_by (λ (k : Channel). is_some k.ordinal) new.channels.items)
          h.standing (omega (arith, old.few, old.channels.ok.0, count_by-le-length (λ (k : Channel). is_some k.ordinal) old.channels.items)) (λ g e. (w.facts.given g e).1)
          (ap (λ l. count_by (λ (k : Channel). is_some k.ordinal) l + cond (is_some f.k.ordinal) 1 0) p.channels
          ∙ counted (λ (k : Channel). is_some k.ordinal) old.channels.items d f.k (channel_after a f.k) f.kept);
      unanswered = p.unanswered ∙ ap (λ q. q ++ cond (is_sent a) (old.next ∷ []) []) h.unanswered ∙ waiting_more (is_sent a) old.next (unanswered past)
          ∙ ap (λ (q : List Step). reverse (unanswered q)) (sym now);
      lines = subst (λ (t : ℕ). lines_fit s t (steps_so_far new ran) ≡ true) (sym p.thread)
          (ap (lines_fit s old.thread) grown ∙ fit_push s old.thread steps (step.Did i x) h.lines fits);
      ats = ap (ats_ascend (length ran)) p.did ∙ ats_push (length ran) old.did x at h.ats;
      done = λ e. let wrong : false ≡ true = sym w.undone ∙ sym p.done ∙ e in cc;
      gets = λ e. subst (λ (t : ℕ). length (filter_map (ordinal_given (is_on s t e)) (steps_so_far new ran)) ≤ new.next) (sym p.thread)
          (omega (arith, p.next, gets_more (is_on s old.thread e) steps i x old.next (h.gets e), ap length (ap (filter_map (ordinal_given (is_on s old.thread e))) grown)));
    }

-- ---- what an op sends, and what it changes

pub requested_by : (a : Answer) (thread first_owner d n : ℕ) (o : Op)
    → filter_map (λ (m : Outgoing). requested m.what) (sends_after a thread first_owner d n o) ≡ cond (is_sent a) (n ∷ []) []
requested_by answer.Sent thread first_owner d n o = refl
requested_by answer.Deferred thread first_owner d n o = refl
requested_by _ thread first_owner d n o = refl

pub putselfs_by : (e : ℕ) (a : Answer) (thread first_owner d n : ℕ) (o : Op) → putselfs_to e (sends_after a thread first_owner d n o) ≡ cond (d == e && is_deferred a) 1 0
putselfs_by e answer.Sent thread first_owner d n o = ap {B = ℕ} (λ (b : Bool). cond b 1 0) (sym (and_false (d == e)))
putselfs_by e answer.Deferred thread first_owner d n o = zero-add (cond (d == e) 1 0) ∙ ap {B = ℕ} (λ (b : Bool). cond b 1 0) (sym (and_true (d == e)))
putselfs_by e _ thread first_owner d n o = ap {B = ℕ} (λ (b : Bool). cond b 1 0) (sym (and_false (d == e)))

pub sends_by : (s : Script) (t i first_owner d : ℕ) (past : List Step) (x : Did) (o : Op) → image_at s t x.op ≡ Some d → is_closed x.answer ≡ false → owner_of s 0 ≡ first_owner
    → sends_of s t past (step.Did i x) ≡ receivers (sends_after x.answer t first_owner d x.op o)
sends_by s t i first_owner d past x o at going owner = by x.answer going
  where
    by : (a : Answer) → is_closed a ≡ false → sends_of s t past (step.Did i (record x { answer = a })) ≡ receivers (sends_after a t first_owner d x.op o)
    by answer.Sent going = ap (λ (q : Option ℕ). option_to_list (option_map (λ (e : ℕ). (owner_of s e, what.Request x.op)) q)) at
        ∙ ap (λ (n : ℕ). (n, what.Request x.op) ∷ []) (omega (arith, owner))
    by answer.Deferred going = ap (λ (q : Option ℕ). option_to_list (option_map (λ (e : ℕ). (t, what.PutSelf e)) q)) at
    by answer.Closed going = let wrong : true ≡ false = going in cc
    by _ going = refl

pub pending_after : (b : Bool) (a : Answer) (k : Channel) → (cond b (channel_after a k) k).pending ≡ k.pending + cond (b && is_deferred a) 1 0
pending_after false a k = omega arith
pending_after true (answer.Given n) k = omega arith
pending_after true answer.Deferred k = omega arith
pending_after true _ k = omega arith

pub ends_after : (a : Answer) (v : Device) → ◌≡◌ {A = Option ℕ × ℕ} ((device_after a v).shut_by, (device_after a v).callbacks) (v.shut_by, v.callbacks)
ends_after (answer.Given n) v = refl
ends_after _ v = refl

pub stands_after : (b : Bool) (a : Answer) (k : Channel) (v : Device) → (b ≡ true → (n : ℕ) → a ≡ answer.Given n → k.ordinal ≡ None) → v.standing ≡ cond (is_some k.ordinal) 1 0
    → (cond b (device_after a v) v).standing ≡ cond (is_some (cond b (channel_after a k) k).ordinal) 1 0
stands_after false a k v given e = e
stands_after true (answer.Given n) k v given e = let none : v.standing ≡ 0 = e ∙ ap {B = ℕ} (λ (o : Option ℕ). cond (is_some o) 1 0) (given refl n refl) in omega (arith, none)
stands_after true (answer.Again n) k v given e = e
stands_after true answer.Counted k v given e = e
stands_after true answer.Deferred k v given e = e
stands_after true _ k v given e = e

pub given_after : (on : ℕ → Bool) (b : Bool) (steps : List Step) (i : ℕ) (x : Did) (v : Device) → on x.op ≡ b → (b ≡ true → (n : ℕ) → x.answer ≡ answer.Given n → n ≡ v.given) → v.given ≤ 100000
    → filter_map (ordinal_given on) steps ≡ range_with_len 0 v.given → filter_map (ordinal_given on) (steps ++ step.Did i x ∷ []) ≡ range_with_len 0 (cond b (device_after x.answer v) v).given
given_after on b steps i x v eb is few e =
    filter_map-append (ordinal_given on) steps (step.Did i x ∷ [])
    ∙ ap₂ (λ (q : List ℕ) (o : Option ℕ). q ++ cons_option o []) e (first x.answer ∙ ap (λ (c : Bool). chosen c x.answer) eb) ∙ by b x.answer is
  where
    chosen : (c : Bool) (a : Answer) → Option ℕ
    chosen c a = elim a as (λ q. Option ℕ) [ answer.Given n ↦ cond c (Some n) None | _ ↦ None ]

    first : (a : Answer) → ordinal_given on (step.Did i (record x { answer = a })) ≡ (elim a as (λ q. Option ℕ) [ answer.Given n ↦ cond (on x.op) (Some n) None | _ ↦ None ])
    first a = refl

    by : (b : Bool) (a : Answer) → (b ≡ true → (n : ℕ) → a ≡ answer.Given n → n ≡ v.given)
        → range_with_len 0 v.given ++ cons_option (elim a as (λ q. Option ℕ) [ answer.Given n ↦ cond b (Some n) None | _ ↦ None ]) [] ≡ range_with_len 0 (cond b (device_after a v) v).given
    by true (answer.Given n) is = ap (λ (k : ℕ). range_with_len 0 v.given ++ k ∷ []) (is refl n refl ∙ omega arith) ∙ sym (range_push 0 v.given) ∙ ap (range_with_len 0) (omega (arith, few))
    by true (answer.Again n) is = append-nil (range_with_len 0 v.given)
    by true answer.Counted is = append-nil (range_with_len 0 v.given)
    by true _ is = append-nil (range_with_len 0 v.given)
    by false (answer.Given n) is = append-nil (range_with_len 0 v.given)
    by false _ is = append-nil (range_with_len 0 v.given)
