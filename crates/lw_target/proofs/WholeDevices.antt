-- The device of a whole run: its ordinals are those that the client was given, and the app unregistered it and was called.
use Rattle.std.proofs.Common.{ℕ, zero, suc, ◌≡◌, ◌+◌, ◌≤◌, ◌<◌, ◌==◌, nat_lt, Bool, true, false, cond, not, ◌&&◌, ◌||◌, List, [], ◌∷◌, ◌++◌, map, filter_map, length, Option, Some, None, slice_get, unwrap_or, refl, sym, ap, ap₂, subst, ◌∙◌, inl, inr, arith, IsTrue, count_by, append-nil}
use Rattle.std.specs.List.{AllByRecursion, list_all, list_any, enumerate_from, range_with_len, flat_map, cons_option}
use Rattle.std.proofs.lemmas.Bool.{and_from, or_parts, or_right, or_left, ne_eqb, eq-eqb, cases_order, false≢true, true≢false, not_from_false}
use Rattle.std.proofs.lemmas.List.FromFn.{length-range_with_len}
use Rattle.std.proofs.lemmas.List.Sums.{sum_by-cons}
use Rattle.lw_base.specs.declared.message.Tag.{Tag}
use Rattle.lw_model.specs.declared.script.Script.{Script}
use Rattle.lw_model.specs.declared.record.Record.{Record}
use Rattle.lw_model.specs.declared.record.ThreadRecord.{ThreadRecord}
use Rattle.lw_base.specs.declared.ends.DeviceEnd.{DeviceEnd}
use Rattle.lw_model.specs.declared.record.Did.{Did}
use Rattle.lw_model.specs.declared.record.Called.{Called}
use Rattle.lw_model.specs.declared.record.Answer.{Answer}
use Rattle.lw_model.specs.declared.record.Answer.TheVariants as answer
use Rattle.lw_model.specs.declared.step.Step.{Step}
use Rattle.lw_model.specs.declared.step.Step.TheVariants as step
use Rattle.lw_model.specs.Threads.{thread_count, is_on}
use Rattle.lw_model.specs.OwnOrder.{own_order, own_order_of, with_past, history, steps_of}
use Rattle.lw_model.specs.Holding.{says, always, ordinal_given}
use Rattle.lw_model.specs.Devices.{DeviceHolds, Devices, device_at, over_steps, ordinal_on, began_on, called_on, tells_shut, needs_open, is_refusal, callback_fits, refusal_fits}
use Rattle.lw_model.proofs.Growth.{all-in_order, all-append}
use Rattle.lw_target.specs.WholeRun.{AppEnded, ClientEnded, OwnerEnded}
use Rattle.lw_target.proofs.WholeParts.{IsMadeOf, each, each_client, of_app, of_client, of_owner, app_steps, app_order, ran_steps, owner_order}
use Rattle.lw_target.proofs.WholeAnswers.{is_plain, PlainStep, client_plain}

-- ---- Ordinals

none_below : (n a k : ℕ) → n < a → count_by (λ m. m == n) (range_with_len a k) ≡ 0
none_below n a zero h = refl
none_below n a (suc k) h = sum_by-cons (λ (m : ℕ). cond (m == n) 1 0) a (range_with_len (a + 1) k)
    ∙ ap₂ (λ b c. cond b 1 0 + c) (ne_eqb a n (λ e. absurd (omega (arith, e, h)))) (none_below n (a + 1) k (omega (arith, h)))

once_in_range : (n a k : ℕ) → a ≤ n → n < a + k → count_by (λ m. m == n) (range_with_len a k) ≡ 1
once_in_range n a zero low high = absurd (omega (arith, low, high))
once_in_range n a (suc k) low high = sum_by-cons (λ (m : ℕ). cond (m == n) 1 0) a (range_with_len (a + 1) k) ∙ elim (cases_order a n) [
  | inl same ↦ ap₂ (λ b c. cond b 1 0 + c) (eq-eqb a n same) (none_below n (a + 1) k (omega (arith, same)))
  | inr other ↦ elim other [
    | inl below ↦ ap₂ (λ b c. cond b 1 0 + c) (ne_eqb a n (λ e. absurd (omega (arith, e, below)))) (once_in_range n (a + 1) k (omega (arith, below)) (omega (arith, high)))
    | inr above ↦ absurd (omega (arith, above, low))
  ]
]

-- ---- What steps say of the device

filter_map_same : {X Y : Type 0} (f g : X → Option Y) → ((x : X) → f x ≡ g x) → (xs : List X) → filter_map f xs ≡ filter_map g xs
filter_map_same f g same [] = refl
filter_map_same f g same (x ∷ xs) = ap₂ cons_option (same x) (filter_map_same f g same xs)

given_same : (r : Record) (x : Step) → ordinal_on r 0 1 x ≡ ordinal_given (is_on r.script 1 0) x
given_same r (step.Did i x) = refl
given_same r (step.Called i x) = refl
given_same r (step.Ran i m) = refl

of_rans : {Y : Type 0} (f : Step → Option Y) → ((i : ℕ) (m : Tag) → f (step.Ran i m) ≡ None) → (n : ℕ) (ran : List Tag) → filter_map f (ran_steps n ran) ≡ []
of_rans f none n [] = refl
of_rans f none n (m ∷ ran) = ap₂ cons_option (none n m) (of_rans f none (n + 1) ran)

client_begins_none : (r : Record) (steps : List Step) → AllByRecursion PlainStep steps → filter_map (began_on r 0 1) steps ≡ []
client_begins_none r [] all = refl
client_begins_none r (step.Did i x ∷ steps) all = ap₂ cons_option (none x.op x.at x.answer all.0) (client_begins_none r steps all.1)
  where
    none : (k at : ℕ) (a : Answer) → is_plain a ≡ true → began_on r 0 1 (step.Did i (record { at = at; op = k; answer = a })) ≡ None
    none k at (answer.Began n) e = absurd (false≢true e)
    none k at _ e = refl
client_begins_none r (step.Called i x ∷ steps) all = client_begins_none r steps all.1
client_begins_none r (step.Ran i m ∷ steps) all = client_begins_none r steps all.1

-- a step that is no callback
abbrev NotCalled : Step → Type 0
NotCalled s = elim s [ step.Called i x ↦ ⊥ | _ ↦ Unit {0} ]

dids_not_called : (n : ℕ) (xs : List Did) → AllByRecursion NotCalled (map (λ p. step.Did p.0 p.1) (enumerate_from n xs))
dids_not_called n [] = tt
dids_not_called n (x ∷ xs) = (tt, dids_not_called (n + 1) xs)

rans_not_called : (n : ℕ) (ms : List Tag) → AllByRecursion NotCalled (ran_steps n ms)
rans_not_called n [] = tt
rans_not_called n (m ∷ ms) = (tt, rans_not_called (n + 1) ms)

order_not_called : (t : ThreadRecord) → t.called ≡ [] → AllByRecursion NotCalled (own_order t)
order_not_called t none = all-in_order NotCalled (steps_of t)
    (subst (λ (calls : List Called). AllByRecursion NotCalled ((map (λ p. step.Did p.0 p.1) (enumerate_from 0 t.did) ++ map (λ p. step.Called p.0 p.1) (enumerate_from 0 calls)) ++ ran_steps 0 t.ran)) (sym none)
    (all-append NotCalled (map (λ p. step.Did p.0 p.1) (enumerate_from 0 t.did) ++ []) (ran_steps 0 t.ran)
    (all-append NotCalled (map (λ p. step.Did p.0 p.1) (enumerate_from 0 t.did)) [] (dids_not_called 0 t.did) tt) (rans_not_called 0 t.ran)))

calls_none : (r : Record) (t : ℕ) (steps : List Step) → AllByRecursion NotCalled steps → filter_map (called_on r 0 t) steps ≡ []
calls_none r t [] all = refl
calls_none r t (step.Did i x ∷ steps) all = calls_none r t steps all.1
calls_none r t (step.Called i x ∷ steps) all = absurd all.0
calls_none r t (step.Ran i m ∷ steps) all = calls_none r t steps all.1

callbacks_fit : (r : Record) (t : ℕ) (past steps : List Step) → AllByRecursion NotCalled steps → list_all (λ p. callback_fits r 0 t p.0 p.1) (with_past past steps) ≡ true
callbacks_fit r t past [] all = refl
callbacks_fit r t past (step.Did i x ∷ steps) all = callbacks_fit r t (step.Did i x ∷ past) steps all.1
callbacks_fit r t past (step.Called i x ∷ steps) all = absurd all.0
callbacks_fit r t past (step.Ran i m ∷ steps) all = callbacks_fit r t (step.Ran i m ∷ past) steps all.1

-- a step that doesn't say that the device is shut
abbrev NotShut : (ℕ → Bool) → Step → Type 0
NotShut on s = says on tells_shut s ≡ false

not_refusal : (on : ℕ → Bool) (steps : List Step) → list_any (says always is_refusal) steps ≡ false → AllByRecursion (λ (s : Step). says on is_refusal s ≡ false) steps
not_refusal on [] e = tt
not_refusal on (step.Did i x ∷ steps) e =
    let both = or_parts (is_refusal x.answer) (list_any (says always is_refusal) steps) e in
    (ap (λ b. on x.op && b) both.0 ∙ at (on x.op), not_refusal on steps both.1)
  where
    at : (b : Bool) → (b && false) ≡ false
    at true = refl
    at false = refl
not_refusal on (step.Called i x ∷ steps) e = (refl, not_refusal on steps e)
not_refusal on (step.Ran i m ∷ steps) e = (refl, not_refusal on steps e)

not_shut : (on : ℕ → Bool) (steps : List Step) → AllByRecursion PlainStep steps → list_any (says always is_refusal) steps ≡ false → AllByRecursion (NotShut on) steps
not_shut on [] plain e = tt
not_shut on (step.Did i x ∷ steps) plain e =
    let both = or_parts (is_refusal x.answer) (list_any (says always is_refusal) steps) e in
    (ap (λ b. on x.op && b) (none x.answer plain.0 both.0) ∙ at (on x.op), not_shut on steps plain.1 both.1)
  where
    at : (b : Bool) → (b && false) ≡ false
    at true = refl
    at false = refl

    none : (a : Answer) → is_plain a ≡ true → is_refusal a ≡ false → tells_shut a ≡ false
    none answer.Shut e f = absurd (true≢false f)
    none answer.Already e f = absurd (true≢false f)
    none (answer.Began n) e f = absurd (false≢true e)
    none _ e f = refl
not_shut on (step.Called i x ∷ steps) plain e = (refl, not_shut on steps plain.1 e)
not_shut on (step.Ran i m ∷ steps) plain e = (refl, not_shut on steps plain.1 e)

refusals_fit : (r : Record) (t : ℕ) (past steps : List Step) → list_any (says (is_on r.script t 0) tells_shut) past ≡ false → AllByRecursion (NotShut (is_on r.script t 0)) steps
    → list_all (λ p. refusal_fits r 0 t p.0 p.1) (with_past past steps) ≡ true
refusals_fit r t past [] e all = refl
refusals_fit r t past (s ∷ steps) e all =
    and_from (refusal_fits r 0 t past s) _ (or_right (not (says (is_on r.script t 0) needs_open s)) _ (not_from_false (list_any (says (is_on r.script t 0) tells_shut) past) e))
    (refusals_fit r t (s ∷ past) steps (ap (λ b. b || list_any (says (is_on r.script t 0) tells_shut) past) all.0 ∙ e) all.1)

rans_not_shut : (on : ℕ → Bool) (n : ℕ) (ran : List Tag) → AllByRecursion (NotShut on) (ran_steps n ran)
rans_not_shut on n [] = tt
rans_not_shut on n (m ∷ ran) = (refl, rans_not_shut on (n + 1) ran)

none_any : (p : Step → Bool) (steps : List Step) → AllByRecursion (λ (s : Step). p s ≡ false) steps → list_any p steps ≡ false
none_any p [] all = refl
none_any p (s ∷ steps) all = ap (λ b. b || list_any p steps) all.0 ∙ none_any p steps all.1

-- whether the app's first device is the first one, of so many
abbrev first_image : ℕ → Option ℕ
first_image n = elim (nat_lt 0 n) [ true ↦ Some 0 | false ↦ None ]

abbrev on_first : ℕ → Bool
on_first n = elim (first_image n) [ None ↦ false | Some e ↦ e == 0 ]

-- ---- The rule

module _ (r : Record) (app client owner : ThreadRecord) (end : DeviceEnd) (made : IsMadeOf r app client owner end) where
  abbrev s : Script
  s = r.script

  app_ended : AppEnded app end
  app_ended = made.whole.app_ended

  client_ended : ClientEnded s client owner end
  client_ended = made.whole.client_ended

  owner_ended : OwnerEnded s client owner
  owner_ended = made.whole.owner_ended

  device_is : device_at r 0 ≡ end
  device_is = ap (λ (ds : List DeviceEnd). unwrap_or (slice_get ds 0) (record { given = 0; thread = 0; callbacks = 0 })) made.devices

  app_own : own_order_of r 0 ≡ app_steps end
  app_own = of_app r app client owner end made own_order ∙ app_order app end app_ended

  client_own : own_order_of r 1 ≡ own_order client
  client_own = of_client r app client owner end made own_order

  owner_own : own_order_of r 2 ≡ ran_steps 0 owner.ran
  owner_own = of_owner r app client owner end made own_order ∙ owner_order s client owner owner_ended

  three : thread_count s ≡ 3
  three = omega (arith, made.images, made.clients)

  -- what is found in the steps of the app, the client and the owner
  over_three : {X : Type 0} (f : ℕ → Step → Option X) (a c o : List X) → filter_map (f 0) (app_steps end) ≡ a → filter_map (f 1) (own_order client) ≡ c → filter_map (f 2) (ran_steps 0 owner.ran) ≡ o → over_steps r f ≡ a ++ c ++ o
  over_three f a c o ea ec eo = ap (λ n. flat_map (λ t. filter_map (f t) (own_order_of r t)) (range_with_len 0 n)) three
      ∙ ap₂ (λ x y. x ++ y) (ap (filter_map (f 0)) app_own ∙ ea) (ap₂ (λ x y. x ++ y) (ap (filter_map (f 1)) client_own ∙ ec) (ap (λ x. x ++ []) (ap (filter_map (f 2)) owner_own ∙ eo) ∙ append-nil o))
      ∙ grouped a c o
    where
      grouped : {X : Type 0} (a c o : List X) → a ++ (c ++ o) ≡ a ++ c ++ o
      grouped [] c o = refl
      grouped (x ∷ a) c o = ap (λ l. x ∷ l) (grouped a c o)

  on_zero : is_on s 0 0 0 ≡ true
  on_zero = ap on_first made.images

  ordinals : over_steps r (ordinal_on r 0) ≡ range_with_len 0 end.given
  ordinals = over_three (ordinal_on r 0) [] (range_with_len 0 end.given) [] refl
      (filter_map_same (ordinal_on r 0 1) (ordinal_given (is_on s 1 0)) (given_same r) (own_order client) ∙ client_ended.given)
      (of_rans (ordinal_on r 0 2) (λ i m. refl) 0 owner.ran)
      ∙ append-nil (range_with_len 0 end.given)

  began : over_steps r (began_on r 0) ≡ (0, end.given) ∷ []
  began = over_three (began_on r 0) ((0, end.given) ∷ []) [] [] (ap (λ b. cons_option (cond b (Some (0, end.given)) None) []) on_zero)
      (client_begins_none r (own_order client) (client_plain r app client owner end made)) (of_rans (began_on r 0 2) (λ i m. refl) 0 owner.ran)

  calls : over_steps r (called_on r 0) ≡ 0 ∷ []
  calls = over_three (called_on r 0) (0 ∷ []) [] [] refl (calls_none r 1 (own_order client) (order_not_called client client_ended.called)) (of_rans (called_on r 0 2) (λ i m. refl) 0 owner.ran)

  app_callback : list_all (λ p. callback_fits r 0 0 p.0 p.1) (with_past [] (app_steps end)) ≡ true
  app_callback = and_from _ true (and_from _ true (or_left _ false (ap (λ b. b && true) on_zero)) refl) refl

  app_refusals : list_all (λ p. refusal_fits r 0 0 p.0 p.1) (with_past [] (app_steps end)) ≡ true
  app_refusals = and_from _ true (or_right (not (is_on s 0 0 0 && true)) true refl) refl

  client_not_shut : AllByRecursion (NotShut (is_on s 1 0)) (own_order client)
  client_not_shut = not_shut (is_on s 1 0) (own_order client) (client_plain r app client owner end made) client_ended.usable

  holds : DeviceHolds r 0
  holds = record {
    ordinal_count = ap length ordinals ∙ length-range_with_len 0 end.given ∙ sym (ap (λ (d : DeviceEnd). d.given) device_is);
    each_ordinal = λ n less. ap (count_by (λ m. m == n)) ordinals ∙ once_in_range n 0 end.given (omega arith) (omega (arith, less, ap (λ (d : DeviceEnd). d.given) device_is));
    began_once = began ∙ ap₂ (λ t g. (t, g) ∷ []) (sym (ap (λ (d : DeviceEnd). d.thread) device_is ∙ made.whole.thread)) (sym (ap (λ (d : DeviceEnd). d.given) device_is));
    called_once = calls ∙ ap (λ t. t ∷ []) (sym (ap (λ (d : DeviceEnd). d.thread) device_is ∙ made.whole.thread));
    called_after = each r app client owner end made (λ t. IsTrue (list_all (λ p. callback_fits r 0 t p.0 p.1) (history r t)))
        (subst (λ steps. list_all (λ p. callback_fits r 0 0 p.0 p.1) (with_past [] steps) ≡ true) (sym app_own) app_callback)
        (subst (λ steps. list_all (λ p. callback_fits r 0 1 p.0 p.1) (with_past [] steps) ≡ true) (sym client_own) (callbacks_fit r 1 [] (own_order client) (order_not_called client client_ended.called)))
        (subst (λ steps. list_all (λ p. callback_fits r 0 2 p.0 p.1) (with_past [] steps) ≡ true) (sym owner_own) (callbacks_fit r 2 [] (ran_steps 0 owner.ran) (rans_not_called 0 owner.ran)));
    one_callback = ap (λ (d : DeviceEnd). d.callbacks) device_is ∙ made.whole.callbacks;
    refused_after = each r app client owner end made (λ t. IsTrue (list_all (λ p. refusal_fits r 0 t p.0 p.1) (history r t)))
        (subst (λ steps. list_all (λ p. refusal_fits r 0 0 p.0 p.1) (with_past [] steps) ≡ true) (sym app_own) app_refusals)
        (subst (λ steps. list_all (λ p. refusal_fits r 0 1 p.0 p.1) (with_past [] steps) ≡ true) (sym client_own) (refusals_fit r 1 [] (own_order client) refl client_not_shut))
        (subst (λ steps. list_all (λ p. refusal_fits r 0 2 p.0 p.1) (with_past [] steps) ≡ true) (sym owner_own) (refusals_fit r 2 [] (ran_steps 0 owner.ran) refl (rans_not_shut (is_on s 2 0) 0 owner.ran)));
    app_refuses_none = λ zero_is. each_client r app client owner end made (λ t. IsTrue (not (list_any (says (is_on s t 0) is_refusal) (own_order_of r t))))
        (not_from_false (list_any (says (is_on s 1 0) is_refusal) (own_order_of r 1)) (ap (list_any (says (is_on s 1 0) is_refusal)) client_own
        ∙ none_any (says (is_on s 1 0) is_refusal) (own_order client) (not_refusal (is_on s 1 0) (own_order client) client_ended.usable)));
  }

  pub devices : Devices r
  devices zero less = holds
  devices (suc d) less = absurd (omega (arith, less, made.images))
