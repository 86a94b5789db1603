-- The rule that what was run is what was sent, of a whole run.
use Rattle.std.proofs.Common.{ℕ, zero, suc, ◌≡◌, ◌≢◌, ◌+◌, ◌==◌, nat_lt, Bool, true, false, cond, not, ◌||◌, List, [], ◌∷◌, ◌++◌, map, filter_map, Option, Some, None, refl, sym, ap, ap₂, subst, ◌∙◌, arith, IsTrue, append-nil}
use Rattle.std.specs.List.{AllByRecursion, list_all, list_any, enumerate_from, range_with_len, flat_map, cons_option}
use Rattle.std.proofs.lemmas.Bool.{and_from, ne_eqb, eq-eqb, eqb-true, false≢true}
use Rattle.lw_base.specs.declared.message.Tag.{Tag}
use Rattle.lw_base.specs.declared.message.What.{What}
use Rattle.lw_base.specs.declared.message.What.TheVariants as what
use Rattle.lw_model.specs.declared.script.Script.{Script}
use Rattle.lw_model.specs.declared.record.Record.{Record}
use Rattle.lw_model.specs.declared.record.ThreadRecord.{ThreadRecord}
use Rattle.lw_base.specs.declared.ends.DeviceEnd.{DeviceEnd}
use Rattle.lw_model.specs.declared.record.Did.{Did}
use Rattle.lw_model.specs.declared.record.Called.{Called}
use Rattle.lw_model.specs.declared.record.Answer.{Answer}
use Rattle.lw_model.specs.declared.record.Answer.TheVariants as answer
use Rattle.lw_model.specs.declared.step.Step.{Step}
use Rattle.lw_model.specs.declared.step.Step.TheVariants as step
use Rattle.lw_model.specs.Threads.{is_client, is_owner, owner_of, images, ran_of}
use Rattle.lw_model.specs.OwnOrder.{own_order, with_past, history, steps_of}
use Rattle.lw_model.specs.Sent.{sent, sent_by, sent_by_did, sent_by_ran, all_sent, run_of, tokens, tokens_started_by, must_run, is_same_token, to_thread}
use Rattle.lw_model.specs.Journal.{request_of}
use Rattle.lw_model.specs.Lawful.{RanIsSent, has_run, is_first_run}
use Rattle.lw_model.proofs.Growth.{all-in_order, all-append}
use Rattle.lw_model.proofs.SentLists.{to_thread-append}
use Rattle.lw_target.specs.ClientLog.{sends_of, sends_of_steps}
use Rattle.lw_target.specs.WholeRun.{AppEnded, ClientEnded, OwnerEnded, run_from, requests_of}
use Rattle.lw_target.proofs.WholeParts.{IsMadeOf, each, client_is, owner_is_none, not_client, of_app, of_client, of_owner, of_none, app_order, ran_steps, owner_order}
use Rattle.lw_target.proofs.WholeAnswers.{is_plain, PlainStep, client_plain}
use Rattle.lw_target.proofs.WholeSent.{is_back, is_asked, is_send, all_send, none_to, back_send, request_send, kind_to, of_senders, none_from}

-- ---- What the client's steps send

abbrev pub BackTag : Tag → Type 0
BackTag m = is_back m.what ≡ true

abbrev BackStep : Step → Type 0
BackStep s = elim s [ step.Ran i m ↦ is_back m.what ≡ true | _ ↦ Unit {0} ]

abbrev pub AskedTag : Tag → Type 0
AskedTag m = is_asked m.sender m.what ≡ true

dids_back : (n : ℕ) (xs : List Did) → AllByRecursion BackStep (map (λ p. step.Did p.0 p.1) (enumerate_from n xs))
dids_back n [] = tt
dids_back n (x ∷ xs) = (tt, dids_back (n + 1) xs)

calleds_back : (n : ℕ) (xs : List Called) → AllByRecursion BackStep (map (λ p. step.Called p.0 p.1) (enumerate_from n xs))
calleds_back n [] = tt
calleds_back n (x ∷ xs) = (tt, calleds_back (n + 1) xs)

rans_back : (n : ℕ) (ms : List Tag) → AllByRecursion BackTag ms → AllByRecursion BackStep (ran_steps n ms)
rans_back n [] all = tt
rans_back n (m ∷ ms) all = (all.0, rans_back (n + 1) ms all.1)

order_back : (t : ThreadRecord) → AllByRecursion BackTag t.ran → AllByRecursion BackStep (own_order t)
order_back t all = all-in_order BackStep (steps_of t)
    (all-append BackStep (map (λ p. step.Did p.0 p.1) (enumerate_from 0 t.did) ++ map (λ p. step.Called p.0 p.1) (enumerate_from 0 t.called)) (ran_steps 0 t.ran)
    (all-append BackStep (map (λ p. step.Did p.0 p.1) (enumerate_from 0 t.did)) (map (λ p. step.Called p.0 p.1) (enumerate_from 0 t.called)) (dids_back 0 t.did) (calleds_back 0 t.called))
    (rans_back 0 t.ran all))

module _ (r : Record) where
  did_same : (past : List Step) (i at k : ℕ) (a : Answer) → is_plain a ≡ true → sent_by_did r 1 past (record { at = at; op = k; answer = a }) ≡ sends_of r.script 1 past (step.Did i (record { at = at; op = k; answer = a }))
  did_same past i at k answer.Started e = absurd (false≢true e)
  did_same past i at k _ e = refl

  ran_same : (t sender number : ℕ) (w : What) → is_back w ≡ true → sent_by_ran r t (record { sender = sender; number = number; what = w }) ≡ []
  ran_same t sender number (what.PutSelf d) e = refl
  ran_same t sender number (what.Reply k) e = refl
  ran_same t sender number (what.Request k) e = absurd (false≢true e)
  ran_same t sender number (what.Visit o k d) e = absurd (false≢true e)
  ran_same t sender number (what.Cast o k) e = absurd (false≢true e)
  ran_same t sender number _ e = refl

  step_same : is_client r.script 1 ≡ true → (past : List Step) (s : Step) → PlainStep s → BackStep s → sent_by r 1 past s ≡ sends_of r.script 1 past s
  step_same client past (step.Did i x) plain back = ap (λ b. cond b (sent_by_did r 1 past x) []) client ∙ did_same past i x.at x.op x.answer plain
  step_same client past (step.Called i x) plain back = refl
  step_same client past (step.Ran i m) plain back = ran_same 1 m.sender m.number m.what back

  steps_same : is_client r.script 1 ≡ true → (past steps : List Step) → AllByRecursion PlainStep steps → AllByRecursion BackStep steps
      → flat_map (λ p. sent_by r 1 p.0 p.1) (with_past past steps) ≡ flat_map (λ p. sends_of r.script 1 p.0 p.1) (with_past past steps)
  steps_same client past [] plain back = refl
  steps_same client past (s ∷ steps) plain back = ap₂ (λ a b. a ++ b) (step_same client past s plain.0 back.0) (steps_same client (s ∷ past) steps plain.1 back.1)

-- ---- What the owner sends

abbrev reply_to : Tag → List (ℕ × What)
reply_to m = elim m.what [ what.Request k ↦ (m.sender, what.Reply k) ∷ [] | _ ↦ [] ]

owner_step : (r : Record) (sender number : ℕ) (w : What) → is_owner r.script 2 ≡ true → is_asked sender w ≡ true → sent_by_ran r 2 (record { sender = sender; number = number; what = w }) ≡ reply_to (record { sender = sender; number = number; what = w })
owner_step r sender number (what.Request k) owner e = ap (λ b. cond b ((sender, what.Reply k) ∷ []) []) owner
owner_step r sender number what.Stop owner e = refl
owner_step r sender number (what.Visit o k d) owner e = absurd (false≢true e)
owner_step r sender number (what.Cast o k) owner e = absurd (false≢true e)
owner_step r sender number _ owner e = refl

owner_steps : (r : Record) → is_owner r.script 2 ≡ true → (past : List Step) (n : ℕ) (ran : List Tag) → AllByRecursion AskedTag ran
    → flat_map (λ p. sent_by r 2 p.0 p.1) (with_past past (ran_steps n ran)) ≡ flat_map reply_to ran
owner_steps r owner past n [] all = refl
owner_steps r owner past n (m ∷ ran) all = ap₂ (λ a b. a ++ b) (owner_step r m.sender m.number m.what owner all.0) (owner_steps r owner (step.Ran n m ∷ past) (n + 1) ran all.1)

reply_sent : (t sender number : ℕ) (w : What) → is_asked sender w ≡ true → t ≡ 1 → to_thread t (reply_to (record { sender = sender; number = number; what = w })) ≡ map (λ (e : ℕ × ℕ). what.Reply e.1) (cons_option (request_of (record { sender = sender; number = number; what = w })) [])
reply_sent t sender number (what.Request k) e f = ap (λ b. map (λ (p : ℕ × What). p.1) (cond b ((sender, what.Reply k) ∷ []) [])) (eq-eqb sender t (omega (arith, f, eqb-true sender 1 e)))
reply_sent t sender number _ e f = refl

reply_other : (t sender number : ℕ) (w : What) → is_asked sender w ≡ true → t ≢ 1 → to_thread t (reply_to (record { sender = sender; number = number; what = w })) ≡ []
reply_other t sender number (what.Request k) e f = ap (λ b. map (λ (p : ℕ × What). p.1) (cond b ((sender, what.Reply k) ∷ []) [])) (ne_eqb sender t (λ h. f (omega (arith, h, eqb-true sender 1 e))))
reply_other t sender number _ e f = refl

replies_sent : (ran : List Tag) → AllByRecursion AskedTag ran → to_thread 1 (flat_map reply_to ran) ≡ map (λ k. what.Reply k) (requests_of ran)
replies_sent [] all = refl
replies_sent (m ∷ ran) all =
    to_thread-append 1 (reply_to m) (flat_map reply_to ran)
    ∙ ap₂ (λ a b. a ++ b) (reply_sent 1 m.sender m.number m.what all.0 refl) (replies_sent ran all.1)
    ∙ joined (request_of m)
  where
    joined : (o : Option (ℕ × ℕ)) → map (λ (e : ℕ × ℕ). what.Reply e.1) (cons_option o []) ++ map (λ k. what.Reply k) (map (λ (e : ℕ × ℕ). e.1) (filter_map request_of ran)) ≡ map (λ k. what.Reply k) (map (λ (e : ℕ × ℕ). e.1) (cons_option o (filter_map request_of ran)))
    joined None = refl
    joined (Some e) = refl

replies_other : (t : ℕ) → t ≢ 1 → (ran : List Tag) → AllByRecursion AskedTag ran → to_thread t (flat_map reply_to ran) ≡ []
replies_other t ne [] all = refl
replies_other t ne (m ∷ ran) all =
    to_thread-append t (reply_to m) (flat_map reply_to ran)
    ∙ ap₂ (λ a b. a ++ b) (reply_other t m.sender m.number m.what all.0 ne) (replies_other t ne ran all.1)

-- ---- Tokens

-- a message that is no token
abbrev pub is_no_token : What → Bool
is_no_token (what.Visit o k d) = false
is_no_token (what.Cast o k) = false
is_no_token _ = true

not_same : (w v : What) → is_no_token w ≡ true → is_same_token w v ≡ false
not_same (what.Visit o k d) v e = absurd (false≢true e)
not_same (what.Cast o k) v e = absurd (false≢true e)
not_same _ v e = refl

none_same : (w : What) (past : List Tag) → is_no_token w ≡ true → list_any (λ x. is_same_token w x.what) past ≡ false
none_same w [] e = refl
none_same w (x ∷ past) e = ap (λ b. b || list_any (λ (y : Tag). is_same_token w y.what) past) (not_same w x.what e) ∙ none_same w past e

pub runs_once : (past ran : List Tag) → AllByRecursion (λ (m : Tag). is_no_token m.what ≡ true) ran → list_all (λ p. is_first_run p.0 p.1) (with_past past ran) ≡ true
runs_once past [] all = refl
runs_once past (m ∷ ran) all = and_from (is_first_run past m) _ (ap not (none_same m.what past all.0)) (runs_once (m ∷ past) ran all.1)

back_no_token : (w : What) → is_back w ≡ true → is_no_token w ≡ true
back_no_token (what.Visit o k d) e = absurd (false≢true e)
back_no_token (what.Cast o k) e = absurd (false≢true e)
back_no_token _ e = refl

asked_no_token : (t : ℕ) (w : What) → is_asked t w ≡ true → is_no_token w ≡ true
asked_no_token t (what.Visit o k d) e = absurd (false≢true e)
asked_no_token t (what.Cast o k) e = absurd (false≢true e)
asked_no_token t _ e = refl

all_mapped : {X : Type 0} (P Q : X → Type 0) → ((x : X) → P x → Q x) → (xs : List X) → AllByRecursion P xs → AllByRecursion Q xs
all_mapped P Q f [] all = tt
all_mapped P Q f (x ∷ xs) all = (f x all.0, all_mapped P Q f xs all.1)

starts_no_token : (r : Record) (t : ℕ) (past steps : List Step) → AllByRecursion PlainStep steps → flat_map (λ p. tokens_started_by r t p.1) (with_past past steps) ≡ []
starts_no_token r t past [] all = refl
starts_no_token r t past (step.Did i x ∷ steps) all = ap₂ (λ a b. a ++ b) (none x.at x.op x.answer all.0) (starts_no_token r t (step.Did i x ∷ past) steps all.1)
  where
    none : (at k : ℕ) (a : Answer) → is_plain a ≡ true → tokens_started_by r t (step.Did i (record { at = at; op = k; answer = a })) ≡ []
    none at k answer.Started e = absurd (false≢true e)
    none at k _ e = refl
starts_no_token r t past (step.Called i x ∷ steps) all = starts_no_token r t (step.Called i x ∷ past) steps all.1
starts_no_token r t past (step.Ran i m ∷ steps) all = starts_no_token r t (step.Ran i m ∷ past) steps all.1

-- ---- The rule

module _ (r : Record) (app client owner : ThreadRecord) (end : DeviceEnd) (made : IsMadeOf r app client owner end) where
  abbrev s : Script
  s = r.script

  abbrev sends : List (ℕ × What)
  sends = sends_of_steps s 1 (own_order client)

  sends_fit : list_all is_send sends ≡ true
  sends_fit = all_send s made.clients made.ops [] (own_order client)

  app_ended : AppEnded app end
  app_ended = made.whole.app_ended

  client_ended : ClientEnded s client owner end
  client_ended = made.whole.client_ended

  owner_ended : OwnerEnded s client owner
  owner_ended = made.whole.owner_ended

  replies_back : (ks : List ℕ) → list_all is_back (map (λ k. what.Reply k) ks) ≡ true
  replies_back [] = refl
  replies_back (k ∷ ks) = replies_back ks

  pub client_back : AllByRecursion BackTag client.ran
  client_back = of_senders (λ t. is_back) 1 2 client.ran client_ended.senders
      (ap (list_all is_back) client_ended.of_itself ∙ kind_to 1 is_back back_send sends sends_fit)
      (ap (list_all is_back) client_ended.of_owner ∙ replies_back (requests_of owner.ran))

  pub owner_asked : AllByRecursion AskedTag owner.ran
  owner_asked = of_senders is_asked 0 1 owner.ran owner_ended.senders
      (ap (list_all (is_asked 0)) owner_ended.of_app)
      (ap (list_all (is_asked 1)) owner_ended.of_client ∙ kind_to 2 (is_asked 1) request_send sends sends_fit)

  owner_is : is_owner s 2 ≡ true
  owner_is = ap (λ n. nat_lt n 2) made.clients

  -- all that each sends
  app_sends : all_sent r 0 ≡ (2, what.Stop) ∷ []
  app_sends = ap₂ (λ steps stops. flat_map (λ p. sent_by r 0 p.0 p.1) (with_past [] steps) ++ map (λ d. (owner_of s d, what.Stop)) stops)
      (of_app r app client owner end made own_order ∙ app_order app end app_ended) (ap (λ n. range_with_len 0 n) made.images)
      ∙ ap (λ n. (n, what.Stop) ∷ []) (omega (arith, made.clients))

  client_sends : all_sent r 1 ≡ sends ++ (0, what.Done) ∷ []
  client_sends = ap₂ (λ a b. a ++ b)
      (ap (λ steps. flat_map (λ p. sent_by r 1 p.0 p.1) (with_past [] steps)) (of_client r app client owner end made own_order)
      ∙ steps_same r (client_is r app client owner end made) [] (own_order client) (client_plain r app client owner end made) (order_back client client_back))
      (ap (λ b. cond b ((0, what.Done) ∷ []) []) (client_is r app client owner end made))

  owner_sends : all_sent r 2 ≡ flat_map reply_to owner.ran
  owner_sends = ap₂ (λ a b. a ++ b)
      (ap (λ steps. flat_map (λ p. sent_by r 2 p.0 p.1) (with_past [] steps)) (of_owner r app client owner end made own_order ∙ owner_order s client owner owner_ended)
      ∙ owner_steps r owner_is [] 0 owner.ran owner_asked)
      (ap (λ b. cond b ((0, what.Done) ∷ []) []) (owner_is_none r app client owner end made))
      ∙ append-nil (flat_map reply_to owner.ran)

  false_from : (b : Bool) → (b ≡ true → ⊥) → b ≡ false
  false_from true no_way = absurd (no_way refl)
  false_from false no_way = refl

  others_send : (t : ℕ) → all_sent r (suc (suc (suc t))) ≡ []
  others_send t = ap₂ (λ a b. a ++ b)
      (ap (λ steps. flat_map (λ p. sent_by r (suc (suc (suc t))) p.0 p.1) (with_past [] steps)) (of_none r app client owner end made own_order t))
      (ap (λ b. cond b ((0, what.Done) ∷ []) (cond (suc (suc (suc t)) == 0) (map (λ d. (owner_of s d, what.Stop)) (images s)) []))
      (false_from (is_client s (suc (suc (suc t)))) (not_client r app client owner end made (suc t)))
      ∙ ap (λ b. cond b (map (λ d. (owner_of s d, what.Stop)) (images s)) []) (ne_eqb (suc (suc (suc t))) 0 (λ h. absurd (omega (arith, h)))))

  -- what each ran of each
  abbrev IsRun : ℕ → ThreadRecord → Type 0
  IsRun t x = (n : ℕ) → run_from n x.ran ≡ sent r n t

  app_run : IsRun 0 app
  app_run zero = ap (run_from 0) app_ended.ran ∙ sym (ap (to_thread 0) app_sends)
  app_run (suc zero) = ap (run_from 1) app_ended.ran ∙ sym (ap (to_thread 0) client_sends ∙ to_thread-append 0 sends ((0, what.Done) ∷ []) ∙ ap (λ l. l ++ what.Done ∷ []) (none_to 0 (λ h. absurd (omega (arith, h))) (λ h. absurd (omega (arith, h))) sends sends_fit))
  app_run (suc (suc zero)) = ap (run_from 2) app_ended.ran ∙ sym (ap (to_thread 0) owner_sends ∙ replies_other 0 (λ h. absurd (omega (arith, h))) owner.ran owner_asked)
  app_run (suc (suc (suc n))) = ap (run_from (suc (suc (suc n)))) app_ended.ran
      ∙ ap (λ b. map (λ (m : Tag). m.what) (cond b (record { sender = 1; number = 0; what = what.Done } ∷ []) [])) (ne_eqb 1 (suc (suc (suc n))) (λ h. absurd (omega (arith, h))))
      ∙ sym (ap (to_thread 0) (others_send n))

  client_run : IsRun 1 client
  client_run zero = none_from 0 1 2 (λ h. absurd (omega (arith, h))) (λ h. absurd (omega (arith, h))) client.ran client_ended.senders ∙ sym (ap (to_thread 1) app_sends)
  client_run (suc zero) = client_ended.of_itself ∙ sym (ap (to_thread 1) client_sends ∙ to_thread-append 1 sends ((0, what.Done) ∷ []) ∙ append-nil (to_thread 1 sends))
  client_run (suc (suc zero)) = client_ended.of_owner ∙ sym (ap (to_thread 1) owner_sends ∙ replies_sent owner.ran owner_asked)
  client_run (suc (suc (suc n))) = none_from (suc (suc (suc n))) 1 2 (λ h. absurd (omega (arith, h))) (λ h. absurd (omega (arith, h))) client.ran client_ended.senders ∙ sym (ap (to_thread 1) (others_send n))

  owner_run : IsRun 2 owner
  owner_run zero = owner_ended.of_app ∙ sym (ap (to_thread 2) app_sends)
  owner_run (suc zero) = owner_ended.of_client ∙ sym (ap (to_thread 2) client_sends ∙ to_thread-append 2 sends ((0, what.Done) ∷ []) ∙ append-nil (to_thread 2 sends))
  owner_run (suc (suc zero)) = none_from 2 0 1 (λ h. absurd (omega (arith, h))) (λ h. absurd (omega (arith, h))) owner.ran owner_ended.senders ∙ sym (ap (to_thread 2) owner_sends ∙ replies_other 2 (λ h. absurd (omega (arith, h))) owner.ran owner_asked)
  owner_run (suc (suc (suc n))) = none_from (suc (suc (suc n))) 0 1 (λ h. absurd (omega (arith, h))) (λ h. absurd (omega (arith, h))) owner.ran owner_ended.senders ∙ sym (ap (to_thread 2) (others_send n))

  run_is : (t : ℕ) (x : ThreadRecord) → ran_of r t ≡ x.ran → IsRun t x → (n : ℕ) → run_of r n t ≡ sent r n t
  run_is t x e all n = ap (run_from n) e ∙ all n

  no_tokens : tokens r ≡ []
  no_tokens = ap (λ n. flat_map (λ t. flat_map (λ p. tokens_started_by r t p.1) (history r t)) (range_with_len 1 n)) made.clients
      ∙ ap (λ l. l ++ []) (ap (λ steps. flat_map (λ p. tokens_started_by r 1 p.1) (with_past [] steps)) (of_client r app client owner end made own_order)
      ∙ starts_no_token r 1 [] (own_order client) (client_plain r app client owner end made))

  once : (t : ℕ) (x : ThreadRecord) → ran_of r t ≡ x.ran → AllByRecursion (λ (m : Tag). is_no_token m.what ≡ true) x.ran → IsTrue (list_all (λ p. is_first_run p.0 p.1) (with_past [] (ran_of r t)))
  once t x e all = ap (λ ran. list_all (λ p. is_first_run p.0 p.1) (with_past [] ran)) e ∙ runs_once [] x.ran all

  everywhere : (t : ℕ) → IsTrue (list_all (λ w. not (must_run s w t) || has_run r w t) (tokens r))
  everywhere t = ap (list_all (λ w. not (must_run s w t) || has_run r w t)) no_tokens

  pub ran_is_sent : RanIsSent r
  ran_is_sent = record {
    all = each r app client owner end made (λ t. (n : ℕ) → run_of r n t ≡ sent r n t)
        (run_is 0 app (of_app r app client owner end made (λ x. x.ran)) app_run)
        (run_is 1 client (of_client r app client owner end made (λ x. x.ran)) client_run)
        (run_is 2 owner (of_owner r app client owner end made (λ x. x.ran)) owner_run);
    once = each r app client owner end made (λ t. IsTrue (list_all (λ p. is_first_run p.0 p.1) (with_past [] (ran_of r t))))
        (once 0 app (of_app r app client owner end made (λ x. x.ran)) (subst (λ ran. AllByRecursion (λ (m : Tag). is_no_token m.what ≡ true) ran) (sym app_ended.ran) (refl, tt)))
        (once 1 client (of_client r app client owner end made (λ x. x.ran)) (all_mapped BackTag (λ m. is_no_token m.what ≡ true) (λ m e. back_no_token m.what e) client.ran client_back))
        (once 2 owner (of_owner r app client owner end made (λ x. x.ran)) (all_mapped AskedTag (λ m. is_no_token m.what ≡ true) (λ m e. asked_no_token m.sender m.what e) owner.ran owner_asked));
    everywhere = λ t less. everywhere t;
  }
