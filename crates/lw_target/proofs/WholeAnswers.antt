-- The answers of a whole run: those of the client are the ones that its ops allow, and those of the app come after the client's `done`.
use Rattle.std.proofs.Common.{ℕ, zero, suc, ◌≡◌, ◌+◌, ◌≤◌, nat_lt, Bool, true, false, cond, not, ◌&&◌, List, [], ◌∷◌, map, length, Option, Some, None, slice_get, refl, sym, ap, ap₂, subst, ◌∙◌, arith, IsTrue}
use Rattle.std.specs.List.{AllByRecursion, list_all, list_any, range_with_len}
use Rattle.std.proofs.lemmas.Bool.{and_parts, and_from, or_left, not_from_false}
use Rattle.lw_base.specs.declared.message.Tag.{Tag}
use Rattle.lw_base.specs.declared.message.What.TheVariants as what
use Rattle.lw_model.specs.declared.script.Script.{Script}
use Rattle.lw_model.specs.declared.script.Op.{Op}
use Rattle.lw_model.specs.declared.script.Op.TheVariants as op
use Rattle.lw_model.specs.declared.record.Record.{Record}
use Rattle.lw_model.specs.declared.record.ThreadRecord.{ThreadRecord}
use Rattle.lw_base.specs.declared.ends.DeviceEnd.{DeviceEnd}
use Rattle.lw_base.proofs.Lists.{all_first}
use Rattle.lw_model.specs.declared.record.Did.{Did}
use Rattle.lw_model.specs.declared.record.Called.{Called}
use Rattle.lw_model.specs.declared.record.Answer.{Answer}
use Rattle.lw_model.specs.declared.record.Answer.TheVariants as answer
use Rattle.lw_model.specs.declared.step.Step.{Step}
use Rattle.lw_model.specs.declared.step.Step.TheVariants as step
use Rattle.lw_model.specs.Threads.{is_client, clients, ops_of, op_at, did_of, ran_of}
use Rattle.lw_model.specs.OwnOrder.{own_order, with_past, history}
use Rattle.lw_model.specs.Holding.{is_closed, is_started}
use Rattle.lw_model.specs.Answers.{Answers, answer_fits, get_fits, put_fits, request_fits, step_fits, client_did_fits, earlier_completed, is_completed, is_done_of, wanted, at_fits, ats_fit, did_ats, called_ats, called_of}
use Rattle.lw_target.specs.Ops.{is_servable}
use Rattle.lw_target.specs.ClientLog.{line_fits}
use Rattle.lw_target.specs.WholeRun.{AppEnded, ClientEnded, OwnerEnded}
use Rattle.lw_target.proofs.WholeParts.{IsMadeOf, each, client_is, owner_is_none, of_app, of_client, of_owner, app_steps, app_order, ran_steps, owner_order, of_in_order, of_dids}

-- ---- The answers that a client of these ops lists

-- an answer that starts nothing, waits for nothing and unregisters nothing
abbrev pub is_plain : Answer → Bool
is_plain answer.Waited = false
is_plain answer.Started = false
is_plain (answer.Began n) = false
is_plain answer.Already = false
is_plain _ = true

closed_plain : (a : Answer) → is_closed a ≡ true → is_plain a ≡ true
closed_plain answer.Waited e = let wrong : false ≡ true = e in cc
closed_plain answer.Started e = let wrong : false ≡ true = e in cc
closed_plain (answer.Began n) e = let wrong : false ≡ true = e in cc
closed_plain answer.Already e = let wrong : false ≡ true = e in cc
closed_plain _ e = refl

get_plain : (o : Option ℕ) (a : Answer) → get_fits o a ≡ true → is_plain a ≡ true
get_plain None answer.Waited e = let wrong : false ≡ true = e in cc
get_plain None answer.Started e = let wrong : false ≡ true = e in cc
get_plain None (answer.Began n) e = let wrong : false ≡ true = e in cc
get_plain None answer.Already e = let wrong : false ≡ true = e in cc
get_plain (Some x) answer.Waited e = let wrong : false ≡ true = e in cc
get_plain (Some x) answer.Started e = let wrong : false ≡ true = e in cc
get_plain (Some x) (answer.Began n) e = let wrong : false ≡ true = e in cc
get_plain (Some x) answer.Already e = let wrong : false ≡ true = e in cc
get_plain _ _ e = refl

put_plain : (n : ℕ) (a : Answer) → put_fits n a ≡ true → is_plain a ≡ true
put_plain n answer.Waited e = let wrong : false ≡ true = e in cc
put_plain n answer.Started e = let wrong : false ≡ true = e in cc
put_plain n (answer.Began k) e = let wrong : false ≡ true = e in cc
put_plain n answer.Already e = let wrong : false ≡ true = e in cc
put_plain n _ e = refl

request_plain : (n : ℕ) (a : Answer) → request_fits n a ≡ true → is_plain a ≡ true
request_plain n answer.Waited e = let wrong : false ≡ true = e in cc
request_plain n answer.Started e = let wrong : false ≡ true = e in cc
request_plain n (answer.Began k) e = let wrong : false ≡ true = e in cc
request_plain n answer.Already e = let wrong : false ≡ true = e in cc
request_plain n _ e = refl

-- the op of a place, where there is one, is one that the client can do
abbrev pub MayServe : Option Op → Type 0
MayServe None = Unit {0}
MayServe (Some o) = is_servable 1 o ≡ true

pub may_serve : (ops : List Op) (k : ℕ) → list_all (is_servable 1) ops ≡ true → MayServe (slice_get ops k)
may_serve [] k e = tt
may_serve (o ∷ ops) zero e = (and_parts (is_servable 1 o) (list_all (is_servable 1) ops) e).0
may_serve (o ∷ ops) (suc k) e = may_serve ops k (and_parts (is_servable 1 o) (list_all (is_servable 1) ops) e).1

fit_plain : (s : Script) (past : List Step) (o : Option Op) (a : Answer) → MayServe o → answer_fits s 1 past o a ≡ true → is_plain a ≡ true
fit_plain s past None a may e = closed_plain a (and_parts _ _ e).0
fit_plain s past (Some (op.Get d)) a may e = get_plain _ a e
fit_plain s past (Some (op.Put d)) a may e = put_plain _ a (and_parts _ _ e).0
fit_plain s past (Some (op.Write d start count pattern)) a may e = request_plain _ a e
fit_plain s past (Some (op.Read d start count)) a may e = request_plain _ a e
fit_plain s past (Some (op.Flush d)) a may e = let wrong : false ≡ true = may in cc
fit_plain s past (Some (op.Wait d)) a may e = let wrong : false ≡ true = may in cc
fit_plain s past (Some (op.Visit d)) a may e = let wrong : false ≡ true = may in cc
fit_plain s past (Some op.Each) a may e = let wrong : false ≡ true = may in cc
fit_plain s past (Some (op.Unregister d)) a may e = let wrong : false ≡ true = may in cc

-- a step whose answer, if it has one, is plain
abbrev pub PlainStep : Step → Type 0
PlainStep s = elim s [ step.Did i x ↦ is_plain x.answer ≡ true | _ ↦ Unit {0} ]

pub steps_plain : (s : Script) → list_all (is_servable 1) (ops_of s 1) ≡ true → (past steps : List Step)
    → list_all (λ p. line_fits s 1 p.0 p.1) (with_past past steps) ≡ true → AllByRecursion PlainStep steps
steps_plain s ops past [] e = tt
steps_plain s ops past (step.Did i x ∷ steps) e =
    let both = and_parts (line_fits s 1 past (step.Did i x)) _ e in
    let fits = (and_parts _ _ (and_parts _ _ both.0).0).0 in (
      fit_plain s past (op_at s 1 i) x.answer (may_serve (ops_of s 1) i ops) (and_parts _ _ fits).1,
      steps_plain s ops (step.Did i x ∷ past) steps both.1,
    )
steps_plain s ops past (step.Called i x ∷ steps) e = (tt, steps_plain s ops (step.Called i x ∷ past) steps (and_parts true _ e).1)
steps_plain s ops past (step.Ran i m ∷ steps) e = (tt, steps_plain s ops (step.Ran i m ∷ past) steps (and_parts true _ e).1)

pub not_started : (a : Answer) → is_plain a ≡ true → is_started a ≡ false
not_started answer.Started e = let wrong : false ≡ true = e in cc
not_started _ e = refl

-- ---- The rule

abbrev StartsNone : List Did → Type 0
StartsNone xs = AllByRecursion (λ (x : Did). is_plain x.answer ≡ true) xs

plain_at : (xs : List Did) (i : ℕ) (x : Did) → StartsNone xs → slice_get xs i ≡ Some x → is_plain x.answer ≡ true
plain_at [] i x all e = cc
plain_at (y ∷ xs) zero x all e = subst (λ (z : Did). is_plain z.answer ≡ true) (same e) all.0
  where
    same : Some y ≡ Some x → y ≡ x
    same e = cc
plain_at (y ∷ xs) (suc i) x all e = plain_at xs i x all.1 e

earlier : (r : Record) (past : List Step) (i : ℕ) → StartsNone (did_of r 1) → earlier_completed r 1 past i ≡ true
earlier r past zero all = refl
earlier r past (suc i) all = at (slice_get (did_of r 1) i) refl
  where
    at : (o : Option Did) → slice_get (did_of r 1) i ≡ o → elim o [ None ↦ true | Some x ↦ is_completed r.script 1 past i x ] ≡ true
    at None e = refl
    at (Some x) e = or_left (not (is_started x.answer)) _ (not_from_false (is_started x.answer) (not_started x.answer (plain_at (did_of r 1) i x all e)))

client_line : (r : Record) → is_client r.script 1 ≡ true → StartsNone (did_of r 1) → (past : List Step) (s : Step) → line_fits r.script 1 past s ≡ true → step_fits r 1 past s ≡ true
client_line r client none past (step.Did i x) e =
    and_from (is_client r.script 1) (client_did_fits r 1 past i x) client
    (and_from _ (earlier_completed r 1 past i) (and_parts _ _ e).0 (earlier r past i none))
client_line r client none past (step.Called i x) e = refl
client_line r client none past (step.Ran i m) e = refl

client_lines : (r : Record) → is_client r.script 1 ≡ true → StartsNone (did_of r 1) → (past steps : List Step)
    → list_all (λ p. line_fits r.script 1 p.0 p.1) (with_past past steps) ≡ true → list_all (λ p. step_fits r 1 p.0 p.1) (with_past past steps) ≡ true
client_lines r client none past [] e = refl
client_lines r client none past (s ∷ steps) e =
    let both = and_parts (line_fits r.script 1 past s) _ e in
    and_from (step_fits r 1 past s) _ (client_line r client none past s both.0) (client_lines r client none (s ∷ past) steps both.1)

owner_lines : (r : Record) (past : List Step) (n : ℕ) (ran : List Tag) → list_all (λ p. step_fits r 2 p.0 p.1) (with_past past (ran_steps n ran)) ≡ true
owner_lines r past n [] = refl
owner_lines r past n (m ∷ ran) = owner_lines r (step.Ran n m ∷ past) (n + 1) ran

module _ (r : Record) (app client owner : ThreadRecord) (end : DeviceEnd) (made : IsMadeOf r app client owner end) where
  abbrev s : Script
  s = r.script

  pub client_plain : AllByRecursion PlainStep (own_order client)
  client_plain = steps_plain s made.ops [] (own_order client) made.whole.client_ended.lines

  starts_none : StartsNone (did_of r 1)
  starts_none = subst StartsNone (sym (of_client r app client owner end made (λ x. x.did)))
      (of_dids (λ x. is_plain x.answer ≡ true) 0 client.did (all_first PlainStep _ _ (all_first PlainStep _ _ (of_in_order PlainStep _ client_plain))))

  abbrev ascend : List Tag → List ℕ → Bool
  ascend ran ats = list_all (λ p. at_fits (length ran) p.0 p.1) (with_past [] ats)

  did_order : (t : ℕ) (x : ThreadRecord) → ran_of r t ≡ x.ran → did_of r t ≡ x.did → ascend x.ran (map (λ d. d.at) x.did) ≡ true → ats_fit r t (did_ats r t) ≡ true
  did_order t x e f h = ap₂ (λ (ran : List Tag) (dids : List Did). ascend ran (map (λ d. d.at) dids)) e f ∙ h

  called_order : (t : ℕ) (x : ThreadRecord) → ran_of r t ≡ x.ran → called_of r t ≡ x.called → ascend x.ran (map (λ d. d.at) x.called) ≡ true → ats_fit r t (called_ats r t) ≡ true
  called_order t x e f h = ap₂ (λ (ran : List Tag) (calls : List Called). ascend ran (map (λ d. d.at) calls)) e f ∙ h

  app_ended : AppEnded app end
  app_ended = made.whole.app_ended

  client_ended : ClientEnded s client owner end
  client_ended = made.whole.client_ended

  owner_ended : OwnerEnded s client owner
  owner_ended = made.whole.owner_ended

  app_dids : ascend app.ran (map (λ d. d.at) app.did) ≡ true
  app_dids = ap₂ (λ (ran : List Tag) (dids : List Did). ascend ran (map (λ d. d.at) dids)) app_ended.ran app_ended.did

  app_calls : ascend app.ran (map (λ d. d.at) app.called) ≡ true
  app_calls = ap₂ (λ (ran : List Tag) (calls : List Called). ascend ran (map (λ d. d.at) calls)) app_ended.ran app_ended.called

  abbrev the_done : Step
  the_done = step.Ran 0 (record { sender = 1; number = 0; what = what.Done })

  app_done : list_all (λ c. list_any (is_done_of c) (the_done ∷ [])) (clients s) ≡ true
  app_done = ap (λ n. list_all (λ c. list_any (is_done_of c) (the_done ∷ [])) (range_with_len 1 n)) made.clients

  app_lines : list_all (λ p. step_fits r 0 p.0 p.1) (with_past [] (app_steps end)) ≡ true
  app_lines = and_from _ true (and_from _ _ (ap (λ n. nat_lt 0 n && true) made.images) app_done) refl

  pub answers : Answers r
  answers = record {
    count = each r app client owner end made (λ t. wanted r t ≤ length (did_of r t))
        (omega (arith, made.images, ap length (of_app r app client owner end made (λ x. x.did)), ap length app_ended.did))
        (subst (λ b. cond b (length (ops_of s 1) + 1) 0 ≤ length (did_of r 1)) (sym (client_is r app client owner end made))
        (omega (arith, client_ended.count, ap length (of_client r app client owner end made (λ x. x.did)))))
        (subst (λ b. cond b (length (ops_of s 2) + 1) 0 ≤ length (did_of r 2)) (sym (owner_is_none r app client owner end made)) (omega arith));
    did_order = each r app client owner end made (λ t. IsTrue (ats_fit r t (did_ats r t)))
        (did_order 0 app (of_app r app client owner end made (λ x. x.ran)) (of_app r app client owner end made (λ x. x.did)) app_dids)
        (did_order 1 client (of_client r app client owner end made (λ x. x.ran)) (of_client r app client owner end made (λ x. x.did)) client_ended.ats)
        (did_order 2 owner (of_owner r app client owner end made (λ x. x.ran)) (of_owner r app client owner end made (λ x. x.did))
        (ap (λ (dids : List Did). ascend owner.ran (map (λ d. d.at) dids)) owner_ended.did));
    called_order = each r app client owner end made (λ t. IsTrue (ats_fit r t (called_ats r t)))
        (called_order 0 app (of_app r app client owner end made (λ x. x.ran)) (of_app r app client owner end made (λ x. x.called)) app_calls)
        (called_order 1 client (of_client r app client owner end made (λ x. x.ran)) (of_client r app client owner end made (λ x. x.called))
        (ap (λ (calls : List Called). ascend client.ran (map (λ d. d.at) calls)) client_ended.called))
        (called_order 2 owner (of_owner r app client owner end made (λ x. x.ran)) (of_owner r app client owner end made (λ x. x.called))
        (ap (λ (calls : List Called). ascend owner.ran (map (λ d. d.at) calls)) owner_ended.called));
    lines = each r app client owner end made (λ t. IsTrue (list_all (λ p. step_fits r t p.0 p.1) (history r t)))
        (subst (λ steps. list_all (λ p. step_fits r 0 p.0 p.1) (with_past [] steps) ≡ true) (sym (of_app r app client owner end made own_order ∙ app_order app end app_ended)) app_lines)
        (subst (λ steps. list_all (λ p. step_fits r 1 p.0 p.1) (with_past [] steps) ≡ true) (sym (of_client r app client owner end made own_order))
        (client_lines r (client_is r app client owner end made) starts_none [] (own_order client) client_ended.lines))
        (subst (λ steps. list_all (λ p. step_fits r 2 p.0 p.1) (with_past [] steps) ≡ true) (sym (of_owner r app client owner end made own_order ∙ owner_order s client owner owner_ended))
        (owner_lines r [] 0 owner.ran));
  }
