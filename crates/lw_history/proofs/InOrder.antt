-- The steps of a history's log are those of the history, in their order.
use Rattle.std.proofs.Common.{◌≡◌, ℕ, ◌≤◌, Bool, true, false, ◌&&◌, List, [], ◌∷◌, ◌++◌, map, reverse, length, refl, sym, ap, subst, ◌∙◌, arith}
use Rattle.std.specs.List.{list_all, AllByRecursion}
use Rattle.std.proofs.lemmas.Bool.{and_from, false≢true}
use Rattle.std.proofs.lemmas.List.{append-nil, length-append, length-map, map-append, reverse-reverse}
use Rattle.std.proofs.lemmas.List.Folds.{list_all-append}
use Rattle.lw_base.proofs.Lists.{reverse_cons}
use Rattle.lw_model.specs.declared.script.Script.{Script}
use Rattle.lw_model.specs.declared.step.Step.{Step}
use Rattle.lw_model.specs.declared.step.Step.TheVariants as step
use Rattle.lw_model.specs.declared.record.ThreadRecord.{ThreadRecord}
use Rattle.lw_model.specs.declared.record.RoleKind.TheVariants as role
use Rattle.lw_model.specs.declared.record.Did.{Did}
use Rattle.lw_model.specs.OwnOrder.{own_order, with_past}
use Rattle.lw_model.specs.Threads.{is_client}
use Rattle.lw_model.specs.Sent.{sent_last}
use Rattle.lw_model.proofs.Growth.{with_past_push, own_order-run, own_order-list, all-append}
use Rattle.lw_whole.specs.Letters.{Letter}
use Rattle.lw_whole.specs.Logs.{addressed}
use Rattle.lw_whole.specs.Sends.{SentByDid}
use Rattle.lw_history.specs.Histories.{Event, ran, did, called, ended, runs_of, dids_of, past_of}
use Rattle.lw_history.specs.Fitting.{SentByRun, CallbackFits, LineStands, ClientFits, AppFits, EachFits}
use Rattle.lw_history.proofs.SentLogs.{each_fits_as}

-- ---- what a client's events and the app's have in common

-- what a line sends: those of clients alone send
abbrev pub SentByLine : Script → ℕ → List Step → Did → List (ℕ × Letter) → Type 0
SentByLine s t past x now = elim (is_client s t) [ true ↦ SentByDid s t past x now | false ↦ now ≡ [] ]

pub record BothLine (s : Script) (t : ℕ) (before : List Event) (x : Did) (now : List (ℕ × Letter)) : Type 0 where
  pub stands : LineStands s t before x
  pub sent : SentByLine s t (past_of before) x now

abbrev pub BothFits : Script → ℕ → List Event → Event → Type 0
BothFits s t before (ran x now) = SentByRun s t (past_of before) x now
BothFits s t before (did x now) = BothLine s t before x now
BothFits s t before (called x) = CallbackFits s t before x
BothFits s t before (ended now) = addressed now ≡ sent_last s t

sent_by_client : (s : Script) (t : ℕ) (past : List Step) (x : Did) (now : List (ℕ × Letter)) → is_client s t ≡ true → SentByDid s t past x now → SentByLine s t past x now
sent_by_client s t past x now is h = at (is_client s t) is
  where
    As : Bool → Type 0
    As b = elim b [ true ↦ SentByDid s t past x now | false ↦ now ≡ [] ]

    at : (b : Bool) → b ≡ true → As b
    at true e = h
    at false e = absurd (false≢true e)

pub client_fits_both : (s : Script) (t : ℕ) → is_client s t ≡ true → (h : List Event) → EachFits (ClientFits s t) h → EachFits (BothFits s t) h
client_fits_both s t is = each_fits_as each
  where
    each : (before : List Event) (e : Event) → ClientFits s t before e → BothFits s t before e
    each before (ran x now) h = h.sent
    each before (did x now) h = record { stands = h.stands; sent = sent_by_client s t (past_of before) x now is h.sent }
    each before (called x) h = h
    each before (ended now) h = h

pub app_fits_both : (s : Script) (h : List Event) → EachFits (AppFits s) h → EachFits (BothFits s 0) h
app_fits_both s = each_fits_as each
  where
    each : (before : List Event) (e : Event) → AppFits s before e → BothFits s 0 before e
    each before (ran x now) h = h.sent
    each before (did x now) h = record { stands = h.stands; sent = h.sent }
    each before (called x) h = h
    each before (ended now) h = h

-- ---- its steps, in own order

-- the lines that own order goes by
abbrev pub lines_of : List Event → ThreadRecord
lines_of h = record { role = role.App; home = 0; hops = []; ran = map (λ x. x.tag) (runs_of h); did = dids_of h; called = []; replies = []; seen = [] }

all_at_most : (m n : ℕ) (xs : List Did) → m ≤ n → AllByRecursion (λ x. x.at ≤ m) xs → AllByRecursion (λ x. x.at ≤ n) xs
all_at_most m n [] le h = tt
all_at_most m n (x ∷ xs) le h = (omega (arith, le, h.0), all_at_most m n xs le h.1)

module _ (s : Script) (t : ℕ) where
  pub none_later : (h : List Event) → EachFits (BothFits s t) h → AllByRecursion (λ x. x.at ≤ length (runs_of h)) (dids_of h)
  none_later [] fits = tt
  none_later (ran x now ∷ before) fits = all_at_most (length (runs_of before)) (length (runs_of before ++ x ∷ [])) (dids_of before) (omega (arith, length-append (runs_of before) (x ∷ []))) (none_later before fits.1)
  none_later (did x now ∷ before) fits = all-append (λ (y : Did). y.at ≤ length (runs_of before)) (dids_of before) (x ∷ []) (none_later before fits.1) (omega (arith, fits.0.stands.at), tt)
  none_later (called x ∷ before) fits = none_later before fits.1
  none_later (ended now ∷ before) fits = none_later before fits.1

  tag_count : (h : List Event) → length (lines_of h).ran ≡ length (runs_of h)
  tag_count h = length-map (runs_of h) (λ (y : Letter). y.tag)

  pub steps_in_order : (h : List Event) → EachFits (BothFits s t) h → own_order (lines_of h) ≡ reverse (past_of h)
  steps_in_order [] fits = refl
  steps_in_order (ran x now ∷ before) fits =
      let l : ThreadRecord = lines_of before in
      ap (λ ms. own_order (record l { ran = ms })) (map-append (λ (y : Letter). y.tag) (runs_of before) (x ∷ []))
      ∙ own_order-run l x.tag (record { did = subst (λ n. AllByRecursion (λ (y : Did). y.at ≤ n) (dids_of before)) (sym (tag_count before)) (none_later before fits.1); called = tt })
      ∙ ap (λ k. own_order l ++ step.Ran k x.tag ∷ []) (tag_count before)
      ∙ ap (λ q. q ++ step.Ran (length (runs_of before)) x.tag ∷ []) (steps_in_order before fits.1)
      ∙ sym (reverse_cons (step.Ran (length (runs_of before)) x.tag) (past_of before))
  steps_in_order (did x now ∷ before) fits =
      let l : ThreadRecord = lines_of before in
      own_order-list l x (fits.0.stands.at ∙ sym (tag_count before)) (subst (λ n. AllByRecursion (λ (y : Did). y.at ≤ n) (dids_of before)) (sym fits.0.stands.at) (none_later before fits.1)) tt
      ∙ ap (λ q. q ++ step.Did (length (dids_of before)) x ∷ []) (steps_in_order before fits.1)
      ∙ sym (reverse_cons (step.Did (length (dids_of before)) x) (past_of before))
  steps_in_order (called x ∷ before) fits = steps_in_order before fits.1
  steps_in_order (ended now ∷ before) fits = steps_in_order before fits.1

-- ---- each with those before it

pub with_past_more : (y : Step) (past : List Step) → with_past [] (reverse (y ∷ past)) ≡ with_past [] (reverse past) ++ (past, y) ∷ []
with_past_more y past =
    ap (with_past []) (reverse_cons y past) ∙ with_past_push [] (reverse past) y ∙ ap (λ q. with_past [] (reverse past) ++ (q, y) ∷ []) (append-nil (reverse (reverse past)) ∙ reverse-reverse past)

-- each of these steps, the latest first, passes behind those before it
abbrev pub Along : (List Step → Step → Bool) → List Step → Type 0
Along p [] = Unit {0}
Along p (x ∷ past) = (p past x ≡ true) × Along p past

pub all_along : (p : List Step → Step → Bool) (past : List Step) → Along p past → list_all (λ q. p q.0 q.1) (with_past [] (reverse past)) ≡ true
all_along p [] h = refl
all_along p (x ∷ past) h =
    ap (list_all (λ q. p q.0 q.1)) (with_past_more x past)
    ∙ list_all-append (λ q. p q.0 q.1) (with_past [] (reverse past)) ((past, x) ∷ [])
    ∙ and_from (list_all (λ q. p q.0 q.1) (with_past [] (reverse past))) (p past x && true) (all_along p past h.1) (and_from (p past x) true h.0 refl)
