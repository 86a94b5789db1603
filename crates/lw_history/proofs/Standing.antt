-- Where the callbacks of a history stand among its steps, and that what needs a device open stands before what told that it is shut.
use Rattle.std.proofs.Common.{◌≡◌, ℕ, ◌+◌, ◌≤◌, nat_lt, nat_le, Bool, true, false, ◌&&◌, ◌||◌, List, [], ◌∷◌, ◌++◌, reverse, length, take, drop, zip, refl, sym, ap, ap₂, subst, ◌∙◌, append_assoc, arith}
use Rattle.std.specs.Prelude.{is_none, IsTrue}
use Rattle.std.specs.List.{list_all, list_any, AllByRecursion}
use Rattle.std.proofs.lemmas.Bool.{and_parts, and_from, le-leb, lt-ltb}
use Rattle.std.proofs.lemmas.List.{length-append, length-reverse, reverse-reverse}
use Rattle.std.proofs.lemmas.List.Folds.{list_all-append, list_any-append}
use Rattle.std.proofs.Math.Seq.{take-append_seam, drop-append_seam}
use Rattle.lw_base.proofs.Lists.{reverse_cons}
use Rattle.lw_model.specs.declared.script.Script.{Script}
use Rattle.lw_model.specs.declared.record.Called.{Called}
use Rattle.lw_model.specs.declared.step.Step.{Step}
use Rattle.lw_model.specs.declared.step.Step.TheVariants as step
use Rattle.lw_model.specs.Threads.{is_on, images}
use Rattle.lw_model.specs.OwnOrder.{at_of, with_past}
use Rattle.lw_model.specs.Holding.{says, held}
use Rattle.lw_model.specs.Devices.{is_began}
use Rattle.lw_whole.specs.Logs.{Log, steps}
use Rattle.lw_whole.specs.Lines.{made_before, made_behind, stays_shut, callback_stood}
use Rattle.lw_history.specs.Histories.{Event, ran, did, called, ended, runs_of, dids_of, calls_of, past_of, stood_of}
use Rattle.lw_history.specs.Fitting.{CallbackFits, EachFits}
use Rattle.lw_history.proofs.SentLogs.{each_fits_as}
use Rattle.lw_history.proofs.InOrder.{BothFits, Along, all_along}

-- ---- lists read backwards

pub any_reverse : {X : Type 0} (p : X → Bool) (xs : List X) → list_any p (reverse xs) ≡ list_any p xs
any_reverse p [] = refl
any_reverse p (x ∷ xs) = ap (list_any p) (reverse_cons x xs) ∙ list_any-append p (reverse xs) (x ∷ []) ∙ ap (λ b. b || (p x || false)) (any_reverse p xs) ∙ either (list_any p xs) (p x)
  where
    either : (a b : Bool) → (a || (b || false)) ≡ (b || a)
    either true true = refl
    either true false = refl
    either false true = refl
    either false false = refl

all_reverse : {X : Type 0} (p : X → Bool) (xs : List X) → list_all p xs ≡ true → list_all p (reverse xs) ≡ true
all_reverse p [] e = refl
all_reverse p (x ∷ xs) e =
    let both = and_parts (p x) (list_all p xs) e in
    ap (list_all p) (reverse_cons x xs) ∙ list_all-append p (reverse xs) (x ∷ []) ∙ and_from (list_all p (reverse xs)) (p x && true) (all_reverse p xs both.1) (and_from (p x) true both.0 refl)

zip_push : (xs : List ℕ) (ys : List Called) (x : ℕ) (y : Called) → length xs ≡ length ys → zip (xs ++ x ∷ []) (ys ++ y ∷ []) ≡ zip xs ys ++ (x, y) ∷ []
zip_push [] [] x y e = refl
zip_push [] (b ∷ ys) x y e = absurd (omega (arith, e))
zip_push (a ∷ xs) [] x y e = absurd (omega (arith, e))
zip_push (a ∷ xs) (b ∷ ys) x y e = ap (λ l. (a, b) ∷ l) (zip_push xs ys x y (omega (arith, e)))

pub stood_count : (h : List Event) → length (stood_of h) ≡ length (calls_of h)
stood_count [] = refl
stood_count (ran x now ∷ before) = stood_count before
stood_count (did x now ∷ before) = stood_count before
stood_count (called x ∷ before) = omega (arith, stood_count before, length-append (stood_of before) (length (past_of before) ∷ []), length-append (calls_of before) (x ∷ []))
stood_count (ended now ∷ before) = stood_count before

-- ---- callbacks

module _ (s : Script) (t : ℕ) where
  -- the steps of a history were made before a callback that comes when no fewer messages have been run
  made_first : (h : List Event) (a : ℕ) → length (runs_of h) ≤ a → EachFits (BothFits s t) h → list_all (made_before a) (past_of h) ≡ true
  made_first [] a le fits = refl
  made_first (ran x now ∷ before) a le fits =
      let less : length (runs_of before) + 1 ≤ a = omega (arith, le, length-append (runs_of before) (x ∷ [])) in
      and_from (nat_lt (length (runs_of before)) a) (list_all (made_before a) (past_of before)) (lt-ltb (length (runs_of before)) a (omega (arith, less))) (made_first before a (omega (arith, less)) fits.1)
  made_first (did x now ∷ before) a le fits = and_from (nat_le x.at a) (list_all (made_before a) (past_of before)) (le-leb x.at a (omega (arith, le, fits.0.stands.at))) (made_first before a le fits.1)
  made_first (called x ∷ before) a le fits = made_first before a le fits.1
  made_first (ended now ∷ before) a le fits = made_first before a le fits.1

  made_then : (a : ℕ) (later : List Step) → AllByRecursion (λ y. a ≤ at_of y) later → list_all (made_behind a) later ≡ true
  made_then a [] h = refl
  made_then a (step.Did i x ∷ later) h = and_from (nat_le a x.at) (list_all (made_behind a) later) (le-leb a x.at h.0) (made_then a later h.1)
  made_then a (step.Called i x ∷ later) h = made_then a later h.1
  made_then a (step.Ran i m ∷ later) h = and_from (nat_le a i) (list_all (made_behind a) later) (le-leb a i h.0) (made_then a later h.1)

  later_less : (a b : ℕ) (later : List Step) → a ≤ b → AllByRecursion (λ y. b ≤ at_of y) later → AllByRecursion (λ y. a ≤ at_of y) later
  later_less a b [] le h = tt
  later_less a b (y ∷ later) le h = (omega (arith, le, h.0), later_less a b later le h.1)

  module _ (l : Log) where
    stood_here : (before : List Event) (x : Called) (later : List Step) → steps l ≡ reverse (past_of before) ++ later → AllByRecursion (λ y. length (runs_of before) ≤ at_of y) later
        → CallbackFits s t before x → EachFits (BothFits s t) before → callback_stood s t l (length (past_of before)) x ≡ true
    stood_here before x later e behind call fits =
        let past = past_of before in
        let first : take (length past) (steps l) ≡ reverse past = ap₂ (λ n xs. take n xs) (sym (length-reverse past)) e ∙ take-append_seam (reverse past) later in
        let rest : drop (length past) (steps l) ≡ later = ap₂ (λ n xs. drop n xs) (sym (length-reverse past)) e ∙ drop-append_seam (reverse past) later in
        let made : list_all (made_before x.at) (take (length past) (steps l)) ≡ true = ap (list_all (made_before x.at)) first ∙ all_reverse (made_before x.at) past (made_first before x.at (omega (arith, call.at)) fits) in
        let then' : list_all (made_behind x.at) (drop (length past) (steps l)) ≡ true = ap (list_all (made_behind x.at)) rest ∙ made_then x.at later (subst (λ n. AllByRecursion (λ y. n ≤ at_of y) later) (sym call.at) behind) in
        let began : list_any (says (is_on s t x.device) is_began) (take (length past) (steps l)) ≡ true = ap (list_any (says (is_on s t x.device) is_began)) first ∙ any_reverse (says (is_on s t x.device) is_began) past ∙ call.began in
        let none : is_none (held (is_on s t x.device) x.device (reverse (take (length past) (steps l)))) ≡ true = ap (λ xs. is_none (held (is_on s t x.device) x.device xs)) (ap reverse first ∙ reverse-reverse past) ∙ call.none_held in
        and_from (list_all (made_before x.at) (take (length past) (steps l)) && list_all (made_behind x.at) (drop (length past) (steps l)) && list_any (says (is_on s t x.device) is_began) (take (length past) (steps l)))
        (is_none (held (is_on s t x.device) x.device (reverse (take (length past) (steps l)))))
        (and_from (list_all (made_before x.at) (take (length past) (steps l)) && list_all (made_behind x.at) (drop (length past) (steps l))) (list_any (says (is_on s t x.device) is_began) (take (length past) (steps l)))
        (and_from (list_all (made_before x.at) (take (length past) (steps l))) (list_all (made_behind x.at) (drop (length past) (steps l))) made then') began)
        none

    pub calls_stood : (h : List Event) (later : List Step) → steps l ≡ reverse (past_of h) ++ later → AllByRecursion (λ y. length (runs_of h) ≤ at_of y) later → EachFits (BothFits s t) h
        → list_all (λ p. callback_stood s t l p.0 p.1) (zip (stood_of h) (calls_of h)) ≡ true
    calls_stood [] later e behind fits = refl
    calls_stood (ran x now ∷ before) later e behind fits =
        let y : Step = step.Ran (length (runs_of before)) x.tag in
        calls_stood before (y ∷ later) (e ∙ ap (λ xs. xs ++ later) (reverse_cons y (past_of before)) ∙ append_assoc (reverse (past_of before)) (y ∷ []) later)
        (omega arith, later_less (length (runs_of before)) (length (runs_of before ++ x ∷ [])) later (omega (arith, length-append (runs_of before) (x ∷ []))) behind) fits.1
    calls_stood (did x now ∷ before) later e behind fits =
        let y : Step = step.Did (length (dids_of before)) x in
        calls_stood before (y ∷ later) (e ∙ ap (λ xs. xs ++ later) (reverse_cons y (past_of before)) ∙ append_assoc (reverse (past_of before)) (y ∷ []) later)
        (omega (arith, fits.0.stands.at), behind) fits.1
    calls_stood (called x ∷ before) later e behind fits =
        ap (list_all (λ p. callback_stood s t l p.0 p.1)) (zip_push (stood_of before) (calls_of before) (length (past_of before)) x (stood_count before))
        ∙ list_all-append (λ p. callback_stood s t l p.0 p.1) (zip (stood_of before) (calls_of before)) ((length (past_of before), x) ∷ [])
        ∙ and_from (list_all (λ p. callback_stood s t l p.0 p.1) (zip (stood_of before) (calls_of before))) (callback_stood s t l (length (past_of before)) x && true)
        (calls_stood before later e behind fits.1)
        (and_from (callback_stood s t l (length (past_of before)) x) true (stood_here before x later e behind fits.0 fits.1) refl)
    calls_stood (ended now ∷ before) later e behind fits = calls_stood before later e behind fits.1

  -- ---- what needs a device open

  abbrev StayShut : List ℕ → List Event → Event → Type 0
  StayShut ds before (did x now) = AllByRecursion (λ d. IsTrue (stays_shut s t d (past_of before) (step.Did (length (dids_of before)) x))) ds
  StayShut ds before _ = Unit {0}

  all_stay : (before : List Event) (e : Event) → BothFits s t before e → StayShut (images s) before e
  all_stay before (ran x now) h = tt
  all_stay before (did x now) h = h.stands.stays_shut
  all_stay before (called x) h = tt
  all_stay before (ended now) h = tt

  shut_along : (d : ℕ) (ds : List ℕ) (h : List Event) → EachFits (StayShut (d ∷ ds)) h → Along (stays_shut s t d) (past_of h)
  shut_along d ds [] k = tt
  shut_along d ds (ran x now ∷ before) k = (refl, shut_along d ds before k.1)
  shut_along d ds (did x now ∷ before) k = (k.0.0, shut_along d ds before k.1)
  shut_along d ds (called x ∷ before) k = shut_along d ds before k.1
  shut_along d ds (ended now ∷ before) k = shut_along d ds before k.1

  fewer_stay : (d : ℕ) (ds : List ℕ) (before : List Event) (e : Event) → StayShut (d ∷ ds) before e → StayShut ds before e
  fewer_stay d ds before (ran x now) h = tt
  fewer_stay d ds before (did x now) h = h.1
  fewer_stay d ds before (called x) h = tt
  fewer_stay d ds before (ended now) h = tt

  each_stays : (ds : List ℕ) (h : List Event) → EachFits (StayShut ds) h → AllByRecursion (λ d. list_all (λ p. stays_shut s t d p.0 p.1) (with_past [] (reverse (past_of h))) ≡ true) ds
  each_stays [] h k = tt
  each_stays (d ∷ ds) h k = (all_along (stays_shut s t d) (past_of h) (shut_along d ds h k), each_stays ds h (each_fits_as (fewer_stay d ds) h k))

  pub stay_shut : (h : List Event) → EachFits (BothFits s t) h → AllByRecursion (λ d. list_all (λ p. stays_shut s t d p.0 p.1) (with_past [] (reverse (past_of h))) ≡ true) (images s)
  stay_shut h fits = each_stays (images s) h (each_fits_as all_stay h fits)
