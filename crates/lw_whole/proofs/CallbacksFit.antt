-- A callback stands in own order behind its thread's `began`, where no channel of the device is held.
use Rattle.std.proofs.Common.{◌≡◌, ℕ, zero, suc, ◌+◌, ◌*◌, ◌≤◌, ◌==◌, nat_lt, nat_le, Bool, true, false, cond, not, ◌&&◌, ◌||◌, List, [], ◌∷◌, ◌++◌, reverse, length, take, drop, zip, Option, Some, None, slice_get, append_assoc, refl, sym, ap, subst, ◌∙◌, arith}
use Rattle.std.specs.Prelude.{is_none}
use Rattle.std.specs.List.{list_all, list_any, AllByRecursion}
use Rattle.std.proofs.lemmas.Bool.{and_parts, and_from, or_left, or_right, eqb-true, leb-true, le-leb, lt-ltb, ltb-true, false≢true, lt-leb, le-ltb}
use Rattle.std.proofs.lemmas.List.{reverse-append}
use Rattle.std.proofs.lemmas.List.Folds.{list_all-append}
use Rattle.lw_base.proofs.Lists.{none_is, reverse_cons, all_parts}
use Rattle.lw_model.specs.declared.script.Script.{Script}
use Rattle.lw_model.specs.declared.record.Record.{Record}
use Rattle.lw_model.specs.declared.record.Called.{Called}
use Rattle.lw_model.specs.declared.record.Answer.{Answer}
use Rattle.lw_model.specs.declared.record.Answer.TheVariants as answer
use Rattle.lw_model.specs.declared.step.Step.{Step}
use Rattle.lw_model.specs.declared.step.Step.TheVariants as step
use Rattle.lw_model.specs.Threads.{is_on}
use Rattle.lw_model.specs.OwnOrder.{own_order, with_past}
use Rattle.lw_model.specs.Holding.{says, ordinal_given, held}
use Rattle.lw_model.specs.Devices.{is_began, needs_open, tells_shut, callback_fits}
use Rattle.lw_model.proofs.Growth.{all-append}
use Rattle.lw_model.proofs.Callbacks.{without, held-without, any_without}
use Rattle.lw_model.proofs.Passing.{item_passes}
use Rattle.lw_whole.specs.Logs.{Log, steps, steps_with_past}
use Rattle.lw_whole.specs.Lines.{made_before, made_behind, stays_shut, callback_stood}
use Rattle.lw_whole.proofs.Steps.{steps_are, Stands, all_stand}
use Rattle.lw_whole.proofs.OwnSorted.{key, Sorted, own_sorted}

-- ---- what stood when a callback came is what stands before it, but for lines that need no channel

-- the first k of all are the first k of those before, since none behind was made before
first_same : (q : Step → Bool) (k : ℕ) (done later : List Step) → list_all q (take k (done ++ later)) ≡ true → AllByRecursion (λ z. q z ≡ false) later → take k (done ++ later) ≡ take k done
first_same q zero [] [] e none = refl
first_same q zero [] (z ∷ later) e none = refl
first_same q (suc k) [] [] e none = refl
first_same q (suc k) [] (z ∷ later) e none = absurd (false≢true (sym none.0 ∙ (and_parts (q z) (list_all q (take k later)) e).0))
first_same q zero (y ∷ done) later e none = refl
first_same q (suc k) (y ∷ done) later e none = ap (λ ys. y ∷ ys) (first_same q k done later (and_parts (q y) (list_all q (take k (done ++ later))) e).1 none)

last_too : (q : Step → Bool) (k : ℕ) (done later : List Step) → list_all q (drop k (done ++ later)) ≡ true → list_all q (drop k done) ≡ true
last_too q zero [] later e = refl
last_too q (suc k) [] later e = refl
last_too q zero (y ∷ done) later e = (and_parts (list_all q (y ∷ done)) (list_all q later) (sym (list_all-append q (y ∷ done) later) ∙ e)).0
last_too q (suc k) (y ∷ done) later e = last_too q k done later e

pub both_parts : (k : ℕ) (xs : List Step) → take k xs ++ drop k xs ≡ xs
both_parts zero [] = refl
both_parts (suc k) [] = refl
both_parts zero (x ∷ xs) = refl
both_parts (suc k) (x ∷ xs) = ap (λ ys. x ∷ ys) (both_parts k xs)

part_of : (q : Step → Bool) (k : ℕ) (xs : List Step) → list_all q xs ≡ true → list_all q (drop k xs) ≡ true
part_of q zero [] e = refl
part_of q (suc k) [] e = refl
part_of q zero (x ∷ xs) e = e
part_of q (suc k) (x ∷ xs) e = part_of q k xs (and_parts (q x) (list_all q xs) e).1

pub any_first : (p : Step → Bool) (xs ys : List Step) → list_any p xs ≡ true → list_any p (xs ++ ys) ≡ true
any_first p [] ys e = absurd (false≢true e)
any_first p (x ∷ xs) ys e = at (p x) e (λ f. any_first p xs ys f)
  where
    at : (b : Bool) → (b || list_any p xs) ≡ true → (list_any p xs ≡ true → list_any p (xs ++ ys) ≡ true) → (b || list_any p (xs ++ ys)) ≡ true
    at true e go = refl
    at false e go = go e

any_last : (p : Step → Bool) (xs ys : List Step) → list_any p ys ≡ true → list_any p (xs ++ ys) ≡ true
any_last p [] ys e = e
any_last p (x ∷ xs) ys e = or_right (p x) (list_any p (xs ++ ys)) (any_last p xs ys e)

any_reverse : (p : Step → Bool) (xs : List Step) → list_any p xs ≡ true → list_any p (reverse xs) ≡ true
any_reverse p [] e = absurd (false≢true e)
any_reverse p (x ∷ xs) e = ap (list_any p) (reverse_cons x xs) ∙ at (p x) refl e (λ f. any_reverse p xs f)
  where
    at : (b : Bool) → p x ≡ b → (b || list_any p xs) ≡ true → (list_any p xs ≡ true → list_any p (reverse xs) ≡ true) → list_any p (reverse xs ++ x ∷ []) ≡ true
    at true f e go = any_last p (reverse xs) (x ∷ []) (or_left (p x) false f)
    at false f e go = any_first p (reverse xs) (x ∷ []) (go e)

-- a step that keeps a thread without a channel
abbrev Keeps : (ℕ → Bool) → Step → Type 0
Keeps on (step.Ran i m) = ⊥
Keeps on x = ordinal_given on x ≡ None

held_more : (on : ℕ → Bool) (d : ℕ) (extra base : List Step) → held on d base ≡ None → AllByRecursion (Keeps on) extra → held on d (reverse extra ++ base) ≡ None
held_more on d [] base e h = e
held_more on d (x ∷ extra) base e h =
    ap (λ xs. held on d (xs ++ base)) (reverse_cons x extra) ∙ ap (held on d) (append_assoc (reverse extra) (x ∷ []) base) ∙ held_more on d extra (x ∷ base) (still x h.0) h.1
  where
    still : (x : Step) → Keeps on x → held on d (x ∷ base) ≡ None
    still (step.Did i y) k = ap (λ (o : Option ℕ). elim o as (λ z. Option ℕ) [ Some n ↦ Some n | None ↦ held on d base ]) k ∙ e
    still (step.Called i y) k = e
    still (step.Ran i m) k = absurd k

-- behind what told that the device is shut there is nothing that needs it open
none_open : (s : Script) (t d : ℕ) (past rest : List Step) → list_any (says (is_on s t d) tells_shut) past ≡ true → list_all (λ p. stays_shut s t d p.0 p.1) (with_past past rest) ≡ true
    → AllByRecursion (λ x. says (is_on s t d) needs_open x ≡ false) rest
none_open s t d past [] told e = tt
none_open s t d past (x ∷ rest) told e =
    let both = and_parts (stays_shut s t d past x) (list_all (λ p. stays_shut s t d p.0 p.1) (with_past (x ∷ past) rest)) e in
    (here (says (is_on s t d) needs_open x) (list_any (says (is_on s t d) tells_shut) past) told both.0, none_open s t d (x ∷ past) rest (or_right (says (is_on s t d) tells_shut x) (list_any (says (is_on s t d) tells_shut) past) told) both.1)
  where
    here : (a b : Bool) → b ≡ true → (not a || not b) ≡ true → a ≡ false
    here true true f e = absurd (false≢true e)
    here true false f e = absurd (false≢true f)
    here false b f e = refl

behind_began : (s : Script) (t d : ℕ) (past xs ys : List Step) → (list_any (says (is_on s t d) is_began) xs || list_any (says (is_on s t d) tells_shut) past) ≡ true
    → list_all (λ p. stays_shut s t d p.0 p.1) (with_past past (xs ++ ys)) ≡ true → AllByRecursion (λ x. says (is_on s t d) needs_open x ≡ false) ys
behind_began s t d past [] ys told e = none_open s t d past ys told e
behind_began s t d past (x ∷ xs) ys told e =
    behind_began s t d (x ∷ past) xs ys (moved (says (is_on s t d) is_began x) (says (is_on s t d) tells_shut x) (list_any (says (is_on s t d) is_began) xs) (list_any (says (is_on s t d) tells_shut) past) (tells x) told)
    (and_parts (stays_shut s t d past x) (list_all (λ p. stays_shut s t d p.0 p.1) (with_past (x ∷ past) (xs ++ ys))) e).1
  where
    tells : (x : Step) → says (is_on s t d) is_began x ≡ true → says (is_on s t d) tells_shut x ≡ true
    tells (step.Did i y) e = of y.at y.op y.answer e
      where
        of : (at k : ℕ) (a : Answer) → (is_on s t d k && is_began a) ≡ true → (is_on s t d k && tells_shut a) ≡ true
        of at k (answer.Began n) e = e
        of at k _ e = absurd (false≢true (sym (no_right (is_on s t d k)) ∙ e))
          where
            no_right : (b : Bool) → (b && false) ≡ false
            no_right true = refl
            no_right false = refl
    tells (step.Called i y) e = absurd (false≢true e)
    tells (step.Ran i m) e = absurd (false≢true e)

    moved : (a a' b c : Bool) → (a ≡ true → a' ≡ true) → ((a || b) || c) ≡ true → (b || (a' || c)) ≡ true
    moved true a' true c up e = refl
    moved true a' false c up e = or_left a' c (up refl)
    moved false a' true c up e = refl
    moved false true false c up e = refl
    moved false false false c up e = e

-- ---- the rule

before_all : (a : ℕ) (ys : List Step) → AllByRecursion (λ y. key y ≤ 3 * a + 1) ys → list_all (made_before a) ys ≡ true
before_all a [] h = refl
before_all a (step.Did i x ∷ ys) h = and_from (nat_le x.at a) (list_all (made_before a) ys) (le-leb x.at a (omega (arith, h.0))) (before_all a ys h.1)
before_all a (step.Called i x ∷ ys) h = before_all a ys h.1
before_all a (step.Ran i m ∷ ys) h = and_from (nat_lt i a) (list_all (made_before a) ys) (lt-ltb i a (omega (arith, h.0))) (before_all a ys h.1)

later_none : (a : ℕ) (ys : List Step) → AllByRecursion (λ y. 3 * a + 1 ≤ key y) ys → AllByRecursion (λ y. made_before a y ≡ false) (without ys)
later_none a [] h = tt
later_none a (step.Did i x ∷ ys) h = (lt-leb x.at a (omega (arith, h.0)), later_none a ys h.1)
later_none a (step.Called i x ∷ ys) h = later_none a ys h.1
later_none a (step.Ran i m ∷ ys) h = (le-ltb i a (omega (arith, h.0)), later_none a ys h.1)

pub zip_get : (xs : List ℕ) (ys : List Called) (i : ℕ) (c : Called) → length xs ≡ length ys → slice_get ys i ≡ Some c → (k : ℕ) × (slice_get (zip xs ys) i ≡ Some (k, c))
zip_get xs [] i c e f = cc
zip_get [] (y ∷ ys) i c e f = absurd (omega (arith, e))
zip_get (x ∷ xs) (y ∷ ys) zero c e f = (x, ap (λ (o : Option Called). elim o as (λ z. Option (ℕ × Called)) [ None ↦ None | Some z ↦ Some (x, z) ]) f)
zip_get (x ∷ xs) (y ∷ ys) (suc i) c e f = zip_get xs ys i c (omega (arith, e)) f

module _ (r : Record) (t : ℕ) (l : Log) where
  abbrev on : ℕ → ℕ → Bool
  on d = is_on r.script t d

  step_keeps : (d a : ℕ) (x : Step) → made_before a x ≡ true → made_behind a x ≡ true → says (on d) needs_open x ≡ false → Keeps (on d) x
  step_keeps d a (step.Did i y) e f g = of y.at y.op y.answer g
    where
      of : (at k : ℕ) (b : Answer) → (on d k && needs_open b) ≡ false → ordinal_given (on d) (step.Did i (record { at = at; op = k; answer = b })) ≡ None
      of at k (answer.Given n) g = of_given (on d k) g
        where
          of_given : (b : Bool) → (b && true) ≡ false → cond b (Some n) None ≡ None
          of_given true g = absurd (false≢true (sym g))
          of_given false g = refl
      of at k _ g = refl
  step_keeps d a (step.Called i y) e f g = refl
  step_keeps d a (step.Ran i m) e f g = absurd (omega (arith, ltb-true i a e, leb-true a i f))

  keeps_all : (d a : ℕ) (xs : List Step) → list_all (made_before a) xs ≡ true → list_all (made_behind a) xs ≡ true → AllByRecursion (λ x. says (on d) needs_open x ≡ false) xs → AllByRecursion (Keeps (on d)) xs
  keeps_all d a [] e f h = tt
  keeps_all d a (x ∷ xs) e f h =
      let p = and_parts (made_before a x) (list_all (made_before a) xs) e in
      let q = and_parts (made_behind a x) (list_all (made_behind a) xs) f in
      (step_keeps d a x p.0 q.0 h.0, keeps_all d a xs p.1 q.1 h.1)

  -- behind all steps that were made before it, a callback's thread had begun and holds no channel
  stood_fits : (k : ℕ) (c : Called) (done later : List Step) → steps l ≡ done ++ later → list_all (made_before c.at) done ≡ true → AllByRecursion (λ z. made_before c.at z ≡ false) later
      → list_all (λ p. stays_shut r.script t c.device p.0 p.1) (steps_with_past l) ≡ true → callback_stood r.script t l k c ≡ true
      → (list_any (says (on c.device) is_began) (reverse done) ≡ true) × (held (on c.device) c.device (reverse done) ≡ None)
  stood_fits k c done later split all none shut e =
      let p = and_parts (list_all (made_before c.at) (take k (steps l)) && list_all (made_behind c.at) (drop k (steps l)) && list_any (says (on c.device) is_began) (take k (steps l))) (is_none (held (on c.device) c.device (reverse (take k (steps l))))) e in
      let q = and_parts (list_all (made_before c.at) (take k (steps l)) && list_all (made_behind c.at) (drop k (steps l))) (list_any (says (on c.device) is_began) (take k (steps l))) p.0 in
      let b = and_parts (list_all (made_before c.at) (take k (steps l))) (list_all (made_behind c.at) (drop k (steps l))) q.0 in
      let first : take k (steps l) ≡ take k done = ap (take k) split ∙ first_same (made_before c.at) k done later (ap (λ xs. list_all (made_before c.at) (take k xs)) (sym split) ∙ b.0) none in
      let began : list_any (says (on c.device) is_began) (take k done) ≡ true = ap (list_any (says (on c.device) is_began)) (sym first) ∙ q.1 in
      let parts : steps l ≡ take k done ++ (drop k done ++ later) = split ∙ ap (λ xs. xs ++ later) (sym (both_parts k done)) ∙ append_assoc (take k done) (drop k done) later in
      let closed = behind_began r.script t c.device [] (take k done) (drop k done ++ later) (or_left (list_any (says (on c.device) is_began) (take k done)) false began) (ap (λ xs. list_all (λ p. stays_shut r.script t c.device p.0 p.1) (with_past [] xs)) (sym parts) ∙ shut) in
      let behind : list_all (made_behind c.at) (drop k done) ≡ true = last_too (made_behind c.at) k done later (ap (λ xs. list_all (made_behind c.at) (drop k xs)) (sym split) ∙ b.1) in
      let base : held (on c.device) c.device (reverse (take k done)) ≡ None = ap (λ xs. held (on c.device) c.device (reverse xs)) (sym first) ∙ none_is (held (on c.device) c.device (reverse (take k (steps l)))) p.1 in
      let keeps = keeps_all c.device c.at (drop k done) (part_of (made_before c.at) k done all) behind (all_parts (λ x. says (on c.device) needs_open x ≡ false) (drop k done) later closed).0 in (
        any_reverse (says (on c.device) is_began) done (ap (list_any (says (on c.device) is_began)) (sym (both_parts k done)) ∙ any_first (says (on c.device) is_began) (take k done) (drop k done) began),
        ap (λ xs. held (on c.device) c.device (reverse xs)) (sym (both_parts k done)) ∙ ap (held (on c.device) c.device) (reverse-append (take k done) (drop k done)) ∙ held_more (on c.device) c.device (drop k done) (reverse (take k done)) base keeps,
      )

  abbrev Bounded : List Step → List Step → Type 0
  Bounded done rest = AllByRecursion (λ z. AllByRecursion (λ y. key y ≤ key z) done) rest

  bounded_more : (done : List Step) (x : Step) (rest : List Step) → Bounded done rest → AllByRecursion (λ z. key x ≤ key z) rest → Bounded (done ++ x ∷ []) rest
  bounded_more done x [] b h = tt
  bounded_more done x (z ∷ rest) b h = (all-append (λ y. key y ≤ key z) done (x ∷ []) b.0 (h.0, tt), bounded_more done x rest b.1 h.1)

  module _ (d : ℕ) (shut : list_all (λ p. stays_shut r.script t d p.0 p.1) (steps_with_past l) ≡ true) (stood : length l.stood ≡ length l.lines.called)
      (callbacks : list_all (λ p. callback_stood r.script t l p.0 p.1) (zip l.stood l.lines.called) ≡ true) where
    fit_from : (past rest done : List Step) → reverse done ≡ without past → steps l ≡ done ++ without rest → Sorted rest → Bounded done rest → AllByRecursion (Stands l.lines) rest
        → list_all (λ p. callback_fits r d t p.0 p.1) (with_past past rest) ≡ true
    fit_from past [] done back split sorted bounded stand = refl
    fit_from past (step.Did i x ∷ rest) done back split sorted bounded stand =
        fit_from (step.Did i x ∷ past) rest (done ++ step.Did i x ∷ []) (reverse-append done (step.Did i x ∷ []) ∙ ap (λ xs. step.Did i x ∷ xs) back) (split ∙ sym (append_assoc done (step.Did i x ∷ []) (without rest)))
        sorted.1 (bounded_more done (step.Did i x) rest bounded.1 sorted.0) stand.1
    fit_from past (step.Called i c ∷ rest) done back split sorted bounded stand =
        and_from (callback_fits r d t past (step.Called i c)) (list_all (λ p. callback_fits r d t p.0 p.1) (with_past (step.Called i c ∷ past) rest)) (here (c.device == d) refl)
        (fit_from (step.Called i c ∷ past) rest done back split sorted.1 bounded.1 stand.1)
      where
        here : (b : Bool) → (c.device == d) ≡ b → (is_none (cond b (Some t) None) || list_any (says (on d) is_began) past && is_none (held (on d) d past)) ≡ true
        here false e = refl
        here true e =
            let same = eqb-true c.device d e in
            let at = zip_get l.stood l.lines.called i c stood stand.0 in
            let fits = item_passes (λ p. callback_stood r.script t l p.0 p.1) (zip l.stood l.lines.called) i (at.0, c) callbacks at.1 in
            let both = stood_fits at.0 c done (without rest) split (before_all c.at done bounded.0) (later_none c.at rest sorted.0) (subst (λ n. list_all (λ p. stays_shut r.script t n p.0 p.1) (steps_with_past l) ≡ true) (sym same) shut) fits in
            subst (λ n. (list_any (says (on n) is_began) past && is_none (held (on n) n past)) ≡ true) same
            (and_from (list_any (says (on c.device) is_began) past) (is_none (held (on c.device) c.device past))
            (any_without (says (on c.device) is_began) (λ j x. refl) past ∙ ap (list_any (says (on c.device) is_began)) (sym back) ∙ both.0)
            (ap (λ (o : Option ℕ). is_none o) (held-without (on c.device) c.device past ∙ ap (held (on c.device) c.device) (sym back) ∙ both.1)))
    fit_from past (step.Ran i m ∷ rest) done back split sorted bounded stand =
        fit_from (step.Ran i m ∷ past) rest (done ++ step.Ran i m ∷ []) (reverse-append done (step.Ran i m ∷ []) ∙ ap (λ xs. step.Ran i m ∷ xs) back) (split ∙ sym (append_assoc done (step.Ran i m ∷ []) (without rest)))
        sorted.1 (bounded_more done (step.Ran i m) rest bounded.1 sorted.0) stand.1

    pub callbacks_fit : list_all (λ p. callback_fits r d t p.0 p.1) (with_past [] (own_order l.lines)) ≡ true
    callbacks_fit = fit_from [] (own_order l.lines) [] refl (sym (steps_are l)) (own_sorted l.lines) (none_before (own_order l.lines)) (all_stand l.lines)
      where
        none_before : (rest : List Step) → Bounded [] rest
        none_before [] = tt
        none_before (x ∷ rest) = (tt, none_before rest)
