-- A client's log, one line on.
use Rattle.std.proofs.Common.{ℕ, ◌≡◌, ◌+◌, ◌≤◌, Bool, true, false, ◌&&◌, List, [], ◌∷◌, ◌++◌, map, reverse, length, arith, refl, sym, ap, ◌∙◌, nat_le, subst}
use Rattle.std.specs.Prelude.{cond, filter}
use Rattle.std.specs.List.{list_all, list_any, flat_map, AllByRecursion}
use Rattle.std.proofs.lemmas.Bool.{le-leb, leb-true, and_from, and_parts}
use Rattle.std.proofs.lemmas.List.{reverse-append, append-nil}
use Rattle.std.proofs.lemmas.List.Folds.{list_all-append, list_any-append}
use Rattle.std.proofs.lemmas.List.Elements.{filter-append}
use Rattle.std.proofs.lemmas.Grind.{flat_map-append}
use Rattle.lw_base.specs.declared.message.Tag.{Tag}
use Rattle.lw_base.specs.declared.message.What.{What}
use Rattle.lw_model.specs.declared.script.Script.{Script}
use Rattle.lw_model.specs.declared.step.Step.{Step}
use Rattle.lw_model.specs.declared.step.Step.TheVariants as step
use Rattle.lw_model.specs.declared.record.Did.{Did}
use Rattle.lw_model.specs.OwnOrder.{own_order, with_past}
use Rattle.lw_model.specs.Answers.{at_fits}
use Rattle.lw_model.proofs.Growth.{own_order-run, own_order-list, with_past_push}
use Rattle.lw_target.specs.declared.client.Client.{Client}
use Rattle.lw_target.specs.ClientLog.{log_of, steps_so_far, sends_of, sends_of_steps, line_fits, lines_fit, ats_ascend}

-- ---- the AT of its lines

-- the latest of these is at most so much
abbrev Below : ℕ → List ℕ → Type 0
Below most [] = Unit {0}
Below most (b ∷ past) = b ≤ most

fits_below : (most a : ℕ) (past : List ℕ) → at_fits most past a ≡ true → a ≤ most
fits_below most a [] e = leb-true a most e
fits_below most a (b ∷ past) e = leb-true a most ((and_parts (nat_le b a) (nat_le a most) e).1)

fits_more : (most a : ℕ) (past : List ℕ) → at_fits most past a ≡ true → at_fits (most + 1) past a ≡ true
fits_more most a [] e = le-leb a (most + 1) (omega (arith, leb-true a most e))
fits_more most a (b ∷ past) e =
    let both = and_parts (nat_le b a) (nat_le a most) e in
    and_from (nat_le b a) (nat_le a (most + 1)) both.0 (le-leb a (most + 1) (omega (arith, leb-true a most both.1)))

fits_last : (most a : ℕ) (past : List ℕ) → a ≡ most → Below most past → at_fits most past a ≡ true
fits_last most a [] e h = le-leb a most (omega (arith, e))
fits_last most a (b ∷ past) e h = and_from (nat_le b a) (nat_le a most) (le-leb b a (omega (arith, e, h))) (le-leb a most (omega (arith, e)))

abbrev Ascends : ℕ → List ℕ → List Did → Type 0
Ascends most past dids = list_all (λ (p : List ℕ × ℕ). at_fits most p.0 p.1) (with_past past (map (λ (x : Did). x.at) dids)) ≡ true

ascends_below : (most : ℕ) (past : List ℕ) (dids : List Did) → Ascends most past dids → AllByRecursion (λ (x : Did). x.at ≤ most) dids
ascends_below most past [] e = tt
ascends_below most past (x ∷ dids) e =
    let both = and_parts (at_fits most past x.at) (list_all (λ (p : List ℕ × ℕ). at_fits most p.0 p.1) (with_past (x.at ∷ past) (map (λ (x : Did). x.at) dids))) e in
    (fits_below most x.at past both.0, ascends_below most (x.at ∷ past) dids both.1)

ascends_more : (most : ℕ) (past : List ℕ) (dids : List Did) → Ascends most past dids → Ascends (most + 1) past dids
ascends_more most past [] e = refl
ascends_more most past (x ∷ dids) e =
    let both = and_parts (at_fits most past x.at) (list_all (λ (p : List ℕ × ℕ). at_fits most p.0 p.1) (with_past (x.at ∷ past) (map (λ (x : Did). x.at) dids))) e in
    and_from (at_fits (most + 1) past x.at) (list_all (λ (p : List ℕ × ℕ). at_fits (most + 1) p.0 p.1) (with_past (x.at ∷ past) (map (λ (x : Did). x.at) dids)))
    (fits_more most x.at past both.0) (ascends_more most (x.at ∷ past) dids both.1)

ascends_push : (most : ℕ) (past : List ℕ) (dids : List Did) (y : Did) → y.at ≡ most → Below most past → Ascends most past dids → Ascends most past (dids ++ y ∷ [])
ascends_push most past [] y at h e = and_from (at_fits most past y.at) true (fits_last most y.at past at h) refl
ascends_push most past (x ∷ dids) y at h e =
    let both = and_parts (at_fits most past x.at) (list_all (λ (p : List ℕ × ℕ). at_fits most p.0 p.1) (with_past (x.at ∷ past) (map (λ (x : Did). x.at) dids))) e in
    and_from (at_fits most past x.at) (list_all (λ (p : List ℕ × ℕ). at_fits most p.0 p.1) (with_past (x.at ∷ past) (map (λ (x : Did). x.at) (dids ++ y ∷ []))))
    both.0 (ascends_push most (x.at ∷ past) dids y at (fits_below most x.at past both.0) both.1)

pub ats_ran : (most : ℕ) (dids : List Did) → ats_ascend most dids ≡ true → ats_ascend (most + 1) dids ≡ true
ats_ran most dids e = ascends_more most [] dids e

pub ats_push : (most : ℕ) (dids : List Did) (y : Did) → y.at ≡ most → ats_ascend most dids ≡ true → ats_ascend most (dids ++ y ∷ []) ≡ true
ats_push most dids y at e = ascends_push most [] dids y at tt e

-- ---- its steps in own order

pub steps_ran : (old new : Client) (ran : List Tag) (m : Tag) → new.did ≡ old.did → ats_ascend (length ran) old.did ≡ true
    → steps_so_far new (ran ++ m ∷ []) ≡ steps_so_far old ran ++ step.Ran (length ran) m ∷ []
steps_ran old new ran m same ats =
    ap (λ (did : List Did). own_order (log_of (ran ++ m ∷ []) did old.replies)) same
    ∙ own_order-run (log_of ran old.did old.replies) m (record { did = ascends_below (length ran) [] old.did ats; called = tt })

pub steps_did : (old new : Client) (ran : List Tag) (x : Did) → new.did ≡ old.did ++ x ∷ [] → x.at ≡ length ran → ats_ascend (length ran) old.did ≡ true
    → steps_so_far new ran ≡ steps_so_far old ran ++ step.Did (length old.did) x ∷ []
steps_did old new ran x same at ats =
    ap (λ (did : List Did). own_order (log_of ran did old.replies)) same
    ∙ own_order-list (log_of ran old.did old.replies) x at (subst (λ n. AllByRecursion (λ (y : Did). y.at ≤ n) old.did) (sym at) (ascends_below (length ran) [] old.did ats)) tt

-- ---- one step more

pub past_push : (steps : List Step) (x : Step) → reverse (steps ++ x ∷ []) ≡ x ∷ reverse steps
past_push steps x = reverse-append steps (x ∷ [])

with_push : (steps : List Step) (x : Step) → with_past [] (steps ++ x ∷ []) ≡ with_past [] steps ++ ((reverse steps, x) ∷ [])
with_push steps x = with_past_push [] steps x ∙ ap (λ (q : List Step). with_past [] steps ++ ((q, x) ∷ [])) (append-nil (reverse steps))

pub fit_push : (s : Script) (t : ℕ) (steps : List Step) (x : Step) → lines_fit s t steps ≡ true → line_fits s t (reverse steps) x ≡ true → lines_fit s t (steps ++ x ∷ []) ≡ true
fit_push s t steps x all last =
    ap (list_all (λ (p : List Step × Step). line_fits s t p.0 p.1)) (with_push steps x)
    ∙ list_all-append (λ (p : List Step × Step). line_fits s t p.0 p.1) (with_past [] steps) ((reverse steps, x) ∷ [])
    ∙ and_from (lines_fit s t steps) (line_fits s t (reverse steps) x && true) all (and_from (line_fits s t (reverse steps) x) true last refl)

pub sends_push : (s : Script) (t : ℕ) (steps : List Step) (x : Step) → sends_of_steps s t (steps ++ x ∷ []) ≡ sends_of_steps s t steps ++ sends_of s t (reverse steps) x
sends_push s t steps x =
    ap (flat_map (λ (p : List Step × Step). sends_of s t p.0 p.1)) (with_push steps x)
    ∙ flat_map-append (λ (p : List Step × Step). sends_of s t p.0 p.1) (with_past [] steps) ((reverse steps, x) ∷ [])
    ∙ ap (λ (q : List (ℕ × What)). sends_of_steps s t steps ++ q) (append-nil (sends_of s t (reverse steps) x))

pub any_push : (p : Step → Bool) (steps : List Step) (x : Step) → list_any p steps ≡ false → p x ≡ false → list_any p (steps ++ x ∷ []) ≡ false
any_push p steps x none last = list_any-append p steps (x ∷ []) ∙ grind (arith, none, last)

-- ---- lists

pub filter_reverse : {X : Type 0} (p : X → Bool) (xs : List X) → filter p (reverse xs) ≡ reverse (filter p xs)
filter_reverse p [] = refl
filter_reverse p (x ∷ xs) =
    ap (filter p) (reverse-append (x ∷ []) xs)
    ∙ filter-append p (reverse xs) (x ∷ [])
    ∙ ap (λ q. q ++ filter p (x ∷ [])) (filter_reverse p xs)
    ∙ at (p x)
  where
    at : (b : Bool) → reverse (filter p xs) ++ cond b (x ∷ []) [] ≡ reverse (cond b (x ∷ filter p xs) (filter p xs))
    at true = sym (reverse-append (x ∷ []) (filter p xs))
    at false = append-nil (reverse (filter p xs))
