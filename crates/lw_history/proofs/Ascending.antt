-- The numbers at which a thread listed its lines ascend.
use Rattle.std.proofs.Common.{◌≡◌, ℕ, ◌≤◌, nat_le, true, List, [], ◌∷◌, ◌++◌, map, length, refl, sym, ap, subst, ◌∙◌, arith}
use Rattle.std.specs.List.{list_all}
use Rattle.std.proofs.lemmas.Bool.{and_parts, and_from, le-leb, leb-true}
use Rattle.std.proofs.lemmas.List.{length-append, length-map, map-append}
use Rattle.lw_model.specs.declared.script.Script.{Script}
use Rattle.lw_model.specs.declared.record.Did.{Did}
use Rattle.lw_model.specs.declared.record.Called.{Called}
use Rattle.lw_model.specs.OwnOrder.{with_past}
use Rattle.lw_model.specs.Answers.{at_fits, ats_ascend}
use Rattle.lw_whole.specs.Letters.{Letter}
use Rattle.lw_history.specs.Histories.{Event, ran, did, called, ended, runs_of, dids_of, calls_of}
use Rattle.lw_history.specs.Fitting.{EachFits}
use Rattle.lw_history.proofs.InOrder.{BothFits}

abbrev Ascends : ℕ → List ℕ → List ℕ → Type 0
Ascends most past ats = list_all (λ p. at_fits most p.0 p.1) (with_past past ats) ≡ true

-- the latest of these is at most so much
abbrev Below : ℕ → List ℕ → Type 0
Below most [] = Unit {0}
Below most (b ∷ past) = b ≤ most

fits_below : (most a : ℕ) (past : List ℕ) → at_fits most past a ≡ true → a ≤ most
fits_below most a [] e = leb-true a most e
fits_below most a (b ∷ past) e = leb-true a most ((and_parts (nat_le b a) (nat_le a most) e).1)

fits_more : (m n a : ℕ) (past : List ℕ) → m ≤ n → at_fits m past a ≡ true → at_fits n past a ≡ true
fits_more m n a [] le e = le-leb a n (omega (arith, le, leb-true a m e))
fits_more m n a (b ∷ past) le e =
    let both = and_parts (nat_le b a) (nat_le a m) e in
    and_from (nat_le b a) (nat_le a n) both.0 (le-leb a n (omega (arith, le, leb-true a m both.1)))

fits_last : (most a : ℕ) (past : List ℕ) → a ≡ most → Below most past → at_fits most past a ≡ true
fits_last most a [] e h = le-leb a most (omega (arith, e))
fits_last most a (b ∷ past) e h = and_from (nat_le b a) (nat_le a most) (le-leb b a (omega (arith, e, h))) (le-leb a most (omega (arith, e)))

ascends_more : (m n : ℕ) (past ats : List ℕ) → m ≤ n → Ascends m past ats → Ascends n past ats
ascends_more m n past [] le e = refl
ascends_more m n past (a ∷ ats) le e =
    let both = and_parts (at_fits m past a) (list_all (λ p. at_fits m p.0 p.1) (with_past (a ∷ past) ats)) e in
    and_from (at_fits n past a) (list_all (λ p. at_fits n p.0 p.1) (with_past (a ∷ past) ats)) (fits_more m n a past le both.0) (ascends_more m n (a ∷ past) ats le both.1)

ascends_push : (most : ℕ) (past ats : List ℕ) (b : ℕ) → b ≡ most → Below most past → Ascends most past ats → Ascends most past (ats ++ b ∷ [])
ascends_push most past [] b at h e = and_from (at_fits most past b) true (fits_last most b past at h) refl
ascends_push most past (a ∷ ats) b at h e =
    let both = and_parts (at_fits most past a) (list_all (λ p. at_fits most p.0 p.1) (with_past (a ∷ past) ats)) e in
    and_from (at_fits most past a) (list_all (λ p. at_fits most p.0 p.1) (with_past (a ∷ past) (ats ++ b ∷ []))) both.0 (ascends_push most (a ∷ past) ats b at (fits_below most a past both.0) both.1)

module _ (s : Script) (t : ℕ) where
  lines_rise : (h : List Event) → EachFits (BothFits s t) h → Ascends (length (runs_of h)) [] (map (λ x. x.at) (dids_of h))
  lines_rise [] fits = refl
  lines_rise (ran x now ∷ before) fits =
      ascends_more (length (runs_of before)) (length (runs_of before ++ x ∷ [])) [] (map (λ y. y.at) (dids_of before)) (omega (arith, length-append (runs_of before) (x ∷ []))) (lines_rise before fits.1)
  lines_rise (did x now ∷ before) fits =
      subst (λ ats. Ascends (length (runs_of before)) [] ats) (sym (map-append (λ (y : Did). y.at) (dids_of before) (x ∷ [])))
      (ascends_push (length (runs_of before)) [] (map (λ y. y.at) (dids_of before)) x.at fits.0.stands.at tt (lines_rise before fits.1))
  lines_rise (called x ∷ before) fits = lines_rise before fits.1
  lines_rise (ended now ∷ before) fits = lines_rise before fits.1

  calls_rise : (h : List Event) → EachFits (BothFits s t) h → Ascends (length (runs_of h)) [] (map (λ x. x.at) (calls_of h))
  calls_rise [] fits = refl
  calls_rise (ran x now ∷ before) fits =
      ascends_more (length (runs_of before)) (length (runs_of before ++ x ∷ [])) [] (map (λ y. y.at) (calls_of before)) (omega (arith, length-append (runs_of before) (x ∷ []))) (calls_rise before fits.1)
  calls_rise (did x now ∷ before) fits = calls_rise before fits.1
  calls_rise (called x ∷ before) fits =
      subst (λ ats. Ascends (length (runs_of before)) [] ats) (sym (map-append (λ (y : Called). y.at) (calls_of before) (x ∷ [])))
      (ascends_push (length (runs_of before)) [] (map (λ y. y.at) (calls_of before)) x.at fits.0.at tt (calls_rise before fits.1))
  calls_rise (ended now ∷ before) fits = calls_rise before fits.1

  pub lines_ascend : (h : List Event) → EachFits (BothFits s t) h → ats_ascend (length (map (λ (x : Letter). x.tag) (runs_of h))) (map (λ x. x.at) (dids_of h)) ≡ true
  lines_ascend h fits = ap (λ n. ats_ascend n (map (λ (x : Did). x.at) (dids_of h))) (length-map (runs_of h) (λ (x : Letter). x.tag)) ∙ lines_rise h fits

  pub calls_ascend : (h : List Event) → EachFits (BothFits s t) h → ats_ascend (length (map (λ (x : Letter). x.tag) (runs_of h))) (map (λ x. x.at) (calls_of h)) ≡ true
  calls_ascend h fits = ap (λ n. ats_ascend n (map (λ (x : Called). x.at) (calls_of h))) (length-map (runs_of h) (λ (x : Letter). x.tag)) ∙ calls_rise h fits
