-- The first of some numbers that is below the one before it, or above what they may be.
use Rattle.std.proofs.Common.{◌≡◌, ℕ, ◌+◌, ◌<◌, ◌≤◌, nat_le, true, false, ◌&&◌, List, [], length, map, take, drop, reverse, get_or, Some, None, refl, sym, ap, ap₂, subst, ◌∙◌, arith}
use Rattle.std.proofs.lemmas.Bool.{le-leb, lt-leb, and_left, and_right}
use Rattle.std.proofs.lemmas.List.{drop_all, get_or-map, length-map}
use Rattle.lw_model.specs.Answers.{at_fits}
use Rattle.lw_judge_threads.specs.Firsts.{first_unfit}
use Rattle.lw_judge_threads.proofs.Counts.{past_more, unfit_more, unfit_here}

-- the first i fit, and the last of them is `before`
pub record FitsSoFar (most : ℕ) (ats : List ℕ) (i before : ℕ) : Type 0 where
  pub left : first_unfit (at_fits most) 0 [] ats ≡ first_unfit (at_fits most) i (reverse (take i ats)) (drop i ats)
  pub last : (a : ℕ) → at_fits most (reverse (take i ats)) a ≡ (nat_le before a && nat_le a most)

pub fits_first : (most : ℕ) (ats : List ℕ) → FitsSoFar most ats 0 0
fits_first most ats = record {
  left = refl;
  last = λ a. ap (λ b. b && nat_le a most) (sym (le-leb 0 a (omega arith)));
}

pub fits_more : {X : Type 0} (at : X → ℕ) (most : ℕ) (xs : List X) (i before : ℕ) (d : X) → FitsSoFar most (map at xs) i before → i < length xs → before ≤ at (get_or xs i d) → at (get_or xs i d) ≤ most
    → FitsSoFar most (map at xs) (i + 1) (at (get_or xs i d))
fits_more at most xs i before d was less low high = subst (FitsSoFar most (map at xs) (i + 1)) is (record {
  left = was.left ∙ unfit_more (at_fits most) (map at xs) i 0 less' fit;
  last = λ a. ap (λ past. at_fits most past a) (past_more (map at xs) i 0 less');
})
  where
    is : get_or (map at xs) i 0 ≡ at (get_or xs i d)
    is = get_or-map at xs i d 0 less

    less' : i < length (map at xs)
    less' = omega (arith, less, length-map xs at)

    fit : at_fits most (reverse (take i (map at xs))) (get_or (map at xs) i 0) ≡ true
    fit = was.last (get_or (map at xs) i 0) ∙ ap₂ (λ a b. a && b) (le-leb before (get_or (map at xs) i 0) (omega (arith, low, is))) (le-leb (get_or (map at xs) i 0) most (omega (arith, high, is)))

misfit : {X : Type 0} (at : X → ℕ) (most : ℕ) (xs : List X) (i before : ℕ) (d : X) → FitsSoFar most (map at xs) i before → i < length xs → (nat_le before (at (get_or xs i d)) && nat_le (at (get_or xs i d)) most) ≡ false
    → Some i ≡ first_unfit (at_fits most) 0 [] (map at xs)
misfit at most xs i before d was less no_fit = sym (was.left ∙ unfit_here (at_fits most) (map at xs) i 0 (omega (arith, less, length-map xs at))
    (was.last (get_or (map at xs) i 0) ∙ ap (λ a. nat_le before a && nat_le a most) (get_or-map at xs i d 0 less) ∙ no_fit))

pub misfit_below : {X : Type 0} (at : X → ℕ) (most : ℕ) (xs : List X) (i before : ℕ) (d : X) → FitsSoFar most (map at xs) i before → i < length xs → at (get_or xs i d) < before → Some i ≡ first_unfit (at_fits most) 0 [] (map at xs)
misfit_below at most xs i before d was less below = misfit at most xs i before d was less (and_left (nat_le before (at (get_or xs i d))) (nat_le (at (get_or xs i d)) most) (lt-leb before (at (get_or xs i d)) below))

pub misfit_above : {X : Type 0} (at : X → ℕ) (most : ℕ) (xs : List X) (i before : ℕ) (d : X) → FitsSoFar most (map at xs) i before → i < length xs → most < at (get_or xs i d) → Some i ≡ first_unfit (at_fits most) 0 [] (map at xs)
misfit_above at most xs i before d was less above = misfit at most xs i before d was less (and_right (nat_le before (at (get_or xs i d))) (nat_le (at (get_or xs i d)) most) (lt-leb (at (get_or xs i d)) most above))

pub no_misfit : {X : Type 0} (at : X → ℕ) (most : ℕ) (xs : List X) (i before : ℕ) → FitsSoFar most (map at xs) i before → length xs ≤ i → None ≡ first_unfit (at_fits most) 0 [] (map at xs)
no_misfit at most xs i before was all = sym (was.left ∙ ap (first_unfit (at_fits most) i (reverse (take i (map at xs)))) (drop_all i (map at xs) (omega (arith, all, length-map xs at))))
