-- A list against the wanted items, of which one more is wanted at a time.
use Rattle.std.proofs.Common.{◌≡◌, ℕ, suc, ◌+◌, ◌≤◌, ◌<◌, nat_lt, Bool, true, false, cond, List, [], ◌∷◌, ◌++◌, length, Option, Some, None, IfSome, slice_get, refl, sym, ap, ap₂, subst, ◌∙◌, arith}
use Rattle.std.specs.Option.{option_or}
use Rattle.std.proofs.lemmas.Bool.Decides.{nat_tests}
use Rattle.std.proofs.lemmas.Bool.{ltb-true}
use Rattle.std.proofs.lemmas.List.{length_push}
use Rattle.lw_model.specs.Same.{both}
use Rattle.lw_model.specs.Verdict.{least_failing, against}
use Rattle.lw_judge_threads.specs.declared.against.Against.{Against}
use Rattle.lw_judge_threads.specs.Firsts.{first_unlike, at_line}
use Rattle.lw_judge_threads.specs.AgainstAt.{IsAgainst, wanted_tests, first_false, unlike_place, unlike_line}
use Rattle.lw_judge_threads.proofs.Leasts.{least-against}

-- ---- The tests

pub both_none : {X : Type 0} (same : X → X → Bool) (w : Option X) → both same w None ≡ false
both_none same None = refl
both_none same (Some x) = refl

-- of one item more
pub wanted_tests-push : {X : Type 0} (same : X → X → Bool) (wanted : List (Option X)) (w : Option X) (found : List X)
    → wanted_tests same (wanted ++ w ∷ []) found ≡ wanted_tests same wanted found ++ both same w (slice_get found (length wanted)) ∷ []
wanted_tests-push same [] w [] = ap (λ b. b ∷ []) (sym (both_none same w))
wanted_tests-push same [] w (x ∷ found) = refl
wanted_tests-push same (v ∷ wanted) w [] = ap (λ bs. false ∷ bs) (wanted_tests-push same wanted w [])
    ∙ ap (λ b. false ∷ (wanted_tests same wanted [] ++ b ∷ [])) (both_none same w ∙ sym (both_none same w))
wanted_tests-push same (v ∷ wanted) w (x ∷ found) = ap (λ bs. both same v (Some x) ∷ bs) (wanted_tests-push same wanted w found)

pub length-wanted_tests : {X : Type 0} (same : X → X → Bool) (wanted : List (Option X)) (found : List X) → length (wanted_tests same wanted found) ≡ length wanted
length-wanted_tests same [] found = refl
length-wanted_tests same (w ∷ wanted) [] = ap suc (length-wanted_tests same wanted [])
length-wanted_tests same (w ∷ wanted) (x ∷ found) = ap suc (length-wanted_tests same wanted found)

-- ---- The first that fails

pub first_false-push : (n : ℕ) (b : Bool) (bs : List Bool) → first_false n (bs ++ b ∷ []) ≡ option_or (first_false n bs) (cond b None (Some (n + length bs)))
first_false-push n b [] = ap (λ k. cond b None (Some k)) here
  where
    here : n ≡ n + 0
    here = omega arith
first_false-push n true (true ∷ bs) = first_false-push (n + 1) true bs
first_false-push n false (true ∷ bs) = first_false-push (n + 1) false bs ∙ ap (λ k. option_or (first_false (n + 1) bs) (Some k)) next
  where
    next : n + 1 + length bs ≡ n + suc (length bs)
    next = omega arith
first_false-push n b (false ∷ bs) = refl

-- it is one of the tests
pub first_false-within : (n : ℕ) (bs : List Bool) → IfSome (first_false n bs) (λ p. p < n + length bs)
first_false-within n [] = tt
first_false-within n (true ∷ bs) = at (first_false (n + 1) bs) (first_false-within (n + 1) bs)
  where
    at : (o : Option ℕ) → IfSome o (λ p. p < n + 1 + length bs) → IfSome o (λ p. p < n + suc (length bs))
    at None h = tt
    at (Some p) h = omega (arith, h)
first_false-within n (false ∷ bs) = omega arith

-- one item more is wanted
pub IsAgainst-push : (tests : List Bool) (stands : Bool) (old new : Against) → IsAgainst tests old → new.wanted ≡ old.wanted + 1
    → new.unlike ≡ option_or old.unlike (cond stands None (Some old.wanted)) → IsAgainst (tests ++ stands ∷ []) new
IsAgainst-push tests stands old new is more unlike = record {
  wanted = more ∙ ap (λ n. n + 1) is.wanted ∙ sym (length_push tests stands);
  unlike = unlike ∙ ap₂ (λ o n. option_or o (cond stands None (Some n))) is.unlike (is.wanted ∙ zero_more) ∙ sym (first_false-push 0 stands tests);
}
  where
    zero_more : length tests ≡ 0 + length tests
    zero_more = omega arith

-- ---- The line

-- the place of one of the found items
pub unlike_within : (found : ℕ) (tests : List Bool) (place : ℕ) → length tests ≤ found → unlike_place found tests ≡ Some place → place < found
unlike_within found tests place low is = at (first_false 0 tests) (first_false-within 0 tests) is
  where
    some_same : {m n : ℕ} → Some m ≡ Some n → m ≡ n
    some_same e = cc

    one_more : (b : Bool) → nat_lt (length tests) found ≡ b → cond b (Some (length tests)) None ≡ Some place → place < found
    one_more true e same = subst (λ p. p < found) (some_same same) (ltb-true (length tests) found e)
    one_more false e same = cc

    at : (o : Option ℕ) → IfSome o (λ p. p < 0 + length tests) → option_or o (cond (nat_lt (length tests) found) (Some (length tests)) None) ≡ Some place → place < found
    at None h same = one_more (nat_lt (length tests) found) refl same
    at (Some p) h same = omega (arith, h, low, some_same same)

-- where none lacks
pub unlike_line-at : (lack first found : ℕ) (tests : List Bool) (place : ℕ) → length tests ≤ found → unlike_place found tests ≡ Some place → unlike_line lack first found tests ≡ Some (first + place)
unlike_line-at lack first found tests place low is =
    ap (λ b. cond b (Some lack) (at_line first (unlike_place found tests))) (none_lacks found (length tests) low) ∙ ap (at_line first) is
  where
    none_lacks : (m n : ℕ) → n ≤ m → nat_lt m n ≡ false
    none_lacks m n low = grind (arith, nat_tests)

unlike_from : {X : Type 0} (same : X → X → Bool) (n : ℕ) (wanted : List (Option X)) (found : List X) → length wanted ≤ length found
    → first_unlike same n wanted found ≡ option_or (first_false n (wanted_tests same wanted found)) (cond (nat_lt (length wanted) (length found)) (Some (n + length wanted)) None)
unlike_from same n [] [] low = refl
unlike_from same n [] (x ∷ found) low = ap Some here ∙ ap (λ b. cond b (Some (n + 0)) None) (sym (more (length found)))
  where
    here : n ≡ n + 0
    here = omega arith

    more : (k : ℕ) → nat_lt 0 (suc k) ≡ true
    more k = grind (arith, nat_tests)
unlike_from same n (w ∷ wanted) [] low = absurd (omega (arith, low))
unlike_from same n (w ∷ wanted) (x ∷ found) low = at (both same w (Some x)) (unlike_from same (n + 1) wanted found (omega (arith, low)))
  where
    next : n + 1 + length wanted ≡ n + suc (length wanted)
    next = omega arith

    more : (k m : ℕ) → nat_lt k m ≡ nat_lt (suc k) (suc m)
    more k m = grind (arith, nat_tests)

    rest : Option ℕ
    rest = cond (nat_lt (length wanted) (length found)) (Some (n + 1 + length wanted)) None

    at : (b : Bool) → first_unlike same (n + 1) wanted found ≡ option_or (first_false (n + 1) (wanted_tests same wanted found)) rest
        → cond b (first_unlike same (n + 1) wanted found) (Some n)
        ≡ option_or (cond b (first_false (n + 1) (wanted_tests same wanted found)) (Some n)) (cond (nat_lt (suc (length wanted)) (suc (length found))) (Some (n + suc (length wanted))) None)
    at true is = is
        ∙ ap₂ (λ b k. option_or (first_false (n + 1) (wanted_tests same wanted found)) (cond b (Some k) None)) (more (length wanted) (length found)) next
    at false is = refl

-- the first failing line of a list against the wanted items
pub least_unlike : {X : Type 0} (same : X → X → Bool) (lack first : ℕ) (wanted : List (Option X)) (found : List X) → lack ≤ first
    → unlike_line lack first (length found) (wanted_tests same wanted found) ≡ least_failing (against same lack first wanted found)
least_unlike same lack first wanted found low = at (nat_lt (length found) (length wanted)) refl ∙ sym (least-against same lack first wanted found low)
  where
    not_less : (m n : ℕ) → nat_lt m n ≡ false → n ≤ m
    not_less m n e = grind (arith, nat_tests)

    tests : List Bool
    tests = wanted_tests same wanted found

    at : (b : Bool) → nat_lt (length found) (length wanted) ≡ b → unlike_line lack first (length found) tests
        ≡ cond (nat_lt (length found) (length wanted)) (Some lack) (at_line first (first_unlike same 0 wanted found))
    at true e = ap (λ n. cond (nat_lt (length found) n) (Some lack) (at_line first (unlike_place (length found) tests))) (length-wanted_tests same wanted found)
        ∙ ap (λ b. cond b (Some lack) (at_line first (unlike_place (length found) tests))) e
        ∙ sym (ap (λ b. cond b (Some lack) (at_line first (first_unlike same 0 wanted found))) e)
    at false e = ap (λ n. cond (nat_lt (length found) n) (Some lack) (at_line first (option_or (first_false 0 tests) (cond (nat_lt n (length found)) (Some n) None)))) (length-wanted_tests same wanted found)
        ∙ ap (λ o. cond (nat_lt (length found) (length wanted)) (Some lack) (at_line first o)) (sym (unlike_from same 0 wanted found (not_less (length found) (length wanted) e) ∙ ap (λ k. option_or (first_false 0 tests) (cond (nat_lt (length wanted) (length found)) (Some k) None)) zero_more))
      where
        zero_more : 0 + length wanted ≡ length wanted
        zero_more = omega arith
