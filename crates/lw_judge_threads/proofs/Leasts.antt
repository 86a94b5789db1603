-- The first failing line of tests that stand one list behind another.
use Rattle.std.proofs.Common.{◌≡◌, ℕ, suc, ◌+◌, ◌≤◌, min, Bool, true, false, cond, List, [], ◌∷◌, ◌++◌, ◌&&◌, nat_lt, length, map, flat_map, Option, Some, None, refl, sym, ap, ◌∙◌, arith}
use Rattle.std.specs.List.{enumerate_from, range_with_len, list_all, AllByRecursion}
use Rattle.std.proofs.lemmas.Bool.Decides.{nat_tests}
use Rattle.std.proofs.lemmas.List.{append-nil}
use Rattle.std.proofs.lemmas.Grind.{flat_map-append}
use Rattle.lw_base.proofs.Lists.{range_push}
use Rattle.lw_model.specs.OwnOrder.{with_past}
use Rattle.lw_model.specs.Verdict.{Test, least_failing, each_line, against}
use Rattle.lw_model.specs.Same.{both}
use Rattle.lw_judge_threads.specs.Firsts.{first_unfit, first_unlike, at_line, lesser}

-- one test more
abbrev with_test : Bool → ℕ → Option ℕ → Option ℕ
with_test b l o = cond b o (elim o [ None ↦ Some l | Some m ↦ Some (min l m) ])

pub lesser_none : (o : Option ℕ) → lesser o None ≡ o
lesser_none None = refl
lesser_none (Some l) = refl

min_assoc : (a b c : ℕ) → min a (min b c) ≡ min (min a b) c
min_assoc a b c = grind arith

min_comm : (a b : ℕ) → min a b ≡ min b a
min_comm a b = grind arith

min_low : (a b : ℕ) → a ≤ b → min a b ≡ a
min_low a b h = grind arith

pub lesser_assoc : (a b c : Option ℕ) → lesser a (lesser b c) ≡ lesser (lesser a b) c
lesser_assoc None b c = refl
lesser_assoc (Some l) None c = refl
lesser_assoc (Some l) (Some m) None = refl
lesser_assoc (Some l) (Some m) (Some n) = ap Some (min_assoc l m n)

pub lesser_comm : (a b : Option ℕ) → lesser a b ≡ lesser b a
lesser_comm None b = sym (lesser_none b)
lesser_comm (Some l) None = refl
lesser_comm (Some l) (Some m) = ap Some (min_comm l m)

test_lesser : (b : Bool) (l : ℕ) (o p : Option ℕ) → with_test b l (lesser o p) ≡ lesser (with_test b l o) p
test_lesser true l o p = refl
test_lesser false l None None = refl
test_lesser false l None (Some m) = refl
test_lesser false l (Some n) None = refl
test_lesser false l (Some n) (Some m) = ap Some (min_assoc l n m)

pub least-append : (xs ys : List Test) → least_failing (xs ++ ys) ≡ lesser (least_failing xs) (least_failing ys)
least-append [] ys = refl
least-append (x ∷ xs) ys = ap (with_test x.1 x.0) (least-append xs ys) ∙ test_lesser x.1 x.0 (least_failing xs) (least_failing ys)

-- of one test
pub least-one : (l : ℕ) (b : Bool) → least_failing ((l, b) ∷ []) ≡ cond b None (Some l)
least-one l true = refl
least-one l false = refl

-- a test before others
pub least-cons : (l : ℕ) (b : Bool) (ts : List Test) → least_failing ((l, b) ∷ ts) ≡ lesser (cond b None (Some l)) (least_failing ts)
least-cons l b ts = least-append ((l, b) ∷ []) ts ∙ ap (λ o. lesser o (least_failing ts)) (least-one l b)

-- ---- The tests of each number of a range

-- the first failing line of the numbers of a range, with the next number's
pub least_push : (f : ℕ → List Test) (a n : ℕ) → least_failing (flat_map f (range_with_len a (n + 1))) ≡ lesser (least_failing (flat_map f (range_with_len a n))) (least_failing (f (a + n)))
least_push f a n =
    ap (λ l. least_failing (flat_map f l)) (range_push a n)
    ∙ ap least_failing (flat_map-append f (range_with_len a n) ((a + n) ∷ []))
    ∙ ap (λ l. least_failing (flat_map f (range_with_len a n) ++ l)) (append-nil (f (a + n)))
    ∙ least-append (flat_map f (range_with_len a n)) (f (a + n))

-- ---- The tests of the lines of a list

-- no line is below `low`
abbrev pub NotBelow : ℕ → Option ℕ → Type 0
NotBelow low None = Unit {0}
NotBelow low (Some l) = low ≤ l

lesser_low : (low : ℕ) (o : Option ℕ) → NotBelow low o → lesser (Some low) o ≡ Some low
lesser_low low None h = refl
lesser_low low (Some l) h = ap Some (min_low low l h)

unfit_from : {X : Type 0} (fits : List X → X → Bool) (n : ℕ) (past xs : List X) → NotBelow n (first_unfit fits n past xs)
unfit_from fits n past [] = tt
unfit_from fits n past (x ∷ xs) = at (fits past x) (first_unfit fits (n + 1) (x ∷ past) xs) (unfit_from fits (n + 1) (x ∷ past) xs)
  where
    at : (b : Bool) (o : Option ℕ) → NotBelow (n + 1) o → NotBelow n (cond b o (Some n))
    at true None h = tt
    at true (Some l) h = omega (arith, h)
    at false o h = omega arith

line_from : (base n : ℕ) (o : Option ℕ) → NotBelow n o → NotBelow (base + n) (at_line base o)
line_from base n None h = tt
line_from base n (Some l) h = omega (arith, h)

least_from : {X : Type 0} (line : ℕ → ℕ) (base : ℕ) → ((i : ℕ) → line i ≡ base + i) → (fits : List X → X → Bool) (n : ℕ) (past xs : List X)
    → least_failing (map (λ p. (line p.0, fits p.1.0 p.1.1)) (enumerate_from n (with_past past xs))) ≡ at_line base (first_unfit fits n past xs)
least_from line base lines fits n past [] = refl
least_from line base lines fits n past (x ∷ xs) =
    ap (with_test (fits past x) (line n)) (least_from line base lines fits (n + 1) (x ∷ past) xs)
    ∙ ap (λ l. with_test (fits past x) l (at_line base (first_unfit fits (n + 1) (x ∷ past) xs))) (lines n)
    ∙ at (fits past x) (first_unfit fits (n + 1) (x ∷ past) xs) (unfit_from fits (n + 1) (x ∷ past) xs)
  where
    at : (b : Bool) (o : Option ℕ) → NotBelow (n + 1) o → with_test b (base + n) (at_line base o) ≡ at_line base (cond b o (Some n))
    at true o h = refl
    at false None h = refl
    at false (Some l) h = ap Some (min_low (base + n) (base + l) (omega (arith, h)))

-- of a list whose lines follow one another, the first item that doesn't fit
pub least-each_line : {X : Type 0} (line : ℕ → ℕ) (base : ℕ) → ((i : ℕ) → line i ≡ base + i) → (fits : List X → X → Bool) (xs : List X)
    → least_failing (each_line line fits xs) ≡ at_line base (first_unfit fits 0 [] xs)
least-each_line line base lines fits xs = least_from line base lines fits 0 [] xs

-- ---- Tests at one line

pub least_at_one : (line : ℕ) (ts : List Test) → AllByRecursion (λ t. t.0 ≡ line) ts → least_failing ts ≡ cond (list_all (λ e. e.1) ts) None (Some line)
least_at_one line [] all = refl
least_at_one line (t ∷ ts) all =
    ap (with_test t.1 t.0) (least_at_one line ts all.1)
    ∙ ap (λ l. with_test t.1 l (cond (list_all (λ e. e.1) ts) None (Some line))) all.0
    ∙ at t.1 (list_all (λ e. e.1) ts)
  where
    same : min line line ≡ line
    same = grind arith

    at : (b q : Bool) → with_test b line (cond q None (Some line)) ≡ cond (b && q) None (Some line)
    at true q = refl
    at false true = refl
    at false false = ap Some same

-- ---- Items against the wanted ones

unlike_from : {X : Type 0} (same : X → X → Bool) (n : ℕ) (wanted : List (Option X)) (found : List X) → NotBelow n (first_unlike same n wanted found)
unlike_from same n [] [] = tt
unlike_from same n (w ∷ wanted) [] = tt
unlike_from same n [] (x ∷ found) = omega arith
unlike_from same n (w ∷ wanted) (x ∷ found) = at (both same w (Some x)) (first_unlike same (n + 1) wanted found) (unlike_from same (n + 1) wanted found)
  where
    at : (b : Bool) (o : Option ℕ) → NotBelow (n + 1) o → NotBelow n (cond b o (Some n))
    at true None h = tt
    at true (Some l) h = omega (arith, h)
    at false o h = omega arith

-- where one lacks, its line, and else the line of the first that isn't the wanted one
abbrev lack_or : ℕ → ℕ → ℕ → ℕ → Option ℕ → Option ℕ
lack_or last base found wanted o = cond (nat_lt found wanted) (Some last) (at_line base o)

against_from : {X : Type 0} (same : X → X → Bool) (last base n : ℕ) (wanted : List (Option X)) (found : List X) → last ≤ base
    → least_failing (against same last (base + n) wanted found) ≡ lack_or last base (length found) (length wanted) (first_unlike same n wanted found)
against_from same last base n [] [] low = refl
against_from same last base n (w ∷ wanted) [] low = ap (λ (b : Bool). cond b (Some last) None) (sym (one_lacks (length wanted)))
  where
    one_lacks : (k : ℕ) → nat_lt 0 (suc k) ≡ true
    one_lacks k = grind (arith, nat_tests)
against_from same last base n [] (x ∷ found) low =
    ap (λ k. with_test false (base + n) (least_failing (against same last k [] found))) next
    ∙ ap (with_test false (base + n)) (against_from same last base (n + 1) [] found low)
    ∙ ap (λ b. with_test false (base + n) (cond b (Some last) (at_line base (first_unlike same (n + 1) [] found)))) (none_lacks (length found))
    ∙ at (first_unlike same (n + 1) [] found) (unlike_from same (n + 1) [] found)
    ∙ ap (λ b. cond b (Some last) (Some (base + n))) (sym (none_lacks (suc (length found))))
  where
    next : base + n + 1 ≡ base + (n + 1)
    next = omega arith

    none_lacks : (k : ℕ) → nat_lt k 0 ≡ false
    none_lacks k = grind (arith, nat_tests)

    at : (o : Option ℕ) → NotBelow (n + 1) o → with_test false (base + n) (at_line base o) ≡ Some (base + n)
    at None h = refl
    at (Some l) h = ap Some (min_low (base + n) (base + l) (omega (arith, h)))
against_from same last base n (w ∷ wanted) (x ∷ found) low =
    ap (λ k. with_test (both same w (Some x)) (base + n) (least_failing (against same last k wanted found))) next
    ∙ ap (with_test (both same w (Some x)) (base + n)) (against_from same last base (n + 1) wanted found low)
    ∙ at (both same w (Some x)) (nat_lt (length found) (length wanted)) (first_unlike same (n + 1) wanted found) (unlike_from same (n + 1) wanted found)
    ∙ ap (λ b. cond b (Some last) (at_line base (cond (both same w (Some x)) (first_unlike same (n + 1) wanted found) (Some n)))) more
  where
    next : base + n + 1 ≡ base + (n + 1)
    next = omega arith

    more : nat_lt (length found) (length wanted) ≡ nat_lt (suc (length found)) (suc (length wanted))
    more = grind (arith, nat_tests)

    at : (b q : Bool) (o : Option ℕ) → NotBelow (n + 1) o → with_test b (base + n) (cond q (Some last) (at_line base o)) ≡ cond q (Some last) (at_line base (cond b o (Some n)))
    at true true o h = refl
    at true false o h = refl
    at false true o h = ap Some (min_high (base + n) last (omega (arith, low)))
      where
        min_high : (a b : ℕ) → b ≤ a → min a b ≡ b
        min_high a b h = grind arith
    at false false None h = refl
    at false false (Some l) h = ap Some (min_low (base + n) (base + l) (omega (arith, h)))

pub least-against : {X : Type 0} (same : X → X → Bool) (last line : ℕ) (wanted : List (Option X)) (found : List X) → last ≤ line
    → least_failing (against same last line wanted found) ≡ cond (nat_lt (length found) (length wanted)) (Some last) (at_line line (first_unlike same 0 wanted found))
least-against same last line wanted found low = ap (λ k. least_failing (against same last k wanted found)) here ∙ against_from same last line 0 wanted found low
  where
    here : line ≡ line + 0
    here = omega arith
