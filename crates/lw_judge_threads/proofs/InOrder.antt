-- A stable sort by how many messages had been run puts steps in own order.
use Rattle.std.proofs.Common.{◌≡◌, ℕ, suc, ◌<◌, ◌≤◌, nat_le, Bool, true, false, cond, List, [], ◌∷◌, length, get_or, filter, nat_cmp, is_lt, refl, sym, ap, subst, ◌∙◌, arith}
use Rattle.std.specs.List.{AllByRecursion}
use Rattle.std.specs.List.Sorted.{ties, IsNonDecreasingBy, IsStableByKey}
use Rattle.std.proofs.lemmas.Bool.{leb-true}
use Rattle.std.proofs.lemmas.Bool.Decides.{nat_tests}
use Rattle.lw_base.proofs.Lists.{heads, tails}
use Rattle.lw_model.specs.declared.step.Step.{Step}
use Rattle.lw_model.specs.OwnOrder.{in_order, put_in, at_of}

-- made after as many messages
abbrev same_at : Step → Step → Bool
same_at = ties (λ x y. is_lt (nat_cmp (at_of x) (at_of y)))

ties_at : (m n : ℕ) → (ties (λ x y. is_lt (nat_cmp x y)) m n ≡ true → m ≡ n) × (m ≡ n → ties (λ x y. is_lt (nat_cmp x y)) m n ≡ true)
ties_at m n = (λ h. grind (arith, nat_tests), λ h. grind (arith, nat_tests))

same_at-true : (x y : Step) → same_at x y ≡ true → at_of x ≡ at_of y
same_at-true x y = (ties_at (at_of x) (at_of y)).0

same_at_from : (x y : Step) → at_of x ≡ at_of y → same_at x y ≡ true
same_at_from x y = (ties_at (at_of x) (at_of y)).1

false_from : (b : Bool) → (b ≡ true → ⊥) → b ≡ false
false_from true never = absurd (never refl)
false_from false never = refl

-- ---- Own order is stable

filter-put_in : (x s : Step) (xs : List Step) → filter (same_at x) (put_in s xs) ≡ filter (same_at x) (s ∷ xs)
filter-put_in x s [] = refl
filter-put_in x s (y ∷ xs) = at (nat_le (at_of s) (at_of y)) refl (filter-put_in x s xs)
  where
    passed : (a b : Bool) → a ≡ same_at x s → b ≡ same_at x y → at_of y < at_of s → cond b (y ∷ cond a (s ∷ filter (same_at x) xs) (filter (same_at x) xs)) (cond a (s ∷ filter (same_at x) xs) (filter (same_at x) xs))
        ≡ cond a (s ∷ cond b (y ∷ filter (same_at x) xs) (filter (same_at x) xs)) (cond b (y ∷ filter (same_at x) xs) (filter (same_at x) xs))
    passed true true e f less = absurd (omega (arith, less, same_at-true x s (sym e), same_at-true x y (sym f)))
    passed true false e f less = refl
    passed false true e f less = refl
    passed false false e f less = refl

    at : (b : Bool) → nat_le (at_of s) (at_of y) ≡ b → filter (same_at x) (put_in s xs) ≡ filter (same_at x) (s ∷ xs)
        → filter (same_at x) (cond b (s ∷ y ∷ xs) (y ∷ put_in s xs)) ≡ filter (same_at x) (s ∷ y ∷ xs)
    at true is rest = refl
    at false is rest = ap (λ l. cond (same_at x y) (y ∷ l) l) rest
        ∙ passed (same_at x s) (same_at x y) refl refl (above (at_of s) (at_of y) is)
      where
        above : (a c : ℕ) → nat_le a c ≡ false → c < a
        above a c e = grind (arith, nat_tests)

filter-in_order : (x : Step) (ss : List Step) → filter (same_at x) (in_order ss) ≡ filter (same_at x) ss
filter-in_order x [] = refl
filter-in_order x (s ∷ ss) = filter-put_in x s (in_order ss) ∙ ap (λ l. cond (same_at x s) (s ∷ l) l) (filter-in_order x ss)

-- ---- Own order rises

abbrev NotBefore : ℕ → List Step → Type 0
NotBefore a ss = AllByRecursion (λ (s : Step). a ≤ at_of s) ss

abbrev Rises : List Step → Type 0
Rises [] = Unit {0}
Rises (s ∷ ss) = NotBefore (at_of s) ss × Rises ss

lower : (a b : ℕ) → a ≤ b → (ss : List Step) → NotBefore b ss → NotBefore a ss
lower a b h [] all = tt
lower a b h (s ∷ ss) all = (omega (arith, h, all.0), lower a b h ss all.1)

put_not_before : (a : ℕ) (s : Step) (xs : List Step) → a ≤ at_of s → NotBefore a xs → NotBefore a (put_in s xs)
put_not_before a s [] h all = (h, tt)
put_not_before a s (x ∷ xs) h all = at (nat_le (at_of s) (at_of x)) (put_not_before a s xs h all.1)
  where
    at : (b : Bool) → NotBefore a (put_in s xs) → NotBefore a (cond b (s ∷ x ∷ xs) (x ∷ put_in s xs))
    at true rest = (h, all)
    at false rest = (all.0, rest)

put_rises : (s : Step) (xs : List Step) → Rises xs → Rises (put_in s xs)
put_rises s [] h = (tt, tt)
put_rises s (x ∷ xs) h = at (nat_le (at_of s) (at_of x)) refl (put_rises s xs h.1)
  where
    at : (b : Bool) → nat_le (at_of s) (at_of x) ≡ b → Rises (put_in s xs) → Rises (cond b (s ∷ x ∷ xs) (x ∷ put_in s xs))
    at true is rest = let below = leb-true (at_of s) (at_of x) is in ((below, lower (at_of s) (at_of x) below xs h.0), h)
    at false is rest = (put_not_before (at_of x) s xs (above (at_of s) (at_of x) is) h.0, rest)
      where
        above : (a c : ℕ) → nat_le a c ≡ false → c ≤ a
        above a c e = grind (arith, nat_tests)

order_rises : (ss : List Step) → Rises (in_order ss)
order_rises [] = tt
order_rises (s ∷ ss) = put_rises s (in_order ss) (order_rises ss)

-- ---- Two lists that rise are one where the steps of each number are

rises_of : (xs : List Step) → IsNonDecreasingBy at_of xs → Rises xs
rises_of [] h = tt
rises_of (x ∷ xs) h = (first xs (λ j d less. h 0 (suc j) d (omega arith) (omega (arith, less))), rises_of xs (λ i j d low less. h (suc i) (suc j) d (omega (arith, low)) (omega (arith, less))))
  where
    first : (ys : List Step) → ((j : ℕ) (d : Step) → j < length ys → at_of x ≤ at_of (get_or ys j d)) → NotBefore (at_of x) ys
    first [] h = tt
    first (y ∷ ys) h = (h 0 x (omega arith), first ys (λ j d less. h (suc j) d (omega (arith, less))))

abbrev AreTied : List Step → List Step → Type 0
AreTied xs ys = (x : Step) → filter (same_at x) xs ≡ filter (same_at x) ys

kept_first : (x : Step) (xs : List Step) → filter (same_at x) (x ∷ xs) ≡ x ∷ filter (same_at x) xs
kept_first x xs = ap (λ b. cond b (x ∷ filter (same_at x) xs) (filter (same_at x) xs)) (same_at_from x x refl)

-- a list in which a step made after so many messages stands isn't all later
none_below : (x : Step) (ys : List Step) (z : Step) (zs : List Step) → filter (same_at x) ys ≡ z ∷ zs → (a : ℕ) → NotBefore a ys → a ≤ at_of x
none_below x [] z zs e a all = let wrong : ◌≡◌ {A = List Step} [] (z ∷ zs) = e in cc
none_below x (y ∷ ys) z zs e a all = at (same_at x y) refl e
  where
    at : (b : Bool) → same_at x y ≡ b → cond b (y ∷ filter (same_at x) ys) (filter (same_at x) ys) ≡ z ∷ zs → a ≤ at_of x
    at true is e = omega (arith, all.0, same_at-true x y is)
    at false is e = rest e
      where
        rest : filter (same_at x) ys ≡ z ∷ zs → a ≤ at_of x
        rest e = later ys e all.1
          where
            later : (ws : List Step) → filter (same_at x) ws ≡ z ∷ zs → NotBefore a ws → a ≤ at_of x
            later [] e all = let wrong : ◌≡◌ {A = List Step} [] (z ∷ zs) = e in cc
            later (w ∷ ws) e all = again (same_at x w) refl e (λ f. later ws f all.1)
              where
                again : (b : Bool) → same_at x w ≡ b → cond b (w ∷ filter (same_at x) ws) (filter (same_at x) ws) ≡ z ∷ zs → (filter (same_at x) ws ≡ z ∷ zs → a ≤ at_of x) → a ≤ at_of x
                again true is e more = omega (arith, all.0, same_at-true x w is)
                again false is e more = more e

rest_tied : (x : Step) (xs ys : List Step) → AreTied (x ∷ xs) (x ∷ ys) → AreTied xs ys
rest_tied x xs ys tied z = at (same_at z x) (tied z)
  where
    at : (b : Bool) → cond b (x ∷ filter (same_at z) xs) (filter (same_at z) xs) ≡ cond b (x ∷ filter (same_at z) ys) (filter (same_at z) ys) → filter (same_at z) xs ≡ filter (same_at z) ys
    at true e = tails e
    at false e = e

one_list : (xs ys : List Step) → Rises xs → Rises ys → AreTied xs ys → xs ≡ ys
one_list [] [] up up' tied = refl
one_list [] (y ∷ ys) up up' tied = let wrong : ◌≡◌ {A = List Step} [] (y ∷ filter (same_at y) ys) = tied y ∙ kept_first y ys in cc
one_list (x ∷ xs) [] up up' tied = let wrong : ◌≡◌ {A = List Step} (x ∷ filter (same_at x) xs) [] = sym (kept_first x xs) ∙ tied x in cc
one_list (x ∷ xs) (y ∷ ys) up up' tied =
    ap (λ z. z ∷ xs) first ∙ ap (λ l. y ∷ l) (one_list xs ys up.1 up'.1 (rest_tied y xs ys (subst (λ z. AreTied (z ∷ xs) (y ∷ ys)) first tied)))
  where
    low : at_of x ≤ at_of y
    low = none_below y (x ∷ xs) y (filter (same_at y) ys) (tied y ∙ kept_first y ys) (at_of x) (omega arith, up.0)

    high : at_of y ≤ at_of x
    high = none_below x (y ∷ ys) x (filter (same_at x) xs) (sym (tied x) ∙ kept_first x xs) (at_of y) (omega arith, up'.0)

    first : x ≡ y
    first = heads (sym (kept_first x xs) ∙ tied x ∙ ap (λ b. cond b (y ∷ filter (same_at x) ys) (filter (same_at x) ys)) (same_at_from x y (omega (arith, low, high))))

pub in_order-from_sort : (xs ys : List Step) → IsNonDecreasingBy at_of ys → IsStableByKey at_of nat_cmp xs ys → ys ≡ in_order xs
in_order-from_sort xs ys up stable = one_list ys (in_order xs) (rises_of ys up) (order_rises xs) (λ x. stable x ∙ sym (filter-in_order x xs))
