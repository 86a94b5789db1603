-- Lists that are dealt out, read side by side, or grow at their end.
use Rattle.std.proofs.Common.{◌≡◌, ℕ, suc, ◌+◌, ◌<◌, ◌≤◌, List, [], ◌∷◌, ◌++◌, length, drop, get_or, ◌∙◌, refl, sym, subst, ap, arith, rules}
use mathlib.Core.Logic.{dite}
use native.Mathlib.Decide.{ℕ_discrete}
use lib.ListN.{set}
use Rattle.std.proofs.lemmas.List.{drop_more, length-drop, get_or-set_same, get_or-set_other, get_or_default, length-set, get_or_append_left, length-append}
use Rattle.std.proofs.Math.Seq.{get_or-append_seam}

module _ {X : Type 0} where
  below_length : (xs : List X) (n : ℕ) (x : X) (ys : List X) → drop n xs ≡ x ∷ ys → n < length xs
  below_length xs n x ys e = let l = ap length e in let k = length-drop n xs in let one : length (x ∷ ys) ≡ length ys + 1 = search rules in omega arith

  abbrev first_of : List X → X → X
  first_of [] d = d
  first_of (x ∷ xs) d = x

  abbrev rest_of : List X → List X
  rest_of [] = []
  rest_of (x ∷ xs) = xs

  pub heads : (x y : X) (xs ys : List X) → x ∷ xs ≡ y ∷ ys → (x ≡ y) × (xs ≡ ys)
  heads x y xs ys e = (ap (λ (l : List X). first_of l x) e, ap rest_of e)

  -- the next of a column
  pub front : (xs : List X) (n : ℕ) (x : X) (ys : List X) → drop n xs ≡ x ∷ ys → (n < length xs) × ((d : X) → get_or xs n d ≡ x) × (ys ≡ drop (n + 1) xs)
  front xs n x ys e =
      let low = below_length xs n x ys e in
      let h = λ (d : X). heads _ _ _ _ (sym (drop_more xs n d low) ∙ e) in
      (low, (λ d. (h d).0), sym (h x).1)

module _ {V X : Type 0} (f : V → List X) where
  pub dealt : (rows base : List V) (column rest next : List X) (at : ℕ) (u v : V) (value : X)
      → rest ≡ drop at column → rest ≡ value ∷ next → length rows ≡ length base → length column ≡ length base
      → u ≡ get_or rows at u → f v ≡ f u ++ value ∷ []
      → ((k : ℕ) (r : V) (x : X) → k < at → f (get_or rows k r) ≡ f (get_or base k r) ++ get_or column k x ∷ [])
      → ((k : ℕ) (r : V) → at ≤ k → k < length base → get_or rows k r ≡ get_or base k r)
      → (next ≡ drop (at + 1) column) × (at + 1 ≤ length column) × (length (set rows at v) ≡ length base)
      × ((k : ℕ) (r : V) (x : X) → k < at + 1 → f (get_or (set rows at v) k r) ≡ f (get_or base k r) ++ get_or column k x ∷ [])
      × ((k : ℕ) (r : V) → at + 1 ≤ k → k < length base → get_or (set rows at v) k r ≡ get_or base k r)
  dealt rows base column rest next at u v value here step count match u_is v_is done same =
      let fr = front column at value next (sym here ∙ step) in
      let low : at < length rows = let l = fr.0 in omega arith in
      let base_low : at < length base = omega arith in
      let u_base : (r : V) → u ≡ get_or base at r = λ r. u_is ∙ (get_or_default rows at u r low ∙ same at r (omega arith) base_low) in (
        fr.2,
        (let l = fr.0 in omega arith),
        length-set rows at v ∙ count,
        (λ k r x lt. dite (ℕ_discrete k at)
            (λ e. subst (λ (j : ℕ). f (get_or (set rows at v) j r) ≡ f (get_or base j r) ++ get_or column j x ∷ []) (sym e)
            (ap f (get_or-set_same rows at v r low) ∙ (v_is ∙ rw (ap f (u_base r), fr.1 x) refl)))
            (λ ne. ap f (get_or-set_other rows at k v r ne) ∙ done k r x (omega arith))),
        (λ k r le lt. get_or-set_other rows at k v r (λ e. absurd (omega arith)) ∙ same k r (omega arith) lt),
      )

-- lists that are read side by side
module _ {X Y : Type 0} (P : X → Y → Type 0) where
  pub zip_first : (xs next_x : List X) (ys next_y : List Y) (x : X) (y : Y) → xs ≡ x ∷ next_x → ys ≡ y ∷ next_y
      → ((k : ℕ) (d : X) (e : Y) → k < length xs → P (get_or xs k d) (get_or ys k e)) → P x y
  zip_first xs next_x ys next_y x y ex ey all =
      let one : length (x ∷ next_x) ≡ length next_x + 1 = search rules in
      let l = ap length ex in
      let h = all 0 x y (omega arith) in
      let hx : get_or xs 0 x ≡ x = rw ex refl in
      let hy : get_or ys 0 y ≡ y = rw ey refl in
      subst (λ (a : X). P a y) hx (subst (λ (b : Y). P (get_or xs 0 x) b) hy h)

  pub zip_rest : (xs next_x : List X) (ys next_y : List Y) (x : X) (y : Y) → xs ≡ x ∷ next_x → ys ≡ y ∷ next_y
      → ((k : ℕ) (d : X) (e : Y) → k < length xs → P (get_or xs k d) (get_or ys k e))
      → (k : ℕ) (d : X) (e : Y) → k < length next_x → P (get_or next_x k d) (get_or next_y k e)
  zip_rest xs next_x ys next_y x y ex ey all k d e lt =
      let one : length (x ∷ next_x) ≡ length next_x + 1 = search rules in
      let l = ap length ex in
      let h = all (suc k) d e (omega arith) in
      let hx : get_or xs (suc k) d ≡ get_or next_x k d = rw ex refl in
      let hy : get_or ys (suc k) e ≡ get_or next_y k e = rw ey refl in
      subst (λ (a : X). P a (get_or next_y k e)) hx (subst (λ (b : Y). P (get_or xs (suc k) d) b) hy h)

-- what holds of each by its number
module _ {X : Type 0} (P : ℕ → X → Type 0) where
  pub each_first : (n : ℕ) (xs next : List X) (x : X) → xs ≡ x ∷ next → ((k : ℕ) (d : X) → k < length xs → P (n + k) (get_or xs k d)) → P n x
  each_first n xs next x is all =
      let one : length (x ∷ next) ≡ length next + 1 = search rules in
      let l = ap length is in
      let hx : get_or xs 0 x ≡ x = rw is refl in
      let hn : n + 0 ≡ n = omega arith in
      subst (λ (m : ℕ). P m x) hn (subst (P (n + 0)) hx (all 0 x (omega arith)))

  pub each_rest : (n : ℕ) (xs next : List X) (x : X) → xs ≡ x ∷ next → ((k : ℕ) (d : X) → k < length xs → P (n + k) (get_or xs k d)) → (k : ℕ) (d : X) → k < length next → P (n + 1 + k) (get_or next k d)
  each_rest n xs next x is all k d lt =
      let one : length (x ∷ next) ≡ length next + 1 = search rules in
      let l = ap length is in
      let hx : get_or xs (suc k) d ≡ get_or next k d = rw is refl in
      let hn : n + suc k ≡ n + 1 + k = omega arith in
      subst (λ (m : ℕ). P m (get_or next k d)) hn (subst (P (n + suc k)) hx (all (suc k) d (omega arith)))

  pub each_push : (n : ℕ) (xs ys : List X) (x : X) → ys ≡ xs ++ x ∷ [] → length xs ≡ n → ((k : ℕ) (d : X) → k < n → P k (get_or xs k d)) → P n x → (k : ℕ) (d : X) → k < n + 1 → P k (get_or ys k d)
  each_push n xs ys x is len old new k d lt = dite (ℕ_discrete k n)
      (λ e. subst (λ (j : ℕ). P j (get_or ys j d)) (sym e) (subst (P n) (sym (at_end d)) new))
      (λ ne. subst (P k) (sym (before (omega arith))) (old k d (omega arith)))
    where
      at_end : (d : X) → get_or ys n d ≡ x
      at_end d = rw (is, ← len) (get_or-append_seam xs x [] d)

      before : k < length xs → get_or ys k d ≡ get_or xs k d
      before l = rw is (get_or_append_left xs (x ∷ []) d k l)

  pub each_set : (xs : List X) (i : ℕ) (x : X) → i < length xs → P i x → ((k : ℕ) (d : X) → k < length xs → P k (get_or xs k d)) → (k : ℕ) (d : X) → k < length (set xs i x) → P k (get_or (set xs i x) k d)
  each_set xs i x low new old k d lt =
      let n = length-set xs i x in
      dite (ℕ_discrete k i)
      (λ e. subst (λ (j : ℕ). P j (get_or (set xs i x) j d)) (sym e) (subst (P i) (sym (get_or-set_same xs i x d low)) new))
      (λ ne. subst (P k) (sym (get_or-set_other xs i k x d ne)) (old k d (omega arith)))

  pub each_grown : (xs ys : List X) (x : X) → ys ≡ xs ++ x ∷ [] → ((k : ℕ) (d : X) → k < length xs → P k (get_or xs k d)) → P (length xs) x → (k : ℕ) (d : X) → k < length ys → P k (get_or ys k d)
  each_grown xs ys x is old new k d lt = each_push (length xs) xs ys x is refl old new k d (let n = ap length is in let m = length-append xs (x ∷ []) in omega arith)
