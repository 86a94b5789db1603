-- Places in lists that are put together.
use Rattle.std.proofs.Common.{◌≡◌, ℕ, zero, suc, ◌+◌, List, [], ◌∷◌, ◌++◌, map, flat_map, length, take, slice_get, Some, None, refl, sym, ap, ◌∙◌, arith}
use Rattle.std.specs.Prelude.{sum_by}
use Rattle.std.specs.List.{enumerate_from}
use Rattle.std.proofs.lemmas.List.Sums.{sum_by-cons}
use Rattle.std.proofs.lemmas.List.{length-append}

step : (n k : ℕ) → suc n + k ≡ suc (n + k)
step n k = omega arith

module _ {X : Type 0} where
  -- behind the first list
  pub behind : (xs ys : List X) (k : ℕ) → slice_get (xs ++ ys) (length xs + k) ≡ slice_get ys k
  behind [] ys k = ap (slice_get ys) (omega arith)
  behind (x ∷ xs) ys k = ap (slice_get (x ∷ xs ++ ys)) (step (length xs) k) ∙ behind xs ys k

  -- in the first list
  pub within : (xs ys : List X) (k : ℕ) (x : X) → slice_get xs k ≡ Some x → slice_get (xs ++ ys) k ≡ Some x
  within [] ys k x e = let wrong : None ≡ Some x = e in cc
  within (y ∷ xs) ys zero x e = e
  within (y ∷ xs) ys (suc k) x e = within xs ys k x e

module _ {X Y : Type 0} (f : X → Y) where
  pub mapped : (xs : List X) (k : ℕ) (x : X) → slice_get xs k ≡ Some x → slice_get (map f xs) k ≡ Some (f x)
  mapped [] k x e = let wrong : None ≡ Some x = e in cc
  mapped (y ∷ xs) zero x e = let same : y ≡ x = cc in ap (λ z. Some (f z)) same
  mapped (y ∷ xs) (suc k) x e = mapped xs k x e

  pub behind_mapped : (xs : List X) (ys : List Y) (k : ℕ) → slice_get (map f xs ++ ys) (length xs + k) ≡ slice_get ys k
  behind_mapped [] ys k = ap (slice_get ys) (omega arith)
  behind_mapped (x ∷ xs) ys k = ap (slice_get (map f (x ∷ xs) ++ ys)) (step (length xs) k) ∙ behind_mapped xs ys k

  pub length-mapped : (xs : List X) (ys : List Y) → length (map f xs ++ ys) ≡ length xs + length ys
  length-mapped [] ys = omega arith
  length-mapped (x ∷ xs) ys = let rest : length (map f xs ++ ys) ≡ length xs + length ys = length-mapped xs ys in omega (arith, rest)

-- each item with its number makes some
module _ {X Y : Type 0} (f : ℕ → X → List Y) (size : X → ℕ) (sized : (n : ℕ) (x : X) → length (f n x) ≡ size x) where
  abbrev pub joined : ℕ → List X → List Y
  joined n xs = flat_map (λ p. f p.0 p.1) (enumerate_from n xs)

  pub length-joined : (n : ℕ) (xs : List X) → length (joined n xs) ≡ sum_by size xs
  length-joined n [] = refl
  length-joined n (x ∷ xs) =
      length-append (f n x) (joined (n + 1) xs)
      ∙ ap (λ k. k + length (joined (n + 1) xs)) (sized n x)
      ∙ ap (λ k. size x + k) (length-joined (n + 1) xs)
      ∙ sym (sum_by-cons size x xs)

  pub in_joined : (n : ℕ) (xs : List X) (t k : ℕ) (x : X) (y : Y) → slice_get xs t ≡ Some x → slice_get (f (n + t) x) k ≡ Some y
      → slice_get (joined n xs) (sum_by size (take t xs) + k) ≡ Some y
  in_joined n [] t k x y e h = let wrong : None ≡ Some x = e in cc
  in_joined n (z ∷ xs) zero k x y e h =
      let same : z ≡ x = cc in
      ap (slice_get (joined n (z ∷ xs))) (omega arith) ∙ within (f n z) (joined (n + 1) xs) k y (ap (λ w. slice_get (f n w) k) same ∙ ap (λ m. slice_get (f m x) k) (omega arith) ∙ h)
  in_joined n (z ∷ xs) (suc t) k x y e h =
      ap (slice_get (joined n (z ∷ xs))) (ap (λ m. m + k) (sum_by-cons size z (take t xs)) ∙ sizes)
      ∙ behind (f n z) (joined (n + 1) xs) (sum_by size (take t xs) + k)
      ∙ in_joined (n + 1) xs t k x y e (ap (λ m. slice_get (f m x) k) (omega arith) ∙ h)
    where
      sizes : size z + sum_by size (take t xs) + k ≡ length (f n z) + (sum_by size (take t xs) + k)
      sizes = omega (arith, sized n z)

-- the same where the number doesn't matter
pub unnumbered : {X Y : Type 0} (f : X → List Y) (n : ℕ) (xs : List X) → flat_map (λ p. f p.1) (enumerate_from n xs) ≡ flat_map f xs
unnumbered f n [] = refl
unnumbered f n (x ∷ xs) = ap (λ l. f x ++ l) (unnumbered f (n + 1) xs)

-- a sum of one item more
pub sum_more : {X : Type 0} (size : X → ℕ) (xs : List X) (k : ℕ) (x : X) → slice_get xs k ≡ Some x → sum_by size (take (suc k) xs) ≡ sum_by size (take k xs) + size x
sum_more size [] k x e = let wrong : None ≡ Some x = e in cc
sum_more size (y ∷ xs) zero x e =
    let same : y ≡ x = cc in
    let one : sum_by size (y ∷ []) ≡ size y + sum_by size [] = sum_by-cons size y [] in
    let none : sum_by size (take 0 xs) ≡ 0 = refl in
    omega (arith, one, ap size same)
sum_more size (y ∷ xs) (suc k) x e =
    let rest : sum_by size (take (suc k) xs) ≡ sum_by size (take k xs) + size x = sum_more size xs k x e in
    let long : sum_by size (y ∷ take (suc k) xs) ≡ size y + sum_by size (take (suc k) xs) = sum_by-cons size y (take (suc k) xs) in
    let short : sum_by size (y ∷ take k xs) ≡ size y + sum_by size (take k xs) = sum_by-cons size y (take k xs) in
    omega (arith, rest, long, short)
