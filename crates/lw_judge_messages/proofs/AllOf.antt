-- A test of each of several items, one item more, and where one fails.
use Rattle.std.proofs.Common.{◌≡◌, ℕ, zero, suc, ◌+◌, ◌<◌, ◌≤◌, Bool, true, false, ◌&&◌, List, [], ◌∷◌, length, take, get_or, refl, ap, inl, inr, ◌∙◌, arith}
use Rattle.std.specs.List.{list_all, range_with_len}
use Rattle.std.proofs.lemmas.Bool.{and_from, and_left, and_right, cases_eq}
use Rattle.std.proofs.lemmas.List.{take_more}
use Rattle.std.proofs.lemmas.List.Folds.{list_all-append}
use Rattle.lw_base.proofs.Lists.{range_push}

-- of the numbers of a range
pub all_more : (p : ℕ → Bool) (n : ℕ) → list_all p (range_with_len 0 n) ≡ true → p n ≡ true → list_all p (range_with_len 0 (n + 1)) ≡ true
all_more p n so_far here =
    ap (list_all p) (range_push 0 n) ∙ list_all-append p (range_with_len 0 n) ((0 + n) ∷ [])
    ∙ and_from (list_all p (range_with_len 0 n)) (p (0 + n) && true) so_far (and_from (p (0 + n)) true (ap p same ∙ here) refl)
  where
    same : 0 + n ≡ n
    same = omega arith

fails_from : (p : ℕ → Bool) (a n k : ℕ) → a ≤ k → k < a + n → p k ≡ false → list_all p (range_with_len a n) ≡ false
fails_from p a zero k low high e = absurd (omega (arith, low, high))
fails_from p a (suc n) k low high e = elim (cases_eq a k) [
  | inl same ↦ and_left (p a) (list_all p (range_with_len (a + 1) n)) (ap p same ∙ e)
  | inr ne ↦ and_right (p a) (list_all p (range_with_len (a + 1) n)) (fails_from p (a + 1) n k (omega (arith, low, ne)) (omega (arith, high)) e)
]

pub all_fails : (p : ℕ → Bool) (n k : ℕ) → k < n → p k ≡ false → list_all p (range_with_len 0 n) ≡ false
all_fails p n k less e = fails_from p 0 n k (omega arith) (omega (arith, less)) e

-- of the items of a list
module _ {X : Type 0} (p : X → Bool) where
  pub all_items-more : (xs : List X) (i : ℕ) (d : X) → i < length xs → list_all p (take (i + 1) xs) ≡ (list_all p (take i xs) && (p (get_or xs i d) && true))
  all_items-more xs i d less = ap (list_all p) (take_more xs i d less) ∙ list_all-append p (take i xs) (get_or xs i d ∷ [])

  pub item_fails : (xs : List X) (i : ℕ) (d : X) → i < length xs → p (get_or xs i d) ≡ false → list_all p xs ≡ false
  item_fails [] i d less e = absurd (omega (arith, less))
  item_fails (x ∷ xs) zero d less e = and_left (p x) (list_all p xs) e
  item_fails (x ∷ xs) (suc i) d less e = and_right (p x) (list_all p xs) (item_fails xs i d (omega (arith, less)) e)
