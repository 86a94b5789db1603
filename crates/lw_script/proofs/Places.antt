-- The place of a name among those of a list's items.
use Rattle.std.proofs.Common.{◌≡◌, ℕ, ◌+◌, ◌<◌, List, [], ◌∷◌, ◌++◌, Bool, true, false, not, cond, nat_lt, map, take, length, position, unwrap_or, Some, None, bytes_eq, ap, sym, ◌∙◌, refl, get_or, arith, add-zero, zero-add}
use Rattle.std.specs.List.{prefix_len, position_or_len, position_from}
use Rattle.std.specs.Option.{option_or}
use Rattle.std.proofs.lemmas.List.{length-map, length-take-le, take_more}
use Rattle.std.proofs.lemmas.Iterator.Adapters.{position_from-zero}
use Rattle.lw_model.specs.ScriptShape.{place_of}

prefix_len-map : {X Y : Type 0} (p : Y → Bool) (f : X → Y) (xs : List X) → prefix_len p (map f xs) ≡ prefix_len (λ x. p (f x)) xs
prefix_len-map p f [] = refl
prefix_len-map p f (x ∷ xs) = ap (λ n. cond (p (f x)) (1 + n) 0) (prefix_len-map p f xs)

pub place_of-map : {X : Type 0} (f : X → List ℕ) (xs : List X) (name : List ℕ) → place_of (map f xs) name ≡ unwrap_or (position (λ x. bytes_eq name (f x)) xs) (length xs)
place_of-map f xs name =
    ap (λ n. unwrap_or (cond (nat_lt n (length (map f xs))) (Some n) None) (length (map f xs))) (prefix_len-map (λ t. not (bytes_eq name t)) f xs)
    ∙ ap (λ l. unwrap_or (cond (nat_lt (position_or_len (λ x. bytes_eq name (f x)) xs) l) (Some (position_or_len (λ x. bytes_eq name (f x)) xs)) None) l) (length-map xs f)

position_from-last : {X : Type 0} (p : X → Bool) (n : ℕ) (xs : List X) (x : X) →
    position_from p n (xs ++ x ∷ []) ≡ option_or (position_from p n xs) (cond (p x) (Some (n + length xs)) None)
position_from-last p n [] x = ap (λ k. cond (p x) (Some k) None) (sym (add-zero n))
position_from-last p n (y ∷ ys) x = by_test (p y) (position_from-last p (n + 1) ys x ∙ ap (λ k. option_or (position_from p (n + 1) ys) (cond (p x) (Some k) None)) (omega arith))
  where
    by_test : (t : Bool) → position_from p (n + 1) (ys ++ x ∷ []) ≡ option_or (position_from p (n + 1) ys) (cond (p x) (Some (n + length (y ∷ ys))) None) →
        cond t (Some n) (position_from p (n + 1) (ys ++ x ∷ [])) ≡ option_or (cond t (Some n) (position_from p (n + 1) ys)) (cond (p x) (Some (n + length (y ∷ ys))) None)
    by_test true e = refl
    by_test false e = e

-- the first place among one item more
pub position-more : {X : Type 0} (p : X → Bool) (xs : List X) (i : ℕ) (x : X) → i < length xs → x ≡ get_or xs i x →
    position p (take (i + 1) xs) ≡ option_or (position p (take i xs)) (cond (p x) (Some i) None)
position-more p xs i x below is =
    ap (position p) (take_more xs i x below ∙ ap (λ y. take i xs ++ y ∷ []) (sym is))
    ∙ position_from-zero p (take i xs ++ x ∷ [])
    ∙ position_from-last p 0 (take i xs) x
    ∙ ap (λ o. option_or o (cond (p x) (Some (0 + length (take i xs))) None)) (sym (position_from-zero p (take i xs)))
    ∙ ap (λ k. option_or (position p (take i xs)) (cond (p x) (Some k) None)) (zero-add (length (take i xs)) ∙ length-take-le i xs (omega arith))
