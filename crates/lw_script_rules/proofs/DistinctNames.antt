-- Names that differ from each other, one more at a time.
use Rattle.std.proofs.Common.{◌≡◌, ℕ, ◌+◌, ◌<◌, List, [], ◌∷◌, ◌++◌, Bool, true, false, not, ◌&&◌, ◌||◌, map, take, length, get_or, bytes_eq, ap, sym, ◌∙◌, refl}
use Rattle.std.specs.List.{list_any}
use Rattle.std.proofs.lemmas.List.{take_more, map-append}
use Rattle.std.proofs.lemmas.Slice.Eq.{bytes_eq-Decides}
use Rattle.lw_model.specs.ScriptRules.{is_distinct}

pub bytes_eq-comm : (x y : List ℕ) → bytes_eq x y ≡ bytes_eq y x
bytes_eq-comm x y = by_tests (bytes_eq x y) (bytes_eq y x) refl refl
  where
    by_tests : (t u : Bool) → bytes_eq x y ≡ t → bytes_eq y x ≡ u → bytes_eq x y ≡ bytes_eq y x
    by_tests true u e f = e ∙ sym ((bytes_eq-Decides y x).1 (sym ((bytes_eq-Decides x y).0 e)))
    by_tests false true e f = (bytes_eq-Decides x y).1 (sym ((bytes_eq-Decides y x).0 f)) ∙ sym f
    by_tests false false e f = e ∙ sym f

list_any-last : (p : List ℕ → Bool) (xs : List (List ℕ)) (x : List ℕ) → list_any p (xs ++ x ∷ []) ≡ (list_any p xs || p x)
list_any-last p [] x = by_test (p x)
  where
    by_test : (t : Bool) → (t || false) ≡ t
    by_test true = refl
    by_test false = refl
list_any-last p (y ∷ ys) x = by_test (p y) (list_any-last p ys x)
  where
    by_test : (t : Bool) → list_any p (ys ++ x ∷ []) ≡ (list_any p ys || p x) → (t || list_any p (ys ++ x ∷ [])) ≡ ((t || list_any p ys) || p x)
    by_test true e = refl
    by_test false e = e

map-more : {X : Type 0} (f : X → List ℕ) (xs : List X) (i : ℕ) (x : X) → i < length xs → x ≡ get_or xs i x → map f (take (i + 1) xs) ≡ map f (take i xs) ++ f x ∷ []
map-more f xs i x below is = ap (map f) (take_more xs i x below ∙ ap (λ y. take i xs ++ y ∷ []) (sym is)) ∙ map-append f (take i xs) (x ∷ [])

-- one name more
is_distinct-last : (xs : List (List ℕ)) (x : List ℕ) → is_distinct (xs ++ x ∷ []) ≡ (is_distinct xs && not (list_any (bytes_eq x) xs))
is_distinct-last [] x = refl
is_distinct-last (y ∷ ys) x =
    ap (λ b. not b && is_distinct (ys ++ x ∷ [])) (list_any-last (bytes_eq y) ys x)
    ∙ ap (λ b. not (list_any (bytes_eq y) ys || b) && is_distinct (ys ++ x ∷ [])) (bytes_eq-comm y x)
    ∙ ap (λ b. not (list_any (bytes_eq y) ys || bytes_eq x y) && b) (is_distinct-last ys x)
    ∙ by_tests (list_any (bytes_eq y) ys) (bytes_eq x y) (is_distinct ys) (list_any (bytes_eq x) ys)
  where
    by_tests : (a b c d : Bool) → (not (a || b) && (c && not d)) ≡ ((not a && c) && not (b || d))
    by_tests true b c d = refl
    by_tests false true c d = by_kept c
      where
        by_kept : (k : Bool) → false ≡ (k && false)
        by_kept true = refl
        by_kept false = refl
    by_tests false false c d = refl

-- one name more of a list
pub is_distinct-more : {X : Type 0} (f : X → List ℕ) (xs : List X) (i : ℕ) (x : X) → i < length xs → x ≡ get_or xs i x →
    is_distinct (map f (take (i + 1) xs)) ≡ (is_distinct (map f (take i xs)) && not (list_any (bytes_eq (f x)) (map f (take i xs))))
is_distinct-more f xs i x below is =
    ap is_distinct (map-more f xs i x below is) ∙ is_distinct-last (map f (take i xs)) (f x)

pub list_any-more : {X : Type 0} (q : List ℕ) (f : X → List ℕ) (xs : List X) (i : ℕ) (x : X) → i < length xs → x ≡ get_or xs i x →
    list_any (bytes_eq q) (map f (take (i + 1) xs)) ≡ (list_any (bytes_eq q) (map f (take i xs)) || bytes_eq q (f x))
list_any-more q f xs i x below is =
    ap (list_any (bytes_eq q)) (map-more f xs i x below is) ∙ list_any-last (bytes_eq q) (map f (take i xs)) (f x)
