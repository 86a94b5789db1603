-- The text of lines that a list gives, and of lines in a row; what holds of each item of a list.
use Rattle.std.proofs.Common.{◌≡◌, ℕ, List, [], ◌∷◌, ◌++◌, map, flat_map, take, length, slice_index_or, ◌+◌, ◌<◌, ◌≤◌, arith, add-zero, length-take-le, sym, ap, refl, subst, ◌∙◌, append_assoc, append-nil}
use Rattle.std.proofs.lemmas.List.Folds.{flat_map-map}
use Rattle.std.proofs.lemmas.Grind.{flat_map-append}
use Rattle.std.specs.List.{AllByRecursion, enumerate_from}
use Rattle.std.proofs.lemmas.List.{take_all, take_more}
use Rattle.lw_model.specs.ReportText.{text_of_lines}
use Rattle.lw_model.proofs.Growth.{all-append}

pub text_of_lines-map : {X : Type 0} (f : X → List ℕ) (xs : List X) → text_of_lines (map f xs) ≡ flat_map (λ x. f x ++ 10 ∷ []) xs
text_of_lines-map f xs = flat_map-map (λ l. l ++ 10 ∷ []) f xs

pub text_of_lines-append : (xs ys : List (List ℕ)) → text_of_lines (xs ++ ys) ≡ text_of_lines xs ++ text_of_lines ys
text_of_lines-append xs ys = flat_map-append (λ l. l ++ 10 ∷ []) xs ys

-- a text behind what stands there already
pub after : (old mid a b whole : List ℕ) → mid ≡ old ++ a → a ++ b ≡ whole → mid ++ b ≡ old ++ whole
after old mid a b whole m w = ap (λ t. t ++ b) m ∙ append_assoc old a b ∙ ap (λ t. old ++ t) w

-- the lines of a list behind those before
pub more : {X : Type 0} (f : X → List ℕ) (old mid : List ℕ) (before : List (List ℕ)) (xs ys : List X) → mid ≡ old ++ text_of_lines before → ys ≡ xs → mid ++ flat_map (λ x. f x ++ 10 ∷ []) ys ≡ old ++ text_of_lines (before ++ map f xs)
more f old mid before xs ys m e =
    after old mid (text_of_lines before) (flat_map (λ x. f x ++ 10 ∷ []) ys) (text_of_lines (before ++ map f xs)) m
    (ap (λ zs. text_of_lines before ++ flat_map (λ x. f x ++ 10 ∷ []) zs) e
    ∙ ap (λ t. text_of_lines before ++ t) (sym (text_of_lines-map f xs))
    ∙ sym (text_of_lines-append before (map f xs)))

-- a line by itself
pub one : (old mid l : List ℕ) → mid ≡ old ++ (l ++ 10 ∷ []) → mid ≡ old ++ text_of_lines (l ∷ [])
one old mid l m = m ∙ ap (λ t. old ++ t) (sym (append-nil (l ++ 10 ∷ [])))

-- ---- numbered lists

pub enumerate_from-more : {X : Type 0} (n : ℕ) (xs : List X) (x : X) → enumerate_from n (xs ++ x ∷ []) ≡ enumerate_from n xs ++ (n + length xs, x) ∷ []
enumerate_from-more n [] x = ap (λ k. (k, x) ∷ []) (sym (add-zero n))
enumerate_from-more n (y ∷ ys) x =
    ap (λ t. (n, y) ∷ t) (enumerate_from-more (n + 1) ys x ∙ ap (λ k. enumerate_from (n + 1) ys ++ (k, x) ∷ []) (omega arith))

-- what a numbered list gives, one element on
pub numbered-more : {X : Type 0} (f : ℕ × X → List ℕ) (xs : List X) (i : ℕ) (d : X) → i < length xs →
    flat_map f (enumerate_from 0 (take (i + 1) xs)) ≡ flat_map f (enumerate_from 0 (take i xs)) ++ f (i, slice_index_or xs i d)
numbered-more {X} f xs i d below =
    let x : X = slice_index_or xs i d in
    ap (λ ys. flat_map f (enumerate_from 0 ys)) (take_more xs i d below)
    ∙ ap (flat_map f) (enumerate_from-more 0 (take i xs) x)
    ∙ flat_map-append f (enumerate_from 0 (take i xs)) ((0 + length (take i xs), x) ∷ [])
    ∙ ap (λ t. flat_map f (enumerate_from 0 (take i xs)) ++ t) (append-nil (f (0 + length (take i xs), x)))
    ∙ ap (λ k. flat_map f (enumerate_from 0 (take i xs)) ++ f (k, x)) (omega (arith, length-take-le i xs))

-- ---- the items so far

-- the texts of one item more
pub texts_more : {X : Type 0} (f : X → List ℕ) (xs : List X) (i : ℕ) (d : X) → i < length xs → flat_map f (take (i + 1) xs) ≡ flat_map f (take i xs) ++ f (slice_index_or xs i d)
texts_more f xs i d below =
    ap (flat_map f) (take_more xs i d below)
    ∙ flat_map-append f (take i xs) (slice_index_or xs i d ∷ [])
    ∙ ap (λ t. flat_map f (take i xs) ++ t) (append-nil (f (slice_index_or xs i d)))

-- what holds of each holds of one item more
pub all_more : {X : Type 0} (P : X → Type 0) (xs : List X) (i : ℕ) (d : X) → i < length xs → AllByRecursion P (take i xs) → P (slice_index_or xs i d) → AllByRecursion P (take (i + 1) xs)
all_more P xs i d below all here = subst (AllByRecursion P) (sym (take_more xs i d below)) (all-append P (take i xs) (slice_index_or xs i d ∷ []) all (here, tt))

-- at the end it holds of all
pub all_taken : {X : Type 0} (P : X → Type 0) (xs : List X) (i : ℕ) → length xs ≤ i → AllByRecursion P (take i xs) → AllByRecursion P xs
all_taken P xs i past all = subst (AllByRecursion P) (take_all i xs past) all

-- ---- lines behind lines

pub then : (old mid new : List ℕ) (xs ys : List (List ℕ)) → mid ≡ old ++ text_of_lines xs → new ≡ mid ++ text_of_lines ys → new ≡ old ++ text_of_lines (xs ++ ys)
then old mid new xs ys m n = n ∙ after old mid (text_of_lines xs) (text_of_lines ys) (text_of_lines (xs ++ ys)) m (sym (text_of_lines-append xs ys))

pub text_of_lines-flat_map : {X : Type 0} (f : X → List (List ℕ)) (xs : List X) → text_of_lines (flat_map f xs) ≡ flat_map (λ x. text_of_lines (f x)) xs
text_of_lines-flat_map f [] = refl
text_of_lines-flat_map f (x ∷ xs) = text_of_lines-append (f x) (flat_map f xs) ∙ ap (λ t. text_of_lines (f x) ++ t) (text_of_lines-flat_map f xs)

-- a list's texts as the text of its lines
pub as_lines : {X : Type 0} (f : X → List (List ℕ)) (mid new : List ℕ) (xs ys : List X) → ys ≡ xs → new ≡ mid ++ flat_map (λ x. text_of_lines (f x)) ys → new ≡ mid ++ text_of_lines (flat_map f xs)
as_lines f mid new xs ys e n = n ∙ ap (λ t. mid ++ t) (ap (flat_map (λ x. text_of_lines (f x))) e ∙ sym (text_of_lines-flat_map f xs))

-- the same, where the lines behind are those of a value that another one is equal to
pub then_of : {X : Type 0} (f : X → List (List ℕ)) (old mid new : List ℕ) (xs : List (List ℕ)) (a b : X) → b ≡ a → mid ≡ old ++ text_of_lines xs → new ≡ mid ++ text_of_lines (f b) → new ≡ old ++ text_of_lines (xs ++ f a)
then_of f old mid new xs a b e m n = then old mid new xs (f a) m (n ∙ ap (λ v. mid ++ text_of_lines (f v)) e)
