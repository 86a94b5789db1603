-- What the app's loops over devices have done so far, device by device.
use Rattle.std.proofs.Common.{ℕ, zero, suc, ◌≡◌, ◌+◌, ◌<◌, List, [], ◌∷◌, ◌++◌, map, filter_map, zip, take, drop, length, get_or, set, Option, Some, None, option_to_list, append_assoc, refl, sym, ap, ap₂, subst, ◌∙◌, arith}
use Rattle.std.specs.List.{enumerate_from, cons_option}
use Rattle.std.proofs.lemmas.List.{map-append, take_more, length-take-le}
use Rattle.std.proofs.lemmas.List.Elements.{filter_map-append}
use Rattle.lw_model.proofs.Growth.{enumerate_push}

-- the items of a list made anew by another's up to place i, and those behind as they were
abbrev pub made_to : {X Y : Type 0} → (X → Y) → List X → List Y → ℕ → List Y
made_to f xs ys i = map f (take i xs) ++ drop i ys

pub made_next : {X Y : Type 0} (f : X → Y) (xs : List X) (ys : List Y) (i : ℕ) (d : X) (y : Y) → i < length xs → length ys ≡ length xs → y ≡ f (get_or xs i d)
    → set (made_to f xs ys i) i y ≡ made_to f xs ys (i + 1)
made_next f [] ys i d y less long e = absurd (omega (arith, less))
made_next f (x ∷ xs) [] i d y less long e = absurd (omega (arith, long))
made_next f (x ∷ xs) (z ∷ ys) zero d y less long e = ap (λ q. q ∷ ys) e
made_next f (x ∷ xs) (z ∷ ys) (suc i) d y less long e =
    ap (λ q. f x ∷ q) (made_next f xs ys i d y (omega (arith, less)) (omega (arith, long)) e)
    ∙ ap (made_to f (x ∷ xs) (z ∷ ys)) next
  where
    next : suc (i + 1) ≡ suc i + 1
    next = omega arith

pub made_get : {X Y : Type 0} (f : X → Y) (xs : List X) (ys : List Y) (i : ℕ) (d : Y) → i < length xs → length ys ≡ length xs → get_or (made_to f xs ys i) i d ≡ get_or ys i d
made_get f [] ys i d less long = absurd (omega (arith, less))
made_get f (x ∷ xs) [] i d less long = absurd (omega (arith, long))
made_get f (x ∷ xs) (z ∷ ys) zero d less long = refl
made_get f (x ∷ xs) (z ∷ ys) (suc i) d less long = made_get f xs ys i d (omega (arith, less)) (omega (arith, long))

pub made_all : {X Y : Type 0} (f : X → Y) (xs : List X) (ys : List Y) (i : ℕ) → i ≡ length xs → length ys ≡ length xs → made_to f xs ys i ≡ map f xs
made_all f [] [] i e long = subst (λ n. made_to f [] [] n ≡ []) (sym e) refl
made_all f [] (z ∷ ys) i e long = absurd (omega (arith, long))
made_all f (x ∷ xs) [] i e long = absurd (omega (arith, long))
made_all f (x ∷ xs) (z ∷ ys) i e long =
    ap (made_to f (x ∷ xs) (z ∷ ys)) e ∙ ap (λ q. f x ∷ q) (made_all f xs ys (length xs) refl (omega (arith, long)))

-- ---- numbered lines

place_of : {X : Type 0} (xs : List X) (i : ℕ) → i < length xs → 0 + length (take i xs) ≡ i
place_of xs i less = omega (arith, length-take-le i xs (omega (arith, less)))

numbered_next : {X : Type 0} (xs : List X) (i : ℕ) (d : X) → i < length xs → enumerate_from 0 (take (i + 1) xs) ≡ enumerate_from 0 (take i xs) ++ (i, get_or xs i d) ∷ []
numbered_next xs i d less =
    ap (enumerate_from 0) (take_more xs i d less) ∙ enumerate_push 0 (take i xs) (get_or xs i d)
    ∙ ap (λ k. enumerate_from 0 (take i xs) ++ (k, get_or xs i d) ∷ []) (place_of xs i less)

pub listed_next : {X Y : Type 0} (f : ℕ → X → Y) (before now after : List Y) (xs : List X) (i : ℕ) (d x : X) → i < length xs → x ≡ get_or xs i d
    → now ≡ before ++ map (λ p. f p.0 p.1) (enumerate_from 0 (take i xs)) → after ≡ now ++ f i x ∷ []
    → after ≡ before ++ map (λ p. f p.0 p.1) (enumerate_from 0 (take (i + 1) xs))
listed_next {X} {Y} f before now after xs i d x less here is pushed =
    pushed ∙ ap₂ (λ l z. l ++ f i z ∷ []) is here
    ∙ append_assoc before (map (λ (p : ℕ × X). f p.0 p.1) (enumerate_from 0 (take i xs))) (f i (get_or xs i d) ∷ [])
    ∙ ap (λ l. before ++ l) (sym (ap (map (λ (p : ℕ × X). f p.0 p.1)) (numbered_next xs i d less)
    ∙ map-append (λ (p : ℕ × X). f p.0 p.1) (enumerate_from 0 (take i xs)) ((i, get_or xs i d) ∷ [])))

one_option : {Y : Type 0} (o : Option Y) → option_to_list o ≡ cons_option o []
one_option None = refl
one_option (Some y) = refl

pub chosen_next : {X Y : Type 0} (f : ℕ → X → Option Y) (before now after : List Y) (xs : List X) (i : ℕ) (d x : X) → i < length xs → x ≡ get_or xs i d
    → now ≡ before ++ filter_map (λ p. f p.0 p.1) (enumerate_from 0 (take i xs)) → after ≡ now ++ option_to_list (f i x)
    → after ≡ before ++ filter_map (λ p. f p.0 p.1) (enumerate_from 0 (take (i + 1) xs))
chosen_next {X} {Y} f before now after xs i d x less here is pushed =
    pushed ∙ ap₂ (λ l z. l ++ option_to_list (f i z)) is here
    ∙ append_assoc before (filter_map (λ (p : ℕ × X). f p.0 p.1) (enumerate_from 0 (take i xs))) (option_to_list (f i (get_or xs i d)))
    ∙ ap (λ l. before ++ l) (ap (λ l. filter_map (λ (p : ℕ × X). f p.0 p.1) (enumerate_from 0 (take i xs)) ++ l) (one_option (f i (get_or xs i d)))
    ∙ sym (ap (filter_map (λ (p : ℕ × X). f p.0 p.1)) (numbered_next xs i d less)
    ∙ filter_map-append (λ (p : ℕ × X). f p.0 p.1) (enumerate_from 0 (take i xs)) ((i, get_or xs i d) ∷ [])))

pub taken_all : {X : Type 0} (xs : List X) (i : ℕ) → i ≡ length xs → take i xs ≡ xs
taken_all [] i e = ap (λ n. take n []) e
taken_all (x ∷ xs) i e = ap (λ n. take n (x ∷ xs)) e ∙ ap (λ q. x ∷ q) (taken_all xs (length xs) refl)

-- ---- pairs

pub zip_length : {X Y : Type 0} (xs : List X) (ys : List Y) → length xs ≡ length ys → length (zip xs ys) ≡ length ys
zip_length [] [] e = refl
zip_length [] (y ∷ ys) e = absurd (omega (arith, e))
zip_length (x ∷ xs) [] e = absurd (omega (arith, e))
zip_length (x ∷ xs) (y ∷ ys) e = ap suc (zip_length xs ys (omega (arith, e)))

pub zip_get : {X Y : Type 0} (xs : List X) (ys : List Y) (i : ℕ) (d : X) (e : Y) → length xs ≡ length ys → i < length ys → get_or (zip xs ys) i (d, e) ≡ (get_or xs i d, get_or ys i e)
zip_get [] [] i d e long less = absurd (omega (arith, less))
zip_get [] (y ∷ ys) i d e long less = absurd (omega (arith, long))
zip_get (x ∷ xs) [] i d e long less = absurd (omega (arith, less))
zip_get (x ∷ xs) (y ∷ ys) zero d e long less = refl
zip_get (x ∷ xs) (y ∷ ys) (suc i) d e long less = zip_get xs ys i d e (omega (arith, long)) (omega (arith, less))
