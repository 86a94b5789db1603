-- One line more of a numbered list.
use Rattle.std.proofs.Common.{◌≡◌, ℕ, ◌+◌, ◌<◌, List, [], ◌∷◌, ◌++◌, map, take, length, get_or, append_assoc, sym, ap, ◌∙◌, arith}
use Rattle.std.specs.List.{enumerate_from}
use Rattle.std.proofs.lemmas.List.{map-append, take_more, length-take-le}
use Rattle.lw_model.proofs.Growth.{enumerate_push}

-- a list to which the numbered lines of another were put, up to i, and then the next
pub one_more : {X Y : Type 0} (f : ℕ → X → Y) (before now after : List Y) (xs : List X) (i : ℕ) (d : X) → i < length xs
    → now ≡ before ++ map (λ p. f p.0 p.1) (enumerate_from 0 (take i xs)) → after ≡ now ++ f i (get_or xs i d) ∷ []
    → after ≡ before ++ map (λ p. f p.0 p.1) (enumerate_from 0 (take (i + 1) xs))
one_more {X} {Y} f before now after xs i d less is pushed =
    pushed ∙ ap (λ l. l ++ f i (get_or xs i d) ∷ []) is
    ∙ append_assoc before (map (λ p. f p.0 p.1) (enumerate_from 0 (take i xs))) (f i (get_or xs i d) ∷ [])
    ∙ ap (λ l. before ++ l) (sym next)
  where
    place : 0 + length (take i xs) ≡ i
    place = omega (arith, length-take-le i xs (omega (arith, less)))

    next : map (λ p. f p.0 p.1) (enumerate_from 0 (take (i + 1) xs)) ≡ map (λ p. f p.0 p.1) (enumerate_from 0 (take i xs)) ++ f i (get_or xs i d) ∷ []
    next = ap (λ l. map (λ (p : ℕ × X). f p.0 p.1) (enumerate_from 0 l)) (take_more xs i d less)
        ∙ ap (map (λ (p : ℕ × X). f p.0 p.1)) (enumerate_push 0 (take i xs) (get_or xs i d))
        ∙ map-append (λ (p : ℕ × X). f p.0 p.1) (enumerate_from 0 (take i xs)) ((0 + length (take i xs), get_or xs i d) ∷ [])
        ∙ ap (λ k. map (λ (p : ℕ × X). f p.0 p.1) (enumerate_from 0 (take i xs)) ++ f k (get_or xs i d) ∷ []) place
