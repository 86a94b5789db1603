-- The pairs of a settled ring.
use Rattle.std.proofs.Common.{◌≡◌, ℕ, zero, suc, ◌+◌, ◌<◌, List, [], ◌∷◌, ◌++◌, map, take, drop, get_or, length, refl, ap, ◌∙◌, arith}
use Rattle.lw_ring.specs.declared.settling.Pair.{Pair}
use Rattle.lw_base.specs.Letters.{list_at}
use Rattle.lw_ring.specs.Settling.{whole}

pub kept : {X : Type 0} (xs ys : List X) (n : ℕ) → length xs ≡ length ys → n ≡ length xs → take n (xs ++ drop (length xs) ys) ≡ xs
kept {X} xs ys n e is = ap (λ k. take k (xs ++ drop (length xs) ys)) is ∙ go xs ys e
  where
    go : (xs ys : List X) → length xs ≡ length ys → take (length xs) (xs ++ drop (length xs) ys) ≡ xs
    go [] ys e = refl
    go (x ∷ xs) [] e = absurd (omega arith)
    go (x ∷ xs) (y ∷ ys) e = ap (λ l. x ∷ l) (go xs ys (omega arith))

pub whole_at : {L : Type 0} (xs : List (List L)) (k : ℕ) (d : Pair) → k < length xs → get_or (map whole xs) k d ≡ whole (list_at xs k)
whole_at [] k d l = absurd (omega arith)
whole_at (x ∷ xs) zero d l = refl
whole_at (x ∷ xs) (suc k) d l = whole_at xs k d (omega arith)

pub pair_is : (p : Pair) (a b c : ℕ) → p.sent ≡ a → p.run + c ≡ b + c → p ≡ record { sent = a; run = b }
pair_is p a b c e f = (let g : p.run ≡ b = omega arith in λ i. record { sent = e i; run = g i })
