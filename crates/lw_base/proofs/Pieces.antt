-- A piece that was read, in front of what is left.
use Rattle.std.proofs.Common.{◌≡◌, ◌+◌, ◌-◌, ◌++◌, ℕ, List, length, take, drop, ap, sym, ◌∙◌}
use Rattle.std.proofs.lemmas.List.{take-append-drop, drop-drop, length-drop}
use Rattle.std.proofs.Math.Seq.{take-length}

-- what stands behind place k, as a slice to the end gives it
behind : (k : ℕ) (xs ys : List ℕ) → ys ≡ xs → take (length ys - k) (drop k ys) ≡ drop k xs
behind k xs ys same = ap (λ n. take n (drop k ys)) (sym (length-drop k ys)) ∙ take-length (drop k ys) ∙ ap (drop k) same

pub next_piece : (n k : ℕ) (xs ys front : List ℕ) → ys ≡ xs → front ≡ take n (take (length ys - k) (drop k ys)) → drop k xs ≡ front ++ drop (k + n) xs
next_piece n k xs ys front same copied =
    sym (take-append-drop n (drop k xs))
    ∙ ap (λ p. take n p ++ drop n (drop k xs)) (sym (behind k xs ys same))
    ∙ ap (λ p. p ++ drop n (drop k xs)) (sym copied)
    ∙ ap (λ r. front ++ r) (drop-drop n k xs)
