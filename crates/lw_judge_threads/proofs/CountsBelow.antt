-- How often each number below a length stands in a list, one number more.
use Rattle.std.proofs.Common.{◌≡◌, ℕ, ◌+◌, ◌<◌, ◌≤◌, ◌==◌, List, length, take, get_or, set, count_by, sym, ap, ◌∙◌, arith, inl, inr}
use Rattle.std.proofs.lemmas.Bool.{eq-eqb, ne_eqb, cases_eq}
use Rattle.std.proofs.lemmas.List.{length-set, get_or-set_same, get_or-set_other}
use Rattle.std.proofs.lemmas.List.Sums.{count_by_more_no, count_by_more_yes}

-- the counts of the first i numbers
abbrev pub CountsBelow : List ℕ → ℕ → List ℕ → Type 0
CountsBelow ns i cs = (k : ℕ) → k < length cs → get_or cs k 0 ≡ count_by (λ m. m == k) (take i ns)

same_count : (ns : List ℕ) (i k : ℕ) → i < length ns → (get_or ns i 0 ≡ k) → count_by (λ m. m == k) (take (i + 1) ns) ≡ count_by (λ m. m == k) (take i ns) + 1
same_count ns i k less is = count_by_more_yes (λ m. m == k) ns i 0 less (eq-eqb (get_or ns i 0) k is)

other_count : (ns : List ℕ) (i k : ℕ) → i < length ns → (get_or ns i 0 ≡ k → ⊥) → count_by (λ m. m == k) (take (i + 1) ns) ≡ count_by (λ m. m == k) (take i ns)
other_count ns i k less other = count_by_more_no (λ m. m == k) ns i 0 less (ne_eqb (get_or ns i 0) k other)

pub counted_more : (ns cs : List ℕ) (i c : ℕ) → i < length ns → get_or ns i 0 < length cs → c ≡ get_or cs (get_or ns i 0) 0 → CountsBelow ns i cs → CountsBelow ns (i + 1) (set cs (get_or ns i 0) (c + 1))
counted_more ns cs i c less within is counts k below = elim (cases_eq (get_or ns i 0) k) [
  | inl e ↦ ap (λ j. get_or (set cs (get_or ns i 0) (c + 1)) j 0) (sym e) ∙ get_or-set_same cs (get_or ns i 0) (c + 1) 0 within
      ∙ ap (λ x. x + 1) (is ∙ ap (λ j. get_or cs j 0) e ∙ counts k (omega (arith, e, within))) ∙ sym (same_count ns i k less e)
  | inr ne ↦ get_or-set_other cs (get_or ns i 0) k (c + 1) 0 (λ e. ne (sym e)) ∙ counts k (omega (arith, below, length-set cs (get_or ns i 0) (c + 1))) ∙ sym (other_count ns i k less ne)
]

-- a number past the end isn't counted
pub passed_more : (ns cs : List ℕ) (i : ℕ) → i < length ns → length cs ≤ get_or ns i 0 → CountsBelow ns i cs → CountsBelow ns (i + 1) cs
passed_more ns cs i less past counts k below = counts k below ∙ sym (other_count ns i k less (λ e. omega (arith, e, below, past)))
