-- A place that a name is given, unless it has one.
use Rattle.std.proofs.Common.{◌≡◌, ℕ, List, Bool, true, false, cond, Option, Some, None, is_some, bytes_eq, ap, sym, ◌∙◌, refl}
use Rattle.std.specs.Option.{option_or}
use Rattle.std.proofs.lemmas.Slice.Eq.{bytes_eq-Decides}
use Rattle.lw_script_rules.proofs.DistinctNames.{bytes_eq-comm}

none-of : {X : Type 0} (o : Option X) → is_some o ≡ false → o ≡ None
none-of None e = refl
none-of (Some x) e = let wrong : true ≡ false = e in cc

option_or-none : {X : Type 0} (o : Option X) → o ≡ option_or o None
option_or-none None = refl
option_or-none (Some x) = refl

pub noted : (old : List ℕ → Option ℕ) (name q : List ℕ) (place : ℕ) → is_some (old name) ≡ false →
    cond (bytes_eq name q) (Some place) (old q) ≡ option_or (old q) (cond (bytes_eq q name) (Some place) None)
noted old name q place absent = by_test (bytes_eq name q) refl
  where
    by_test : (t : Bool) → bytes_eq name q ≡ t → cond (bytes_eq name q) (Some place) (old q) ≡ option_or (old q) (cond (bytes_eq q name) (Some place) None)
    by_test true e =
        let same : name ≡ q = (bytes_eq-Decides name q).0 e in
        let fresh : old q ≡ None = ap old (sym same) ∙ none-of (old name) absent in
        ap (λ t. cond t (Some place) (old q)) e
        ∙ sym (ap (λ o. option_or o (cond (bytes_eq q name) (Some place) None)) fresh ∙ ap (λ t. cond t (Some place) None) ((bytes_eq-Decides q name).1 (sym same)))
    by_test false e =
        ap (λ t. cond t (Some place) (old q)) e
        ∙ option_or-none (old q)
        ∙ sym (ap (λ t. option_or (old q) (cond t (Some place) None)) (bytes_eq-comm q name ∙ e))
