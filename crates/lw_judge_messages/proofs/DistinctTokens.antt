-- Tokens of which each is kept once.
use Rattle.std.proofs.Common.{◌≡◌, ◌≢◌, ℕ, ◌+◌, ◌<◌, Bool, true, false, ◌&&◌, ◌||◌, List, [], ◌∷◌, ◌++◌, length, take, get_or, refl, sym, ap, inl, inr, ◌∙◌}
use Rattle.std.specs.List.{list_all, list_any}
use Rattle.std.proofs.Math.Bool.{or-false}
use Rattle.std.proofs.lemmas.Bool.{and_parts, or_cases, or_right, false≢true, true≢false}
use Rattle.std.proofs.lemmas.List.Folds.{list_all-append, list_any-append}
use Rattle.lw_judge_messages.specs.declared.tokens.Token.{Token}
use Rattle.lw_judge_messages.specs.Tokens.{is_token}
use Rattle.lw_judge_messages.proofs.TokenLemmas.{is_token-same, is_token-true}
use Rattle.lw_judge_messages.proofs.AllOf.{all_items-more}

-- what holds of each holds of one of them
any_passes : (v : Token) (p : Token → Bool) (us : List Token) → list_any (is_token v) us ≡ true → list_all p us ≡ true → p v ≡ true
any_passes v p [] some all = absurd (false≢true some)
any_passes v p (u ∷ us) some all =
    let h = and_parts (p u) (list_all p us) all in
    elim (or_cases (is_token v u) (list_any (is_token v) us) some) [
      | inl here ↦ ap p (is_token-true v u here) ∙ h.0
      | inr later ↦ any_passes v p us later h.1
    ]

module _ (tokens once : List Token) (i : ℕ) (d : Token) (less : i < length tokens) (all : (p : Token → Bool) → list_all p once ≡ list_all p (take i tokens)) where
  pub once_pushed : (more : List Token) → more ≡ once ++ get_or tokens i d ∷ [] → (p : Token → Bool) → list_all p more ≡ list_all p (take (i + 1) tokens)
  once_pushed more is p =
      ap (list_all p) is ∙ list_all-append p once (get_or tokens i d ∷ []) ∙ ap (λ b. b && (p (get_or tokens i d) && true)) (all p)
      ∙ sym (all_items-more p tokens i d less)

  pub once_kept : list_any (is_token (get_or tokens i d)) once ≡ true → (p : Token → Bool) → list_all p once ≡ list_all p (take (i + 1) tokens)
  once_kept some p = at (list_all p once) refl ∙ ap (λ b. b && (p (get_or tokens i d) && true)) (all p) ∙ sym (all_items-more p tokens i d less)
    where
      at : (b : Bool) → list_all p once ≡ b → b ≡ (b && (p (get_or tokens i d) && true))
      at true e = sym (ap (λ b. true && (b && true)) (any_passes (get_or tokens i d) p once some e))
      at false e = refl

pub known_pushed : (once more : List Token) (v : Token) (f g : Token → Bool) → more ≡ once ++ v ∷ [] → ((w : Token) → f w ≡ list_any (is_token w) once) → g v ≡ true → ((w : Token) → w ≢ v → g w ≡ f w)
    → (w : Token) → g w ≡ list_any (is_token w) more
known_pushed once more v f g is known here others w = at (is_token w v) refl ∙ sym (ap (list_any (is_token w)) is ∙ list_any-append (is_token w) once (v ∷ []))
  where
    at : (b : Bool) → is_token w v ≡ b → g w ≡ (list_any (is_token w) once || (b || false))
    at true e = ap g (is_token-true w v e) ∙ here ∙ sym (or_right (list_any (is_token w) once) true refl)
    at false e = others w (λ same. true≢false (sym (is_token-same w) ∙ ap (is_token w) same ∙ e)) ∙ known w ∙ sym (or-false (list_any (is_token w) once))
