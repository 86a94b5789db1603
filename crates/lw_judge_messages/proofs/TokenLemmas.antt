-- Tokens by their parts.
use Rattle.std.proofs.Common.{◌≡◌, ◌≢◌, ◌==◌, ◌&&◌, true, false, inl, inr, refl, sym, ap, ap₂, ◌∙◌}
use Rattle.std.proofs.lemmas.Bool.{and_parts, and_from, eqb-true, eq-eqb, false≢true, cases_Bool}
use Rattle.lw_judge_messages.specs.declared.tokens.Token.{Token}
use Rattle.lw_judge_messages.specs.declared.tokens.Token.TheVariants as token
use Rattle.lw_judge_messages.specs.Tokens.{is_token}

pub is_token-same : (w : Token) → is_token w w ≡ true
unfolding is_token
is_token-same (token.Visit o k d) = and_from (o == o) (k == k && d == d) (eq-eqb o o refl) (and_from (k == k) (d == d) (eq-eqb k k refl) (eq-eqb d d refl))
is_token-same (token.Cast o k) = and_from (o == o) (k == k) (eq-eqb o o refl) (eq-eqb k k refl)

pub is_token-true : (v w : Token) → is_token v w ≡ true → v ≡ w
unfolding is_token
is_token-true (token.Visit o k d) (token.Visit o' k' d') e =
    let h = and_parts (o == o') (k == k' && d == d') e in
    let g = and_parts (k == k') (d == d') h.1 in
    ap₂ (λ a b. token.Visit a b d) (eqb-true o o' h.0) (eqb-true k k' g.0) ∙ ap (token.Visit o' k') (eqb-true d d' g.1)
is_token-true (token.Visit o k d) (token.Cast o' k') e = absurd (false≢true e)
is_token-true (token.Cast o k) (token.Visit o' k' d') e = absurd (false≢true e)
is_token-true (token.Cast o k) (token.Cast o' k') e =
    let h = and_parts (o == o') (k == k') e in
    ap₂ (λ a b. token.Cast a b) (eqb-true o o' h.0) (eqb-true k k' h.1)

pub is_token-apart : (v w : Token) → w ≢ v → is_token v w ≡ false
is_token-apart v w apart = elim (cases_Bool (is_token v w)) [ inl e ↦ absurd (apart (sym (is_token-true v w e))) | inr e ↦ e ]
