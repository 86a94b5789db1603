-- The tokens that a thread ran, one message more.
use Rattle.std.proofs.Common.{◌≡◌, ◌≢◌, true, false, not, ◌||◌, List, [], ◌∷◌, Some, None, refl, sym, ap, ap₂, inl, inr, ◌∙◌}
use Rattle.std.specs.List.{list_any}
use Rattle.std.specs.HashSet.{HashSet, contains}
use Rattle.std.specs.declared.hash.FoldHasher.{FoldHasher}
use Rattle.std.specs.declared.hash.BuildHasherDefault.{BuildHasherDefault}
use Rattle.std.proofs.lemmas.Bool.{true≢false}
use Rattle.lw_base.specs.declared.message.Tag.{Tag}
use Rattle.lw_base.specs.declared.message.What.{What}
use Rattle.lw_base.specs.declared.message.What.TheVariants as what
use Rattle.lw_model.specs.Sent.{is_same_token}
use Rattle.lw_model.specs.Lawful.{is_first_run}
use Rattle.lw_judge_messages.specs.declared.tokens.Token.{Token}
use Rattle.lw_judge_messages.specs.Tokens.{is_token, is_run, what_of, token_in}
use Rattle.lw_judge_messages.specs.RanSent.{HasTokens}
use Rattle.lw_judge_messages.proofs.RunnerLists.{what_of-token_in, same_none, same_itself, token_cases}

abbrev Tokens : Type 0
Tokens = HashSet Token (BuildHasherDefault FoldHasher)

pub is_first_run-token : (past : List Tag) (m : Tag) (v : Token) → token_in m.what ≡ Some v → is_first_run past m ≡ not (is_run v past)
is_first_run-token past m v is = ap (λ w. not (list_any (λ x. is_same_token w x.what) past)) (what_of-token_in v m.what is)

other_none : (m w : What) → token_in m ≡ None → is_same_token m w ≡ false
other_none (what.Visit o k d) w e = cc
other_none (what.Cast o k) w e = cc
other_none _ w e = refl

none_same : (past : List Tag) (m : What) → token_in m ≡ None → list_any (λ x. is_same_token m x.what) past ≡ false
none_same [] m e = refl
none_same (x ∷ past) m e = ap₂ (λ a b. a || b) (other_none m x.what e) (none_same past m e)

pub is_first_run-other : (past : List Tag) (m : Tag) → token_in m.what ≡ None → is_first_run past m ≡ true
is_first_run-other past m is = ap not (none_same past m.what is)

pub has_more : (past : List Tag) (m : Tag) (v : Token) → token_in m.what ≡ Some v → (x y : Tokens) → HasTokens past x
    → contains is_token y v ≡ true → ((w : Token) → w ≢ v → contains is_token y w ≡ contains is_token x w) → HasTokens (m ∷ past) y
has_more past m v is x y has here others = record {
  each = λ w. elim (token_cases w v) [
    | inl e ↦ ap (contains is_token y) e ∙ here ∙ ap₂ (λ a b. a || b) (sym (same w (what_of-token_in v m.what is) e)) refl
    | inr e ↦ others w (λ s. true≢false (sym (same_itself v) ∙ ap (λ q. is_same_token (what_of q) (what_of v)) (sym s) ∙ e))
        ∙ has.each w ∙ ap (λ b. b || is_run w past) (sym (ap (is_same_token (what_of w)) (what_of-token_in v m.what is) ∙ e))
  ];
}
  where
    same : (w : Token) → m.what ≡ what_of v → w ≡ v → is_same_token (what_of w) m.what ≡ true
    same w e f = ap₂ (λ a b. is_same_token (what_of a) b) f e ∙ same_itself v

pub has_same : (past : List Tag) (m : Tag) → token_in m.what ≡ None → (x : Tokens) → HasTokens past x → HasTokens (m ∷ past) x
has_same past m is x has = record { each = λ w. has.each w ∙ ap (λ b. b || is_run w past) (sym (same_none w m.what is)) }
