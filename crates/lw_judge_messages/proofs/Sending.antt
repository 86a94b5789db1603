-- What a step sends, by its kind.
use Rattle.std.proofs.Common.{◌≡◌, ℕ, ◌+◌, Bool, true, false, cond, map, filter, List, [], ◌∷◌, ◌++◌, Option, Some, None, refl, ap, ◌∙◌, arith}
use Rattle.std.specs.List.{range_with_len}
use Rattle.std.proofs.lemmas.List.{map-append}
use Rattle.lw_base.specs.declared.message.Tag.{Tag}
use Rattle.lw_base.specs.declared.message.What.{What}
use Rattle.lw_base.proofs.Lists.{range_push}
use Rattle.lw_model.specs.declared.record.Record.{Record}
use Rattle.lw_model.specs.Sent.{sent_by_ran, passed_on, started, first_runner}
use Rattle.lw_judge_messages.specs.declared.tokens.Token.{Token}
use Rattle.lw_judge_messages.specs.declared.tokens.Token.TheVariants as token
use Rattle.lw_judge_messages.specs.Tokens.{what_of}
use Rattle.lw_judge_messages.proofs.RunnerLists.{filter-range_push}

pub sent_by_ran-token : (r : Record) (t : ℕ) (m : Tag) (v : Token) → m.what ≡ what_of v → sent_by_ran r t m ≡ passed_on r t (what_of v)
sent_by_ran-token r t m (token.Visit o k d) e = ap (λ (w : What). sent_by_ran r t (record { sender = m.sender; number = m.number; what = w })) e
sent_by_ran-token r t m (token.Cast o k) e = ap (λ (w : What). sent_by_ran r t (record { sender = m.sender; number = m.number; what = w })) e

-- a token's first way
abbrev pub first_way : What → Option ℕ → List (ℕ × What)
first_way w None = []
first_way w (Some t) = (t, w) ∷ []

pub started-way : (r : Record) (w : What) → started r w ≡ first_way w (first_runner r w (λ t. true))
started-way r w = at (first_runner r w (λ t. true))
  where
    at : (o : Option ℕ) → (elim o as (λ q. List (ℕ × What)) [ Some t ↦ (t, w) ∷ [] | None ↦ [] ]) ≡ first_way w o
    at None = refl
    at (Some t) = refl

-- ---- what is sent for each device of a range

module _ (f : ℕ → ℕ × What) where
  -- of those that pass, with the next one
  pub map-filter-range_push : (p : ℕ → Bool) (n : ℕ) → map f (filter p (range_with_len 0 (n + 1))) ≡ map f (filter p (range_with_len 0 n)) ++ cond (p n) (f n ∷ []) []
  map-filter-range_push p n =
      ap (map f) (filter-range_push p n) ∙ map-append f (filter p (range_with_len 0 n)) (cond (p n) (n ∷ []) [])
      ∙ ap (λ l. map f (filter p (range_with_len 0 n)) ++ l) (at (p n))
    where
      at : (b : Bool) → map f (cond b (n ∷ []) []) ≡ cond b (f n ∷ []) []
      at true = refl
      at false = refl

  pub map-range_push : (n : ℕ) → map f (range_with_len 0 (n + 1)) ≡ map f (range_with_len 0 n) ++ f n ∷ []
  map-range_push n = ap (map f) (range_push 0 n) ∙ map-append f (range_with_len 0 n) ((0 + n) ∷ []) ∙ ap (λ k. map f (range_with_len 0 n) ++ f k ∷ []) here
    where
      here : 0 + n ≡ n
      here = omega arith
