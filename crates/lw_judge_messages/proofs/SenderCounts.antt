-- How many messages are of each sender, one message more.
use Rattle.std.proofs.Common.{◌≡◌, ℕ, ◌+◌, ◌<◌, ◌≤◌, ◌==◌, Bool, true, false, cond, List, length, take, get_or, refl, inl, inr, ◌∙◌, arith}
use Rattle.std.specs.List.{slice_index}
use Rattle.std.proofs.lemmas.Bool.{cases_lt}
use Rattle.std.proofs.lemmas.List.{get_or_past, length-take-le}
use Rattle.std.proofs.lemmas.List.Sums.{count_by-le-length, count_by_more_yes, count_by_more_no}
use Rattle.lw_base.specs.declared.message.Tag.{Tag}
use Rattle.lw_judge_messages.specs.RanSent.{count_from}

pub count_from-more : (ran : List Tag) (i : ℕ) (d : Tag) (s : ℕ) → i < length ran → count_from (take (i + 1) ran) s ≡ count_from (take i ran) s + cond ((get_or ran i d).sender == s) 1 0
count_from-more ran i d s less = at ((get_or ran i d).sender == s) refl
  where
    at : (b : Bool) → (get_or ran i d).sender == s ≡ b → count_from (take (i + 1) ran) s ≡ count_from (take i ran) s + cond b 1 0
    at true e = count_by_more_yes (λ m. m.sender == s) ran i d less e
    at false e = count_by_more_no (λ m. m.sender == s) ran i d less e ∙ omega arith

-- a count is no greater than the messages so far
pub counts_fit : (counts : List ℕ) (n : ℕ) (ran : List Tag) (i s : ℕ) → length counts ≡ n → ((s : ℕ) → s < n → slice_index counts s ≡ count_from (take i ran) s) → i < length ran → slice_index counts s ≤ i
counts_fit counts n ran i s count each less = elim (cases_lt s n) [
  | inl below ↦ omega (arith, each s below, count_by-le-length (λ (m : Tag). m.sender == s) (take i ran), length-take-le i ran (omega (arith, less)))
  | inr past ↦ omega (arith, get_or_past counts s 0 (omega (arith, count, past)))
]
