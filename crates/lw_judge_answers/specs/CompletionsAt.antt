-- When completions were run and `did` lines came, from the steps before a line, the latest first.
use Rattle.std.specs.Prelude.{ℕ, ◌+◌, ◌<◌, ◌≡◌, ◌==◌, nat_eq, Bool, false, cond, List, [], ◌∷◌, length, unwrap_or, slice_index}
use Rattle.std.specs.HashMap.{get}
use Rattle.lw_base.specs.declared.message.What.{What}
use Rattle.lw_base.specs.declared.message.What.TheVariants as what
use Rattle.lw_model.specs.declared.step.Step.{Step}
use Rattle.lw_model.specs.Holding.{runs}
use Rattle.lw_model.specs.Answers.{is_did}
use Rattle.lw_judge_answers.specs.declared.completions.Completions.{Completions}

-- when a step that passes last came: one more than how many came before it, and 0 where none did
abbrev pub last_where : (Step → Bool) → List Step → ℕ
last_where passes [] = 0
last_where passes (s ∷ past) = cond (passes s) (length past + 1) (last_where passes past)

-- the completion of a visit that is op k
abbrev pub is_visited : ℕ → What → Bool
is_visited k (what.Visited j) = j == k
is_visited k _ = false

-- the completion of a cast that is op k
abbrev pub is_casted : ℕ → What → Bool
is_casted k (what.Casted j) = j == k
is_casted k _ = false

-- behind the steps of `past`, of a thread with so many `did` lines
pub record AreCompletionsAt (count : ℕ) (past : List Step) (x : Completions) : Type 0 where
  pub all : x.steps ≡ length past
  pub each_visit : (k : ℕ) → unwrap_or (get nat_eq x.visited k) 0 ≡ last_where (runs (is_visited k)) past
  pub each_cast : (k : ℕ) → unwrap_or (get nat_eq x.casted k) 0 ≡ last_where (runs (is_casted k)) past
  pub places : length x.dids.items ≡ count
  pub each_did : (i : ℕ) → i < count → slice_index x.dids.items i ≡ last_where (is_did i) past
