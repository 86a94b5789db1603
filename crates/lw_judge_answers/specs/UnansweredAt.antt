-- How many requests of a thread are unanswered, from the steps before a line, the latest first.
use Rattle.std.specs.Prelude.{ℕ, ◌<◌, ◌≡◌, ◌==◌, nat_eq, List, length, filter, count_by, unwrap_or, slice_index}
use Rattle.std.specs.HashMap.{get}
use Rattle.lw_model.specs.declared.script.Script.{Script}
use Rattle.lw_model.specs.declared.step.Step.{Step}
use Rattle.lw_model.specs.Threads.{is_on}
use Rattle.lw_model.specs.Answers.{unanswered}
use Rattle.lw_judge_answers.specs.declared.unanswered.Unanswered.{Unanswered}

-- these are the requests of a thread, by their ops: how many they are, on each device and of each op
pub record CountsOps (s : Script) (t : ℕ) (ks : List ℕ) (u : Unanswered) : Type 0 where
  pub all : u.total ≡ length ks
  pub devices : length u.on.items ≡ length s.images
  pub each_device : (d : ℕ) → d < length s.images → slice_index u.on.items d ≡ length (filter (is_on s t d) ks)
  pub each_op : (k : ℕ) → unwrap_or (get nat_eq u.ops k) 0 ≡ count_by (λ j. j == k) ks

-- those that are unanswered behind the steps of `past`
abbrev pub IsUnansweredAt : Script → ℕ → List Step → Unanswered → Type 0
IsUnansweredAt s t past u = CountsOps s t (unanswered past) u
