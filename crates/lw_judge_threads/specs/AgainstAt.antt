-- A list against the wanted items, by a test of each that was wanted.
use Rattle.std.specs.Prelude.{ℕ, ◌+◌, ◌≡◌, nat_lt, Bool, false, cond, List, [], ◌∷◌, length, Option, Some, None}
use Rattle.std.specs.Option.{option_or}
use Rattle.lw_model.specs.Same.{both}
use Rattle.lw_judge_threads.specs.Firsts.{at_line}
use Rattle.lw_judge_threads.specs.declared.against.Against.{Against}

-- the tests of the wanted items; that of one that lacks fails
abbrev pub wanted_tests : {X : Type 0} → (X → X → Bool) → List (Option X) → List X → List Bool
wanted_tests same [] found = []
wanted_tests same (w ∷ wanted) [] = false ∷ wanted_tests same wanted []
wanted_tests same (w ∷ wanted) (x ∷ found) = both same w (Some x) ∷ wanted_tests same wanted found

-- the place, counted from n, of the first test that fails
abbrev pub first_false : ℕ → List Bool → Option ℕ
first_false n [] = None
first_false n (b ∷ bs) = cond b (first_false (n + 1) bs) (Some n)

-- the place of the first of so many found items that isn't the wanted one or is one too many
abbrev pub unlike_place : ℕ → List Bool → Option ℕ
unlike_place found tests = option_or (first_false 0 tests) (cond (nat_lt (length tests) found) (Some (length tests)) None)

-- its line, where the first is `first`; where one lacks, the line `lack`
abbrev pub unlike_line : ℕ → ℕ → ℕ → List Bool → Option ℕ
unlike_line lack first found tests = cond (nat_lt found (length tests)) (Some lack) (at_line first (unlike_place found tests))

-- how many items were wanted, and the place of the first that isn't there
pub record IsAgainst (tests : List Bool) (a : Against) : Type 0 where
  pub wanted : a.wanted ≡ length tests
  pub unlike : a.unlike ≡ first_false 0 tests
