-- What the steps of a thread add up to, from those before a line, the latest first.
use Rattle.std.specs.Prelude.{List, [], ◌∷◌, ◌++◌}
use Rattle.lw_model.specs.declared.step.Step.{Step}

-- what each step adds to a list, by the steps before it
abbrev pub folded : {X : Type 0} → (List Step → Step → List X) → List Step → List X
folded f [] = []
folded f (s ∷ past) = folded f past ++ f past s
