-- What a thread did, in own order, as one list of steps.
use Rattle.std.specs.Prelude.{ℕ, nat_le, cond, List, [], ◌∷◌, ◌++◌, map}
use Rattle.std.specs.List.{enumerate_from}
use Rattle.lw_model.specs.declared.step.Step.{Step}
use Rattle.lw_model.specs.declared.step.Step.TheVariants as step
use Rattle.lw_model.specs.declared.record.Record.{Record}
use Rattle.lw_model.specs.declared.record.ThreadRecord.{ThreadRecord}
use Rattle.lw_model.specs.Threads.{of_thread}

-- how many messages the thread had run when a step was made
abbrev pub at_of : Step → ℕ
at_of (step.Did i x) = x.at
at_of (step.Called i x) = x.at
at_of (step.Ran i m) = i

-- a step put before the first of a list that isn't earlier
abbrev pub put_in : Step → List Step → List Step
put_in s [] = s ∷ []
put_in s (x ∷ xs) = cond (nat_le (at_of s) (at_of x)) (s ∷ x ∷ xs) (x ∷ put_in s xs)

-- steps by how many messages had been run; those with the same number stay as they stood
abbrev pub in_order : List Step → List Step
in_order [] = []
in_order (s ∷ ss) = put_in s (in_order ss)

-- the `did` lines, then the `called` lines, then the `ran` lines
abbrev pub steps_of : ThreadRecord → List Step
steps_of t = map (λ p. step.Did p.0 p.1) (enumerate_from 0 t.did)
    ++ map (λ p. step.Called p.0 p.1) (enumerate_from 0 t.called)
    ++ map (λ p. step.Ran p.0 p.1) (enumerate_from 0 t.ran)

-- what a thread did, in own order
abbrev pub own_order : ThreadRecord → List Step
own_order t = in_order (steps_of t)

-- the own order of thread t; empty where there is no such thread
abbrev pub own_order_of : Record → ℕ → List Step
own_order_of r t = of_thread own_order r t

-- each item with those before it, the latest first
abbrev pub with_past : {X : Type 0} → List X → List X → List (List X × X)
with_past past [] = []
with_past past (x ∷ rest) = (past, x) ∷ with_past (x ∷ past) rest

-- the steps of thread t, each with its past
abbrev pub history : Record → ℕ → List (List Step × Step)
history r t = with_past [] (own_order_of r t)
