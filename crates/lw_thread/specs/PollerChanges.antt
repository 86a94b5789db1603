-- What the calls of acts change in a thread's pollers.
use Rattle.std.specs.Prelude.{◌≡◌, ◌⊎◌, ℕ, List, [], ◌∷◌}
use Rattle.lw_poller.specs.Pollers.{Pollers}
use Rattle.lw_poller.specs.Changes.{IsLeastFree, AddsTimed, Pauses, Resumes, Removes, with_active}

-- one call that adds, pauses, resumes or removes a poller
abbrev pub IsChange : Pollers → Pollers → Type 0
IsChange s t =
    ((number : ℕ) × IsLeastFree s number × (t ≡ with_active number s))
    ⊎ ((number : ℕ) × IsLeastFree s number × (now : ℕ) × (period : ℕ) × AddsTimed number now period s t)
    ⊎ ((number : ℕ) × Pauses number s t)
    ⊎ ((number : ℕ) × (now : ℕ) × Resumes number now s t)
    ⊎ ((number : ℕ) × Removes number s t)

-- such calls one after the other, with the pollers after each
abbrev pub AreChanges : Pollers → List Pollers → Pollers → Type 0
AreChanges s [] t = t ≡ s
AreChanges s (u ∷ us) t = IsChange s u × AreChanges u us t
