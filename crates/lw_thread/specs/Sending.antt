-- The sends that are still to be made, and what is done with the first of them.
use Rattle.std.specs.Prelude.{◌≡◌, ℕ, ◌+◌, ◌==◌, if◌then◌else◌, List, [], ◌∷◌, map}
use Rattle.lw_thread.specs.declared.acts.Asked.{Asked}
use Rattle.lw_thread.specs.Acts.{Post, ActsEnd, AreAsked}

-- how many of these next to each other go to this receiver, from the first on
abbrev pub first_to : {X : Type 0} → ℕ → List (Post X) → ℕ
first_to to [] = 0
first_to to (p ∷ ps) = if p.to == to then first_to to ps + 1 else 0

-- the message to this receiver is the first send of the old acts, and the new ones are without it
pub record Leads {M : Type 0} (to : ℕ) (message : M) (old new : ActsEnd M) : Type 0 where
  pub rest : new ≡ record old { pending = new.pending }
  pub first : old.pending ≡ record { to = to; what = message } ∷ new.pending

-- the sends that stand in a queue
abbrev pub sends_of : {M : Type 0} → List (Asked M) → List (Post M)
sends_of xs = map (λ s. record { to = s.to; what = s.message }) xs

-- they are those that the acts had, and may be put into acts of so many threads
abbrev pub AreSends : {M L : Type 0} → (M → L) → (L → ℕ → ℕ → L) → ℕ → List (Asked M) → Type 0
AreSends letter marked threads xs = AreAsked letter marked threads (sends_of xs)
