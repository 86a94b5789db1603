-- Lists of which one element is put in anew, and how many of the first sends go to one receiver.
use Rattle.std.proofs.Common.{◌≡◌, ◌≢◌, ℕ, zero, suc, ◌+◌, ◌<◌, ◌≤◌, if◌then◌else◌, List, [], ◌∷◌, length, drop, refl, sym, ap, ◌∙◌, arith, eq-eqb, ne_eqb, get_or-set_same}
use Rattle.std.specs.Prelude.{slice_index_or, slice_set}
use Rattle.std.proofs.lemmas.List.{set-get_or}
use Rattle.lw_thread.specs.Acts.{Post}
use Rattle.lw_thread.specs.Sending.{first_to}

module _ {X : Type 0} where
  pub set_same : (xs : List X) (k : ℕ) (x : X) → ((d : X) → slice_index_or xs k d ≡ x) → slice_set xs k x ≡ xs
  set_same xs k x at = ap (λ y. slice_set xs k y) (sym (at x)) ∙ set-get_or xs k x

  pub set_twice : (xs : List X) (k : ℕ) (x y : X) → slice_set (slice_set xs k x) k y ≡ slice_set xs k y
  set_twice [] k x y = refl
  set_twice (z ∷ xs) zero x y = refl
  set_twice (z ∷ xs) (suc k) x y = ap (λ l. z ∷ l) (set_twice xs k x y)

  pub at_set_here : (xs : List X) (k : ℕ) (x d : X) → k < length xs → slice_index_or (slice_set xs k x) k d ≡ x
  at_set_here xs k x d within = get_or-set_same xs k x d within

  -- the first go there, and so does the next
  pub first_to_more : (to : ℕ) (p : Post X) (ps : List (Post X)) → p.to ≡ to → first_to to (p ∷ ps) ≡ first_to to ps + 1
  first_to_more to p ps e = ap (λ b. if b then first_to to ps + 1 else 0) (eq-eqb p.to to e)

  pub first_to_none : (to : ℕ) (p : Post X) (ps : List (Post X)) → p.to ≢ to → first_to to (p ∷ ps) ≡ 0
  first_to_none to p ps e = ap (λ b. if b then first_to to ps + 1 else 0) (ne_eqb p.to to e)

  -- where all of these before a place go there, so many do, and then as many as behind the place
  pub first_to_from : (to k : ℕ) (ps : List (Post X)) → k ≤ length ps → ((j : ℕ) (d : Post X) → j < k → (slice_index_or ps j d).to ≡ to) → first_to to ps ≡ k + first_to to (drop k ps)
  first_to_from to zero ps within all = omega arith
  first_to_from to (suc k) [] within all = absurd (omega arith)
  first_to_from to (suc k) (p ∷ ps) within all =
      let rest = first_to_from to k ps (omega arith) (λ j d less. all (suc j) d (omega arith)) in
      let one = first_to_more to p ps (all 0 p (omega arith)) in
      omega arith

  pub first_to_end : (to : ℕ) (ps : List (Post X)) (k : ℕ) (d : Post X) → k < length ps → (slice_index_or ps k d).to ≢ to → first_to to (drop k ps) ≡ 0
  first_to_end to [] k d within other = absurd (omega arith)
  first_to_end to (p ∷ ps) zero d within other = first_to_none to p ps other
  first_to_end to (p ∷ ps) (suc k) d within other = first_to_end to ps k d (omega arith) other
