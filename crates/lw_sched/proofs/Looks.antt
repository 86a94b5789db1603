-- The reactors are looked at from the last to the first: each look puts one in front of those before.
use Rattle.std.proofs.Common.{◌≡◌, ℕ, ◌+◌, ◌-◌, ◌<◌, suc, Bool, true, false, cond, List, [], ◌∷◌, ◌++◌, filter, refl, ap, arith}
use Rattle.std.specs.List.{range_with_len}
use Rattle.lw_base.specs.Masks.{allows}
use Rattle.lw_base.specs.Plan.{with_room, least_planned}
use Rattle.lw_sched.specs.declared.best.Mover.{Mover}
use Rattle.lw_sched.specs.BestOf.{best_of, lesser, looked}
use Rattle.lw_sched.proofs.Leasts.{least_more}

-- a look at an allowed reactor, or at one that isn't, over any list of those behind it
looked_at : (m : Mover) (loads : ℕ → ℕ) (d : ℕ) (fs : List ℕ) (b : Bool)
    → cond b (record { room = with_room m.limits loads m.load (d ∷ fs); least = lesser loads d (least_planned loads fs) }) (best_of m loads fs) ≡ best_of m loads (cond b (d ∷ fs) fs)
looked_at m loads d fs true = λ k. record { room = with_room m.limits loads m.load (d ∷ fs); least = least_more loads d fs k }
looked_at m loads d fs false = refl

pub looked_more : (m : Mover) (loads : ℕ → ℕ) (reactors d : ℕ) (ds : List ℕ)
    → looked m loads reactors d (best_of m loads (filter (allows m.mask reactors) ds)) ≡ best_of m loads (filter (allows m.mask reactors) (d ∷ ds))
looked_more m loads reactors d ds = looked_at m loads d (filter (allows m.mask reactors) ds) (allows m.mask reactors d)

-- the reactors from one on, behind them 0
abbrev pub behind : ℕ → ℕ → List ℕ
behind reactors d = range_with_len d (reactors - d) ++ 0 ∷ []

-- one more
pub behind_more : (reactors d : ℕ) → d < reactors → behind reactors d ≡ d ∷ behind reactors (d + 1)
behind_more reactors d less =
    let count : reactors - d ≡ suc (reactors - (d + 1)) = omega arith in
    ap (λ n. range_with_len d n ++ 0 ∷ []) count

-- the allowed reactors from one on
abbrev pub allowed_from : ℕ → ℕ → ℕ → List ℕ
allowed_from mask reactors d = filter (allows mask reactors) (range_with_len d (reactors - d))
