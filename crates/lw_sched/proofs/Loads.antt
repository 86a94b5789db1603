-- A load is at most 100.
use Rattle.std.proofs.Common.{◌≡◌, ℕ, ◌+◌, ◌*◌, ◌/◌, ◌<◌, ◌≤◌, ◌==◌, Bool, true, false, cond, inl, inr, refl, arith}
use Rattle.std.proofs.lemmas.Bool.{cases_lt, eqb-false}
use Rattle.std.proofs.lemmas.Nat.{div_below}
use Rattle.lw_base.specs.Plan.{load_of}

pub part_most : (busy idle : ℕ) → 0 < busy + idle → busy * 100 / (busy + idle) ≤ 100
part_most busy idle some = let d = div_below (busy * 100) (busy + idle) 101 some (omega arith) in omega arith

pub load_most : (busy idle : ℕ) → load_of busy idle ≤ 100
load_most busy idle = at (busy + idle == 0) refl
  where
    at : (b : Bool) → busy + idle == 0 ≡ b → cond b 0 (busy * 100 / (busy + idle)) ≤ 100
    at true e = omega arith
    at false e = elim (cases_lt 0 (busy + idle)) [
      | inl some ↦ part_most busy idle some
      | inr none ↦ absurd (eqb-false (busy + idle) 0 e (omega arith))
    ]
