-- The readings of a list clock, one call on.
use Rattle.std.proofs.Common.{◌≡◌, ◌+◌, ◌<◌, ◌∷◌, [], ◌++◌, ℕ, suc, List, Bool, true, false, nat_lt, min, arith, refl, ap, sym, ◌∙◌, if◌then◌else◌, Some, None}
use Rattle.std.proofs.lemmas.Bool.{ltb-true, lt-ltb}
use Rattle.lw_base.specs.Outside.{Continues}
use Rattle.lw_base.specs.Memory.{reading_at, first_readings, list_readings}

pub continues : (list : List ℕ) (calls reading next : ℕ) → reading ≡ reading_at list calls → next ≡ min (calls + 1) 18446744073709551615
    → Continues (list_readings list calls) reading (list_readings list next)
continues list calls reading next e n = at (nat_lt next 18446744073709551615) refl
  where
    at : (b : Bool) → nat_lt next 18446744073709551615 ≡ b → Continues (list_readings list calls) reading (if b then Some (first_readings list next) else None)
    at false q = tt
    at true q =
        let below : next < 18446744073709551615 = ltb-true next 18446744073709551615 q in
        let one_more : next ≡ suc calls = omega (arith, below, n) in
        let before : calls < 18446744073709551615 = omega (arith, below, one_more) in (
          first_readings list calls,
          ap (λ b. if b then Some (first_readings list calls) else None) (lt-ltb calls 18446744073709551615 before),
          ap (first_readings list) one_more ∙ ap (λ r. first_readings list calls ++ r ∷ []) (sym e),
        )
