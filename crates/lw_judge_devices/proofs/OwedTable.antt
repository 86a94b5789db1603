-- What stands in a table of what is owed, behind a note in it.
use Rattle.std.proofs.Common.{◌≡◌, ℕ, zero, suc, ◌<◌, ◌==◌, Bool, true, false, cond, ◌&&◌, List, [], ◌∷◌, length, set, slice_get, Option, Some, None, option_and_then, option_map, unwrap_or, refl, sym, ap, ◌∙◌, arith, inl, inr}
use Rattle.std.specs.Global.{Vec}
use Rattle.std.proofs.lemmas.Bool.{cases_lt, eqb-true, eq-eqb, true≢false}
use Rattle.std.proofs.lemmas.Option.{slice_get_past, slice_get_within}
use Rattle.lw_judge_threads.proofs.Written.{slice_get-set_other}
use Rattle.lw_model.specs.declared.script.Script.{Script}
use Rattle.lw_model.specs.declared.script.ClientOf.{ClientOf}
use Rattle.lw_model.specs.declared.record.Replied.{Replied}
use Rattle.lw_model.specs.Threads.{ops_of}
use Rattle.lw_judge_devices.specs.declared.table.Owed.{Owed}
use Rattle.lw_judge_devices.specs.Owed.{HasPlaces}

set_here : {X : Type 0} (xs : List X) (i : ℕ) (y : X) → i < length xs → slice_get (set xs i y) i ≡ Some y
set_here [] i y below = absurd (omega (arith, below))
set_here (x ∷ xs) zero y below = refl
set_here (x ∷ xs) (suc i) y below = set_here xs i y (omega (arith, below))

slice_get-set : {X : Type 0} (xs : List X) (i j : ℕ) (y : X) → i < length xs → slice_get (set xs i y) j ≡ cond (i == j) (Some y) (slice_get xs j)
slice_get-set xs i j y below = at (i == j) refl
  where
    at : (b : Bool) → (i == j) ≡ b → slice_get (set xs i y) j ≡ cond b (Some y) (slice_get xs j)
    at true e = ap (slice_get (set xs i y)) (sym (eqb-true i j e)) ∙ set_here xs i y below
    at false e = slice_get-set_other xs i j y (λ same. true≢false (sym (eq-eqb i j (sym same)) ∙ e))

-- the rows and their places
abbrev rows_at : List (Vec (Option Replied)) → ℕ → ℕ → Option Replied
rows_at rows t k = option_and_then (λ (ops : Vec (Option Replied)). option_and_then (λ (o : Option Replied). o) (slice_get ops.items k)) (slice_get rows t)

pub noted : (rows : List (Vec (Option Replied))) (row next : Vec (Option Replied)) (thread op : ℕ) (a : Replied) → slice_get rows thread ≡ Some row → next.items ≡ set row.items op (Some a) → op < length row.items
    → (t k : ℕ) → rows_at (set rows thread next) t k ≡ cond (thread == t && op == k) (Some a) (rows_at rows t k)
noted rows row next thread op a is items below t k =
    ap (option_and_then (λ (ops : Vec (Option Replied)). option_and_then (λ (o : Option Replied). o) (slice_get ops.items k))) (slice_get-set rows thread t next (slice_get_within rows thread row is))
    ∙ at (thread == t) refl
  where
    here : (b : Bool) → option_and_then (λ (o : Option Replied). o) (cond b (Some (Some a)) (slice_get row.items k)) ≡ cond b (Some a) (option_and_then (λ (o : Option Replied). o) (slice_get row.items k))
    here true = refl
    here false = refl

    there : t ≡ thread → option_and_then (λ (o : Option Replied). o) (slice_get row.items k) ≡ rows_at rows t k
    there e = sym (ap (λ i. rows_at rows i k) e ∙ ap (option_and_then (λ (ops : Vec (Option Replied)). option_and_then (λ (o : Option Replied). o) (slice_get ops.items k))) is)

    at : (b : Bool) → (thread == t) ≡ b → option_and_then (λ (ops : Vec (Option Replied)). option_and_then (λ (o : Option Replied). o) (slice_get ops.items k)) (cond b (Some next) (slice_get rows t)) ≡ cond (b && op == k) (Some a) (rows_at rows t k)
    at false e = refl
    at true e =
        ap (λ l. option_and_then (λ (o : Option Replied). o) (slice_get l k)) items
        ∙ ap (option_and_then (λ (o : Option Replied). o)) (slice_get-set row.items op k (Some a) below)
        ∙ here (op == k)
        ∙ ap (cond (op == k) (Some a)) (there (sym (eqb-true thread t e)))

-- an op that is there has a place
pub has_place : (s : Script) (w : Owed) (thread op : ℕ) → HasPlaces s w → op < length (ops_of s thread) → thread < length w.threads.items
has_place s w zero op places below = omega (arith, below)
has_place s w (suc c) op places below = elim (cases_lt c (length s.clients)) [
  | inl less ↦ omega (arith, places.threads, less)
  | inr past_it ↦ absurd (none (slice_get_past s.clients c past_it))
]
  where
    none : slice_get s.clients c ≡ None → ⊥
    none e = omega (arith, below, ap (λ (o : Option ClientOf). length (unwrap_or (option_map (λ (x : ClientOf). x.ops) o) [])) e)
