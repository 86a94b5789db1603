-- Each kind of step keeps the rule of a sleeper's parker.
use Rattle.std.proofs.Common.{ℕ, ◌+◌, ◌≤◌, true, false, [], ◌∷◌, refl, arith}
use Rattle.crossbeam_utils.specs.Register.{Admits, Turns, TurnsAt}
use Rattle.lw_base.proofs.Totals.{total_set, total_snoc}
use Rattle.lw_event.specs.declared.signal.SleepView.{SleepView}
use Rattle.lw_event.specs.SleepRule.{Kept, Wakes, Sleeps, first_view, worth}

pub begins : Kept false (first_view ∷ [])
begins = omega arith

pub admits : Admits Kept first_view
admits waits views h =
    let a = total_snoc (λ (v : SleepView). v.slept) views first_view in
    let b = total_snoc (λ (v : SleepView). v.woke) views first_view in
    let k : worth waits + _ ≤ _ = h in
    omega arith

pub wakes : (id : ℕ) (v : SleepView) → Turns Kept id v (λ _. true) Wakes
wakes id v waits views h at =
    let w : SleepView = record v { woke = v.woke + 1 } in
    let a = total_set (λ (v : SleepView). v.slept) views id v w at in
    let b = total_set (λ (v : SleepView). v.woke) views id v w at in
    let k : worth waits + _ ≤ _ = h in
    (w, omega arith, refl)

pub sleeps : (id : ℕ) (v : SleepView) → TurnsAt Kept id v true false Sleeps
sleeps id v views h at =
    let w : SleepView = record v { slept = v.slept + 1 } in
    let a = total_set (λ (v : SleepView). v.slept) views id v w at in
    let b = total_set (λ (v : SleepView). v.woke) views id v w at in
    let k : 1 + _ ≤ _ = h in
    (w, omega arith, refl)
