-- The first state is sound.
use Rattle.std.proofs.Common.{◌≡◌, ◌≤◌, ◌<◌, inl, inr, ℕ, zero, suc, ◌+◌, ◌-◌, ◌*◌, ◌%◌, Bool, false, List, [], ◌∷◌, refl, arith, slice_index_or, replicate}
use Rattle.std.proofs.lemmas.List.{length-replicate, get_or_append_left, get_or-append_right}
use Rattle.std.proofs.Math.Nat.{mod-lt}
use Rattle.std.proofs.lemmas.Bool.{cases_lt}
use Rattle.lw_world.specs.declared.world_state.Standing.{Standing}
use Rattle.lw_world.specs.declared.world_state.Standing.TheVariants as standing
use Rattle.lw_world.specs.declared.world_state.Stage.{Stage}
use Rattle.lw_world.specs.declared.world_state.Stage.TheVariants as stage
use Rattle.lw_world.specs.Tally.{Counts}
use Rattle.lw_world.specs.Register.{Registered, tabulate}
use Rattle.lw_world.specs.World.{IsKept, first_state}
use Rattle.lw_world.specs.WorldParts.{IsSound, reactor_end}
use Rattle.lw_world.proofs.Sums.{at-zeros}
use Rattle.lw_world.proofs.Registers.{length-tabulate}

each_of_one : {S : Type 0} (size : S → ℕ) (most : ℕ) (s : S) (k : ℕ) (d : S) → size s ≤ most → size d ≤ most → size (slice_index_or (s ∷ []) k d) ≤ most
each_of_one size most s zero d small past = small
each_of_one size most s (suc k) d small past = past

-- what holds of each element and past the end holds of any
each : {S : Type 0} (size : S → ℕ) (most n : ℕ) (f : ℕ → S) (t : ℕ) (d : S) → ((i : ℕ) → size (f i) ≤ most) → size d ≤ most → size (slice_index_or (tabulate n f) t d) ≤ most
each size most zero f t d small past = past
each size most (suc n) f t d small past = elim (cases_lt t n) [
  | inl before ↦ rw (get_or_append_left (tabulate n f) (f n ∷ []) d t (rw (length-tabulate n f) before)) (each size most n f t d small past)
  | inr after ↦ rw (get_or-append_right (tabulate n f) (f n ∷ []) n t d (length-tabulate n f) after) (each_of_one size most (f n) (t - n) d (small n) past)
]

zeros_kept : (threads reactors devices : ℕ) → IsKept (first_state threads reactors devices)
zeros_kept threads reactors devices =
    let none = at-zeros (threads * 81) in record {
      run_was_sent = λ s r. let run = none s r in omega (arith, run);
      ended_ran_all = λ t s _ _ _. refl;
      ended_owns_nothing = λ t d _ _ _. none t d;
      ended_visits_nothing = λ t d _ _ _. none t d;
      fired_has_no_owner = λ t d _ _ _. none t d;
      fired_has_no_visit = λ t d _ _ _. none t d;
    }

module _ (threads reactors devices : ℕ) (few : threads ≤ 81) (some : 1 ≤ reactors) (few_devices : devices ≤ 16) where
  abbrev table : ℕ → Counts
  table columns = record { rows = threads; columns = columns; cells = replicate (threads * 81) 0 }

  abbrev stands : Registered Standing
  stands = record { states = tabulate threads (λ t. standing.List (t % reactors)); keys = reactors + 1 }

  abbrev stages : Registered Stage
  stages = record { states = tabulate devices (λ d. stage.Open); keys = threads + 1 }

  first_sound : IsSound (record { threads = threads; reactors = reactors; devices = devices; sent = table threads; run = table threads; standing = stands; channels = table devices; visits = table devices; stage = stages; asleep = replicate reactors false })
  first_sound = record {
    few_threads = few;
    few_devices = few_devices;
    sent = record { rows_are = refl; columns_are = refl };
    run = record { rows_are = refl; columns_are = refl };
    channels = record { rows_are = refl; columns_are = refl };
    visits = record { rows_are = refl; columns_are = refl };
    standing = length-tabulate threads (λ t. standing.List (t % reactors));
    lists = refl;
    stage = length-tabulate devices (λ d. stage.Open);
    shuts = refl;
    asleep = length-replicate reactors false;
    within = λ t. each reactor_end reactors threads (λ t. standing.List (t % reactors)) t standing.Ended (λ i. let below : i % reactors < reactors = mod-lt i (omega (arith, some)) in omega (arith, below)) (omega arith);
    small = λ s r. let none = at-zeros (threads * 81) s r in omega (arith, none);
    kept = zeros_kept threads reactors devices;
  }

  pub first_parts : (sent run channels visits : Counts) (stand : Registered Standing) (staged : Registered Stage) (asleep : List Bool)
      → sent ≡ table threads → run ≡ table threads → channels ≡ table devices → visits ≡ table devices → stand ≡ stands → staged ≡ stages → asleep ≡ replicate reactors false
      → IsSound (record { threads = threads; reactors = reactors; devices = devices; sent = sent; run = run; standing = stand; channels = channels; visits = visits; stage = staged; asleep = asleep })
  first_parts sent run channels visits stand staged asleep e1 e2 e3 e4 e5 e6 e7 =
      rw e1 (rw e2 (rw e3 (rw e4 (rw e5 (rw e6 (rw e7 first_sound))))))
