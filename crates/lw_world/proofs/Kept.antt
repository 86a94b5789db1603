-- What accepted events keep.
use Rattle.std.proofs.Common.{◌≡◌, ◌≤◌, ◌<◌, inl, inr, ℕ, zero, suc, ◌+◌, Bool, true, false, not, ◌&&◌, nat_lt, List, [], ◌∷◌, refl, sym, ap, ◌∙◌, arith, slice_set, None}
use Rattle.std.proofs.lemmas.List.{length-set}
use Rattle.std.proofs.lemmas.Bool.{leb-false, true≢false, ltb-true, ltb-false, or_parts, and_parts}
use Rattle.lw_world.specs.declared.world_state.Standing.{Standing}
use Rattle.lw_world.specs.declared.world_state.Standing.TheVariants as standing
use Rattle.lw_world.specs.declared.world_state.Stage.{Stage}
use Rattle.lw_world.specs.declared.world_state.Stage.TheVariants as stage
use Rattle.lw_world.specs.declared.world_event.WorldEvent.TheVariants.{Run, End, Fire}
use Rattle.lw_world.specs.declared.world_event.WorldRefusal.{WorldRefusal}
use Rattle.lw_world.specs.Sums.{at, put}
use Rattle.lw_world.specs.World.{State, IsKept, Test, first_of, is_end, is_ended, is_fired, standing_of, any_below, tests_of, refusal_of, acts, is_list, visits_some, owes_callback, has_owner, has_visit}
use Rattle.lw_world.specs.WorldParts.{Parts, IsSound, state_of}
use Rattle.lw_world.proofs.Sums.{same_or_not, set_cases, put_cases}

-- ---- tests that all fail

passed : (b : Bool) (r : WorldRefusal) (ts : List Test) → first_of ((b, r) ∷ ts) ≡ None → (b ≡ false) × (first_of ts ≡ None)
passed true r ts h = absurd (cc h)
passed false r ts h = (refl, h)

-- each of them
abbrev AllFail : List Test → Type 0
AllFail [] = Unit {0}
AllFail (t ∷ ts) = (t.0 ≡ false) × AllFail ts

all_fail : (ts : List Test) → first_of ts ≡ None → AllFail ts
all_fail [] h = tt
all_fail (t ∷ ts) h = let first = passed t.0 t.1 ts h in (first.0, all_fail ts first.1)

not_false : (b : Bool) → not b ≡ false → b ≡ true
not_false true h = refl
not_false false h = absurd (true≢false h)

none_below : (n : ℕ) (p : ℕ → Bool) (i : ℕ) → any_below n p ≡ false → i < n → p i ≡ false
none_below zero p i h below = absurd (omega (arith, below))
none_below (suc n) p i h below =
    let parts = or_parts (any_below n p) (p n) h in
    elim (same_or_not i n) [
      | inl e ↦ ap p e ∙ parts.1
      | inr apart ↦ none_below n p i parts.0 (omega (arith, below, apart))
    ]

-- ---- each change

never : (b : Bool) → b ≡ true → b ≡ false → ⊥
never b is isnt = true≢false (sym is ∙ isnt)

module _ (w : State) (kept : IsKept w) where
  kept_run : (s r v : ℕ) → r < 81 → is_ended w r ≡ false → v ≤ at w.sent s r → IsKept (record w { run = put w.run s r v })
  kept_run s r v narrow alive less = record {
    run_was_sent = λ i j. elim (put_cases w.run s r v i j narrow) [
      | inl p ↦ rw p.2 (rw p.0 (rw p.1 less))
      | inr same ↦ rw same (kept.run_was_sent i j)
    ];
    ended_ran_all = λ t i in_t in_i ended. elim (put_cases w.run s r v i t narrow) [
      | inl p ↦ absurd (never (is_ended w r) (ap (is_ended w) (sym p.1) ∙ ended) alive)
      | inr same ↦ same ∙ kept.ended_ran_all t i in_t in_i ended
    ];
    ended_owns_nothing = kept.ended_owns_nothing;
    ended_visits_nothing = kept.ended_visits_nothing;
    fired_has_no_owner = kept.fired_has_no_owner;
    fired_has_no_visit = kept.fired_has_no_visit;
  }

  -- a thread stands elsewhere; where it has ended it has run all, owns nothing and has no visit
  kept_standing : (t : ℕ) (p : Standing)
      → (is_end p ≡ true → (s : ℕ) → s < w.threads → at w.run s t ≡ at w.sent s t)
      → (is_end p ≡ true → (d : ℕ) → d < w.devices → at w.channels t d ≡ 0)
      → (is_end p ≡ true → (d : ℕ) → d < w.devices → at w.visits t d ≡ 0)
      → IsKept (record w { standing = slice_set w.standing t p })
  kept_standing t p ran owned visited = record {
    run_was_sent = kept.run_was_sent;
    ended_ran_all = λ i s in_i in_s ended. elim (set_cases w.standing t p i standing.Ended) [
      | inl q ↦ rw q.0 (ran (ap is_end (sym q.1) ∙ ended) s in_s)
      | inr same ↦ kept.ended_ran_all i s in_i in_s (ap is_end (sym same) ∙ ended)
    ];
    ended_owns_nothing = λ i d in_i in_d ended. elim (set_cases w.standing t p i standing.Ended) [
      | inl q ↦ rw q.0 (owned (ap is_end (sym q.1) ∙ ended) d in_d)
      | inr same ↦ kept.ended_owns_nothing i d in_i in_d (ap is_end (sym same) ∙ ended)
    ];
    ended_visits_nothing = λ i d in_i in_d ended. elim (set_cases w.standing t p i standing.Ended) [
      | inl q ↦ rw q.0 (visited (ap is_end (sym q.1) ∙ ended) d in_d)
      | inr same ↦ kept.ended_visits_nothing i d in_i in_d (ap is_end (sym same) ∙ ended)
    ];
    fired_has_no_owner = kept.fired_has_no_owner;
    fired_has_no_visit = kept.fired_has_no_visit;
  }

  -- a device is further; where it has fired it has no owner and no visit
  kept_stage : (d : ℕ) (p : Stage)
      → (is_fired p ≡ true → (t : ℕ) → t < w.threads → at w.channels t d ≡ 0)
      → (is_fired p ≡ true → (t : ℕ) → t < w.threads → at w.visits t d ≡ 0)
      → IsKept (record w { stage = slice_set w.stage d p })
  kept_stage d p owned visited = record {
    run_was_sent = kept.run_was_sent;
    ended_ran_all = kept.ended_ran_all;
    ended_owns_nothing = kept.ended_owns_nothing;
    ended_visits_nothing = kept.ended_visits_nothing;
    fired_has_no_owner = λ t i in_t in_i fired. elim (set_cases w.stage d p i stage.Open) [
      | inl q ↦ rw q.0 (owned (ap is_fired (sym q.1) ∙ fired) t in_t)
      | inr same ↦ kept.fired_has_no_owner t i in_t in_i (ap is_fired (sym same) ∙ fired)
    ];
    fired_has_no_visit = λ t i in_t in_i fired. elim (set_cases w.stage d p i stage.Open) [
      | inl q ↦ rw q.0 (visited (ap is_fired (sym q.1) ∙ fired) t in_t)
      | inr same ↦ kept.fired_has_no_visit t i in_t in_i (ap is_fired (sym same) ∙ fired)
    ];
  }

-- ---- a world's parts after it

nat_none : (n : ℕ) → nat_lt 0 n ≡ false → n ≡ 0
nat_none n h = let none = ltb-false 0 n h in omega (arith, none)

alive : (s : Standing) → is_list s ≡ true → is_end s ≡ false
alive (standing.List c) h = refl
alive (standing.Event c) h = refl
alive standing.Ended h = absurd (true≢false (sym h))

module _ (p : Parts) (sound : IsSound p) where
  run_tests : (r s : ℕ) → refusal_of (state_of p) (Run r s) ≡ None → AllFail (tests_of (state_of p) (Run r s))
  run_tests r s allowed = all_fail (tests_of (state_of p) (Run r s)) allowed

  -- one message more may be run
  pub run_less : (r s : ℕ) → refusal_of (state_of p) (Run r s) ≡ None → at p.run.cells s r < at p.sent.cells s r
  run_less r s allowed = leb-false (at p.sent.cells s r) (at p.run.cells s r) (run_tests r s allowed).1.0

  run_known : (r s : ℕ) → refusal_of (state_of p) (Run r s) ≡ None → r < p.threads
  run_known r s allowed =
      let both = not_false (nat_lt s p.threads && nat_lt r p.threads) (run_tests r s allowed).0 in
      ltb-true r p.threads (and_parts (nat_lt s p.threads) (nat_lt r p.threads) both).1

  run_alive : (r s : ℕ) → refusal_of (state_of p) (Run r s) ≡ None → is_ended (state_of p) r ≡ false
  run_alive r s allowed = alive (standing_of (state_of p) r) (not_false (acts (state_of p) r) (run_tests r s allowed).1.1.0)

  pub sound_run : (r s : ℕ) → refusal_of (state_of p) (Run r s) ≡ None
      → IsSound (record p { run = record p.run { cells = put p.run.cells s r (at p.run.cells s r + 1) } })
  sound_run r s allowed =
      let less = run_less r s allowed in
      let known = run_known r s allowed in
      record {
        few_threads = sound.few_threads;
        few_devices = sound.few_devices;
        sent = sound.sent;
        run = record { rows_are = sound.run.rows_are; columns_are = sound.run.columns_are };
        channels = sound.channels;
        visits = sound.visits;
        standing = sound.standing;
        lists = sound.lists;
        stage = sound.stage;
        shuts = sound.shuts;
        asleep = sound.asleep;
        within = sound.within;
        small = sound.small;
        kept = kept_run (state_of p) sound.kept s r (at p.run.cells s r + 1) (omega (arith, known, sound.few_threads)) (run_alive r s allowed) (omega (arith, less));
      }

  pub sound_end : (t : ℕ) → refusal_of (state_of p) (End t) ≡ None
      → IsSound (record p { standing = record p.standing { states = slice_set p.standing.states t standing.Ended } })
  sound_end t allowed =
      let tests = all_fail (tests_of (state_of p) (End t)) allowed in
      let ran = tests.1.1.1.0 in
      let owned = tests.1.1.1.1.0 in
      let visited = (or_parts (visits_some (state_of p) t) (owes_callback (state_of p) t) tests.1.1.1.1.1.0).0 in
      record {
        few_threads = sound.few_threads;
        few_devices = sound.few_devices;
        sent = sound.sent;
        run = sound.run;
        channels = sound.channels;
        visits = sound.visits;
        standing = length-set p.standing.states t standing.Ended ∙ sound.standing;
        lists = sound.lists;
        stage = sound.stage;
        shuts = sound.shuts;
        asleep = sound.asleep;
        within = λ i. elim (set_cases p.standing.states t standing.Ended i standing.Ended) [
          | inl q ↦ rw q.1 (omega arith)
          | inr same ↦ rw same (sound.within i)
        ];
        small = sound.small;
        kept = kept_standing (state_of p) sound.kept t standing.Ended
            (λ _ s in_s.
            let all = ltb-false _ _ (none_below p.threads (λ s. nat_lt (at p.run.cells s t) (at p.sent.cells s t)) s ran in_s) in
            let most = sound.kept.run_was_sent s t in
            omega (arith, all, most))
            (λ _ d in_d. nat_none _ (none_below p.devices (λ d. nat_lt 0 (at p.channels.cells t d)) d owned in_d))
            (λ _ d in_d. nat_none _ (none_below p.devices (λ d. nat_lt 0 (at p.visits.cells t d)) d visited in_d));
      }

  pub sound_fire : (t d : ℕ) → refusal_of (state_of p) (Fire t d) ≡ None
      → IsSound (record p { stage = record p.stage { states = slice_set p.stage.states d stage.Fired } })
  sound_fire t d allowed =
      let tests = all_fail (tests_of (state_of p) (Fire t d)) allowed in
      let free = or_parts (has_owner (state_of p) d) (has_visit (state_of p) d) tests.1.1.1.1.1.0 in
      record {
        few_threads = sound.few_threads;
        few_devices = sound.few_devices;
        sent = sound.sent;
        run = sound.run;
        channels = sound.channels;
        visits = sound.visits;
        standing = sound.standing;
        lists = sound.lists;
        stage = length-set p.stage.states d stage.Fired ∙ sound.stage;
        shuts = sound.shuts;
        asleep = sound.asleep;
        within = sound.within;
        small = sound.small;
        kept = kept_stage (state_of p) sound.kept d stage.Fired
            (λ _ t in_t. nat_none _ (none_below p.threads (λ t. nat_lt 0 (at p.channels.cells t d)) t free.0 in_t))
            (λ _ t in_t. nat_none _ (none_below p.threads (λ t. nat_lt 0 (at p.visits.cells t d)) t free.1 in_t));
      }
