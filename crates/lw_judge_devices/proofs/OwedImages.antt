-- What is owed by the journals of the images, one image more.
use Rattle.std.proofs.Common.{◌≡◌, ℕ, ◌+◌, ◌<◌, ◌≤◌, ◌==◌, nat_lt, Bool, true, false, cond, List, [], length, get_or, map, slice_get, Option, Some, None, option_map, option_and_then, unwrap_or, refl, sym, ap, ◌∙◌, arith, inl, inr}
use Rattle.std.specs.Prelude.{filter_map, zip}
use Rattle.std.proofs.lemmas.Bool.{cases_lt, cases_eq, lt-ltb, le-ltb, eqb-true, eq-eqb, ne_eqb}
use Rattle.std.proofs.lemmas.Option.{slice_get_past}
use Rattle.lw_base.specs.declared.message.Tag.{Tag}
use Rattle.lw_model.specs.declared.record.Record.{Record}
use Rattle.lw_model.specs.declared.record.ThreadRecord.{ThreadRecord}
use Rattle.lw_model.specs.ScriptRules.{block_at}
use Rattle.lw_model.specs.Replay.{replay}
use Rattle.lw_model.specs.Threads.{owner_of, is_on, image_at, op_at, ran_of}
use Rattle.lw_model.specs.Journal.{request_of, journal, answers, look_up}
use Rattle.lw_model.proofs.Printed.{parts}
use Rattle.lw_judge_devices.specs.declared.table.Owed.{Owed}
use Rattle.lw_judge_devices.specs.declared.replay.Replay.{Replay}
use Rattle.lw_judge_devices.specs.Replayed.{IsAfter}
use Rattle.lw_judge_devices.specs.Owed.{reply_in, HasPlaces, OwesBelow, IsOwed}
use Rattle.lw_judge_devices.specs.Answered.{IsBehind}
use Rattle.lw_judge_threads.proofs.Threads.{listed}
use Rattle.lw_judge_devices.proofs.WhatStands.{is_in}

-- what the owner's entry lists is what the owner ran
pub ran_by_owner : (r : Record) (d count : ℕ) (xs : List ThreadRecord) (x : ThreadRecord) (ran : List Tag) → d < length r.script.images → count ≡ length r.script.clients → xs ≡ r.threads
    → x ≡ get_or xs (1 + count + d) x → ran ≡ (get_or xs (1 + count + d) x).ran → ran ≡ ran_of r (owner_of r.script d)
ran_by_owner r d count xs x ran below clients threads is lists = lists ∙ ap (λ y. y.ran) (sym is) ∙ sym (listed (λ y. y.ran) r (owner_of r.script d) x at)
  where
    at : slice_get r.threads (owner_of r.script d) ≡ Some x
    at = ap (λ n. slice_get r.threads (1 + n + d)) (sym clients) ∙ is_in xs r.threads (1 + count + d) x threads (omega (arith, below, clients, (parts r).threads)) is

-- before the first request nothing more is owed
pub behind_first : (r : Record) (d : ℕ) (owed : Owed) (image : Replay) → OwesBelow r d owed → IsAfter [] image → IsBehind r.script d [] owed owed image
behind_first r d owed image below after = record {
  places = below.places;
  replies = λ t k is. below.replies t k is ∙ none t k (image_at r.script t k) ∙ ap (cond (is_on r.script t d k) None) (sym (below.replies t k is));
  after = after;
}
  where
    none : (t k : ℕ) (o : Option ℕ) → option_and_then (λ e. cond (nat_lt e d) (look_up t k (answers r e)) None) o
        ≡ cond (elim o [ None ↦ false | Some e ↦ e == d ]) None (option_and_then (λ e. cond (nat_lt e d) (look_up t k (answers r e)) None) o)
    none t k None = refl
    none t k (Some e) = at (e == d) refl
      where
        at : (b : Bool) → (e == d) ≡ b → cond (nat_lt e d) (look_up t k (answers r e)) None ≡ cond b None (cond (nat_lt e d) (look_up t k (answers r e)) None)
        at true is = ap (λ b. cond b (look_up t k (answers r e)) None) (le-ltb e d (omega (arith, eqb-true e d is)))
        at false is = refl

-- behind the last, all that the image's journal says is
pub behind_last : (r : Record) (d : ℕ) (was now : Owed) (image : Replay) → OwesBelow r d was → IsBehind r.script d (journal r d) was now image → OwesBelow r (d + 1) now
behind_last r d was now image below behind = record {
  places = behind.places;
  replies = λ t k is. behind.replies t k is ∙ ap (cond (is_on r.script t d k) (look_up t k (answers r d))) (below.replies t k is) ∙ more t k (image_at r.script t k);
}
  where
    more : (t k : ℕ) (o : Option ℕ) → cond (elim o [ None ↦ false | Some e ↦ e == d ]) (look_up t k (answers r d)) (option_and_then (λ e. cond (nat_lt e d) (look_up t k (answers r e)) None) o)
        ≡ option_and_then (λ e. cond (nat_lt e (d + 1)) (look_up t k (answers r e)) None) o
    more t k None = refl
    more t k (Some e) = elim (cases_eq e d) [
      | inl same ↦
          ap (λ b. cond b (look_up t k (answers r d)) (cond (nat_lt e d) (look_up t k (answers r e)) None)) (eq-eqb e d same)
          ∙ ap (λ n. look_up t k (answers r n)) (sym same)
          ∙ sym (ap (λ b. cond b (look_up t k (answers r e)) None) (lt-ltb e (d + 1) (omega arith)))
      | inr apart ↦
          ap (λ b. cond b (look_up t k (answers r d)) (cond (nat_lt e d) (look_up t k (answers r e)) None)) (ne_eqb e d apart)
          ∙ ap (λ b. cond b (look_up t k (answers r e)) None) (elim (cases_lt e d) [
            | inl less ↦ lt-ltb e d less ∙ sym (lt-ltb e (d + 1) (omega arith))
            | inr past_it ↦ le-ltb e d past_it ∙ sym (le-ltb e (d + 1) (omega arith))
          ])
    ]

-- before the first image nothing is owed
pub owes_none : (r : Record) (owed : Owed) → HasPlaces r.script owed → ((t k : ℕ) → reply_in owed t k ≡ None) → OwesBelow r 0 owed
owes_none r owed places nothing = record { places = places; replies = λ t k is. nothing t k ∙ none t k (image_at r.script t k) }
  where
    none : (t k : ℕ) (o : Option ℕ) → None ≡ option_and_then (λ e. cond (nat_lt e 0) (look_up t k (answers r e)) None) o
    none t k None = refl
    none t k (Some e) = sym (ap (λ b. cond b (look_up t k (answers r e)) None) (le-ltb e 0 (omega arith)))

-- an image that isn't there has no journal
unfound : (r : Record) (e t k : ℕ) → length r.script.images ≤ e → look_up t k (answers r e) ≡ None
unfound r e t k past_it = ap (λ ran. look_up t k (zip (filter_map request_of ran) (replay (block_at r.script e) [] (map (λ q. op_at r.script q.0 q.1) (filter_map request_of ran))))) nothing
  where
    nothing : ran_of r (owner_of r.script e) ≡ []
    nothing = ap (λ (o : Option ThreadRecord). unwrap_or (option_map (λ x. x.ran) o) []) (slice_get_past r.threads (owner_of r.script e) (omega (arith, past_it, (parts r).threads)))

-- behind the last image all is owed
pub owes_all : (r : Record) (d : ℕ) (owed : Owed) → length r.script.images ≤ d → OwesBelow r d owed → IsOwed r owed
owes_all r d owed all below = record { replies = λ t k is. below.replies t k is ∙ same t k (image_at r.script t k) }
  where
    same : (t k : ℕ) (o : Option ℕ) → option_and_then (λ e. cond (nat_lt e d) (look_up t k (answers r e)) None) o ≡ option_and_then (λ e. look_up t k (answers r e)) o
    same t k None = refl
    same t k (Some e) = elim (cases_lt e d) [
      | inl less ↦ ap (λ b. cond b (look_up t k (answers r e)) None) (lt-ltb e d less)
      | inr past_it ↦ ap (λ b. cond b (look_up t k (answers r e)) None) (le-ltb e d past_it) ∙ sym (unfound r e t k (omega arith))
    ]
