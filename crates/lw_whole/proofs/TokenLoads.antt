-- What a token carries to each thread: what those below added that ran it.
use Rattle.std.proofs.Common.{◌≡◌, ℕ, zero, suc, ◌+◌, ◌<◌, ◌≤◌, ◌==◌, Bool, true, false, cond, List, [], ◌∷◌, length, Option, Some, None, slice_get, unwrap_or, option_map, refl, sym, ap, subst, ◌∙◌, arith, inl, inr, find}
use Rattle.std.specs.Prelude.{option_and_then}
use Rattle.std.proofs.lemmas.Bool.{eqb-true, eq-eqb, false≢true}
use Rattle.lw_base.specs.declared.message.Tag.{Tag}
use Rattle.lw_base.specs.declared.message.What.{What}
use Rattle.lw_model.specs.declared.record.Record.{Record}
use Rattle.lw_model.specs.declared.step.Step.{Step}
use Rattle.lw_model.specs.declared.step.Step.TheVariants as step
use Rattle.lw_model.specs.Threads.{thread_count}
use Rattle.lw_model.specs.OwnOrder.{own_order, with_past}
use Rattle.lw_model.specs.Holding.{runs}
use Rattle.lw_model.specs.Sent.{is_same_token}
use Rattle.lw_model.specs.Lawful.{mark_of}
use Rattle.lw_whole.specs.Letters.{Letter, Load, nothing}
use Rattle.lw_whole.specs.Logs.{Log, without_callbacks, addressed, load_at, steps, steps_with_past}
use Rattle.lw_whole.specs.Tokens.{GoesOn, empty_load, load_behind}
use Rattle.lw_whole.specs.Sends.{SentBy}
use Rattle.lw_whole.specs.WholeRun.{IsWholeRun}
use Rattle.lw_whole.proofs.Access.{of_log, log_count, ended, get_map}
use Rattle.lw_whole.proofs.Steps.{steps_are, Stands}
use Rattle.lw_whole.proofs.Flow.{count_at, sum_has}
use Rattle.lw_whole.proofs.TokenCounts.{same_is, NoneIs, not_completion, starts, dest, dests, others_none}
use Rattle.lw_whole.proofs.TokenRuns.{Token, count_of, count_steps, ran_goes, started_goes}
use Rattle.lw_whole.proofs.TokenFlow.{runs_at, starts_of, goes_of, starts_is, goes_is, runs_are, start, last_none}
use Rattle.lw_whole.proofs.TokenBack.{Among, IsTo}
use Rattle.lw_whole.proofs.TokenWay.{Begun, begun_at}
use Rattle.lw_whole.proofs.Once.{begun_by_run}
use Rattle.lw_whole.proofs.SentFrom.{SentFrom, came_from}
use Rattle.lw_whole.proofs.AtStep.{AtStep, at_step}
use Rattle.lw_whole.proofs.TokenGoes.{has, all_go, at_most_once, dest_to, before, between}
use Rattle.lw_whole.proofs.Marks.{mark_behind, below_same, loaded_of, loaded, loaded_first, loaded_behind, find_without}

-- a list of one at most in which u stands
pub single : (u : ℕ) (us : List ℕ) → length us ≤ 1 → 1 ≤ count_at u us → us ≡ u ∷ []
single u [] few some = absurd (omega (arith, some))
single u (v ∷ []) few some = at (v == u) refl some
  where
    at : (b : Bool) → (v == u) ≡ b → 1 ≤ cond b 1 0 + 0 → v ∷ [] ≡ u ∷ []
    at true e h = ap (λ k. k ∷ []) (eqb-true v u e)
    at false e h = absurd (omega (arith, h))
single u (v ∷ w ∷ us) few some = absurd (omega (arith, few))

-- what none of the messages is isn't among them
none_among : (w : What) (u : ℕ) (x : Letter) (now : List (ℕ × Letter)) → is_same_token w x.tag.what ≡ true → NoneIs w (addressed now) → Among (IsTo u (λ y. y ≡ x)) now → ⊥
none_among w u x [] e h g = g
none_among w u x (p ∷ now) e h (inl is) = false≢true (sym h.0 ∙ ap (λ (y : Letter). is_same_token w y.tag.what) is.1 ∙ e)
none_among w u x (p ∷ now) e h (inr later) = none_among w u x now e h.1 later

module _ (r : Record) (logs : List Log) (whole : IsWholeRun r logs) where
  abbrev n : ℕ
  n = thread_count r.script

  pub sent_from : (u : ℕ) (l : Log) → slice_get logs u ≡ Some l → (i : ℕ) (x : Letter) → slice_get l.ran i ≡ Some x → SentFrom logs u x
  sent_from u l at i x e = came_from logs whole.rings u l at i x e

  pub in_run : (t : ℕ) → t < length logs → t < n
  in_run t less = omega (arith, less, log_count r logs whole)

  -- the mark of a thread that ran the token once
  mark_is : (w : What) (t : ℕ) (l : Log) → slice_get logs t ≡ Some l → (d : ℕ) (past : List Step) (i : ℕ) (m : Tag)
      → find (λ p. runs (is_same_token w) p.1) (steps_with_past l) ≡ Some (past, step.Ran i m)
      → mark_of r w d t ≡ option_and_then (λ (p : List Step × Step). mark_behind r.script t d p.0) (Some (past, step.Ran i m))
  mark_is w t l at d past i m e =
      ap (λ (ss : List Step). option_and_then (λ (p : List Step × Step). mark_behind r.script t d p.0) (find (λ p. runs (is_same_token w) p.1) (with_past [] ss))) (of_log r logs whole own_order t l at)
      ∙ find_without r.script t d (is_same_token w) [] (own_order l.lines)
      ∙ ap (λ ss. option_and_then (λ (p : List Step × Step). mark_behind r.script t d p.0) (find (λ p. runs (is_same_token w) p.1) (with_past [] ss))) (steps_are l)
      ∙ ap (option_and_then (λ (p : List Step × Step). mark_behind r.script t d p.0)) e

  module _ (w : What) (tok : Token w) where
    -- what thread u is brought by each letter of the token
    abbrev Carries : ℕ → Type 0
    Carries u = (l : Log) → slice_get logs u ≡ Some l → u < thread_count r.script → (i : ℕ) (x : Letter) → slice_get l.ran i ≡ Some x → x.tag.what ≡ w → x.load ≡ loaded r w u

    -- behind a thread that ran it
    pub behind : (t : ℕ) (l : Log) → slice_get logs t ≡ Some l → t < thread_count r.script → Begun r logs w → Carries t → (P : ℕ × Letter → Type 0) (a : AtStep r.script t l P) (i : ℕ) (m : Tag) → a.this ≡ step.Ran i m
        → is_same_token w m.what ≡ true → load_behind r.script t a.past w (load_at l i) ≡ loaded r w (suc t)
    behind t l at less b before P a i m this e =
        let ran : slice_get l.lines.ran i ≡ Some m = subst (Stands (without_callbacks l.lines)) this a.stands in
        let got = letter_of (slice_get l.ran i) refl (sym (get_map (λ (x : Letter). x.tag) l.ran i) ∙ ap (λ ms. slice_get ms i) (ended r logs whole t l at).tags ∙ ran) in
        let passes : runs (is_same_token w) a.this ≡ true = ap (runs (is_same_token w)) this ∙ e in
        let total : runs_at r logs whole w t ≡ count_of (runs (is_same_token w)) (steps l) = runs_are r logs whole w t l at ∙ sym (count_steps (is_same_token w) l) in
        let once : count_of (runs (is_same_token w)) (steps l) ≤ 1 = omega (arith, total, at_most_once r logs whole w tok b t less) in
        ap (load_behind r.script t a.past w) (ap (λ (o : Option Letter). unwrap_or (option_map (λ x. x.load) o) nothing) got.1 ∙ before l at less i got.0 got.1 (ap (λ (z : Tag). z.what) got.2 ∙ same_is w m.what e))
        ∙ loaded_behind r w t a.past (has r logs whole w tok t less (omega (arith, total, a.counted (runs (is_same_token w)) passes)))
        (λ o k d is. mark_is w t l at d a.past i m (a.found (runs (is_same_token w)) passes once ∙ ap (λ z. Some (a.past, z)) this))
      where
        letter_of : (o : Option Letter) → slice_get l.ran i ≡ o → option_map (λ (x : Letter). x.tag) o ≡ Some m → (x : Letter) × (slice_get l.ran i ≡ Some x) × (x.tag ≡ m)
        letter_of None f g = cc
        letter_of (Some x) f g = (x, f, same g)
          where
            same : Some x.tag ≡ Some m → x.tag ≡ m
            same g = cc

    -- a letter of the token goes to the first thread that may run it
    to_next : (u from : ℕ) (load : Load) (x : Letter) (now : List (ℕ × Letter)) → x.tag.what ≡ w → GoesOn r.script w from load now → Among (IsTo u (λ y. y ≡ x)) now → (x.load ≡ load) × (from ≤ u) × (1 ≤ count_at u (dests n w now))
    to_next u from load x [] is h g = absurd g
    to_next u from load x (p ∷ []) is h (inr g) = absurd g
    to_next u from load x (p ∷ []) is (inl to) (inl same) = (
      ap (λ (y : Letter). y.load) (sym same.1) ∙ to.carried,
      subst (λ v. from ≤ v) same.0 to.above,
      omega (arith, ap {B = ℕ} (λ b. cond b 1 0) (eq-eqb (dest n w p) u (dest_to n w p tok to.token ∙ same.0))),
    )
    to_next u from load x (p ∷ []) is (inr back) (inl same) =
        let none : NoneIs w (addressed (p ∷ [])) = subst (NoneIs w) (sym back.completes) (not_completion w w) in
        absurd (false≢true (sym none.0 ∙ ap (λ (y : Letter). is_same_token w y.tag.what) same.1 ∙ ap (is_same_token w) is ∙ tok))
    to_next u from load x (p ∷ q ∷ rest) is h g = absurd h

    pub carried : (m u : ℕ) → u < m → Carries u
    carried zero u below l at less i x e is = absurd (omega (arith, below))
    carried (suc m) u below l at less i x e is = of_sender (λ t h. carried m t h) (sent_from u l at i x e)
      where
        same_token : is_same_token w x.tag.what ≡ true
        same_token = ap (is_same_token w) is ∙ tok

        of_start : (t : ℕ) (g : Log) → slice_get logs t ≡ Some g → t < thread_count r.script → (a : AtStep r.script t g (IsTo u (λ y. y ≡ x))) → starts r.script t w a.this ≡ true → x.load ≡ loaded r w u
        of_start t g there within a f =
            let to = to_next u 0 (empty_load w) x a.now is (started_goes r.script t g w a.past a.this a.now f a.sent) a.among in
            let b = begun_at r logs whole w t g there within (a.counted (starts r.script t w) f) in
            let goes = single u (starts_of r logs whole w t) (omega (arith, start r logs whole w, sum_has (λ k. length (starts_of r logs whole w k)) n t within))
            (omega (arith, to.2, a.out (starts r.script t w) n w u f, ap (count_at u) (starts_is r logs whole w t g there))) in
            to.0 ∙ sym (loaded_first r w) ∙ sym (ap (loaded_of r w) (below_same r w 0 u (omega arith) (λ v low high. before r logs whole w tok b t u v within high (omega (arith, less)) goes)))

        of_run : ((t : ℕ) → t < m → Carries t) → (t : ℕ) (g : Log) → slice_get logs t ≡ Some g → t < thread_count r.script → (a : AtStep r.script t g (IsTo u (λ y. y ≡ x))) (y : Step) → a.this ≡ y → runs (is_same_token w) a.this ≡ true → x.load ≡ loaded r w u
        of_run lower t g there within a (step.Did j d) this f = absurd (false≢true (ap (runs (is_same_token w)) (sym this) ∙ f))
        of_run lower t g there within a (step.Called j d) this f = absurd (false≢true (ap (runs (is_same_token w)) (sym this) ∙ f))
        of_run lower t g there within a (step.Ran j m') this f =
            let is_run : is_same_token w m'.what ≡ true = ap (runs (is_same_token w)) (sym this) ∙ f in
            let to = to_next u (t + 1) (load_behind r.script t a.past w (load_at g j)) x a.now is (ran_goes r.script t g w a.past j m' a.now is_run (subst (λ z. SentBy r.script t g a.past z a.now) this a.sent)) a.among in
            let total : runs_at r logs whole w t ≡ count_of (runs (is_same_token w)) (steps g) = runs_are r logs whole w t g there ∙ sym (count_steps (is_same_token w) g) in
            let b = begun_by_run r logs whole w tok t within (omega (arith, total, a.counted (runs (is_same_token w)) f)) in
            let goes = single u (goes_of r logs whole w t) (omega (arith, all_go r logs whole w tok b t within, at_most_once r logs whole w tok b t within))
            (omega (arith, to.2, a.out (runs (is_same_token w)) n w u f, ap (count_at u) (goes_is r logs whole w t g there))) in
            to.0 ∙ behind t g there within b (lower t (omega (arith, to.1, below))) (IsTo u (λ y. y ≡ x)) a j m' this is_run
            ∙ sym (ap (loaded_of r w) (below_same r w (suc t) u (omega (arith, to.1)) (λ v low high. between r logs whole w tok b t u v (omega (arith, low)) high (omega (arith, less)) goes)))

        by_step : ((t : ℕ) → t < m → Carries t) → (t : ℕ) (g : Log) → slice_get logs t ≡ Some g → t < thread_count r.script → (a : AtStep r.script t g (IsTo u (λ y. y ≡ x))) (b c : Bool) → starts r.script t w a.this ≡ b → runs (is_same_token w) a.this ≡ c → x.load ≡ loaded r w u
        by_step lower t g there within a true c f k = of_start t g there within a f
        by_step lower t g there within a false true f k = of_run lower t g there within a a.this refl k
        by_step lower t g there within a false false f k = absurd (none_among w u x a.now same_token (others_none r.script t g w a.past a.this a.now f k a.sent) a.among)

        of_sender : ((t : ℕ) → t < m → Carries t) → SentFrom logs u x → x.load ≡ loaded r w u
        of_sender lower from = elim from.among [
          | inl at_steps ↦
              let a = at_step r.script from.sender from.log (IsTo u (λ y. y ≡ x)) (ended r logs whole from.sender from.log from.at).sends.at_steps at_steps in
              by_step lower from.sender from.log from.at (in_run from.sender from.within) a (starts r.script from.sender w a.this) (runs (is_same_token w) a.this) refl refl
          | inr at_end ↦ absurd (none_among w u x from.log.last same_token (subst (NoneIs w) (sym (ended r logs whole from.sender from.log from.at).sends.at_end) (last_none r.script from.sender w)) at_end)
        ]
