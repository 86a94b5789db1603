-- The app, the owners and its origin run each token that was started.
use Rattle.std.proofs.Common.{◌≡◌, ℕ, ◌+◌, ◌<◌, ◌≤◌, ◌==◌, nat_le, Bool, true, false, cond, not, ◌&&◌, ◌||◌, List, [], ◌∷◌, length, Option, Some, None, option_to_list, refl, sym, ap, subst, ◌∙◌, arith, inl, inr, IsTrue}
use Rattle.std.specs.List.{list_all, flat_map, AllByRecursion}
use Rattle.std.proofs.lemmas.Bool.{and_from, false≢true, eq-eqb, ne_eqb, le-leb, lt-leb, lt-ltb, cases_eq, cases_lt}
use Rattle.std.proofs.lemmas.List.Folds.{list_all-append}
use Rattle.lw_base.specs.declared.message.What.{What}
use Rattle.lw_model.specs.declared.script.Script.{Script}
use Rattle.lw_model.specs.declared.record.Record.{Record}
use Rattle.lw_model.specs.declared.record.Answer.{Answer}
use Rattle.lw_model.specs.declared.record.Answer.TheVariants as answer
use Rattle.lw_model.specs.declared.step.Step.{Step}
use Rattle.lw_model.specs.declared.step.Step.TheVariants as step
use Rattle.lw_model.specs.Threads.{EachThread, thread_count, is_client, clients}
use Rattle.lw_model.specs.OwnOrder.{own_order, with_past, history}
use Rattle.lw_model.specs.Holding.{runs}
use Rattle.lw_model.specs.Sent.{is_same_token, token_of, must_run, tokens, tokens_started_by}
use Rattle.lw_model.specs.Lawful.{has_run}
use Rattle.lw_model.proofs.Callbacks.{without}
use Rattle.lw_model.proofs.Growth.{all-append}
use Rattle.lw_model.proofs.Passing.{all_in_range, list_all-flat_map}
use Rattle.lw_whole.specs.Letters.{Letter, Load}
use Rattle.lw_whole.specs.Logs.{Log, steps, steps_with_past}
use Rattle.lw_whole.specs.Tokens.{GoesOn}
use Rattle.lw_whole.specs.Sends.{SentBy, SentAlong}
use Rattle.lw_whole.specs.WholeRun.{IsWholeRun}
use Rattle.lw_whole.proofs.Access.{of_log, log_of, ended}
use Rattle.lw_whole.proofs.Steps.{steps_are}
use Rattle.lw_whole.proofs.Flow.{count_at, count_from, runs_it}
use Rattle.lw_whole.proofs.TokenCounts.{starts, dests, outs}
use Rattle.lw_whole.proofs.TokenRuns.{Token, count_of, ran_goes, started_goes}
use Rattle.lw_whole.proofs.TokenFlow.{runs_at, starts_of, goes_of, starts_is, goes_is, few, up, came, start}
use Rattle.lw_whole.proofs.TokenBack.{token_made}
use Rattle.lw_whole.proofs.TokenWay.{Begun, begun_at, home}
use Rattle.lw_whole.proofs.TokenGoes.{dest_to, not_passed, has}

-- what goes no further than v is not sent past it
all_to : (v : ℕ) (us : List ℕ) → AllByRecursion (λ u. u ≤ v) us → count_from v us ≡ count_at v us
all_to v [] h = refl
all_to v (u ∷ us) h = at (all_to v us h.1)
  where
    at : count_from v us ≡ count_at v us → cond (nat_le v u) 1 0 + count_from v us ≡ cond (u == v) 1 0 + count_at v us
    at rest = elim (cases_eq u v) [
      | inl same ↦ omega (arith, rest, ap {B = ℕ} (λ b. cond b 1 0) (eq-eqb u v same), ap {B = ℕ} (λ b. cond b 1 0) (le-leb v u (omega (arith, same))))
      | inr other ↦ omega (arith, rest, ap {B = ℕ} (λ b. cond b 1 0) (ne_eqb u v other), ap {B = ℕ} (λ b. cond b 1 0) (lt-leb v u (omega (arith, other, h.0))))
    ]

-- a token that is to go to the first thread from `from` on goes no further than one that has to run it
goes_to : (s : Script) (w : What) → Token w → (from v : ℕ) (load : Load) (now : List (ℕ × Letter)) → from ≤ v → v < thread_count s → must_run s w v ≡ true → GoesOn s w from load now → AllByRecursion (λ u. u ≤ v) (dests (thread_count s) w now)
goes_to s w tok from v load [] low less must h = tt
goes_to s w tok from v load (p ∷ []) low less must (inl to) = (
  elim (cases_lt v p.0) [
    | inl below ↦ absurd (not_passed s w from p.0 v low below must to.passed)
    | inr above ↦ subst (λ u. u ≤ v) (sym (dest_to (thread_count s) w p tok to.token)) above
  ],
  tt,
)
goes_to s w tok from v load (p ∷ []) low less must (inr back) = absurd (not_passed s w from (thread_count s) v low less must back.passed)
goes_to s w tok from v load (p ∷ q ∷ rest) low less must h = absurd h

module _ (s : Script) (t : ℕ) (l : Log) (w : What) (tok : Token w) (v : ℕ) (less : v < thread_count s) (must : must_run s w v ≡ true) where
  -- what holds of each step that passes holds of all that they send
  all_out : (p : Step → Bool) → ((past : List Step) (x : Step) (now : List (ℕ × Letter)) → p x ≡ true → SentBy s t l past x now → AllByRecursion (λ u. u ≤ v) (dests (thread_count s) w now))
      → (past rest : List Step) (sends : List (List (ℕ × Letter))) → SentAlong s t l (with_past past rest) sends → AllByRecursion (λ u. u ≤ v) (outs p (thread_count s) w (with_past past rest) sends)
  all_out p each past [] sends h = tt
  all_out p each past (x ∷ rest) [] h = tt
  all_out p each past (x ∷ rest) (now ∷ sends) h =
      all-append (λ u. u ≤ v) (cond (p x) (dests (thread_count s) w now) []) (outs p (thread_count s) w (with_past (x ∷ past) rest) sends) (at (p x) refl) (all_out p each (x ∷ past) rest sends h.1)
    where
      at : (b : Bool) → p x ≡ b → AllByRecursion (λ u. u ≤ v) (cond b (dests (thread_count s) w now) [])
      at true e = each past x now e h.0
      at false e = tt

  starts_to : SentAlong s t l (steps_with_past l) l.sends → AllByRecursion (λ u. u ≤ v) (outs (starts s t w) (thread_count s) w (steps_with_past l) l.sends)
  starts_to h = all_out (starts s t w) (λ past x now e k. goes_to s w tok 0 v _ now (omega arith) less must (started_goes s t l w past x now e k)) [] (steps l) l.sends h

  goes_on_to : t < v → SentAlong s t l (steps_with_past l) l.sends → AllByRecursion (λ u. u ≤ v) (outs (runs (is_same_token w)) (thread_count s) w (steps_with_past l) l.sends)
  goes_on_to below h = all_out (runs (is_same_token w)) each [] (steps l) l.sends h
    where
      each : (past : List Step) (x : Step) (now : List (ℕ × Letter)) → runs (is_same_token w) x ≡ true → SentBy s t l past x now → AllByRecursion (λ u. u ≤ v) (dests (thread_count s) w now)
      each past (step.Did i d) now e k = absurd (false≢true e)
      each past (step.Called i d) now e k = absurd (false≢true e)
      each past (step.Ran i m) now e k = goes_to s w tok (t + 1) v _ now (omega (arith, below)) less must (ran_goes s t l w past i m now e k)

module _ (r : Record) (logs : List Log) (whole : IsWholeRun r logs) where
  -- who has to run a token that was started ran it
  pub must_have : (w : What) → Token w → Begun r logs w → (v : ℕ) → v < thread_count r.script → must_run r.script w v ≡ true → has_run r w v ≡ true
  must_have w tok b v less must = has r logs whole w tok v less (omega (
    arith,
    runs_it (thread_count r.script) (runs_at r logs whole w) (starts_of r logs whole w) (goes_of r logs whole w)
        (few r logs whole w tok) (up r logs whole w tok) (came r logs whole w) (start r logs whole w) (home r logs whole w tok b) v less first then,
  ))
    where
      first : (t : ℕ) → t < thread_count r.script → count_from v (starts_of r logs whole w t) ≡ count_at v (starts_of r logs whole w t)
      first t there =
          let l = log_of r logs whole t there in
          all_to v (starts_of r logs whole w t) (subst (AllByRecursion (λ u. u ≤ v)) (sym (starts_is r logs whole w t l.0 l.1)) (starts_to r.script t l.0 w tok v less must (ended r logs whole t l.0 l.1).sends.at_steps))

      then : (t : ℕ) → t < v → count_from v (goes_of r logs whole w t) ≡ count_at v (goes_of r logs whole w t)
      then t below =
          let l = log_of r logs whole t (omega (arith, below, less)) in
          all_to v (goes_of r logs whole w t) (subst (AllByRecursion (λ u. u ≤ v)) (sym (goes_is r logs whole w t l.0 l.1)) (goes_on_to r.script t l.0 w tok v less must below (ended r logs whole t l.0 l.1).sends.at_steps))

  -- the tokens of a client's lines are those that it starts
  each_token : (t : ℕ) → is_client r.script t ≡ true → (Q : What → Bool) (past rest : List Step) → ((w : What) → Token w → 1 ≤ count_of (starts r.script t w) (without rest) → Q w ≡ true)
      → list_all Q (flat_map (λ p. tokens_started_by r t p.1) (with_past past rest)) ≡ true
  each_token t c Q past [] h = refl
  each_token t c Q past (step.Did i x ∷ rest) h =
      list_all-append Q (tokens_started_by r t (step.Did i x)) (flat_map (λ p. tokens_started_by r t p.1) (with_past (step.Did i x ∷ past) rest))
      ∙ and_from (list_all Q (tokens_started_by r t (step.Did i x))) (list_all Q (flat_map (λ p. tokens_started_by r t p.1) (with_past (step.Did i x ∷ past) rest)))
      (here x.at x.op x.answer (λ w tok some. h w tok (omega (arith, some)))) (each_token t c Q (step.Did i x ∷ past) rest (λ w tok some. h w tok (omega (arith, some))))
    where
      here : (at k : ℕ) (a : Answer) → ((w : What) → Token w → 1 ≤ cond (starts r.script t w (step.Did i (record { at = at; op = k; answer = a }))) 1 0 → Q w ≡ true)
          → list_all Q (tokens_started_by r t (step.Did i (record { at = at; op = k; answer = a }))) ≡ true
      here at k answer.Started g = token (token_of r.script t k) refl
        where
          token : (o : Option What) → token_of r.script t k ≡ o → list_all Q (option_to_list o) ≡ true
          token None e = refl
          token (Some w) e =
              let tok = token_made t k _ w e in
              let is : starts r.script t w (step.Did i (record { at = at; op = k; answer = answer.Started })) ≡ true
              = ap (λ b. b && true && elim (token_of r.script t k) as (λ z. Bool) [ None ↦ false | Some u ↦ is_same_token w u ]) c ∙ ap (λ (z : Option What). elim z as (λ z. Bool) [ None ↦ false | Some u ↦ is_same_token w u ]) e ∙ tok in
              and_from (Q w) true (g w tok (omega (arith, ap {B = ℕ} (λ b. cond b 1 0) is))) refl
      here at k _ g = refl
  each_token t c Q past (step.Called i x ∷ rest) h = each_token t c Q (step.Called i x ∷ past) rest h
  each_token t c Q past (step.Ran i m ∷ rest) h = each_token t c Q (step.Ran i m ∷ past) rest (λ w tok some. h w tok (omega (arith, some)))

  pub ran_everywhere : EachThread r (λ t. IsTrue (list_all (λ w. not (must_run r.script w t) || has_run r w t) (tokens r)))
  ran_everywhere v less = list_all-flat_map (Q v) (λ t. flat_map (λ p. tokens_started_by r t p.1) (history r t)) (clients r.script)
      ∙ (all_in_range (λ t. list_all (Q v) (flat_map (λ p. tokens_started_by r t p.1) (history r t))) (λ t. list_all (Q v) (flat_map (λ p. tokens_started_by r t p.1) (history r t)) ≡ true) 1 (length r.script.clients) (λ t. (λ e. e, λ e. e))).1
      (λ t low high. of_client t (and_from _ _ (lt-ltb 0 t low) (le-leb t (length r.script.clients) (omega (arith, high)))) (omega (arith, high)))
    where
      Q : ℕ → What → Bool
      Q v w = not (must_run r.script w v) || has_run r w v

      fits : (w : What) → Token w → Begun r logs w → Q v w ≡ true
      fits w tok b = at (must_run r.script w v) refl
        where
          at : (m : Bool) → must_run r.script w v ≡ m → (not m || has_run r w v) ≡ true
          at true e = must_have w tok b v less e
          at false e = refl

      of_client : (t : ℕ) → is_client r.script t ≡ true → t < thread_count r.script → list_all (Q v) (flat_map (λ p. tokens_started_by r t p.1) (history r t)) ≡ true
      of_client t c there =
          let l = log_of r logs whole t there in
          ap (λ (ss : List Step). list_all (Q v) (flat_map (λ p. tokens_started_by r t p.1) (with_past [] ss))) (of_log r logs whole own_order t l.0 l.1)
          ∙ each_token t c (Q v) [] (own_order l.0.lines) (λ w tok some. fits w tok (begun_at r logs whole w t l.0 l.1 there (omega (arith, some, ap (count_of (starts r.script t w)) (steps_are l.0)))))
