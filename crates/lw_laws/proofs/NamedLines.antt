-- The line that a verdict names stands in the record's text, and is of a kind at which its rule fails.
use Rattle.std.proofs.Common.{◌≡◌, ℕ, zero, suc, ◌+◌, ◌<◌, ◌≤◌, ◌==◌, nat_le, Bool, true, false, cond, not, ◌&&◌, ◌||◌, inl, inr, List, [], ◌∷◌, ◌++◌, codes, decimal, map, filter, filter_map, flat_map, length, slice_get, unwrap_or, option_map, bytes_eq, Option, Some, None, refl, sym, ap, subst, ◌∙◌, arith}
use Rattle.std.specs.List.{list_all, list_any, AllByRecursion, enumerate_from, range_with_len}
use Rattle.std.proofs.lemmas.Bool.{eqb-true}
use Rattle.std.proofs.lemmas.Option.{slice_get_within}
use Rattle.lw_base.specs.Limits.{standard}
use Rattle.lw_base.specs.declared.moves.Round.{Round}
use Rattle.lw_base.proofs.Lists.{get_within}
use Rattle.lw_model.specs.declared.record.Called.{Called}
use Rattle.lw_model.specs.declared.record.Did.{Did}
use Rattle.lw_model.specs.declared.record.Record.{Record}
use Rattle.lw_model.specs.declared.record.Span.{Span}
use Rattle.lw_model.specs.declared.record.ThreadRecord.{ThreadRecord}
use Rattle.lw_model.specs.declared.step.Step.{Step}
use Rattle.lw_model.specs.declared.step.Step.TheVariants as step
use Rattle.lw_model.specs.Answers.{wanted, at_fits, did_ats, called_ats, called_of}
use Rattle.lw_model.specs.Devices.{callback_fits, refusal_fits}
use Rattle.lw_model.specs.Lawful.{is_first_run, replied_ops, replies_of, owed, seen_by, seen_of}
use Rattle.lw_model.specs.Lines as number
use Rattle.lw_model.specs.Moves.{home_of, first_reactor, hops_of, hop_fits, number_fits}
use Rattle.lw_model.specs.OwnOrder.{own_order, with_past, history}
use Rattle.lw_base.specs.Plan.{free_plan}
use Rattle.lw_model.specs.ReportText as text
use Rattle.lw_model.specs.Rounds.{row_fits}
use Rattle.lw_model.specs.Same.{is_same_reply, is_same_seen, is_same_order}
use Rattle.lw_model.specs.Threads.{thread_count, threads, clients, ran_of, did_of}
use Rattle.lw_model.specs.Verdict.{Test, each_line, against, step_test, is_sent_to, lacks_none, app_refuses_none, device_tests, round_tests, clock_tests, homes_and_hops, numbers, answers, ran_is_sent, replies, devices, visits_seen, rounds_and_orders, buffers_home, rules, failing, FailsFirst, verdict}
use Rattle.lw_model.proofs.Growth.{all-append}
use Rattle.lw_model.proofs.Printed.{parts}
use Rattle.lw_model.proofs.VerdictMeans.{verdict_means}
use Rattle.lw_judge_threads.specs.LinesOf.{IsPlaced}
use Rattle.lw_judge.proofs.WalkSteps.{placed}
use Rattle.lw_laws.specs.LinePlaces.{LinesStand}
use Rattle.lw_laws.specs.NamedLines.{words_of, IsLineOf}
use Rattle.lw_laws.proofs.LineLemmas.{lines_stand}

-- ---- items by their places

none_there : {X : Type 0} (xs : List X) (k : ℕ) → slice_get xs k ≡ None → length xs ≤ k
none_there [] k e = omega arith
none_there (y ∷ xs) zero e = let wrong : Some y ≡ None = e in cc
none_there (y ∷ xs) (suc k) e = let rest : length xs ≤ k = none_there xs k e in omega (arith, rest)

unmapped : {X Y : Type 0} (f : X → Y) (xs : List X) (i : ℕ) (y : Y) → slice_get (map f xs) i ≡ Some y → (x : X) × (slice_get xs i ≡ Some x)
unmapped f [] i y e = let wrong : None ≡ Some y = e in cc
unmapped f (x ∷ xs) zero y e = (x, refl)
unmapped f (x ∷ xs) (suc i) y e = unmapped f xs i y e

-- ---- what holds of the lines of tests

abbrev OfLines : (ℕ → Type 0) → List Test → Type 0
OfLines P ts = AllByRecursion (λ (e : Test). P e.0) ts

both : (P : ℕ → Type 0) (ts us : List Test) → OfLines P ts → OfLines P us → OfLines P (ts ++ us)
both P ts us h k = all-append (λ (e : Test). P e.0) ts us h k

module _ {X : Type 0} (P : ℕ → Type 0) where
  -- of tests of each item, by its place
  of_each : (line : ℕ → ℕ) (fits : List X → X → Bool) (n : ℕ) (past xs : List X) → ((i : ℕ) (x : X) → slice_get xs i ≡ Some x → P (line (n + i)))
      → OfLines P (map (λ p. (line p.0, fits p.1.0 p.1.1)) (enumerate_from n (with_past past xs)))
  of_each line fits n past [] h = tt
  of_each line fits n past (x ∷ xs) h =
      let here : n + 0 ≡ n = omega arith in
      let next : (i : ℕ) → n + suc i ≡ n + 1 + i = λ i. omega arith in
      (subst (λ k. P (line k)) here (h 0 x refl), of_each line fits (n + 1) (x ∷ past) xs (λ i y e. subst (λ k. P (line k)) (next i) (h (suc i) y e)))

  of_each_line : (line : ℕ → ℕ) (fits : List X → X → Bool) (xs : List X) → ((i : ℕ) (x : X) → slice_get xs i ≡ Some x → P (line i)) → OfLines P (each_line line fits xs)
  of_each_line line fits xs h =
      let same : (i : ℕ) → i ≡ 0 + i = λ i. omega arith in
      of_each line fits 0 [] xs (λ i x e. subst (λ k. P (line k)) (same i) (h i x e))

  -- of the tests of one list against another
  of_against : (same : X → X → Bool) (last line : ℕ) (wanted : List (Option X)) (found : List X) → P last → ((i : ℕ) (x : X) → slice_get found i ≡ Some x → P (line + i)) → OfLines P (against same last line wanted found)
  of_against same last line [] [] here h = tt
  of_against same last line (w ∷ ws) [] here h = (here, tt)
  of_against same last line [] (x ∷ xs) here h =
      let first : line + 0 ≡ line = omega arith in
      let next : (i : ℕ) → line + suc i ≡ line + 1 + i = λ i. omega arith in
      (subst P first (h 0 x refl), of_against same last (line + 1) [] xs here (λ i y e. subst P (next i) (h (suc i) y e)))
  of_against same last line (w ∷ ws) (x ∷ xs) here h =
      let first : line + 0 ≡ line = omega arith in
      let next : (i : ℕ) → line + suc i ≡ line + 1 + i = λ i. omega arith in
      (subst P first (h 0 x refl), of_against same last (line + 1) ws xs here (λ i y e. subst P (next i) (h (suc i) y e)))

-- of tests that all fail at one line
of_one : (P : ℕ → Type 0) (line : ℕ) (f : ℕ → Bool) (ts : List ℕ) → P line → OfLines P (flat_map (λ t. (line, f t) ∷ []) ts)
of_one P line f [] here = tt
of_one P line f (t ∷ ts) here = (here, of_one P line f ts here)

-- of the tests of each number of a range
of_numbers : (P : ℕ → Type 0) (f : ℕ → List Test) (a n : ℕ) → ((t : ℕ) → a ≤ t → t < a + n → OfLines P (f t)) → OfLines P (flat_map f (range_with_len a n))
of_numbers P f a zero h = tt
of_numbers P f a (suc n) h = both P (f a) (flat_map f (range_with_len (a + 1) n)) (h a (omega arith) (omega arith)) (of_numbers P f (a + 1) n (λ t low high. h t (omega (arith, low)) (omega (arith, high))))

-- a line that fails is a line of a test
of_failing : (P : ℕ → Type 0) (ts : List Test) (line : ℕ) → OfLines P ts → list_any (λ l. l == line) (failing ts) ≡ true → P line
of_failing P [] line all h = let wrong : false ≡ true = h in cc
of_failing P (t ∷ ts) line all h = at t.1 t.0 all.0 (λ k. of_failing P ts line all.1 k) h
  where
    at : (b : Bool) (l : ℕ) → P l → (list_any (λ k. k == line) (failing ts) ≡ true → P line)
        → list_any (λ k. k == line) (map (λ (e : Test). e.0) (cond (not b) ((l, b) ∷ filter (λ e. not e.1) ts) (filter (λ e. not e.1) ts))) ≡ true → P line
    at true l here rest h = rest h
    at false l here rest h = either (l == line) refl h
      where
        either : (b : Bool) → (l == line) ≡ b → (b || list_any (λ k. k == line) (failing ts)) ≡ true → P line
        either true e h = subst P (eqb-true l line e) here
        either false e h = rest h

-- ---- the rules, one by one

module _ (r : Record) where
  abbrev stand : LinesStand r
  stand = lines_stand r

  abbrev Named : ℕ → ℕ → Type 0
  Named clause n = IsLineOf r (words_of clause) n

  -- each thread of the script is there, with its line
  thread_there : (t : ℕ) → t < 0 + thread_count r.script → (x : ThreadRecord) × (slice_get r.threads t ≡ Some x)
  thread_there t h = get_within r.threads t (omega (arith, h, (parts r).threads))

  client_there : (t : ℕ) → t < 1 + length r.script.clients → (x : ThreadRecord) × (slice_get r.threads t ≡ Some x)
  client_there t h = get_within r.threads t (omega (arith, h, (parts r).threads))

  thread_line : (words : List (List ℕ)) → list_any (λ w. bytes_eq w (codes "thread")) words ≡ true → (t : ℕ) (x : ThreadRecord) → slice_get r.threads t ≡ Some x → IsLineOf r words (number.thread_line r t)
  thread_line words known t x e = record { word = codes "thread"; rest = decimal t ∷ text.role_word x.role ∷ decimal x.home ∷ []; known = known; stands = stand.thread t x e }

  homes_named : OfLines (Named 1) (homes_and_hops r)
  homes_named = of_numbers (Named 1) (λ t. (number.thread_line r t, home_of r t == first_reactor r t) ∷ each_line (number.hop_line r t) (hop_fits r t) (hops_of r t)) 0 (thread_count r.script)
      (λ t low high.
      let x = thread_there t high in (
        thread_line (words_of 1) refl t x.0 x.1,
        of_each_line (Named 1) (number.hop_line r t) (hop_fits r t) (hops_of r t)
            (λ i h e. record { word = codes "hop"; rest = decimal h.round ∷ decimal h.reactor ∷ []; known = refl; stands = stand.hops t i h e }),
      ))

  numbers_named : OfLines (Named 2) (numbers r)
  numbers_named = of_numbers (Named 2) (λ t. each_line (number.ran_line r t) number_fits (ran_of r t)) 0 (thread_count r.script)
      (λ t low high. of_each_line (Named 2) (number.ran_line r t) number_fits (ran_of r t)
      (λ i m e. record { word = codes "ran"; rest = decimal m.sender ∷ decimal m.number ∷ text.what_words m.what; known = refl; stands = stand.ran t i m e }))

  did_named : (t i : ℕ) (d : Did) → slice_get (did_of r t) i ≡ Some d → Named 3 (number.did_line r t i)
  did_named t i d e = record { word = codes "did"; rest = decimal d.at ∷ decimal d.op ∷ text.answer_words d.answer; known = refl; stands = stand.did t i d e }

  steps_named : (t : ℕ) (past ss : List Step) → AllByRecursion (IsPlaced r t) ss → OfLines (Named 3) (flat_map (λ p. step_test r t p.0 p.1) (with_past past ss))
  steps_named t past [] h = tt
  steps_named t past (step.Did i x ∷ ss) h = let d = get_within (did_of r t) i h.0 in (did_named t i d.0 d.1, steps_named t (step.Did i x ∷ past) ss h.1)
  steps_named t past (step.Called i c ∷ ss) h = steps_named t (step.Called i c ∷ past) ss h.1
  steps_named t past (step.Ran i m ∷ ss) h = steps_named t (step.Ran i m ∷ past) ss h.1

  answers_named : OfLines (Named 3) (answers r)
  answers_named = of_numbers (Named 3) tests 0 (thread_count r.script)
      (λ t low high. of_thread_named t (thread_there t high))
    where
      tests : ℕ → List Test
      tests t = (number.thread_line r t, nat_le (wanted r t) (length (did_of r t)))
          ∷ (each_line (number.did_line r t) (at_fits (length (ran_of r t))) (did_ats r t)
          ++ each_line (number.called_line r t) (at_fits (length (ran_of r t))) (called_ats r t)
          ++ flat_map (λ p. step_test r t p.0 p.1) (history r t))

      of_thread_named : (t : ℕ) → (x : ThreadRecord) × (slice_get r.threads t ≡ Some x) → OfLines (Named 3) (tests t)
      of_thread_named t (x, e) =
          let dids = each_line (number.did_line r t) (at_fits (length (ran_of r t))) (did_ats r t) in
          let calleds = each_line (number.called_line r t) (at_fits (length (ran_of r t))) (called_ats r t) in (
            thread_line (words_of 3) refl t x e,
            both (Named 3) (dids ++ calleds) (flat_map (λ p. step_test r t p.0 p.1) (history r t))
                (both (Named 3) dids calleds
                (of_each_line (Named 3) (number.did_line r t) (at_fits (length (ran_of r t))) (did_ats r t)
                (λ i n h. let d = unmapped (λ (y : Did). y.at) (did_of r t) i n h in did_named t i d.0 d.1))
                (of_each_line (Named 3) (number.called_line r t) (at_fits (length (ran_of r t))) (called_ats r t)
                (λ i n h. let c = unmapped (λ (y : Called). y.at) (called_of r t) i n h in
                record { word = codes "called"; rest = decimal c.0.at ∷ decimal c.0.device ∷ []; known = refl; stands = stand.called t i c.0 c.1 })))
                (subst (λ ss. OfLines (Named 3) (flat_map (λ p. step_test r t p.0 p.1) (with_past [] ss))) (sym (ap (λ o. unwrap_or (option_map own_order o) []) e)) (steps_named t [] (own_order x) (placed r t x e))),
          )

  ran_named : OfLines (Named 4) (ran_is_sent r)
  ran_named = of_numbers (Named 4) (λ t. (number.thread_line r t, lacks_none r t) ∷ each_line (number.ran_line r t) (λ past m. is_sent_to r t m && is_first_run past m) (ran_of r t)) 0 (thread_count r.script)
      (λ t low high.
      let x = thread_there t high in (
        thread_line (words_of 4) refl t x.0 x.1,
        of_each_line (Named 4) (number.ran_line r t) (λ past m. is_sent_to r t m && is_first_run past m) (ran_of r t)
            (λ i m e. record { word = codes "ran"; rest = decimal m.sender ∷ decimal m.number ∷ text.what_words m.what; known = refl; stands = stand.ran t i m e }),
      ))

  replies_named : OfLines (Named 5) (replies r)
  replies_named = of_numbers (Named 5) (λ t. against is_same_reply (number.thread_line r t) (number.reply_line r t 0) (map (owed r t) (replied_ops r t)) (replies_of r t)) 1 (length r.script.clients)
      (λ t low high.
      let x = client_there t high in
      of_against (Named 5) is_same_reply (number.thread_line r t) (number.reply_line r t 0) (map (owed r t) (replied_ops r t)) (replies_of r t)
      (thread_line (words_of 5) refl t x.0 x.1)
      (λ i p e. let place : number.reply_line r t i ≡ number.reply_line r t 0 + i = omega arith in
      subst (Named 5) place (record { word = codes "reply"; rest = decimal p.op ∷ text.replied_words p.answer; known = refl; stands = stand.replies t i p e })))

  device_named : (d : ℕ) → d < 0 + length r.script.images → Named 6 (number.device_line r d)
  device_named d h =
      let x = get_within r.devices d (omega (arith, h, (parts r).devices)) in
      record { word = codes "device"; rest = decimal d ∷ decimal x.0.given ∷ decimal x.0.thread ∷ decimal x.0.callbacks ∷ []; known = refl; stands = stand.devices d x.0 x.1 }

  devices_named : OfLines (Named 6) (devices r)
  devices_named = of_numbers (Named 6) (λ d. device_tests r d (number.device_line r d)) 0 (length r.script.images)
      (λ d low high. of_device d (number.device_line r d) (device_named d high))
    where
      of_device : (d line : ℕ) → Named 6 line → OfLines (Named 6) (device_tests r d line)
      of_device d line here =
          let callbacks : ℕ → Bool = λ t. list_all (λ p. callback_fits r d t p.0 p.1) (history r t) in
          let refusals : ℕ → Bool = λ t. list_all (λ p. refusal_fits r d t p.0 p.1) (history r t) in
          let of : (ℕ → Bool) → List ℕ → List Test = λ f ts. flat_map (λ t. (line, f t) ∷ []) ts in (
            here,
            (
              here,
              (
                here,
                (
                  here,
                  (
                    here,
                    both (Named 6) (of callbacks (threads r.script) ++ of refusals (threads r.script)) (of (app_refuses_none r d) (clients r.script))
                        (both (Named 6) (of callbacks (threads r.script)) (of refusals (threads r.script)) (of_one (Named 6) line callbacks (threads r.script) here) (of_one (Named 6) line refusals (threads r.script) here))
                        (of_one (Named 6) line (app_refuses_none r d) (clients r.script) here),
                  ),
                ),
              ),
            ),
          )

  seen_named : OfLines (Named 7) (visits_seen r)
  seen_named = of_numbers (Named 7) (λ t. against is_same_seen (number.thread_line r t) (number.seen_line r t 0) (map (λ x. Some x) (filter_map (seen_by r t) (ran_of r t))) (seen_of r t)) 1 (length r.script.clients)
      (λ t low high.
      let x = client_there t high in
      of_against (Named 7) is_same_seen (number.thread_line r t) (number.seen_line r t 0) (map (λ x. Some x) (filter_map (seen_by r t) (ran_of r t))) (seen_of r t)
      (thread_line (words_of 7) refl t x.0 x.1)
      (λ i s e. let place : number.seen_line r t i ≡ number.seen_line r t 0 + i = omega arith in
      subst (Named 7) place (record { word = codes "seen"; rest = decimal s.op ∷ text.result_words s.results; known = refl; stands = stand.seen t i s e })))

  -- ---- rounds

  home_line : (words : List (List ℕ)) → list_any (λ w. bytes_eq w (codes "home")) words ≡ true → IsLineOf r words (number.home_line r)
  home_line words known = record { word = codes "home"; rest = decimal r.home.small ∷ decimal r.home.large ∷ []; known = known; stands = stand.home }

  module _ (s : Span) (is : r.span ≡ Some s) where
    round_line : (j : ℕ) (x : Round) → slice_get r.rounds j ≡ Some x → Named 8 (number.round_line r j)
    round_line j x e = record { word = codes "round"; rest = decimal x.number ∷ decimal x.time ∷ []; known = refl; stands = (stand.rounds s is j x e).round }

    -- behind a round stands the next one, or the pool's counts
    line_behind : (j : ℕ) (x : Round) → slice_get r.rounds j ≡ Some x → Named 8 (number.round_line r j + number.round_size x)
    line_behind j x e = subst (Named 8) (sym (stand.behind s is j x e).next) (at (slice_get r.rounds (suc j)) refl)
      where
        at : (o : Option Round) → slice_get r.rounds (suc j) ≡ o → Named 8 (number.round_line r (suc j))
        at (Some y) there = round_line (suc j) y there
        at None none =
            let below : j < length r.rounds = slice_get_within r.rounds j x e in
            let past : length r.rounds ≤ suc j = none_there r.rounds (suc j) none in
            subst (Named 8) (sym ((stand.behind s is j x e).home (omega (arith, below, past)))) (home_line (words_of 8) refl)

    round_named : (j : ℕ) (x : Round) (past : List Round) → slice_get r.rounds j ≡ Some x → OfLines (Named 8) (round_tests r s (number.round_line r j) past x)
    round_named j x past e =
        let line = number.round_line r j in
        let rows = each_line (λ i. line + 1 + i) (row_fits r) x.rows in
        let orders = against is_same_order (line + number.round_size x) (line + 1 + length x.rows) (map (λ o. Some o) (free_plan standard r.reactors x.rows)) x.orders in (
          round_line j x e,
          both (Named 8) rows orders
              (of_each_line (Named 8) (λ i. line + 1 + i) (row_fits r) x.rows
              (λ i w h. record { word = codes "row"; rest = decimal w.thread ∷ decimal w.reactor ∷ decimal w.busy ∷ decimal w.idle ∷ []; known = refl; stands = (stand.rounds s is j x e).rows i w h }))
              (of_against (Named 8) is_same_order (line + number.round_size x) (line + 1 + length x.rows) (map (λ o. Some o) (free_plan standard r.reactors x.rows)) x.orders (line_behind j x e)
              (λ i o h. record { word = codes "order"; rest = decimal o.thread ∷ decimal o.to ∷ []; known = refl; stands = (stand.rounds s is j x e).orders i o h })),
        )

    rounds_named : (n : ℕ) (past xs : List Round) → ((i : ℕ) (x : Round) → slice_get xs i ≡ Some x → slice_get r.rounds (n + i) ≡ Some x)
        → OfLines (Named 8) (flat_map (λ p. round_tests r s (number.round_line r p.0) p.1.0 p.1.1) (enumerate_from n (with_past past xs)))
    rounds_named n past [] there = tt
    rounds_named n past (x ∷ xs) there =
        let first : n + 0 ≡ n = omega arith in
        let next : (i : ℕ) → n + 1 + i ≡ n + suc i = λ i. omega arith in
        both (Named 8) (round_tests r s (number.round_line r n) past x) (flat_map (λ p. round_tests r s (number.round_line r p.0) p.1.0 p.1.1) (enumerate_from (n + 1) (with_past (x ∷ past) xs)))
        (round_named n x past (ap (slice_get r.rounds) (sym first) ∙ there 0 x refl))
        (rounds_named (n + 1) (x ∷ past) xs (λ i y e. ap (slice_get r.rounds) (next i) ∙ there (suc i) y e))

    clock_named : OfLines (Named 8) (clock_tests r s)
    clock_named = (
      record { word = codes "clock"; rest = decimal s.first ∷ decimal s.last ∷ []; known = refl; stands = stand.clock s is },
      (home_line (words_of 8) refl, rounds_named 0 [] r.rounds (λ i x e. ap (slice_get r.rounds) (none_before i) ∙ e)),
    )
      where
        none_before : (i : ℕ) → 0 + i ≡ i
        none_before i = omega arith

  orders_named : OfLines (Named 8) (rounds_and_orders r)
  orders_named = at r.span refl
    where
      at : (span : Option Span) → r.span ≡ span → OfLines (Named 8) (elim span as (λ _. List Test) [ None ↦ [] | Some s ↦ clock_tests r s ])
      at None e = tt
      at (Some s) e = clock_named s e

  home_named : OfLines (Named 9) (buffers_home r)
  home_named = (home_line (words_of 9) refl, tt)

  -- ---- the verdict

  abbrev EachNamed : ℕ → List (Record → List Test) → Type 0
  EachNamed n [] = Unit {0}
  EachNamed n (rule ∷ rest) = OfLines (Named n) (rule r) × EachNamed (n + 1) rest

  first_named : (n : ℕ) (rs : List (Record → List Test)) (clause line : ℕ) → EachNamed n rs → FailsFirst n rs r clause line → Named clause line
  first_named n [] clause line all f = absurd f
  first_named n (rule ∷ rest) clause line all (inl f) = subst (λ k. Named k line) (sym f.0) (of_failing (Named n) (rule r) line all.0 f.1.stands)
  first_named n (rule ∷ rest) clause line all (inr f) = first_named (n + 1) rest clause line all.1 f.1

  pub verdict_named : (clause line : ℕ) → verdict r ≡ Some (clause, line) → IsLineOf r (words_of clause) line
  verdict_named clause line e =
      first_named 1 rules clause line
      (homes_named, (numbers_named, (answers_named, (ran_named, (replies_named, (devices_named, (seen_named, (orders_named, (home_named, tt)))))))))
      (verdict_means r clause line e)
