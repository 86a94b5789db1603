-- The way of each token of a whole run.
use Rattle.std.proofs.Common.{◌≡◌, ℕ, suc, ◌+◌, ◌<◌, ◌≤◌, ◌==◌, Bool, true, false, cond, List, [], ◌∷◌, map, length, Option, Some, slice_get, unwrap_or, option_map, refl, sym, ap, ap₂, subst, ◌∙◌, arith, inl, inr}
use Rattle.std.specs.List.{flat_map}
use Rattle.std.proofs.lemmas.Bool.{false≢true, cases_eq, cases_lt}
use Rattle.lw_base.specs.declared.message.What.{What}
use Rattle.lw_base.specs.declared.message.What.TheVariants as what
use Rattle.lw_base.specs.Letters.{sent_by}
use Rattle.lw_model.specs.declared.script.Script.{Script}
use Rattle.lw_model.specs.declared.record.Record.{Record}
use Rattle.lw_model.specs.Threads.{thread_count, is_client, op_at, images, owner_of}
use Rattle.lw_model.specs.Holding.{runs}
use Rattle.lw_model.specs.Answers.{completes}
use Rattle.lw_model.specs.Sent.{token_of, completion, sent_last}
use Rattle.lw_whole.specs.Logs.{Log, steps, steps_with_past, all_sends, sent_by_thread}
use Rattle.lw_whole.specs.WholeRun.{IsWholeRun}
use Rattle.lw_whole.proofs.Access.{log_of, log_count, ended, client_ended}
use Rattle.lw_whole.proofs.Numbers.{run_at, none_sent}
use Rattle.lw_whole.proofs.Flow.{count_at, sum_below, sum_some, sum_has, count_some, ran_started}
use Rattle.lw_whole.proofs.TokenCounts.{starts, S_of, D_of}
use Rattle.lw_whole.proofs.TokenRuns.{Token, count_of, count_if, count_steps, count_lines}
use Rattle.lw_whole.proofs.TokenFlow.{origin_of, op_of, runs_at, starts_of, goes_of, starts_is, goes_is, few, up, came, not_client, not_origin}
use Rattle.lw_whole.proofs.TokenHome.{back, completes_back, start_run, outs_some, none_pass}
use Rattle.lw_whole.proofs.TokenBack.{Among, IsLetter, IsSend, among_either, counted_among, of_some_sender, sent_to, is_back, NoneBack, plain_not, of_steps}

-- the op of a completion
abbrev op_back : What → ℕ
op_back (what.Visited k) = k
op_back (what.Casted k) = k
op_back _ = 0

back_is_back : (w : What) → Token w → (is_back (back w) ≡ true) × (op_back (back w) ≡ op_of w)
back_is_back (what.Visit o k d) e = (refl, refl)
back_is_back (what.Cast o k) e = (refl, refl)
back_is_back (what.Request k) e = absurd (false≢true e)
back_is_back (what.Reply k) e = absurd (false≢true e)
back_is_back (what.PutSelf k) e = absurd (false≢true e)
back_is_back (what.Visited k) e = absurd (false≢true e)
back_is_back (what.Casted k) e = absurd (false≢true e)
back_is_back what.Done e = absurd (false≢true e)
back_is_back what.Stop e = absurd (false≢true e)
back_is_back (what.Arrive a b) e = absurd (false≢true e)
back_is_back (what.Order a b c) e = absurd (false≢true e)

-- a completion tells the origin and the op of its token
completion_tells : (w v : What) (o : ℕ) → completion w ≡ (o, v) ∷ [] → (origin_of w ≡ o) × (op_of w ≡ op_back v)
completion_tells (what.Visit a k d) v o e = (ap first e, ap second e)
  where
    first : List (ℕ × What) → ℕ
    first [] = 0
    first (p ∷ ps) = p.0

    second : List (ℕ × What) → ℕ
    second [] = 0
    second (p ∷ ps) = op_back p.1
completion_tells (what.Cast a k) v o e = (ap first e, ap second e)
  where
    first : List (ℕ × What) → ℕ
    first [] = 0
    first (p ∷ ps) = p.0

    second : List (ℕ × What) → ℕ
    second [] = 0
    second (p ∷ ps) = op_back p.1
completion_tells (what.Request k) v o e = cc
completion_tells (what.Reply k) v o e = cc
completion_tells (what.PutSelf k) v o e = cc
completion_tells (what.Visited k) v o e = cc
completion_tells (what.Casted k) v o e = cc
completion_tells what.Done v o e = cc
completion_tells what.Stop v o e = cc
completion_tells (what.Arrive a b) v o e = cc
completion_tells (what.Order a b c) v o e = cc

pub last_back : (s : Script) (t : ℕ) → NoneBack (sent_last s t)
last_back s t = at (is_client s t) (t == 0)
  where
    stops : (ds : List ℕ) → NoneBack (map (λ d. (owner_of s d, what.Stop)) ds)
    stops [] = tt
    stops (d ∷ ds) = (refl, stops ds)

    at : (a b : Bool) → NoneBack (cond a ((0, what.Done) ∷ []) (cond b (map (λ d. (owner_of s d, what.Stop)) (images s)) []))
    at true b = (refl, tt)
    at false true = stops (images s)
    at false false = tt

-- a token that a client started
pub record Begun (r : Record) (logs : List Log) (w : What) : Type 0 where
  pub thread : ℕ
  pub log : Log
  pub of_thread : slice_get logs thread ≡ Some log
  pub within : thread < thread_count r.script
  pub origin : thread ≡ origin_of w
  pub client : is_client r.script thread ≡ true
  pub token : token_of r.script thread (op_of w) ≡ Some w
  pub completed : 1 ≤ count_of (runs (completes (op_at r.script thread (op_of w)) (op_of w))) (steps log)

module _ (r : Record) (logs : List Log) (whole : IsWholeRun r logs) where
  -- a thread that has a line which starts the token
  pub begun_at : (w : What) (t : ℕ) (l : Log) → slice_get logs t ≡ Some l → t < thread_count r.script → 1 ≤ count_of (starts r.script t w) (steps l) → Begun r logs w
  begun_at w t l e less some =
      let c = client (is_client r.script t) refl in
      let ends = client_ended r logs whole t l e c in
      let run = start_run r.script t w [] (steps l) (omega (arith, count_lines l, ends.count)) ends.fit some in
      record { thread = t; log = l; of_thread = e; within = less; origin = origin; client = c; token = run.0; completed = run.1 }
    where
      client : (b : Bool) → is_client r.script t ≡ b → is_client r.script t ≡ true
      client true f = f
      client false f = absurd (omega (arith, some, none_pass (starts r.script t w) (not_client r.script t l w (thread_count r.script) f) (steps l)))

      origin : t ≡ origin_of w
      origin = elim (cases_eq t (origin_of w)) [
        | inl same ↦ same
        | inr other ↦ absurd (omega (arith, some, none_pass (starts r.script t w) (not_origin r.script t l w (thread_count r.script) other) (steps l)))
      ]

  pub begun : (w : What) → 1 ≤ sum_below (λ s. length (starts_of r logs whole w s)) (thread_count r.script) → Begun r logs w
  begun w some =
      let by = sum_some (λ s. length (starts_of r logs whole w s)) (thread_count r.script) some in
      let l = log_of r logs whole by.0 by.1 in
      begun_at w by.0 l.0 l.1 by.1
      (outs_some (starts r.script by.0 w) (thread_count r.script) w [] (steps l.0) l.0.sends (subst (λ us. 1 ≤ length us) (starts_is r logs whole w by.0 l.0 l.1) by.2))

  -- what of token u came home at the sender of a completion
  started_by : (u : What) → Token u → (s : ℕ) → s < thread_count r.script → (l : Log) → slice_get logs s ≡ Some l
      → 1 ≤ count_at (thread_count r.script) (S_of r.script s l u (thread_count r.script) (steps_with_past l) l.sends) + count_at (thread_count r.script) (D_of r.script s l u (thread_count r.script) (steps_with_past l) l.sends)
      → 1 ≤ sum_below (λ k. length (starts_of r logs whole u k)) (thread_count r.script)
  started_by u tok s less l e h = elim (cases_eq (count_at (thread_count r.script) (S_of r.script s l u (thread_count r.script) (steps_with_past l) l.sends)) 0) [
    | inl none ↦
        let some = count_some (thread_count r.script) (D_of r.script s l u (thread_count r.script) (steps_with_past l) l.sends) (omega (arith, h, none)) in
        ran_started (thread_count r.script) (runs_at r logs whole u) (starts_of r logs whole u) (goes_of r logs whole u) (few r logs whole u tok) (up r logs whole u tok) (came r logs whole u)
        (suc s) s (omega arith) less (omega (arith, some, few r logs whole u tok s less, ap length (goes_is r logs whole u s l e)))
    | inr some ↦
        let some' = count_some (thread_count r.script) (S_of r.script s l u (thread_count r.script) (steps_with_past l) l.sends) (omega (arith, some)) in
        omega (arith, some', ap length (starts_is r logs whole u s l e), sum_has (λ k. length (starts_of r logs whole u k)) (thread_count r.script) s less)
  ]

  -- a token that was started came home
  pub home : (w : What) → Token w → Begun r logs w
      → 1 ≤ sum_below (λ s. count_at (thread_count r.script) (starts_of r logs whole w s)) (thread_count r.script) + sum_below (λ s. count_at (thread_count r.script) (goes_of r logs whole w s)) (thread_count r.script)
  home w tok b =
      let is = back_is_back w tok in
      let ran : Among (IsLetter (back w)) b.log.ran = counted_among (completes (op_at r.script b.thread (op_of w)) (op_of w)) (back w) (λ v e. completes_back b.thread (op_of w) (op_at r.script b.thread (op_of w)) w v b.token e) b.log.ran
      (omega (arith, b.completed, count_steps (completes (op_at r.script b.thread (op_of w)) (op_of w)) b.log, ap (count_if (completes (op_at r.script b.thread (op_of w)) (op_of w))) (ended r logs whole b.thread b.log b.of_thread).tags)) in
      let by = of_some_sender (IsLetter (back w)) b.log.ran ran in
      let sent : Among (IsSend b.thread (back w)) (sent_by_thread logs by.0) = sent_to b.thread (IsLetter (back w)) (sent_by_thread logs by.0)
      (subst (Among (IsLetter (back w))) (ap (sent_by (λ l. l.tag) by.0) (sym (run_at logs b.thread b.log b.of_thread)) ∙ whole.rings.run_is_sent b.thread by.0 (omega (arith, b.within, log_count r logs whole))) by.1) in
      at b is.0 is.1 by.0 sent
    where
      last_not : (s : ℕ) (l : Log) (o : ℕ) (v : What) → slice_get logs s ≡ Some l → is_back v ≡ true → Among (IsSend o v) l.last → ⊥
      last_not s l o v e back g = plain_not o v (sent_last r.script s) l.last back (ended r logs whole s l e).sends.at_end (last_back r.script s) g

      within : (s o : ℕ) (v : What) → Among (IsSend o v) (sent_by_thread logs s) → s < thread_count r.script
      within s o v g = elim (cases_lt s (thread_count r.script)) [ inl less ↦ less | inr le ↦ absurd (subst (Among (IsSend o v)) (none_sent logs s (omega (arith, le, log_count r logs whole))) g) ]

      same_token : (t k : ℕ) (u : What) → token_of r.script t k ≡ Some w → token_of r.script t k ≡ Some u → u ≡ w
      same_token t k u e f = let both : Some w ≡ Some u = sym e ∙ f in cc

      count_home : (u : What) → u ≡ w → (s : ℕ) → s < thread_count r.script → (l : Log) → slice_get logs s ≡ Some l
          → 1 ≤ count_at (thread_count r.script) (S_of r.script s l u (thread_count r.script) (steps_with_past l) l.sends) + count_at (thread_count r.script) (D_of r.script s l u (thread_count r.script) (steps_with_past l) l.sends)
          → 1 ≤ sum_below (λ s. count_at (thread_count r.script) (starts_of r logs whole w s)) (thread_count r.script) + sum_below (λ s. count_at (thread_count r.script) (goes_of r logs whole w s)) (thread_count r.script)
      count_home u same s less l e h =
          let h' = subst (λ v. 1 ≤ count_at (thread_count r.script) (S_of r.script s l v (thread_count r.script) (steps_with_past l) l.sends) + count_at (thread_count r.script) (D_of r.script s l v (thread_count r.script) (steps_with_past l) l.sends)) same h in
          omega (
            arith,
            h',
            ap (count_at (thread_count r.script)) (starts_is r logs whole w s l e),
            ap (count_at (thread_count r.script)) (goes_is r logs whole w s l e),
            sum_has (λ s. count_at (thread_count r.script) (starts_of r logs whole w s)) (thread_count r.script) s less,
            sum_has (λ s. count_at (thread_count r.script) (goes_of r logs whole w s)) (thread_count r.script) s less,
          )

      at : (b : Begun r logs w) → is_back (back w) ≡ true → op_back (back w) ≡ op_of w → (s : ℕ) → Among (IsSend b.thread (back w)) (sent_by_thread logs s)
          → 1 ≤ sum_below (λ s. count_at (thread_count r.script) (starts_of r logs whole w s)) (thread_count r.script) + sum_below (λ s. count_at (thread_count r.script) (goes_of r logs whole w s)) (thread_count r.script)
      at b is op_is s g =
          let less = within s b.thread (back w) g in
          let l = log_of r logs whole s less in
          let all : Among (IsSend b.thread (back w)) (all_sends l.0) = subst (Among (IsSend b.thread (back w))) (ap (λ (o : Option Log). unwrap_or (option_map all_sends o) []) l.1) g in
          elim (among_either (IsSend b.thread (back w)) (flat_map (λ now. now) l.0.sends) l.0.last all) [
            | inl at_step ↦
                let c = of_steps r.script s (thread_count r.script) b.thread l.0 (back w) is (steps_with_past l.0) l.0.sends (ended r logs whole s l.0 l.1).sends.at_steps at_step in
                let u = begun c.0 (started_by c.0 c.1 s less l.0 l.1 c.3) in
                let tells = completion_tells c.0 (back w) b.thread c.2 in
                let place : u.thread ≡ b.thread = u.origin ∙ tells.0 in
                let number : op_of c.0 ≡ op_of w = tells.1 ∙ op_is in
                let token : token_of r.script b.thread (op_of w) ≡ Some c.0 = sym (ap₂ (λ t k. token_of r.script t k) place number) ∙ u.token in
                count_home c.0 (same_token b.thread (op_of w) c.0 b.token token) s less l.0 l.1 c.3
            | inr at_end ↦ absurd (last_not s l.0 b.thread (back w) l.1 is at_end)
          ]
