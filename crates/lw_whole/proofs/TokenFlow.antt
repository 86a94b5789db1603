-- A token of a whole run meets what the counting of its way asks.
use Rattle.std.proofs.Common.{◌≡◌, ℕ, zero, suc, ◌+◌, ◌<◌, ◌≤◌, ◌==◌, nat_le, Bool, true, false, cond, ◌&&◌, List, [], ◌∷◌, ◌++◌, map, filter, length, Option, Some, None, slice_get, unwrap_or, option_map, refl, sym, ap, subst, ◌∙◌, arith, inl, inr}
use Rattle.std.specs.Prelude.{if◌then◌else◌, is_none}
use Rattle.std.specs.List.{list_all, AllByRecursion, flat_map}
use Rattle.std.proofs.lemmas.Bool.{and_parts, eqb-true, eq-eqb, ne_eqb, false≢true, cases_eq, cases_lt}
use Rattle.lw_base.specs.declared.message.What.{What}
use Rattle.lw_base.specs.declared.message.What.TheVariants as what
use Rattle.lw_base.specs.Letters.{sent_by}
use Rattle.lw_model.specs.declared.script.Script.{Script}
use Rattle.lw_model.specs.declared.script.Op.{Op}
use Rattle.lw_model.specs.declared.script.Op.TheVariants as op
use Rattle.lw_model.specs.declared.record.Record.{Record}
use Rattle.lw_model.specs.declared.record.Did.{Did}
use Rattle.lw_model.specs.declared.step.Step.{Step}
use Rattle.lw_model.specs.declared.step.Step.TheVariants as step
use Rattle.lw_model.specs.Threads.{thread_count, is_client, ops_of, op_at, images, owner_of}
use Rattle.lw_model.specs.OwnOrder.{with_past}
use Rattle.lw_model.specs.Holding.{is_started, runs}
use Rattle.lw_model.specs.Answers.{answer_fits, depth_fits}
use Rattle.lw_model.specs.Sent.{is_same_token, token_of, token_of_op, sent_last, to_thread}
use Rattle.lw_whole.specs.Letters.{Letter}
use Rattle.lw_whole.specs.Logs.{Log, steps, steps_with_past, all_sends, run_by, sent_by_thread}
use Rattle.lw_whole.specs.Sends.{SentAlong}
use Rattle.lw_whole.specs.Lines.{awaits, dids_in, client_line_fits}
use Rattle.lw_whole.specs.WholeRun.{IsWholeRun}
use Rattle.lw_whole.proofs.Access.{log_of, log_count, ended, client_ended}
use Rattle.lw_whole.proofs.Numbers.{run_at, none_sent}
use Rattle.lw_whole.proofs.Answers.{one_more, one_ran, one_called}
use Rattle.lw_whole.proofs.Flow.{sum_below, sum_same, sum_both, count_at}
use Rattle.lw_whole.proofs.TokenCounts.{same_is, NoneIs, done_none, stop_none, none_to, starts, dests, outs, count_to, count_to-append, S_of, D_of, sent_counts}
use Rattle.lw_whole.proofs.TokenRuns.{Token, length_append, started_goes, goes_few, count_tags, count_steps, run_few, few_out, up_of}

-- ---- runs by sender

-- f of each letter, added up
abbrev pub sum_letters : (Letter → ℕ) → List Letter → ℕ
sum_letters f [] = 0
sum_letters f (x ∷ xs) = f x + sum_letters f xs

abbrev pub count_run : What → List Letter → ℕ
count_run w ls = sum_letters (λ x. cond (is_same_token w x.tag.what) 1 0) ls

count_run-tags : (w : What) (ls : List Letter) → count_run w ls ≡ count_tags w (map (λ x. x.tag) ls)
count_run-tags w [] = refl
count_run-tags w (x ∷ xs) = ap (λ n. cond (is_same_token w x.tag.what) 1 0 + n) (count_run-tags w xs)

pub sum_zero : (n : ℕ) → sum_below (λ s. 0) n ≡ 0
sum_zero zero = refl
sum_zero (suc n) = omega (arith, sum_zero n)

-- one of a sum
pub sum_one : (k a n : ℕ) → k < n → sum_below (λ s. cond (k == s) a 0) n ≡ a
sum_one k a zero less = absurd (omega (arith, less))
sum_one k a (suc n) less = elim (cases_eq k n) [
  | inl same ↦ omega (
    arith,
    ap {B = ℕ} (λ b. cond b a 0) (eq-eqb k n same),
    sum_same (λ s. cond (k == s) a 0) (λ s. 0) n (λ s b. ap {B = ℕ} (λ z. cond z a 0) (ne_eqb k s (λ e. omega (arith, e, same, b)))),
    sum_zero n,
  )
  | inr other ↦ omega (arith, ap {B = ℕ} (λ b. cond b a 0) (ne_eqb k n other), sum_one k a n (omega (arith, less, other)))
]

-- a sum that has one part alone
pub sum_only : (f : ℕ → ℕ) (o n : ℕ) → ((s : ℕ) → s < n → (s ≡ o → ⊥) → f s ≡ 0) → sum_below f n ≤ f o
sum_only f o zero h = omega arith
sum_only f o (suc n) h = elim (cases_eq n o) [
  | inl same ↦ omega (
    arith,
    ap f same,
    sum_same f (λ s. 0) n (λ s b. h s (omega (arith, b)) (λ e. omega (arith, e, same, b))),
    sum_zero n,
  )
  | inr other ↦ omega (arith, sum_only f o n (λ s b no. h s (omega (arith, b)) no), h n (omega arith) other)
]

-- messages of threads below n, by sender
pub by_sender : (f : Letter → ℕ) (n : ℕ) (ls : List Letter) → ((s : ℕ) → n ≤ s → sent_by (λ l. l.tag) s ls ≡ []) → sum_letters f ls ≡ sum_below (λ s. sum_letters f (sent_by (λ l. l.tag) s ls)) n
by_sender f n [] h = sym (sum_zero n)
by_sender f n (x ∷ xs) h =
    omega (
      arith,
      by_sender f n xs (λ s le. rest s (x.tag.sender == s) (h s le)),
      sum_same (λ s. sum_letters f (sent_by (λ l. l.tag) s (x ∷ xs))) (λ s. cond (x.tag.sender == s) (f x) 0 + sum_letters f (sent_by (λ l. l.tag) s xs)) n (λ s b. one s (x.tag.sender == s)),
      sum_both (λ s. cond (x.tag.sender == s) (f x) 0) (λ s. sum_letters f (sent_by (λ l. l.tag) s xs)) n,
      sum_one x.tag.sender (f x) n below,
    )
  where
    rest : (s : ℕ) (b : Bool) → (if b then x ∷ sent_by (λ l. l.tag) s xs else sent_by (λ l. l.tag) s xs) ≡ [] → sent_by (λ l. l.tag) s xs ≡ []
    rest s true e = cc
    rest s false e = e

    one : (s : ℕ) (b : Bool) → sum_letters f (if b then x ∷ sent_by (λ l. l.tag) s xs else sent_by (λ l. l.tag) s xs) ≡ cond b (f x) 0 + sum_letters f (sent_by (λ l. l.tag) s xs)
    one s true = refl
    one s false = omega arith

    below : x.tag.sender < n
    below = elim (cases_lt x.tag.sender n) [ inl less ↦ less | inr le ↦ absurd (wrong (x.tag.sender == x.tag.sender) (eq-eqb x.tag.sender x.tag.sender refl) (h x.tag.sender le)) ]
      where
        wrong : (b : Bool) → b ≡ true → (if b then x ∷ sent_by (λ l. l.tag) x.tag.sender xs else sent_by (λ l. l.tag) x.tag.sender xs) ≡ [] → ⊥
        wrong true e f = absurd (cons_nil f)
          where
            cons_nil : x ∷ sent_by (λ l. l.tag) x.tag.sender xs ≡ [] → ⊥
            cons_nil e = let n : suc (length (sent_by (λ l. l.tag) x.tag.sender xs)) ≡ 0 = ap length e in omega (arith, n)
        wrong false e f = false≢true e

run_to : (u : ℕ) (w : What) (ps : List (ℕ × Letter)) → count_run w (to_thread u ps) ≡ count_to u w ps
run_to u w [] = refl
run_to u w (p ∷ ps) = at (p.0 == u) (run_to u w ps)
  where
    at : (b : Bool) → count_run w (to_thread u ps) ≡ count_to u w ps → count_run w (map (λ (q : ℕ × Letter). q.1) (cond b (p ∷ filter (λ q. q.0 == u) ps) (filter (λ q. q.0 == u) ps))) ≡ cond (b && is_same_token w p.1.tag.what) 1 0 + count_to u w ps
    at true e = omega (arith, e)
    at false e = omega (arith, e)

-- the last messages are no tokens
pub last_none : (s : Script) (t : ℕ) (w : What) → NoneIs w (sent_last s t)
last_none s t w = at (is_client s t) (t == 0)
  where
    stops : (ds : List ℕ) → NoneIs w (map (λ d. (owner_of s d, what.Stop)) ds)
    stops [] = tt
    stops (d ∷ ds) = (stop_none w, stops ds)

    at : (a b : Bool) → NoneIs w (cond a ((0, what.Done) ∷ []) (cond b (map (λ d. (owner_of s d, what.Stop)) (images s)) []))
    at true b = (done_none w, tt)
    at false true = stops (images s)
    at false false = tt

-- ---- a token starts once

-- the thread that starts a token, and its op
abbrev pub origin_of : What → ℕ
origin_of (what.Visit o k d) = o
origin_of (what.Cast o k) = o
origin_of _ = 0

abbrev pub op_of : What → ℕ
op_of (what.Visit o k d) = k
op_of (what.Cast o k) = k
op_of _ = 0

-- a line that starts the token is of its op and its origin
pub starts_at : (s : Script) (t : ℕ) (w : What) (i : ℕ) (x : Did) → starts s t w (step.Did i x) ≡ true → (t ≡ origin_of w) × (x.op ≡ op_of w) × (is_client s t ≡ true) × (is_started x.answer ≡ true) × (token_of s t x.op ≡ Some w)
starts_at s t w i x e =
    let a = and_parts (is_client s t && is_started x.answer) (elim (token_of s t x.op) as (λ z. Bool) [ None ↦ false | Some v ↦ is_same_token w v ]) e in
    let b = and_parts (is_client s t) (is_started x.answer) a.0 in
    let is = some (token_of s t x.op) a.1 in
    let made = op_made (op_at s t x.op) is in
    (made.0, made.1, b.0, b.1, is)
  where
    some : (o : Option What) → elim o [ None ↦ false | Some v ↦ is_same_token w v ] ≡ true → o ≡ Some w
    some None e = absurd (false≢true e)
    some (Some v) e = ap Some (same_is w v e)

    of_op : (o : Op) → token_of_op t x.op o ≡ Some w → (t ≡ origin_of w) × (x.op ≡ op_of w)
    of_op (op.Visit d) f = let is : what.Visit t x.op d ≡ w = cc in (ap origin_of is, ap op_of is)
    of_op op.Each f = let is : what.Cast t x.op ≡ w = cc in (ap origin_of is, ap op_of is)
    of_op _ f = cc

    op_made : (o : Option Op) → elim o [ None ↦ None | Some y ↦ token_of_op t x.op y ] ≡ Some w → (t ≡ origin_of w) × (x.op ≡ op_of w)
    op_made None f = cc
    op_made (Some y) f = of_op y f

pub nothing_passes : (p : Step → Bool) (n : ℕ) (w : What) (ps : List (List Step × Step)) (sends : List (List (ℕ × Letter))) → ((x : Step) → p x ≡ false) → outs p n w ps sends ≡ []
nothing_passes p n w [] sends h = refl
nothing_passes p n w (x ∷ ps) [] h = refl
nothing_passes p n w (x ∷ ps) (now ∷ sends) h = ap (λ b. cond b (dests n w now) [] ++ outs p n w ps sends) (h x.1) ∙ nothing_passes p n w ps sends h

module _ (s : Script) (t : ℕ) (l : Log) (w : What) (n : ℕ) where
  -- the place of a line that starts the token
  start_place : (past : List Step) (i : ℕ) (x : Did) → client_line_fits s t past (step.Did i x) ≡ true → starts s t w (step.Did i x) ≡ true → dids_in past ≡ op_of w
  start_place past i x fits e =
      let a = and_parts (i == dids_in past && x.op == i && nat_le i (length (ops_of s t)) && answer_fits s t past (op_at s t i) x.answer && depth_fits s t past x.answer) (is_none (awaits s t past)) fits in
      let b = and_parts (i == dids_in past && x.op == i && nat_le i (length (ops_of s t)) && answer_fits s t past (op_at s t i) x.answer) (depth_fits s t past x.answer) a.0 in
      let c = and_parts (i == dids_in past && x.op == i && nat_le i (length (ops_of s t))) (answer_fits s t past (op_at s t i) x.answer) b.0 in
      let f = and_parts (i == dids_in past && x.op == i) (nat_le i (length (ops_of s t))) c.0 in
      let g = and_parts (i == dids_in past) (x.op == i) f.0 in
      sym (eqb-true i (dids_in past) g.0) ∙ sym (eqb-true x.op i g.1) ∙ (starts_at s t w i x e).1

  none_after : (past rest : List Step) (sends : List (List (ℕ × Letter))) → op_of w < dids_in past → list_all (λ p. client_line_fits s t p.0 p.1) (with_past past rest) ≡ true → S_of s t l w n (with_past past rest) sends ≡ []
  none_after past [] sends h fits = refl
  none_after past (x ∷ rest) [] h fits = refl
  none_after past (x ∷ rest) (now ∷ sends) h fits =
      let both = and_parts (client_line_fits s t past x) (list_all (λ p. client_line_fits s t p.0 p.1) (with_past (x ∷ past) rest)) fits in
      ap (λ b. cond b (dests n w now) [] ++ S_of s t l w n (with_past (x ∷ past) rest) sends) (at (starts s t w x) refl x refl both.0) ∙ none_after (x ∷ past) rest sends (more x h) both.1
    where
      more : (x : Step) → op_of w < dids_in past → op_of w < dids_in (x ∷ past)
      more (step.Did i d) h = omega (arith, h, one_more i d past)
      more (step.Called i d) h = omega (arith, h, one_called i d past)
      more (step.Ran i m) h = omega (arith, h, one_ran i m past)

      at : (b : Bool) → starts s t w x ≡ b → (y : Step) → x ≡ y → client_line_fits s t past x ≡ true → b ≡ false
      at false e y is fits = refl
      at true e (step.Did i d) is fits = absurd (omega (arith, h, start_place past i d (subst (λ z. client_line_fits s t past z ≡ true) is fits) (subst (λ z. starts s t w z ≡ true) is e)))
      at true e (step.Called i d) is fits = absurd (false≢true (subst (λ z. starts s t w z ≡ true) is e))
      at true e (step.Ran i m) is fits = absurd (false≢true (subst (λ z. starts s t w z ≡ true) is e))

  one_start : (past rest : List Step) (sends : List (List (ℕ × Letter))) → list_all (λ p. client_line_fits s t p.0 p.1) (with_past past rest) ≡ true → SentAlong s t l (with_past past rest) sends
      → length (S_of s t l w n (with_past past rest) sends) ≤ 1
  one_start past [] sends fits h = omega arith
  one_start past (x ∷ rest) [] fits h = absurd h
  one_start past (x ∷ rest) (now ∷ sends) fits h =
      let both = and_parts (client_line_fits s t past x) (list_all (λ p. client_line_fits s t p.0 p.1) (with_past (x ∷ past) rest)) fits in
      at (starts s t w x) refl x refl both.0 both.1 (one_start (x ∷ past) rest sends both.1 h.1)
    where
      at : (b : Bool) → starts s t w x ≡ b → (y : Step) → x ≡ y → client_line_fits s t past x ≡ true → list_all (λ p. client_line_fits s t p.0 p.1) (with_past (x ∷ past) rest) ≡ true
          → length (S_of s t l w n (with_past (x ∷ past) rest) sends) ≤ 1 → length (cond b (dests n w now) [] ++ S_of s t l w n (with_past (x ∷ past) rest) sends) ≤ 1
      at false e y is fits more go = go
      at true e (step.Did i d) is fits more go =
          let place = start_place past i d (subst (λ z. client_line_fits s t past z ≡ true) is fits) (subst (λ z. starts s t w z ≡ true) is e) in
          let later : op_of w < dids_in (x ∷ past) = subst (λ z. op_of w < dids_in (z ∷ past)) (sym is) (omega (arith, place, one_more i d past)) in
          omega (
            arith,
            length_append (dests n w now) (S_of s t l w n (with_past (x ∷ past) rest) sends),
            ap length (none_after (x ∷ past) rest sends later more),
            goes_few s w n 0 _ now (started_goes s t l w past x now e h.0),
          )
      at true e (step.Called i d) is fits more go = absurd (false≢true (subst (λ z. starts s t w z ≡ true) is e))
      at true e (step.Ran i m) is fits more go = absurd (false≢true (subst (λ z. starts s t w z ≡ true) is e))

  -- another thread than the origin doesn't start it
  pub not_origin : (t ≡ origin_of w → ⊥) → (x : Step) → starts s t w x ≡ false
  not_origin other (step.Did i x) = at (starts s t w (step.Did i x)) refl
    where
      at : (b : Bool) → starts s t w (step.Did i x) ≡ b → b ≡ false
      at true e = absurd (other (starts_at s t w i x e).0)
      at false e = refl
  not_origin other (step.Called i x) = refl
  not_origin other (step.Ran i m) = refl

  pub not_client : is_client s t ≡ false → (x : Step) → starts s t w x ≡ false
  not_client never (step.Did i x) = at (starts s t w (step.Did i x)) refl
    where
      at : (b : Bool) → starts s t w (step.Did i x) ≡ b → b ≡ false
      at true e = absurd (false≢true (sym never ∙ (starts_at s t w i x e).2))
      at false e = refl
  not_client never (step.Called i x) = refl
  not_client never (step.Ran i m) = refl

-- ---- the whole run

module _ (r : Record) (logs : List Log) (whole : IsWholeRun r logs) (w : What) where
  abbrev pub n_of : ℕ
  n_of = thread_count r.script

  abbrev pub runs_at : ℕ → ℕ
  runs_at u = count_run w (run_by logs u)

  abbrev pub starts_of : ℕ → List ℕ
  starts_of t = unwrap_or (option_map (λ l. S_of r.script t l w n_of (steps_with_past l) l.sends) (slice_get logs t)) []

  abbrev pub goes_of : ℕ → List ℕ
  goes_of t = unwrap_or (option_map (λ l. D_of r.script t l w n_of (steps_with_past l) l.sends) (slice_get logs t)) []

  pub starts_is : (t : ℕ) (l : Log) → slice_get logs t ≡ Some l → starts_of t ≡ S_of r.script t l w n_of (steps_with_past l) l.sends
  starts_is t l e = ap (λ (o : Option Log). unwrap_or (option_map (λ l. S_of r.script t l w n_of (steps_with_past l) l.sends) o) []) e

  pub goes_is : (t : ℕ) (l : Log) → slice_get logs t ≡ Some l → goes_of t ≡ D_of r.script t l w n_of (steps_with_past l) l.sends
  goes_is t l e = ap (λ (o : Option Log). unwrap_or (option_map (λ l. D_of r.script t l w n_of (steps_with_past l) l.sends) o) []) e

  pub runs_are : (t : ℕ) (l : Log) → slice_get logs t ≡ Some l → runs_at t ≡ count_tags w l.lines.ran
  runs_are t l e = ap (count_run w) (run_at logs t l e) ∙ count_run-tags w l.ran ∙ ap (count_tags w) (ended r logs whole t l e).tags

  pub few : Token w → (t : ℕ) → t < n_of → length (goes_of t) ≤ runs_at t
  few tok t less =
      let l = log_of r logs whole t less in
      omega (
        arith,
        ap length (goes_is t l.0 l.1),
        runs_are t l.0 l.1,
        count_steps (is_same_token w) l.0,
        few_out r.script t l.0 (runs (is_same_token w)) n_of w (run_few r.script t l.0 w n_of) [] (steps l.0) l.0.sends (ended r logs whole t l.0 l.1).sends.at_steps,
      )

  pub up : Token w → (t : ℕ) → t < n_of → AllByRecursion (λ u. t < u) (goes_of t)
  up tok t less =
      let l = log_of r logs whole t less in
      subst (λ us. AllByRecursion (λ u. t < u) us) (sym (goes_is t l.0 l.1)) (up_of r.script t l.0 w n_of tok less [] (steps l.0) l.0.sends (ended r logs whole t l.0 l.1).sends.at_steps)

  -- what a thread sent of it to another
  sends_count : (u t : ℕ) → u < n_of → t < n_of → count_to u w (sent_by_thread logs t) ≡ count_at u (starts_of t) + count_at u (goes_of t)
  sends_count u t less there =
      let l = log_of r logs whole t there in
      omega (
        arith,
        ap (λ (o : Option Log). count_to u w (unwrap_or (option_map all_sends o) [])) l.1,
        count_to-append u w (flat_map (λ now. now) l.0.sends) l.0.last,
        sent_counts r.script t l.0 w n_of u less (steps_with_past l.0) l.0.sends (ended r logs whole t l.0 l.1).sends.at_steps,
        none_to u w l.0.last (subst (NoneIs w) (sym (ended r logs whole t l.0 l.1).sends.at_end) (last_none r.script t w)),
        ap (count_at u) (starts_is t l.0 l.1),
        ap (count_at u) (goes_is t l.0 l.1),
      )

  pub came : (u : ℕ) → u < n_of → runs_at u ≡ sum_below (λ s. count_at u (starts_of s)) n_of + sum_below (λ s. count_at u (goes_of s)) n_of
  came u less =
      let within : u < length logs = omega (arith, less, log_count r logs whole) in
      by_sender (λ x. cond (is_same_token w x.tag.what) 1 0) n_of (run_by logs u) (λ s le. whole.rings.run_is_sent u s within ∙ ap (to_thread u) (none_sent logs s (omega (arith, le, log_count r logs whole))))
      ∙ sum_same (λ s. count_run w (sent_by (λ l. l.tag) s (run_by logs u))) (λ s. count_at u (starts_of s) + count_at u (goes_of s)) n_of
      (λ s b. ap (count_run w) (whole.rings.run_is_sent u s within) ∙ run_to u w (sent_by_thread logs s) ∙ sends_count u s less b)
      ∙ sum_both (λ s. count_at u (starts_of s)) (λ s. count_at u (goes_of s)) n_of

  pub start : sum_below (λ s. length (starts_of s)) n_of ≤ 1
  start = omega (arith, sum_only (λ s. length (starts_of s)) (origin_of w) n_of elsewhere, at_origin)
    where
      elsewhere : (s : ℕ) → s < n_of → (s ≡ origin_of w → ⊥) → length (starts_of s) ≡ 0
      elsewhere s less other = let l = log_of r logs whole s less in ap length (starts_is s l.0 l.1 ∙ nothing_passes (starts r.script s w) n_of w (steps_with_past l.0) l.0.sends (not_origin r.script s l.0 w n_of other))

      at_origin : length (starts_of (origin_of w)) ≤ 1
      at_origin = at (slice_get logs (origin_of w)) refl
        where
          at : (o : Option Log) → slice_get logs (origin_of w) ≡ o → length (unwrap_or (option_map (λ l. S_of r.script (origin_of w) l w n_of (steps_with_past l) l.sends) o) []) ≤ 1
          at None e = omega arith
          at (Some l) e = role (is_client r.script (origin_of w)) refl
            where
              role : (b : Bool) → is_client r.script (origin_of w) ≡ b → length (S_of r.script (origin_of w) l w n_of (steps_with_past l) l.sends) ≤ 1
              role true c = one_start r.script (origin_of w) l w n_of [] (steps l) l.sends (client_ended r logs whole (origin_of w) l e c).fit (ended r logs whole (origin_of w) l e).sends.at_steps
              role false c = omega (arith, ap length (nothing_passes (starts r.script (origin_of w) w) n_of w (steps_with_past l) l.sends (not_client r.script (origin_of w) l w n_of c)))
