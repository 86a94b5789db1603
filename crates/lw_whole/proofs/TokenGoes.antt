-- A token goes to the next thread that ran it, and home from the last.
use Rattle.std.proofs.Common.{◌≡◌, ℕ, zero, suc, ◌+◌, ◌-◌, ◌<◌, ◌≤◌, nat_lt, Bool, true, false, cond, not, ◌||◌, List, [], ◌∷◌, filter, length, Option, Some, None, slice_get, refl, sym, ap, subst, ◌∙◌, arith, inl, inr}
use Rattle.std.specs.List.{list_any, range_with_len}
use Rattle.std.proofs.lemmas.Bool.{false≢true, eq-eqb, ne_eqb, le-leb, lt-ltb, ltb-true, cases_eq}
use Rattle.lw_base.specs.declared.message.Tag.{Tag}
use Rattle.lw_base.specs.declared.message.What.{What}
use Rattle.lw_model.specs.declared.script.Script.{Script}
use Rattle.lw_model.specs.declared.record.Record.{Record}
use Rattle.lw_model.specs.Threads.{thread_count}
use Rattle.lw_model.specs.Sent.{is_same_token, first_runner, completion, started, passed_on, must_run}
use Rattle.lw_model.specs.Lawful.{has_run}
use Rattle.lw_model.proofs.Passing.{all_in_range}
use Rattle.lw_whole.specs.Letters.{Letter, Load}
use Rattle.lw_whole.specs.Logs.{Log, addressed, steps_with_past}
use Rattle.lw_whole.specs.Tokens.{GoesOn, may_pass}
use Rattle.lw_whole.specs.WholeRun.{IsWholeRun}
use Rattle.lw_whole.proofs.Access.{of_log, log_of}
use Rattle.lw_whole.proofs.Flow.{count_at, count_from, sum_below, sum_has, sum_some, sends_on, once, started as started_once, passed, passed_first}
use Rattle.lw_whole.proofs.TokenCounts.{NoneIs, not_completion, starts, dest, dests}
use Rattle.lw_whole.proofs.TokenRuns.{Token, count_tags}
use Rattle.lw_whole.proofs.TokenFlow.{origin_of, runs_at, starts_of, goes_of, runs_are, starts_is, few, up, came, start, nothing_passes, not_origin}
use Rattle.lw_whole.proofs.TokenWay.{Begun, home}
use Rattle.lw_whole.proofs.Once.{none_counted}

-- ---- the first of a range

first_of : (p q : ℕ → Bool) (a n u : ℕ) → a ≤ u → u < a + n → p u ≡ true → q u ≡ true → ((v : ℕ) → a ≤ v → v < u → q v ≡ true → p v ≡ false) → slice_get (filter q (filter p (range_with_len a n))) 0 ≡ Some u
first_of p q a zero u low high is passes none = absurd (omega (arith, low, high))
first_of p q a (suc n) u low high is passes none = elim (cases_eq a u) [
  | inl same ↦ here (p a) (q a) (subst (λ v. p v ≡ true) (sym same) is) (subst (λ v. q v ≡ true) (sym same) passes) same
  | inr other ↦ later (p a) (q a) refl (λ e. none a (omega arith) (omega (arith, low, other)) e) (first_of p q (a + 1) n u (omega (arith, low, other)) (omega (arith, high)) is passes (λ v h k e. none v (omega (arith, h)) k e))
]
  where
    rest : List ℕ
    rest = filter p (range_with_len (a + 1) n)

    here : (b c : Bool) → b ≡ true → c ≡ true → a ≡ u → slice_get (filter q (cond b (a ∷ rest) rest)) 0 ≡ Some u
    here true c e f same = ap (λ z. slice_get (cond z (a ∷ filter q rest) (filter q rest)) 0) passes_a ∙ ap Some same
      where
        passes_a : q a ≡ true
        passes_a = subst (λ v. q v ≡ true) (sym same) passes
    here false c e f same = absurd (false≢true e)

    later : (b c : Bool) → q a ≡ c → (q a ≡ true → p a ≡ false) → slice_get (filter q rest) 0 ≡ Some u → slice_get (filter q (cond (p a) (a ∷ rest) rest)) 0 ≡ Some u
    later b true e f go = ap (λ z. slice_get (filter q (cond z (a ∷ rest) rest)) 0) (f e) ∙ go
    later b false e f go = skip (p a)
      where
        skip : (z : Bool) → slice_get (filter q (cond z (a ∷ rest) rest)) 0 ≡ Some u
        skip true = ap (λ z. slice_get (cond z (a ∷ filter q rest) (filter q rest)) 0) e ∙ go
        skip false = go

none_of : (p q : ℕ → Bool) (a n : ℕ) → ((v : ℕ) → a ≤ v → v < a + n → q v ≡ true → p v ≡ false) → slice_get (filter q (filter p (range_with_len a n))) 0 ≡ None
none_of p q a zero none = refl
none_of p q a (suc n) none = at (q a) refl (none_of p q (a + 1) n (λ v h k e. none v (omega (arith, h)) (omega (arith, k)) e))
  where
    rest : List ℕ
    rest = filter p (range_with_len (a + 1) n)

    at : (c : Bool) → q a ≡ c → slice_get (filter q rest) 0 ≡ None → slice_get (filter q (cond (p a) (a ∷ rest) rest)) 0 ≡ None
    at true e go = ap (λ z. slice_get (filter q (cond z (a ∷ rest) rest)) 0) (none a (omega arith) (omega arith) e) ∙ go
    at false e go = skip (p a)
      where
        skip : (z : Bool) → slice_get (filter q (cond z (a ∷ rest) rest)) 0 ≡ None
        skip true = ap (λ z. slice_get (cond z (a ∷ filter q rest) (filter q rest)) 0) e ∙ go
        skip false = go

some_counted : (w : What) (past : List Tag) → 1 ≤ count_tags w past → list_any (λ x. is_same_token w x.what) past ≡ true
some_counted w [] h = absurd (omega (arith, h))
some_counted w (m ∷ past) h = at (is_same_token w m.what) h (λ f. some_counted w past f)
  where
    at : (b : Bool) → 1 ≤ cond b 1 0 + count_tags w past → (1 ≤ count_tags w past → list_any (λ x. is_same_token w x.what) past ≡ true) → (b || list_any (λ x. is_same_token w x.what) past) ≡ true
    at true f go = refl
    at false f go = go (omega (arith, f))

-- ---- whom one send goes to

pub dest_to : (n : ℕ) (w : What) (p : ℕ × Letter) → Token w → p.1.tag.what ≡ w → dest n w p ≡ p.0
dest_to n w p tok e = ap {B = ℕ} (λ v. cond (is_same_token w v) p.0 n) e ∙ ap {B = ℕ} (λ b. cond b p.0 n) tok

pub dest_home : (n : ℕ) (w : What) (p : ℕ × Letter) → addressed (p ∷ []) ≡ completion w → dest n w p ≡ n
dest_home n w p e = let none : NoneIs w (addressed (p ∷ [])) = subst (NoneIs w) (sym e) (not_completion w w) in ap {B = ℕ} (λ b. cond b p.0 n) none.0

-- a token isn't sent past a thread that has to run it
pub not_passed : (s : Script) (w : What) (from to v : ℕ) → from ≤ v → v < to → must_run s w v ≡ true → may_pass s w from to → ⊥
not_passed s w from to v low high must h =
    let at : not (must_run s w v) ≡ true = (all_in_range (λ u. not (must_run s w u)) (λ u. not (must_run s w u) ≡ true) from (to - from) (λ u. (λ e. e, λ e. e))).0 h v low (omega (arith, low, high)) in
    false≢true (sym (ap not must) ∙ at)

module _ (r : Record) (logs : List Log) (whole : IsWholeRun r logs) (w : What) (tok : Token w) where
  abbrev n : ℕ
  n = thread_count r.script

  abbrev c : ℕ → ℕ
  c = runs_at r logs whole w

  abbrev S : ℕ → List ℕ
  S = starts_of r logs whole w

  abbrev D : ℕ → List ℕ
  D = goes_of r logs whole w

  pub has : (v : ℕ) → v < n → 1 ≤ c v → has_run r w v ≡ true
  has v less some =
      let l = log_of r logs whole v less in
      ap (λ (ms : List Tag). list_any (λ m. is_same_token w m.what) ms) (of_log r logs whole (λ x. x.ran) v l.0 l.1) ∙ some_counted w l.0.lines.ran (omega (arith, some, runs_are r logs whole w v l.0 l.1))

  pub has_not : (v : ℕ) → v < n → c v ≡ 0 → has_run r w v ≡ false
  has_not v less none =
      let l = log_of r logs whole v less in
      ap (λ (ms : List Tag). list_any (λ m. is_same_token w m.what) ms) (of_log r logs whole (λ x. x.ran) v l.0 l.1) ∙ none_counted w l.0.lines.ran (omega (arith, none, runs_are r logs whole w v l.0 l.1))

  module _ (b : Begun r logs w) where
    came_home : 1 ≤ sum_below (λ s. count_at n (S s)) n + sum_below (λ s. count_at n (D s)) n
    came_home = home r logs whole w tok b

    -- each run sends it on
    pub all_go : (u : ℕ) → u < n → length (D u) ≡ c u
    all_go u less = sends_on n c S D (few r logs whole w tok) (up r logs whole w tok) (came r logs whole w) (start r logs whole w) came_home u less

    pub at_most_once : (u : ℕ) → u < n → c u ≤ 1
    at_most_once u less = once n c S D (few r logs whole w tok) (up r logs whole w tok) (came r logs whole w) (start r logs whole w) came_home u less

    -- its origin starts it
    pub start_goes : (t : ℕ) → t < n → t ≡ origin_of w → length (S t) ≡ 1
    start_goes t less is =
        let all = started_once n c S D (few r logs whole w tok) (up r logs whole w tok) (came r logs whole w) (start r logs whole w) came_home in
        let by = sum_some (λ s. length (S s)) n (omega (arith, all)) in
        elim (cases_eq by.0 (origin_of w)) [
          | inl same ↦
              let here : 1 ≤ length (S t) = subst (λ s. 1 ≤ length (S s)) (same ∙ sym is) by.2 in
              omega (arith, here, all, sum_has (λ s. length (S s)) n t less)
          | inr other ↦
              let l = log_of r logs whole by.0 by.1 in
              let none = starts_is r logs whole w by.0 l.0 l.1 ∙ nothing_passes (starts r.script by.0 w) n w (steps_with_past l.0) l.0.sends (not_origin r.script by.0 l.0 w n other) in
              absurd (omega (arith, by.2, ap length none))
        ]

    -- who is between ran it not
    not_between : (t u v : ℕ) → t < v → v < u → v < n → D t ≡ u ∷ [] → c v ≡ 0
    not_between t u v above below less e = passed n c S D (few r logs whole w tok) (up r logs whole w tok) (came r logs whole w) (start r logs whole w) came_home t v above less
        (ap (count_at v) e ∙ omega (arith, ap {B = ℕ} (λ b. cond b 1 0) (ne_eqb u v (λ f. omega (arith, f, below)))))
        (omega (arith, ap (count_from v) e, ap {B = ℕ} (λ b. cond b 1 0) (le-leb v u (omega (arith, below)))))

    not_before : (t u v : ℕ) → t < n → v < u → v < n → S t ≡ u ∷ [] → c v ≡ 0
    not_before t u v there below less e = passed_first n c S D (few r logs whole w tok) (up r logs whole w tok) (came r logs whole w) (start r logs whole w) came_home t v there less
        (ap (count_at v) e ∙ omega (arith, ap {B = ℕ} (λ b. cond b 1 0) (ne_eqb u v (λ f. omega (arith, f, below)))))
        (omega (arith, ap (count_from v) e, ap {B = ℕ} (λ b. cond b 1 0) (le-leb v u (omega (arith, below)))))

    pub between : (t u v : ℕ) → t < v → v < u → u ≤ n → D t ≡ u ∷ [] → has_run r w v ≡ false
    between t u v above below within e = has_not v (omega (arith, below, within)) (not_between t u v above below (omega (arith, below, within)) e)

    pub before : (t u v : ℕ) → t < n → v < u → u ≤ n → S t ≡ u ∷ [] → has_run r w v ≡ false
    before t u v there below within e = has_not v (omega (arith, below, within)) (not_before t u v there below (omega (arith, below, within)) e)

    -- whom it goes to runs it
    pub reached : (t u : ℕ) → t < n → u < n → D t ≡ u ∷ [] → has_run r w u ≡ true
    reached t u there less e = has u less (omega (
      arith,
      came r logs whole w u less,
      sum_has (λ s. count_at u (D s)) n t there,
      ap (count_at u) e,
      ap {B = ℕ} (λ b. cond b 1 0) (eq-eqb u u refl),
    ))

    pub reached_first : (t u : ℕ) → t < n → u < n → S t ≡ u ∷ [] → has_run r w u ≡ true
    reached_first t u there less e = has u less (omega (
      arith,
      came r logs whole w u less,
      sum_has (λ s. count_at u (S s)) n t there,
      ap (count_at u) e,
      ap {B = ℕ} (λ b. cond b 1 0) (eq-eqb u u refl),
    ))

    -- what a run of it sends
    pub run_sends : (t : ℕ) → t < n → (load : Load) (now : List (ℕ × Letter)) → GoesOn r.script w (t + 1) load now → D t ≡ dests n w now → length (dests n w now) ≡ 1 → addressed now ≡ passed_on r t w
    run_sends t less load [] h e one = absurd (omega (arith, one))
    run_sends t less load (p ∷ []) (inl to) e one =
        let goes : D t ≡ p.0 ∷ [] = e ∙ ap (λ u. u ∷ []) (dest_to n w p tok to.token) in
        let next : first_runner r w (nat_lt t) ≡ Some p.0 = first_of (has_run r w) (nat_lt t) 0 n p.0 (omega arith) (omega (arith, to.thread)) (reached t p.0 less to.thread goes) (lt-ltb t p.0 (omega (arith, to.above)))
        (λ v low below above. between t p.0 v (ltb-true t v above) below (omega (arith, to.thread)) goes) in
        ap (λ v. (p.0, v) ∷ []) to.token ∙ sym (ap (λ (o : Option ℕ). elim o [ Some u ↦ (u, w) ∷ [] | None ↦ completion w ]) next)
    run_sends t less load (p ∷ []) (inr back) e one =
        let goes : D t ≡ n ∷ [] = e ∙ ap (λ u. u ∷ []) (dest_home n w p back.completes) in
        let next : first_runner r w (nat_lt t) ≡ None = none_of (has_run r w) (nat_lt t) 0 n (λ v low below above. between t n v (ltb-true t v above) (omega (arith, below)) (omega arith) goes) in
        back.completes ∙ sym (ap (λ (o : Option ℕ). elim o [ Some u ↦ (u, w) ∷ [] | None ↦ completion w ]) next)
    run_sends t less load (p ∷ q ∷ rest) h e one = absurd h

    -- what its start sends
    pub start_sends : (t : ℕ) → t < n → (load : Load) (now : List (ℕ × Letter)) → GoesOn r.script w 0 load now → S t ≡ dests n w now → length (dests n w now) ≡ 1 → addressed now ≡ started r w
    start_sends t less load [] h e one = absurd (omega (arith, one))
    start_sends t less load (p ∷ []) (inl to) e one =
        let goes : S t ≡ p.0 ∷ [] = e ∙ ap (λ u. u ∷ []) (dest_to n w p tok to.token) in
        let next : first_runner r w (λ v. true) ≡ Some p.0 = first_of (has_run r w) (λ v. true) 0 n p.0 (omega arith) (omega (arith, to.thread)) (reached_first t p.0 less to.thread goes) refl
        (λ v low below above. before t p.0 v less below (omega (arith, to.thread)) goes) in
        ap (λ v. (p.0, v) ∷ []) to.token ∙ sym (ap (λ (o : Option ℕ). elim o [ Some u ↦ (u, w) ∷ [] | None ↦ [] ]) next)
    start_sends t less load (p ∷ []) (inr back) e one = absurd (not_passed r.script w 0 (thread_count r.script) 0 (omega arith) (omega arith) refl back.passed)
    start_sends t less load (p ∷ q ∷ rest) h e one = absurd h
