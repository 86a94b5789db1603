-- Answers, from what each thread keeps of its own lines.
use Rattle.std.proofs.Common.{◌≡◌, ℕ, zero, suc, ◌+◌, ◌<◌, ◌≤◌, ◌==◌, nat_lt, nat_le, Bool, true, false, cond, not, ◌&&◌, ◌||◌, List, [], ◌∷◌, map, length, Option, Some, None, slice_get, refl, sym, ap, ap₂, subst, ◌∙◌, arith, IsTrue}
use Rattle.std.specs.Prelude.{is_none, take, take_while}
use Rattle.std.specs.List.{list_all, list_any, AllByRecursion, prefix_len}
use Rattle.std.proofs.lemmas.Bool.{and_parts, and_from, eqb-true, or_left, or_right, false≢true}
use Rattle.std.proofs.lemmas.List.Sums.{sum_by-cons}
use Rattle.lw_base.specs.declared.message.Tag.{Tag}
use Rattle.lw_model.specs.declared.script.Script.{Script}
use Rattle.lw_model.specs.declared.record.Record.{Record}
use Rattle.lw_model.specs.declared.record.ThreadRecord.{ThreadRecord}
use Rattle.lw_model.specs.declared.record.Did.{Did}
use Rattle.lw_model.specs.declared.record.Called.{Called}
use Rattle.lw_model.specs.declared.step.Step.{Step}
use Rattle.lw_model.specs.declared.step.Step.TheVariants as step
use Rattle.lw_model.specs.Threads.{thread_count, is_client, clients, ops_of, op_at, did_of}
use Rattle.lw_model.specs.OwnOrder.{own_order, with_past, history}
use Rattle.lw_model.specs.Holding.{is_started, runs}
use Rattle.lw_model.specs.Answers.{Answers, answer_fits, depth_fits, completes, is_did, is_completed, earlier_completed, client_did_fits, is_done_of, app_did_fits, step_fits, unregister_fits, wanted, ats_ascend}
use Rattle.lw_model.proofs.Passing.{list_all-same}
use Rattle.lw_model.proofs.Callbacks.{without, any_without}
use Rattle.lw_whole.specs.Logs.{Log}
use Rattle.lw_whole.specs.Lines.{awaits, is_a_did, dids_in, client_line_fits, app_line_fits}
use Rattle.lw_whole.specs.WholeRun.{IsWholeRun}
use Rattle.lw_whole.proofs.Access.{of_log, log_of, ended, app_ended, client_ended, owner_ended}
use Rattle.lw_whole.proofs.Steps.{steps_are, dids_without, answer_without, depth_without, lifted, Stands, all_stand}

-- the `did` line that came last, with its place
abbrev latest : List Step → Option (ℕ × Did)
latest [] = None
latest (step.Did i x ∷ past) = Some (i, x)
latest (step.Called i x ∷ past) = latest past
latest (step.Ran i m ∷ past) = latest past

awaits-without : (s : Script) (t : ℕ) (past : List Step) → awaits s t past ≡ awaits s t (without past)
awaits-without s t [] = refl
awaits-without s t (step.Did i x ∷ past) = refl
awaits-without s t (step.Called i x ∷ past) = awaits-without s t past
awaits-without s t (step.Ran i m ∷ past) = ap (λ (o : Option ℕ). elim o as (λ z. Option ℕ) [ None ↦ None | Some k ↦ cond (completes (op_at s t k) k m.what) None (Some k) ]) (awaits-without s t past)

-- what is awaited is the completion of the latest line
awaits-latest : (s : Script) (t k i : ℕ) (y : Did) (past : List Step) → awaits s t past ≡ Some k → latest past ≡ Some (i, y) → k ≡ y.op
awaits-latest s t k i y [] e f = cc
awaits-latest s t k i y (step.Did j x ∷ past) e f = at (is_started x.answer) e
  where
    same : ◌≡◌ {A = Option (ℕ × Did)} (Some (j, x)) (Some (i, y)) → x ≡ y
    same g = let pairs : ◌≡◌ {A = ℕ × Did} (j, x) (i, y) = cc in ap (λ (p : ℕ × Did). p.1) pairs

    at : (b : Bool) → cond b (Some x.op) None ≡ Some k → k ≡ y.op
    at true g = let h : x.op ≡ k = cc in sym h ∙ ap (λ (z : Did). z.op) (same f)
    at false g = cc
awaits-latest s t k i y (step.Called j x ∷ past) e f = awaits-latest s t k i y past e f
awaits-latest s t k i y (step.Ran j m ∷ past) e f = at (awaits s t past) refl e (λ a g. awaits-latest s t a i y past g f)
  where
    still : (a : ℕ) (b : Bool) → cond b None (Some a) ≡ Some k → a ≡ k
    still a true g = cc
    still a false g = cc

    at : (o : Option ℕ) → awaits s t past ≡ o → ◌≡◌ {A = Option ℕ} (elim o [ None ↦ None | Some a ↦ cond (completes (op_at s t a) a m.what) None (Some a) ]) (Some k) → ((a : ℕ) → awaits s t past ≡ Some a → a ≡ y.op) → k ≡ y.op
    at None g h go = cc
    at (Some a) g h go = sym (still a (completes (op_at s t a) a m.what) h) ∙ go a g

-- what stands behind a line goes on over a step that is no line
behind_ran : (i j : ℕ) (m : Tag) (past : List Step) → take_while (λ z. not (is_did i z)) (step.Ran j m ∷ past) ≡ step.Ran j m ∷ take_while (λ z. not (is_did i z)) past
behind_ran i j m past = ap (λ n. take n (step.Ran j m ∷ past)) (one (prefix_len (λ z. not (is_did i z)) past))
  where
    one : (n : ℕ) → 1 + n ≡ suc n
    one n = omega arith

behind_called : (i j : ℕ) (c : Called) (past : List Step) → take_while (λ z. not (is_did i z)) (step.Called j c ∷ past) ≡ step.Called j c ∷ take_while (λ z. not (is_did i z)) past
behind_called i j c past = ap (λ n. take n (step.Called j c ∷ past)) (one (prefix_len (λ z. not (is_did i z)) past))
  where
    one : (n : ℕ) → 1 + n ≡ suc n
    one n = omega arith

-- where nothing is awaited, what the latest line started is complete
completed : (s : Script) (t i : ℕ) (y : Did) (past : List Step) → latest past ≡ Some (i, y) → awaits s t past ≡ None → is_completed s t past i y ≡ true
completed s t i y [] e f = cc
completed s t i y (step.Did j x ∷ past) e f = or_left (not (is_started y.answer)) _ (at (is_started x.answer) refl f)
  where
    same : ◌≡◌ {A = Option (ℕ × Did)} (Some (j, x)) (Some (i, y)) → x ≡ y
    same g = let pairs : ◌≡◌ {A = ℕ × Did} (j, x) (i, y) = cc in ap (λ (p : ℕ × Did). p.1) pairs

    at : (b : Bool) → is_started x.answer ≡ b → cond b (Some x.op) None ≡ None → not (is_started y.answer) ≡ true
    at true g h = cc
    at false g h = ap (λ (z : Did). not (is_started z.answer)) (sym (same e)) ∙ ap not g
completed s t i y (step.Called j x ∷ past) e f = ap (λ q. not (is_started y.answer) || list_any (runs (completes (op_at s t y.op) y.op)) q) (behind_called i j x past) ∙ completed s t i y past e f
completed s t i y (step.Ran j m ∷ past) e f = ap (λ q. not (is_started y.answer) || list_any (runs (completes (op_at s t y.op) y.op)) q) (behind_ran i j m past) ∙ at (awaits s t past) refl f (λ g. completed s t i y past e g)
  where
    behind : List Step
    behind = take_while (λ z. not (is_did i z)) past

    done : (a : ℕ) (b : Bool) → completes (op_at s t a) a m.what ≡ b → cond b None (Some a) ≡ None → a ≡ y.op → (not (is_started y.answer) || list_any (runs (completes (op_at s t y.op) y.op)) (step.Ran j m ∷ behind)) ≡ true
    done a true g h same = or_right (not (is_started y.answer)) _ (or_left _ _ (subst (λ k. completes (op_at s t k) k m.what ≡ true) same g))
    done a false g h same = cc

    at : (o : Option ℕ) → awaits s t past ≡ o → ◌≡◌ {A = Option ℕ} (elim o [ None ↦ None | Some a ↦ cond (completes (op_at s t a) a m.what) None (Some a) ]) None → (awaits s t past ≡ None → is_completed s t past i y ≡ true) → (not (is_started y.answer) || list_any (runs (completes (op_at s t y.op) y.op)) (step.Ran j m ∷ behind)) ≡ true
    at None g h go = more (not (is_started y.answer)) (completes (op_at s t y.op) y.op m.what) (go g)
      where
        more : (b c : Bool) → (b || list_any (runs (completes (op_at s t y.op) y.op)) behind) ≡ true → (b || (c || list_any (runs (completes (op_at s t y.op) y.op)) behind)) ≡ true
        more true c h = refl
        more false true h = refl
        more false false h = h
    at (Some a) g h go = done a (completes (op_at s t a) a m.what) refl h (awaits-latest s t a i y past g e)

-- as many lines as stand in the past are told by the latest of them
abbrev Counted : ThreadRecord → List Step → Type 0
Counted x past = (k : ℕ) → dids_in past ≡ suc k → (y : Did) × (latest past ≡ Some (k, y)) × (slice_get x.did k ≡ Some y)

pub one_more : (i : ℕ) (d : Did) (past : List Step) → dids_in (step.Did i d ∷ past) ≡ suc (dids_in past)
one_more i d past = sum_by-cons (λ s. cond (is_a_did s) 1 0) (step.Did i d) past ∙ omega arith

pub one_ran : (i : ℕ) (m : Tag) (past : List Step) → dids_in (step.Ran i m ∷ past) ≡ dids_in past
one_ran i m past = sum_by-cons (λ s. cond (is_a_did s) 1 0) (step.Ran i m) past ∙ omega arith

pub one_called : (i : ℕ) (c : Called) (past : List Step) → dids_in (step.Called i c ∷ past) ≡ dids_in past
one_called i c past = sum_by-cons (λ s. cond (is_a_did s) 1 0) (step.Called i c) past ∙ omega arith

module _ (r : Record) (t : ℕ) (x : ThreadRecord) (not_app : (t == 0) ≡ false) (client : is_client r.script t ≡ true) (did : did_of r t ≡ x.did) where
  earlier : (past : List Step) (i : ℕ) → Counted x past → dids_in past ≡ i → awaits r.script t past ≡ None → earlier_completed r t past i ≡ true
  earlier past zero h e f = refl
  earlier past (suc i) h e f =
      let last = h i e in
      ap (λ (o : Option Did). elim o as (λ z. Bool) [ None ↦ true | Some y ↦ is_completed r.script t past i y ]) (ap (λ ds. slice_get ds i) did ∙ last.2) ∙ completed r.script t i last.0 past last.1 f

  client_line : (past : List Step) (i : ℕ) (d : Did) → Counted x past → client_line_fits r.script t (without past) (step.Did i d) ≡ true → (i ≡ dids_in past) × (step_fits r t past (step.Did i d) ≡ true)
  client_line past i d h e =
      let a = and_parts (i == dids_in (without past) && d.op == i && nat_le i (length (ops_of r.script t)) && answer_fits r.script t (without past) (op_at r.script t i) d.answer && depth_fits r.script t (without past) d.answer) (is_none (awaits r.script t (without past))) e in
      let b = and_parts (i == dids_in (without past) && d.op == i && nat_le i (length (ops_of r.script t)) && answer_fits r.script t (without past) (op_at r.script t i) d.answer) (depth_fits r.script t (without past) d.answer) a.0 in
      let c = and_parts (i == dids_in (without past) && d.op == i && nat_le i (length (ops_of r.script t))) (answer_fits r.script t (without past) (op_at r.script t i) d.answer) b.0 in
      let f = and_parts (i == dids_in (without past) && d.op == i) (nat_le i (length (ops_of r.script t))) c.0 in
      let g = and_parts (i == dids_in (without past)) (d.op == i) f.0 in
      let place : i ≡ dids_in past = eqb-true i (dids_in (without past)) g.0 ∙ sym (dids_without past) in (
        place,
        ap (λ (z : Bool). cond z (app_did_fits r past i d) (is_client r.script t && client_did_fits r t past i d)) not_app
            ∙ and_from (is_client r.script t) (client_did_fits r t past i d) client
            (and_from (d.op == i && nat_le i (length (ops_of r.script t)) && answer_fits r.script t past (op_at r.script t i) d.answer && depth_fits r.script t past d.answer) (earlier_completed r t past i)
            (and_from (d.op == i && nat_le i (length (ops_of r.script t)) && answer_fits r.script t past (op_at r.script t i) d.answer) (depth_fits r.script t past d.answer)
            (and_from (d.op == i && nat_le i (length (ops_of r.script t))) (answer_fits r.script t past (op_at r.script t i) d.answer)
            (and_from (d.op == i) (nat_le i (length (ops_of r.script t))) g.1 f.1)
            (answer_without r.script t past (op_at r.script t i) d.answer ∙ c.1))
            (depth_without r.script t past d.answer ∙ b.1))
            (earlier past i h (sym place) (awaits-without r.script t past ∙ none (awaits r.script t (without past)) a.1))),
      )
    where
      none : (o : Option ℕ) → is_none o ≡ true → o ≡ None
      none None e = refl
      none (Some k) e = cc

  pub client_lines : (past rest : List Step) → Counted x past → AllByRecursion (Stands x) rest → list_all (λ z. client_line_fits r.script t z.0 z.1) (with_past (without past) (without rest)) ≡ true
      → list_all (λ z. step_fits r t z.0 z.1) (with_past past rest) ≡ true
  client_lines past [] h stand e = refl
  client_lines past (step.Did i d ∷ rest) h stand e =
      let both = and_parts (client_line_fits r.script t (without past) (step.Did i d)) (list_all (λ z. client_line_fits r.script t z.0 z.1) (with_past (step.Did i d ∷ without past) (without rest))) e in
      let now = client_line past i d h both.0 in
      and_from (step_fits r t past (step.Did i d)) (list_all (λ z. step_fits r t z.0 z.1) (with_past (step.Did i d ∷ past) rest)) now.1
      (client_lines (step.Did i d ∷ past) rest (counted now.0) stand.1 both.1)
    where
      counted : i ≡ dids_in past → Counted x (step.Did i d ∷ past)
      counted place k f = let same : i ≡ k = omega (arith, place, f, one_more i d past) in (d, ap (λ n. Some (n, d)) same, subst (λ n. slice_get x.did n ≡ Some d) same stand.0)
  client_lines past (step.Called i c ∷ rest) h stand e =
      client_lines (step.Called i c ∷ past) rest (λ k f. h k (sym (one_called i c past) ∙ f)) stand.1 e
  client_lines past (step.Ran i m ∷ rest) h stand e =
      client_lines (step.Ran i m ∷ past) rest (λ k f. h k (sym (one_ran i m past) ∙ f)) stand.1 e

-- the app's lines come behind the Done of each client
app_line : (r : Record) (past : List Step) (i : ℕ) (d : Did) → app_line_fits r.script (without past) (step.Did i d) ≡ true → step_fits r 0 past (step.Did i d) ≡ true
app_line r past i d e =
    let a = and_parts (d.op == i && nat_lt i (length r.script.images) && unregister_fits d.answer) (list_all (λ c. list_any (is_done_of c) (without past)) (clients r.script)) e in
    and_from (d.op == i && nat_lt i (length r.script.images) && unregister_fits d.answer) (list_all (λ c. list_any (is_done_of c) past) (clients r.script)) a.0
    (list_all-same (λ c. list_any (is_done_of c) past) (λ c. list_any (is_done_of c) (without past)) (λ c. any_without (is_done_of c) (λ j y. refl) past) (clients r.script) ∙ a.1)

abbrev NoDid : Step → Type 0
NoDid s = is_a_did s ≡ false

no_lines : (r : Record) (t : ℕ) (past rest : List Step) → AllByRecursion NoDid rest → list_all (λ z. step_fits r t z.0 z.1) (with_past past rest) ≡ true
no_lines r t past [] h = refl
no_lines r t past (step.Did i d ∷ rest) h = absurd (false≢true (sym h.0))
no_lines r t past (step.Called i c ∷ rest) h = no_lines r t (step.Called i c ∷ past) rest h.1
no_lines r t past (step.Ran i m ∷ rest) h = no_lines r t (step.Ran i m ∷ past) rest h.1

-- a thread without lines has no such steps
none_stand : (x : ThreadRecord) → x.did ≡ [] → (ss : List Step) → AllByRecursion (Stands x) ss → AllByRecursion NoDid ss
none_stand x e [] h = tt
none_stand x e (step.Did i d ∷ ss) h = absurd (wrong (sym h.0 ∙ ap (λ (ds : List Did). slice_get ds i) e))
  where
    wrong : Some d ≡ slice_get {X = Did} [] i → ⊥
    wrong g = cc
none_stand x e (step.Called i c ∷ ss) h = (refl, none_stand x e ss h.1)
none_stand x e (step.Ran i m ∷ ss) h = (refl, none_stand x e ss h.1)

module _ (r : Record) (logs : List Log) (w : IsWholeRun r logs) where
  ascend : (x : ThreadRecord) → List ℕ → Bool
  ascend x ats = ats_ascend (length x.ran) ats

  -- each thread by its role
  by_role : (P : ℕ → Type 0) → ((l : Log) → slice_get logs 0 ≡ Some l → P 0) → ((t : ℕ) (l : Log) → slice_get logs t ≡ Some l → (t == 0) ≡ false → is_client r.script t ≡ true → P t)
      → ((t : ℕ) (l : Log) → slice_get logs t ≡ Some l → (t == 0) ≡ false → is_client r.script t ≡ false → P t) → (t : ℕ) → t < thread_count r.script → P t
  by_role P app client owner t less = let l = log_of r logs w t less in at l.0 l.1 (t == 0) refl (is_client r.script t) refl
    where
      at : (l : Log) → slice_get logs t ≡ Some l → (a : Bool) → (t == 0) ≡ a → (b : Bool) → is_client r.script t ≡ b → P t
      at l e true z b is = subst P (sym (eqb-true t 0 z)) (app l (subst (λ n. slice_get logs n ≡ Some l) (eqb-true t 0 z) e))
      at l e false z true is = client t l e z is
      at l e false z false is = owner t l e z is

  pub answers : Answers r
  answers = record {
    count = by_role (λ t. wanted r t ≤ length (did_of r t))
        (λ l e. omega (arith, (app_ended r logs w l e).count, ap length (of_log r logs w (λ x. x.did) 0 l e)))
        (λ t l e z c. subst (λ n. n ≤ length (did_of r t)) (sym (ap₂ (λ (a b : Bool). cond a (length r.script.images) (cond b (length (ops_of r.script t) + 1) 0)) z c))
        (omega (arith, (client_ended r logs w t l e c).count, ap length (of_log r logs w (λ x. x.did) t l e))))
        (λ t l e z c. subst (λ n. n ≤ length (did_of r t)) (sym (ap₂ (λ (a b : Bool). cond a (length r.script.images) (cond b (length (ops_of r.script t) + 1) 0)) z c)) (omega arith));
    did_order = λ t less. let l = log_of r logs w t less in
        ap₂ (λ (ran : List Tag) (dids : List Did). ats_ascend (length ran) (map (λ d. d.at) dids)) (of_log r logs w (λ x. x.ran) t l.0 l.1) (of_log r logs w (λ x. x.did) t l.0 l.1) ∙ (ended r logs w t l.0 l.1).did_ats;
    called_order = λ t less. let l = log_of r logs w t less in
        ap₂ (λ (ran : List Tag) (cs : List Called). ats_ascend (length ran) (map (λ d. d.at) cs)) (of_log r logs w (λ x. x.ran) t l.0 l.1) (of_log r logs w (λ x. x.called) t l.0 l.1) ∙ (ended r logs w t l.0 l.1).called_ats;
    lines = by_role (λ t. IsTrue (list_all (λ z. step_fits r t z.0 z.1) (history r t)))
        (λ l e. ap (λ (ss : List Step). list_all (λ z. step_fits r 0 z.0 z.1) (with_past [] ss)) (of_log r logs w own_order 0 l e)
        ∙ lifted (step_fits r 0) (app_line_fits r.script) (λ past i d h. app_line r past i d h) (λ past i c. refl) (λ past i m h. refl) [] (own_order l.lines)
        (ap (λ ss. list_all (λ z. app_line_fits r.script z.0 z.1) (with_past [] ss)) (steps_are l) ∙ (app_ended r logs w l e).fit))
        (λ t l e z c. ap (λ (ss : List Step). list_all (λ z. step_fits r t z.0 z.1) (with_past [] ss)) (of_log r logs w own_order t l e)
        ∙ client_lines r t l.lines z c (of_log r logs w (λ x. x.did) t l e) [] (own_order l.lines) (λ k f. cc) (all_stand l.lines)
        (ap (λ ss. list_all (λ z. client_line_fits r.script t z.0 z.1) (with_past [] ss)) (steps_are l) ∙ (client_ended r logs w t l e c).fit))
        (λ t l e z c. ap (λ (ss : List Step). list_all (λ z. step_fits r t z.0 z.1) (with_past [] ss)) (of_log r logs w own_order t l e)
        ∙ no_lines r t [] (own_order l.lines) (none_stand l.lines (owner_ended r logs w t l e z c).did (own_order l.lines) (all_stand l.lines)));
  }
