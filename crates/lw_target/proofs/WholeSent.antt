-- In a whole run each thread ran what the others sent it, all of it and nothing else.
use Rattle.std.proofs.Common.{ℕ, ◌≡◌, ◌≢◌, ◌==◌, Bool, true, false, cond, ◌||◌, List, [], ◌∷◌, map, filter, length, Option, Some, None, option_to_list, option_map, refl, sym, ap, subst, ◌∙◌, arith}
use Rattle.std.specs.Prelude.{option_and_then}
use Rattle.std.specs.List.{AllByRecursion, list_all, flat_map}
use Rattle.std.proofs.lemmas.Bool.{and_parts, and_from, ne_eqb, eqb-true, ltb-true, false≢true}
use Rattle.std.proofs.lemmas.List.Folds.{list_all-append}
use Rattle.lw_base.specs.declared.message.Tag.{Tag}
use Rattle.lw_base.specs.declared.message.What.{What}
use Rattle.lw_base.specs.declared.message.What.TheVariants as what
use Rattle.lw_model.specs.declared.script.Script.{Script}
use Rattle.lw_model.specs.declared.script.Op.{Op}
use Rattle.lw_model.specs.declared.script.Op.TheVariants as op
use Rattle.lw_model.specs.declared.record.Answer.{Answer}
use Rattle.lw_model.specs.declared.record.Answer.TheVariants as answer
use Rattle.lw_model.specs.declared.step.Step.{Step}
use Rattle.lw_model.specs.declared.step.Step.TheVariants as step
use Rattle.lw_model.specs.ScriptRules.{image_of}
use Rattle.lw_model.specs.Threads.{owner_of, ops_of, op_at, image_at}
use Rattle.lw_model.specs.OwnOrder.{with_past}
use Rattle.lw_model.specs.Sent.{referred, to_thread}
use Rattle.lw_target.specs.Ops.{is_servable}
use Rattle.lw_target.specs.ClientLog.{sends_of}
use Rattle.lw_target.specs.WholeRun.{run_from}
use Rattle.lw_target.proofs.WholeAnswers.{MayServe, may_serve}

-- ---- What kinds of messages there are

-- what a client of these ops runs
abbrev pub is_back : What → Bool
is_back (what.PutSelf d) = true
is_back (what.Reply k) = true
is_back _ = false

-- the same by sender: requests of the client, stops of the app
abbrev pub is_asked : ℕ → What → Bool
is_asked t w = elim w [ what.Request k ↦ t == 1 | what.Stop ↦ t == 0 | _ ↦ false ]

-- what the client sends, with its receiver
abbrev pub is_send : ℕ × What → Bool
is_send p = elim p.1 [ what.Request k ↦ p.0 == 2 | what.PutSelf d ↦ p.0 == 1 | _ ↦ false ]

-- ---- The client's sends

-- the op of each place is on the one image
image_zero : (o : Option Op) → MayServe o → (d : ℕ) → option_and_then image_of o ≡ Some d → d ≡ 0
image_zero None may d e = let wrong : ◌≡◌ {A = Option ℕ} None (Some d) = e in cc
image_zero (Some (op.Get x)) may d e = let same : x ≡ d = cc in omega (arith, same, ltb-true x 1 may)
image_zero (Some (op.Put x)) may d e = let same : x ≡ d = cc in omega (arith, same, ltb-true x 1 may)
image_zero (Some (op.Write x start count pattern)) may d e = let same : x ≡ d = cc in omega (arith, same, ltb-true x 1 may)
image_zero (Some (op.Read x start count)) may d e = let same : x ≡ d = cc in omega (arith, same, ltb-true x 1 may)
image_zero (Some (op.Flush x)) may d e = let wrong : false ≡ true = may in cc
image_zero (Some (op.Wait x)) may d e = let wrong : false ≡ true = may in cc
image_zero (Some (op.Visit x)) may d e = let wrong : false ≡ true = may in cc
image_zero (Some op.Each) may d e = let wrong : false ≡ true = may in cc
image_zero (Some (op.Unregister x)) may d e = let wrong : false ≡ true = may in cc

putselfs_send : (ds : List ℕ) → list_all is_send (map (λ d. (1, what.PutSelf d)) ds) ≡ true
putselfs_send [] = refl
putselfs_send (d ∷ ds) = putselfs_send ds

module _ (s : Script) (one : length s.clients ≡ 1) (ops : list_all (is_servable 1) (ops_of s 1) ≡ true) where
  to_owner : (o : Option ℕ) → ((d : ℕ) → o ≡ Some d → d ≡ 0) → (k : ℕ) → list_all is_send (option_to_list (option_map (λ d. (owner_of s d, what.Request k)) o)) ≡ true
  to_owner None zero_only k = refl
  to_owner (Some d) zero_only k = and_from _ true (at (owner_of s d) (omega (arith, one, zero_only d refl))) refl
    where
      at : (n : ℕ) → n ≡ 2 → (n == 2) ≡ true
      at n e = subst (λ m. (m == 2) ≡ true) (sym e) refl

  to_itself : (o : Option ℕ) → list_all is_send (option_to_list (option_map (λ d. (1, what.PutSelf d)) o)) ≡ true
  to_itself None = refl
  to_itself (Some d) = refl

  did_send : (past : List Step) (i at k : ℕ) (a : Answer) → list_all is_send (sends_of s 1 past (step.Did i (record { at = at; op = k; answer = a }))) ≡ true
  did_send past i at k answer.Sent = to_owner (image_at s 1 k) (image_zero (op_at s 1 k) (may_serve (ops_of s 1) k ops)) k
  did_send past i at k answer.Deferred = to_itself (image_at s 1 k)
  did_send past i at k answer.Closed = putselfs_send (referred s 1 past)
  did_send past i at k _ = refl

  step_send : (past : List Step) (x : Step) → list_all is_send (sends_of s 1 past x) ≡ true
  step_send past (step.Did i x) = did_send past i x.at x.op x.answer
  step_send past (step.Called i x) = refl
  step_send past (step.Ran i m) = refl

  pub all_send : (past steps : List Step) → list_all is_send (flat_map (λ p. sends_of s 1 p.0 p.1) (with_past past steps)) ≡ true
  all_send past [] = refl
  all_send past (x ∷ steps) = list_all-append is_send (sends_of s 1 past x) (flat_map (λ p. sends_of s 1 p.0 p.1) (with_past (x ∷ past) steps))
      ∙ and_from _ _ (step_send past x) (all_send (x ∷ past) steps)

-- ---- Receivers

send_is : (u : ℕ) (w : What) → is_send (u, w) ≡ true → (t : ℕ) → t ≢ 1 → t ≢ 2 → (u == t) ≡ false
send_is u (what.Request k) e t one two = ne_eqb u t (λ h. two (omega (arith, h, eqb-true u 2 e)))
send_is u (what.PutSelf d) e t one two = ne_eqb u t (λ h. one (omega (arith, h, eqb-true u 1 e)))
send_is u (what.Reply k) e t one two = absurd (false≢true e)
send_is u (what.Visit o k d) e t one two = absurd (false≢true e)
send_is u (what.Visited k) e t one two = absurd (false≢true e)
send_is u (what.Cast o k) e t one two = absurd (false≢true e)
send_is u (what.Casted k) e t one two = absurd (false≢true e)
send_is u what.Done e t one two = absurd (false≢true e)
send_is u what.Stop e t one two = absurd (false≢true e)
send_is u (what.Arrive a b) e t one two = absurd (false≢true e)
send_is u (what.Order a b c) e t one two = absurd (false≢true e)

-- the client sends to itself and to the owner alone
pub none_to : (t : ℕ) → t ≢ 1 → t ≢ 2 → (ps : List (ℕ × What)) → list_all is_send ps ≡ true → to_thread t ps ≡ []
none_to t one two [] e = refl
none_to t one two (p ∷ ps) e =
    let both = and_parts (is_send p) (list_all is_send ps) e in
    ap (λ b. map (λ (q : ℕ × What). q.1) (cond b (p ∷ filter (λ q. q.0 == t) ps) (filter (λ q. q.0 == t) ps))) (send_is p.0 p.1 both.0 t one two)
    ∙ none_to t one two ps both.1

pub back_send : (u : ℕ) (w : What) → is_send (u, w) ≡ true → (u == 1) ≡ true → is_back w ≡ true
back_send u (what.Request k) e f = absurd (omega (arith, eqb-true u 2 e, eqb-true u 1 f))
back_send u (what.PutSelf d) e f = refl
back_send u (what.Reply k) e f = refl
back_send u (what.Visit o k d) e f = absurd (false≢true e)
back_send u (what.Visited k) e f = absurd (false≢true e)
back_send u (what.Cast o k) e f = absurd (false≢true e)
back_send u (what.Casted k) e f = absurd (false≢true e)
back_send u what.Done e f = absurd (false≢true e)
back_send u what.Stop e f = absurd (false≢true e)
back_send u (what.Arrive a b) e f = absurd (false≢true e)
back_send u (what.Order a b c) e f = absurd (false≢true e)

pub request_send : (u : ℕ) (w : What) → is_send (u, w) ≡ true → (u == 2) ≡ true → is_asked 1 w ≡ true
request_send u (what.Request k) e f = refl
request_send u (what.PutSelf d) e f = absurd (omega (arith, eqb-true u 1 e, eqb-true u 2 f))
request_send u (what.Reply k) e f = absurd (false≢true e)
request_send u (what.Visit o k d) e f = absurd (false≢true e)
request_send u (what.Visited k) e f = absurd (false≢true e)
request_send u (what.Cast o k) e f = absurd (false≢true e)
request_send u (what.Casted k) e f = absurd (false≢true e)
request_send u what.Done e f = absurd (false≢true e)
request_send u what.Stop e f = absurd (false≢true e)
request_send u (what.Arrive a b) e f = absurd (false≢true e)
request_send u (what.Order a b c) e f = absurd (false≢true e)

-- what goes to one receiver is of one kind
pub kind_to : (t : ℕ) (q : What → Bool) → ((u : ℕ) (w : What) → is_send (u, w) ≡ true → (u == t) ≡ true → q w ≡ true)
    → (ps : List (ℕ × What)) → list_all is_send ps ≡ true → list_all q (to_thread t ps) ≡ true
kind_to t q means [] e = refl
kind_to t q means (p ∷ ps) e =
    let both = and_parts (is_send p) (list_all is_send ps) e in
    at (p.0 == t) refl both.0 (kind_to t q means ps both.1)
  where
    at : (b : Bool) → (p.0 == t) ≡ b → is_send p ≡ true → list_all q (to_thread t ps) ≡ true
        → list_all q (map (λ (r : ℕ × What). r.1) (cond b (p ∷ filter (λ r. r.0 == t) ps) (filter (λ r. r.0 == t) ps))) ≡ true
    at true is fits rest = and_from (q p.1) _ (means p.0 p.1 fits is) rest
    at false is fits rest = rest

-- ---- Senders

-- of two senders: what holds of what was run of each holds of all that was run
pub of_senders : (P : ℕ → What → Bool) (a b : ℕ) (ran : List Tag) → list_all (λ m. m.sender == a || m.sender == b) ran ≡ true
    → list_all (P a) (run_from a ran) ≡ true → list_all (P b) (run_from b ran) ≡ true → AllByRecursion (λ (m : Tag). P m.sender m.what ≡ true) ran
of_senders P a b [] e f g = tt
of_senders P a b (m ∷ ran) e f g =
    let both = and_parts (m.sender == a || m.sender == b) _ e in
    let now = at_a (m.sender == a) refl f in
    let other = at_b (m.sender == b) refl g in
    (first (m.sender == a) (m.sender == b) refl refl both.0 now.0 other.0, of_senders P a b ran both.1 now.1 other.1)
  where
    at_a : (t : Bool) → (m.sender == a) ≡ t → list_all (P a) (map (λ (x : Tag). x.what) (cond t (m ∷ filter (λ x. x.sender == a) ran) (filter (λ x. x.sender == a) ran))) ≡ true
        → (t ≡ true → P a m.what ≡ true) × (list_all (P a) (run_from a ran) ≡ true)
    at_a true is e = let both = and_parts (P a m.what) _ e in ((λ h. both.0), both.1)
    at_a false is e = ((λ h. absurd (false≢true h)), e)

    at_b : (t : Bool) → (m.sender == b) ≡ t → list_all (P b) (map (λ (x : Tag). x.what) (cond t (m ∷ filter (λ x. x.sender == b) ran) (filter (λ x. x.sender == b) ran))) ≡ true
        → (t ≡ true → P b m.what ≡ true) × (list_all (P b) (run_from b ran) ≡ true)
    at_b true is e = let both = and_parts (P b m.what) _ e in ((λ h. both.0), both.1)
    at_b false is e = ((λ h. absurd (false≢true h)), e)

    first : (t u : Bool) → (m.sender == a) ≡ t → (m.sender == b) ≡ u → (t || u) ≡ true → (t ≡ true → P a m.what ≡ true) → (u ≡ true → P b m.what ≡ true) → P m.sender m.what ≡ true
    first true u is is' e f g = subst (λ n. P n m.what ≡ true) (sym (eqb-true m.sender a is)) (f refl)
    first false true is is' e f g = subst (λ n. P n m.what ≡ true) (sym (eqb-true m.sender b is')) (g refl)
    first false false is is' e f g = absurd (false≢true e)

-- nothing was run of a third
pub none_from : (c a b : ℕ) → c ≢ a → c ≢ b → (ran : List Tag) → list_all (λ m. m.sender == a || m.sender == b) ran ≡ true → run_from c ran ≡ []
none_from c a b na nb [] e = refl
none_from c a b na nb (m ∷ ran) e =
    let both = and_parts (m.sender == a || m.sender == b) _ e in
    ap (λ t. map (λ (x : Tag). x.what) (cond t (m ∷ filter (λ x. x.sender == c) ran) (filter (λ x. x.sender == c) ran))) (ne_eqb m.sender c (λ h. other (m.sender == a) (m.sender == b) refl refl both.0 h))
    ∙ none_from c a b na nb ran both.1
  where
    other : (t u : Bool) → (m.sender == a) ≡ t → (m.sender == b) ≡ u → (t || u) ≡ true → m.sender ≡ c → ⊥
    other true u is is' e h = na (omega (arith, h, eqb-true m.sender a is))
    other false true is is' e h = nb (omega (arith, h, eqb-true m.sender b is'))
    other false false is is' e h = false≢true e
