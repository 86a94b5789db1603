-- Requests: each comes of one line of its client that says that it was sent.
use Rattle.std.proofs.Common.{◌≡◌, ℕ, ◌+◌, ◌≤◌, ◌==◌, Bool, true, false, cond, ◌&&◌, List, [], ◌∷◌, ◌++◌, map, length, Option, Some, None, option_map, option_to_list, refl, sym, ap, subst, ◌∙◌, arith, inl, inr}
use Rattle.std.specs.List.{list_all, flat_map, AllByRecursion}
use Rattle.std.proofs.lemmas.Bool.{and_parts, eqb-true, eq-eqb, false≢true}
use Rattle.std.proofs.lemmas.List.{map-append}
use Rattle.lw_base.specs.declared.message.What.{What}
use Rattle.lw_base.specs.declared.message.What.TheVariants as what
use Rattle.lw_model.specs.declared.script.Script.{Script}
use Rattle.lw_model.specs.declared.script.Op.{Op}
use Rattle.lw_model.specs.declared.script.Op.TheVariants as op
use Rattle.lw_model.specs.declared.record.Replied.{Replied}
use Rattle.lw_model.specs.declared.record.Answer.{Answer}
use Rattle.lw_model.specs.declared.record.Answer.TheVariants as answer
use Rattle.lw_model.specs.declared.step.Step.{Step}
use Rattle.lw_model.specs.declared.step.Step.TheVariants as step
use Rattle.lw_model.specs.Threads.{owner_of, is_client, is_owner, op_at, image_at, is_on, images}
use Rattle.lw_model.specs.OwnOrder.{with_past}
use Rattle.lw_model.specs.Holding.{is_sent, held}
use Rattle.lw_model.specs.Answers.{answer_fits, get_fits}
use Rattle.lw_model.specs.Replay.{answer_after}
use Rattle.lw_model.specs.Sent.{token_of, token_of_op, completion, referred, sent_last}
use Rattle.lw_whole.specs.Letters.{Letter, Load}
use Rattle.lw_whole.specs.Logs.{Log, addressed, steps, steps_with_past}
use Rattle.lw_whole.specs.Tokens.{GoesOn, empty_load}
use Rattle.lw_whole.specs.Sends.{Sets, SentByDid, SentByRan, SentBy, SentAlong, Replies}
use Rattle.lw_whole.specs.Lines.{client_line_fits}
use Rattle.lw_whole.proofs.TokenCounts.{Either}
use Rattle.lw_whole.proofs.TokenRuns.{count_of}
use Rattle.lw_whole.proofs.TokenBack.{Among, IsTo, IsSend}
use Rattle.lw_whole.proofs.AtStep.{AtStep}
use Rattle.lw_whole.proofs.ListedOnce.{line_fits, listed_once}

-- the request of op k
abbrev pub asks : ℕ → What → Bool
asks k (what.Request j) = j == k
asks k _ = false

pub asks_is : (k : ℕ) (v : What) → asks k v ≡ true → v ≡ what.Request k
asks_is k (what.Request j) e = ap what.Request (eqb-true j k e)
asks_is k (what.Reply j) e = absurd (false≢true e)
asks_is k (what.PutSelf j) e = absurd (false≢true e)
asks_is k (what.Visit a b c) e = absurd (false≢true e)
asks_is k (what.Visited j) e = absurd (false≢true e)
asks_is k (what.Cast a b) e = absurd (false≢true e)
asks_is k (what.Casted j) e = absurd (false≢true e)
asks_is k what.Done e = absurd (false≢true e)
asks_is k what.Stop e = absurd (false≢true e)
asks_is k (what.Arrive a b) e = absurd (false≢true e)
asks_is k (what.Order a b c) e = absurd (false≢true e)

-- a line that says that op k was sent
abbrev pub sends_op : Script → ℕ → ℕ → Step → Bool
sends_op s t k (step.Did i x) = is_client s t && is_sent x.answer && x.op == k
sends_op s t k _ = false

-- how many of these are the request of op k
abbrev pub count_asks : ℕ → List (ℕ × What) → ℕ
count_asks k [] = 0
count_asks k (p ∷ ps) = cond (asks k p.1) 1 0 + count_asks k ps

pub count_asks-append : (k : ℕ) (ps qs : List (ℕ × What)) → count_asks k (ps ++ qs) ≡ count_asks k ps + count_asks k qs
count_asks-append k [] qs = omega arith
count_asks-append k (p ∷ ps) qs = omega (arith, count_asks-append k ps qs)

abbrev NoneAsks : ℕ → List (ℕ × What) → Type 0
NoneAsks k ps = AllByRecursion (λ p. asks k p.1 ≡ false) ps

none_asks : (k : ℕ) (ps : List (ℕ × What)) → NoneAsks k ps → count_asks k ps ≡ 0
none_asks k [] h = refl
none_asks k (p ∷ ps) h = omega (arith, ap {B = ℕ} (λ b. cond b 1 0) h.0, none_asks k ps h.1)

completion_asks : (k : ℕ) (w : What) → NoneAsks k (completion w)
completion_asks k (what.Visit a b c) = (refl, tt)
completion_asks k (what.Cast a b) = (refl, tt)
completion_asks k _ = tt

token_asks : (s : Script) (k : ℕ) (w : What) (from : ℕ) (load : Load) (now : List (ℕ × Letter)) → asks k w ≡ false → GoesOn s w from load now → count_asks k (addressed now) ≡ 0
token_asks s k w from load [] none h = refl
token_asks s k w from load (p ∷ []) none (inl to) = omega (arith, ap {B = ℕ} (λ b. cond b 1 0) (ap (asks k) to.token ∙ none))
token_asks s k w from load (p ∷ []) none (inr back) = ap (count_asks k) back.completes ∙ none_asks k (completion w) (completion_asks k w)
token_asks s k w from load (p ∷ q ∷ rest) none h = absurd h

putselfs_asks : (k t : ℕ) (ds : List ℕ) → NoneAsks k (map (λ d. (t, what.PutSelf d)) ds)
putselfs_asks k t [] = tt
putselfs_asks k t (d ∷ ds) = (refl, putselfs_asks k t ds)

token_of_op_asks : (s : Script) (k t j : ℕ) (w : What) → token_of s t j ≡ Some w → asks k w ≡ false
token_of_op_asks s k t j w e = at (op_at s t j) e
  where
    at : (o : Option Op) → elim o [ None ↦ None | Some x ↦ token_of_op t j x ] ≡ Some w → asks k w ≡ false
    at None e = cc
    at (Some (op.Visit d)) e = let is : what.Visit t j d ≡ w = cc in ap (asks k) (sym is)
    at (Some op.Each) e = let is : what.Cast t j ≡ w = cc in ap (asks k) (sym is)
    at (Some _) e = cc

module _ (s : Script) (t k : ℕ) (l : Log) where
  line_asks : (past : List Step) (i at j : ℕ) (a : Answer) (now : List (ℕ × Letter)) → is_client s t ≡ true → SentByDid s t past (record { at = at; op = j; answer = a }) now
      → count_asks k (addressed now) ≤ cond (sends_op s t k (step.Did i (record { at = at; op = j; answer = a }))) 1 0
  line_asks past i at j answer.Sent now c h = omega (
    arith,
    ap (count_asks k) h,
    one (image_at s t j),
    ap {B = ℕ} (λ b. cond (b && true && j == k) 1 0) c,
  )
    where
      one : (o : Option ℕ) → count_asks k (option_to_list (option_map (λ d. (owner_of s d, what.Request j)) o)) ≤ cond (j == k) 1 0
      one None = omega arith
      one (Some d) = omega arith
  line_asks past i at j answer.Deferred now c h = omega (arith, ap (count_asks k) h, one (image_at s t j))
    where
      one : (o : Option ℕ) → count_asks k (option_to_list (option_map (λ d. (t, what.PutSelf d)) o)) ≡ 0
      one None = refl
      one (Some d) = refl
  line_asks past i at j answer.Closed now c h = omega (arith, ap (count_asks k) h, none_asks k _ (putselfs_asks k t (referred s t past)))
  line_asks past i at j answer.Started now c h = token (token_of s t j) refl h
    where
      token : (o : Option What) → token_of s t j ≡ o → Sets s o now → count_asks k (addressed now) ≤ cond (sends_op s t k (step.Did i (record { at = at; op = j; answer = answer.Started }))) 1 0
      token None e h = omega (arith, ap (λ z. count_asks k (addressed z)) h)
      token (Some w) e h = omega (arith, token_asks s k w 0 (empty_load w) now (token_of_op_asks s k t j w e) h)
  line_asks past i at j _ now c h = omega (arith, ap (λ z. count_asks k (addressed z)) h)

  ran_asks : (past : List Step) (i sender number : ℕ) (v : What) (now : List (ℕ × Letter)) → SentByRan s t l past i (record { sender = sender; number = number; what = v }) now → count_asks k (addressed now) ≡ 0
  ran_asks past i sender number (what.Request j) now h = by (is_owner s t) h
    where
      by : (b : Bool) → Either b (Replies s t past (record { sender = sender; number = number; what = what.Request j }) j now) (now ≡ []) → count_asks k (addressed now) ≡ 0
      by true h = ap (count_asks k) h.reply
      by false h = ap (λ z. count_asks k (addressed z)) h
  ran_asks past i sender number (what.Visit a b c) now h = token_asks s k (what.Visit a b c) (t + 1) _ now refl h
  ran_asks past i sender number (what.Cast a b) now h = token_asks s k (what.Cast a b) (t + 1) _ now refl h
  ran_asks past i sender number _ now h = ap (λ z. count_asks k (addressed z)) h

  step_asks : (past : List Step) (x : Step) (now : List (ℕ × Letter)) → SentBy s t l past x now → count_asks k (addressed now) ≤ cond (sends_op s t k x) 1 0
  step_asks past (step.Did i x) now h = by (is_client s t) refl h
    where
      by : (b : Bool) → is_client s t ≡ b → Either b (SentByDid s t past x now) (now ≡ []) → count_asks k (addressed now) ≤ cond (sends_op s t k (step.Did i x)) 1 0
      by true c h = line_asks past i x.at x.op x.answer now c h
      by false c h = omega (arith, ap (λ z. count_asks k (addressed z)) h)
  step_asks past (step.Called i x) now h = omega (arith, ap (λ z. count_asks k (addressed z)) h)
  step_asks past (step.Ran i m) now h = omega (arith, ran_asks past i m.sender m.number m.what now h)

  -- as many requests go out at most as lines say that the op was sent
  pub few_asked : (past rest : List Step) (sends : List (List (ℕ × Letter))) → SentAlong s t l (with_past past rest) sends → count_asks k (addressed (flat_map (λ now. now) sends)) ≤ count_of (sends_op s t k) rest
  few_asked past [] [] h = omega arith
  few_asked past [] (now ∷ sends) h = absurd h
  few_asked past (x ∷ rest) [] h = absurd h
  few_asked past (x ∷ rest) (now ∷ sends) h = omega (
    arith,
    step_asks past x now h.0,
    few_asked (x ∷ past) rest sends h.1,
    ap (count_asks k) (map-append (λ (p : ℕ × Letter). (p.0, p.1.tag.what)) now (flat_map (λ now. now) sends)),
    count_asks-append k (addressed now) (addressed (flat_map (λ now. now) sends)),
  )

pub last_asks : (s : Script) (t k : ℕ) → count_asks k (sent_last s t) ≡ 0
last_asks s t k = by (is_client s t) (t == 0)
  where
    stops : (ds : List ℕ) → count_asks k (map (λ d. (owner_of s d, what.Stop)) ds) ≡ 0
    stops [] = refl
    stops (d ∷ ds) = omega (arith, stops ds)

    by : (a b : Bool) → count_asks k (cond a ((0, what.Done) ∷ []) (cond b (map (λ d. (owner_of s d, what.Stop)) (images s)) [])) ≡ 0
    by true b = refl
    by false true = stops (images s)
    by false false = refl

-- the request of op k went to the owner of its image, and has an answer
pub record Asked (s : Script) (t k o : ℕ) : Type 0 where
  pub client : is_client s t ≡ true
  pub image : ℕ
  pub image_is : image_at s t k ≡ Some image
  pub owner : o ≡ owner_of s image
  pub request : Op
  pub request_is : op_at s t k ≡ Some request
  pub answered : (block : ℕ) (past : List (Option Op)) → (a : Replied) × (answer_after block past request ≡ Some a)

sent_is_request : (s : Script) (t : ℕ) (past : List Step) (o : Option Op) → answer_fits s t past o answer.Sent ≡ true → (x : Op) × (o ≡ Some x) × ((block : ℕ) (before : List (Option Op)) → (a : Replied) × (answer_after block before x ≡ Some a))
sent_is_request s t past None e = absurd (false≢true e)
sent_is_request s t past (Some (op.Get d)) e = absurd (at (held (is_on s t d) d past) e)
  where
    at : (h : Option ℕ) → get_fits h answer.Sent ≡ true → ⊥
    at None e = false≢true e
    at (Some n) e = false≢true e
sent_is_request s t past (Some (op.Put d)) e = absurd (false≢true e)
sent_is_request s t past (Some (op.Write d start count pattern)) e = (op.Write d start count pattern, refl, λ block before. (_, refl))
sent_is_request s t past (Some (op.Read d start count)) e = (op.Read d start count, refl, λ block before. (_, refl))
sent_is_request s t past (Some (op.Flush d)) e = (op.Flush d, refl, λ block before. (_, refl))
sent_is_request s t past (Some (op.Wait d)) e = absurd (false≢true e)
sent_is_request s t past (Some (op.Visit d)) e = absurd (false≢true e)
sent_is_request s t past (Some op.Each) e = absurd (false≢true e)
sent_is_request s t past (Some (op.Unregister d)) e = absurd (false≢true e)

-- who gets the one message of a step, and which it is
pub only_one : (o u : ℕ) (v : What) (x : Letter) (now : List (ℕ × Letter)) → addressed now ≡ (u, v) ∷ [] → Among (IsTo o (λ y. y ≡ x)) now → (o ≡ u) × (x.tag.what ≡ v)
only_one o u v x [] e g = absurd g
only_one o u v x (p ∷ []) e (inl is) = (sym is.0 ∙ ap first e, ap (λ (y : Letter). y.tag.what) (sym is.1) ∙ ap second e)
  where
    first : List (ℕ × What) → ℕ
    first [] = 0
    first (q ∷ qs) = q.0

    second : List (ℕ × What) → What
    second [] = v
    second (q ∷ qs) = q.1
only_one o u v x (p ∷ []) e (inr g) = absurd g
only_one o u v x (p ∷ q ∷ rest) e g = absurd (omega (arith, ap length e))

module _ (s : Script) (t k o : ℕ) (l : Log) where
  pub some_asks : (now : List (ℕ × Letter)) → Among (IsSend o (what.Request k)) now → 1 ≤ count_asks k (addressed now)
  some_asks [] g = absurd g
  some_asks (p ∷ now) (inl is) = omega (arith, ap {B = ℕ} (λ b. cond b 1 0) (ap (asks k) is.1 ∙ eq-eqb k k refl))
  some_asks (p ∷ now) (inr g) = omega (arith, some_asks now g)

  line_asked : (past : List Step) (i at j : ℕ) (a : Answer) (now : List (ℕ × Letter)) → is_client s t ≡ true → is_sent a ≡ true → j ≡ k → answer_fits s t past (op_at s t j) a ≡ true
      → SentByDid s t past (record { at = at; op = j; answer = a }) now → Among (IsSend o (what.Request k)) now → Asked s t k o
  line_asked past i at j answer.Sent now c e same fits h g = of_image (image_at s t j) refl h
    where
      receiver : (u : ℕ) (v : What) (now : List (ℕ × Letter)) → addressed now ≡ (u, v) ∷ [] → Among (IsSend o (what.Request k)) now → o ≡ u
      receiver u v [] e g = absurd g
      receiver u v (p ∷ []) e (inl is) = sym is.0 ∙ ap first e
        where
          first : List (ℕ × What) → ℕ
          first [] = 0
          first (q ∷ qs) = q.0
      receiver u v (p ∷ []) e (inr g) = absurd g
      receiver u v (p ∷ q ∷ rest) e g = absurd (omega (arith, ap length e))

      of_image : (m : Option ℕ) → image_at s t j ≡ m → addressed now ≡ option_to_list (option_map (λ d. (owner_of s d, what.Request j)) m) → Asked s t k o
      of_image None f h = absurd (omega (arith, some_asks now g, ap (count_asks k) h))
      of_image (Some d) f h =
          let q = sent_is_request s t past (op_at s t j) fits in
          record {
            client = c;
            image = d;
            image_is = ap (image_at s t) (sym same) ∙ f;
            owner = receiver (owner_of s d) (what.Request j) now h g;
            request = q.0;
            request_is = ap (op_at s t) (sym same) ∙ q.1;
            answered = q.2;
          }
  line_asked past i at j answer.Deferred now c e same fits h g = absurd (false≢true e)
  line_asked past i at j answer.Closed now c e same fits h g = absurd (false≢true e)
  line_asked past i at j answer.Started now c e same fits h g = absurd (false≢true e)
  line_asked past i at j _ now c e same fits h g = absurd (false≢true e)

  -- who sent the request of op k has a line that says so
  pub asked_at : (is_client s t ≡ true → list_all (λ p. client_line_fits s t p.0 p.1) (steps_with_past l) ≡ true) → AtStep s t l (IsSend o (what.Request k)) → Asked s t k o
  asked_at fits a = of_this a.this refl (sends_op s t k a.this) refl
    where
      some : 1 ≤ count_asks k (addressed a.now)
      some = some_asks a.now a.among

      of_this : (x : Step) → a.this ≡ x → (b : Bool) → sends_op s t k a.this ≡ b → Asked s t k o
      of_this x is false e = absurd (omega (arith, some, step_asks s t k l a.past a.this a.now a.sent, ap {B = ℕ} (λ b. cond b 1 0) e))
      of_this (step.Did i x) is true e =
          let e' = ap (sends_op s t k) (sym is) ∙ e in
          let both = and_parts (is_client s t && is_sent x.answer) (x.op == k) e' in
          let c = and_parts (is_client s t) (is_sent x.answer) both.0 in
          let line = line_fits s t a.past i x (ap (client_line_fits s t a.past) (sym is) ∙ a.each (client_line_fits s t) (fits c.0)) in
          line_asked a.past i x.at x.op x.answer a.now c.0 c.1 (eqb-true x.op k both.1) (ap (λ j. answer_fits s t a.past (op_at s t j) x.answer) line.op ∙ line.answer)
          (by (is_client s t) c.0 (subst (λ z. SentBy s t l a.past z a.now) is a.sent)) a.among
        where
          by : (b : Bool) → b ≡ true → Either b (SentByDid s t a.past x a.now) (a.now ≡ []) → SentByDid s t a.past x a.now
          by true f h = h
          by false f h = absurd (false≢true f)
      of_this (step.Called i x) is true e = absurd (false≢true (ap (sends_op s t k) (sym is) ∙ e))
      of_this (step.Ran i m) is true e = absurd (false≢true (ap (sends_op s t k) (sym is) ∙ e))

  -- the request of an op went out once at most
  pub asked_once : list_all (λ p. client_line_fits s t p.0 p.1) (steps_with_past l) ≡ true → SentAlong s t l (steps_with_past l) l.sends → count_asks k (addressed (flat_map (λ now. now) l.sends)) ≤ 1
  asked_once fits h = omega (
    arith,
    few_asked s t k l [] (steps l) l.sends h,
    listed_once s t k (sends_op s t k) (λ i x e. eqb-true x.op k (and_parts (is_client s t && is_sent x.answer) (x.op == k) e).1) (λ i x. refl) (λ i m. refl) [] (steps l) fits,
  )
