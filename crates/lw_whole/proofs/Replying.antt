-- What an owner replies to a request is what stands under it in the journal, run one by one.
use Rattle.std.proofs.Common.{◌≡◌, ℕ, ◌+◌, ◌≤◌, ◌==◌, Bool, true, false, cond, ◌&&◌, List, [], ◌∷◌, ◌++◌, map, zip, length, Option, None, refl, sym, ap, ap₂, subst, ◌∙◌, arith, inl, inr}
use Rattle.std.specs.Prelude.{◌⊎◌, filter_map, option_and_then}
use Rattle.std.specs.List.{flat_map, enumerate_from, AllByRecursion}
use Rattle.std.proofs.lemmas.Bool.{and_from, eq-eqb, false≢true}
use Rattle.lw_base.specs.declared.message.Tag.{Tag}
use Rattle.lw_base.specs.declared.message.What.{What}
use Rattle.lw_base.specs.declared.message.What.TheVariants as what
use Rattle.lw_model.specs.declared.script.Script.{Script}
use Rattle.lw_model.specs.declared.script.Op.{Op}
use Rattle.lw_model.specs.declared.record.Did.{Did}
use Rattle.lw_model.specs.declared.record.Replied.{Replied}
use Rattle.lw_model.specs.declared.step.Step.{Step}
use Rattle.lw_model.specs.declared.step.Step.TheVariants as step
use Rattle.lw_model.specs.Threads.{is_client, is_owner, op_at}
use Rattle.lw_model.specs.OwnOrder.{with_past, in_order, put_in, at_of}
use Rattle.lw_model.specs.Journal.{request_of, look_up}
use Rattle.lw_model.specs.Replay.{replay, answer_after}
use Rattle.lw_model.specs.Sent.{completion}
use Rattle.lw_model.proofs.Callbacks.{put_first}
use Rattle.lw_whole.specs.Letters.{Letter, Load}
use Rattle.lw_whole.specs.Logs.{Log, addressed, steps}
use Rattle.lw_whole.specs.Tokens.{GoesOn}
use Rattle.lw_whole.specs.Sends.{answer_in, answers_in, block_of_owner, ops_run, SentByDid, SentByRan, SentBy, SentAlong, Replies}
use Rattle.lw_whole.proofs.TokenCounts.{Either}
use Rattle.lw_whole.proofs.TokenBack.{Among, among_either, IsTo}
use Rattle.lw_whole.proofs.Requests.{asks, only_one}
use Rattle.lw_whole.proofs.Plain.{Rare, none_of, line_none, step_none}

-- ---- replies

abbrev pub is_reply : What → Bool
is_reply (what.Reply k) = true
is_reply _ = false

pub replies_rare : Rare is_reply
replies_rare = record { request = λ k. refl; putself = λ d. refl; visit = λ o k d. refl; visited = λ k. refl; cast = λ o k. refl; casted = λ k. refl }

-- who sends a reply is an owner
pub reply_of_owner : (s : Script) (o t : ℕ) (l : Log) (past : List Step) (x : Step) (now : List (ℕ × Letter)) (y : Letter) → is_reply y.tag.what ≡ true → SentBy s o l past x now → Among (IsTo t (λ z. z ≡ y)) now → is_owner s o ≡ true
reply_of_owner s o t l past x now y e h g = at (is_owner s o) refl
  where
    at : (b : Bool) → is_owner s o ≡ b → is_owner s o ≡ true
    at true f = f
    at false f = absurd (none_of is_reply t y now e (step_none is_reply replies_rare s o l (λ k own. absurd (false≢true (sym f ∙ own))) past x now h) g)

-- a reply is that of the request that was run, with its answer
pub record Answers (s : Script) (o t k : ℕ) (past : List Step) (sender : ℕ) (v : What) (y : Letter) : Type 0 where
  pub sender_is : sender ≡ t
  pub request : v ≡ what.Request k
  pub answer : answer_in y.load ≡ option_and_then (answer_after (block_of_owner s o) (ops_run s past)) (op_at s t k)

abbrev reply_op : What → ℕ
reply_op (what.Reply k) = k
reply_op _ = 0

module _ (s : Script) (o t k : ℕ) (l : Log) (y : Letter) (reply : y.tag.what ≡ what.Reply k) where
  only_answer : (b : Option Replied) (now : List (ℕ × Letter)) → answers_in now ≡ b ∷ [] → Among (IsTo t (λ z. z ≡ y)) now → answer_in y.load ≡ b
  only_answer b [] e g = absurd g
  only_answer b (p ∷ []) e (inl is) = ap (λ (z : Letter). answer_in z.load) (sym is.1) ∙ ap first e
    where
      first : List (Option Replied) → Option Replied
      first [] = None
      first (q ∷ qs) = q
  only_answer b (p ∷ []) e (inr g) = absurd g
  only_answer b (p ∷ q ∷ rest) e g = absurd (omega (arith, ap length e))

  token_no_reply : (w : What) (from : ℕ) (load : Load) (now : List (ℕ × Letter)) → is_reply w ≡ false → GoesOn s w from load now → Among (IsTo t (λ z. z ≡ y)) now → ⊥
  token_no_reply w from load [] e h g = g
  token_no_reply w from load (p ∷ []) e h (inr g) = g
  token_no_reply w from load (p ∷ []) e (inl to) (inl is) = false≢true (sym e ∙ ap is_reply (sym to.token) ∙ ap (λ (z : Letter). is_reply z.tag.what) is.1 ∙ ap is_reply reply)
  token_no_reply w from load (p ∷ []) e (inr home) (inl is) = none_home w home.completes
    where
      none_home : (w : What) → addressed (p ∷ []) ≡ completion w → ⊥
      none_home w e = false≢true (sym (home_kind w (p.0, p.1.tag.what) e) ∙ ap (λ (z : Letter). is_reply z.tag.what) is.1 ∙ ap is_reply reply)
        where
          home_kind : (w : What) (q : ℕ × What) → q ∷ [] ≡ completion w → is_reply q.1 ≡ false
          home_kind (what.Visit a b c) q e = ap last e
            where
              last : List (ℕ × What) → Bool
              last [] = false
              last (q ∷ qs) = is_reply q.1
          home_kind (what.Cast a b) q e = ap last e
            where
              last : List (ℕ × What) → Bool
              last [] = false
              last (q ∷ qs) = is_reply q.1
          home_kind _ q e = cc
  token_no_reply w from load (p ∷ q ∷ rest) e h g = absurd h

  ran_answers : (past : List Step) (i sender number : ℕ) (v : What) (now : List (ℕ × Letter)) → SentByRan s o l past i (record { sender = sender; number = number; what = v }) now → Among (IsTo t (λ z. z ≡ y)) now → Answers s o t k past sender v y
  ran_answers past i sender number (what.Request j) now h g = by (is_owner s o) h
    where
      by : (b : Bool) → Either b (Replies s o past (record { sender = sender; number = number; what = what.Request j }) j now) (now ≡ []) → Answers s o t k past sender (what.Request j) y
      by true h =
          let one = only_one t sender (what.Reply j) y now h.reply g in
          let op_is : j ≡ k = ap reply_op (sym one.1 ∙ reply) in
          record {
            sender_is = sym one.0;
            request = ap what.Request op_is;
            answer = only_answer _ now h.answer g ∙ ap₂ (λ a c. option_and_then (answer_after (block_of_owner s o) (ops_run s past)) (op_at s a c)) (sym one.0) op_is;
          }
      by false h = absurd (subst (Among (IsTo t (λ z. z ≡ y))) h g)
  ran_answers past i sender number (what.Visit a b c) now h g = absurd (token_no_reply (what.Visit a b c) (o + 1) _ now refl h g)
  ran_answers past i sender number (what.Cast a b) now h g = absurd (token_no_reply (what.Cast a b) (o + 1) _ now refl h g)
  ran_answers past i sender number _ now h g = absurd (subst (Among (IsTo t (λ z. z ≡ y))) h g)

  -- at whichever step it was sent
  pub step_answers : (past : List Step) (x : Step) (now : List (ℕ × Letter)) → SentBy s o l past x now → Among (IsTo t (λ z. z ≡ y)) now
      → answer_in y.load ≡ option_and_then (answer_after (block_of_owner s o) (ops_run s past)) (op_at s t k)
  step_answers past (step.Did i x) now h g = by (is_client s o) h
    where
      by : (b : Bool) → Either b (SentByDid s o past x now) (now ≡ []) → answer_in y.load ≡ option_and_then (answer_after (block_of_owner s o) (ops_run s past)) (op_at s t k)
      by true h = absurd (none_of is_reply t y now (ap is_reply reply) (line_none is_reply replies_rare s o l past x.at x.op x.answer now h) g)
      by false h = absurd (subst (Among (IsTo t (λ z. z ≡ y))) h g)
  step_answers past (step.Called i x) now h g = absurd (subst (Among (IsTo t (λ z. z ≡ y))) h g)
  step_answers past (step.Ran i m) now h g = (ran_answers past i m.sender m.number m.what now h g).answer

  -- ---- the journal

  abbrev journal_of : List Tag → List (ℕ × ℕ)
  journal_of ms = filter_map request_of ms

  abbrev answers_of : List (Option Op) → List (ℕ × ℕ) → List (Option Replied)
  answers_of past js = replay (block_of_owner s o) past (map (λ e. op_at s e.0 e.1) js)

  abbrev rans_from : ℕ → List Tag → List Step
  rans_from n ms = map (λ p. step.Ran p.0 p.1) (enumerate_from n ms)

  -- how many of these messages are the request
  abbrev pub count_asked : List Tag → ℕ
  count_asked [] = 0
  count_asked (m ∷ ms) = cond (m.sender == t && asks k m.what) 1 0 + count_asked ms

  pub some_asked : (n : ℕ) (past : List Step) (ms : List Tag) (sends : List (List (ℕ × Letter))) → SentAlong s o l (with_past past (rans_from n ms)) sends → Among (IsTo t (λ z. z ≡ y)) (flat_map (λ now. now) sends) → 1 ≤ count_asked ms
  some_asked n past [] [] h g = absurd g
  some_asked n past [] (now ∷ sends) h g = absurd h
  some_asked n past (m ∷ ms) [] h g = absurd h
  some_asked n past (m ∷ ms) (now ∷ sends) h g = elim (among_either (IsTo t (λ z. z ≡ y)) now (flat_map (λ now. now) sends) g) [
    | inl here ↦
        let f = ran_answers past n m.sender m.number m.what now h.0 here in
        omega (arith, ap {B = ℕ} (λ b. cond b 1 0) (and_from (m.sender == t) (asks k m.what) (eq-eqb m.sender t f.sender_is) (ap (asks k) f.request ∙ eq-eqb k k refl)))
    | inr later ↦ omega (arith, some_asked (n + 1) (step.Ran n m ∷ past) ms sends h.1 later)
  ]

  pub reply_found : (n : ℕ) (past : List Step) (ms : List Tag) (sends : List (List (ℕ × Letter))) → SentAlong s o l (with_past past (rans_from n ms)) sends → Among (IsTo t (λ z. z ≡ y)) (flat_map (λ now. now) sends) → count_asked ms ≤ 1
      → look_up t k (zip (journal_of ms) (answers_of (ops_run s past) (journal_of ms))) ≡ answer_in y.load
  reply_found n past [] [] h g few = absurd g
  reply_found n past [] (now ∷ sends) h g few = absurd h
  reply_found n past (m ∷ ms) [] h g few = absurd h
  reply_found n past (m ∷ ms) (now ∷ sends) h g few =
      at m.sender m.number m.what h.0 few (among_either (IsTo t (λ z. z ≡ y)) now (flat_map (λ now. now) sends) g)
      (λ later few. reply_found (n + 1) (step.Ran n m ∷ past) ms sends h.1 later few) (λ later. some_asked (n + 1) (step.Ran n m ∷ past) ms sends h.1 later)
    where
      Later : Type 0
      Later = Among (IsTo t (λ z. z ≡ y)) (flat_map (λ now. now) sends)

      at : (sender number : ℕ) (v : What) → SentByRan s o l past n (record { sender = sender; number = number; what = v }) now → cond (sender == t && asks k v) 1 0 + count_asked ms ≤ 1 → Among (IsTo t (λ z. z ≡ y)) now ⊎ Later
          → (Later → count_asked ms ≤ 1 → look_up t k (zip (journal_of ms) (answers_of (ops_run s (step.Ran n (record { sender = sender; number = number; what = v }) ∷ past)) (journal_of ms))) ≡ answer_in y.load)
          → (Later → 1 ≤ count_asked ms)
          → look_up t k (zip (journal_of (record { sender = sender; number = number; what = v } ∷ ms)) (answers_of (ops_run s past) (journal_of (record { sender = sender; number = number; what = v } ∷ ms)))) ≡ answer_in y.load
      at sender number (what.Request j) h few (inl here) go some =
          let f = ran_answers past n sender number (what.Request j) now h here in
          let op_is : j ≡ k = ap op_of_request f.request in
          ap (λ b. cond b (option_and_then (answer_after (block_of_owner s o) (ops_run s past)) (op_at s sender j)) (look_up t k (zip (journal_of ms) (answers_of (op_at s sender j ∷ ops_run s past) (journal_of ms)))))
          (and_from (sender == t) (j == k) (eq-eqb sender t f.sender_is) (eq-eqb j k op_is))
          ∙ ap₂ (λ a c. option_and_then (answer_after (block_of_owner s o) (ops_run s past)) (op_at s a c)) f.sender_is op_is ∙ sym f.answer
        where
          op_of_request : What → ℕ
          op_of_request (what.Request j) = j
          op_of_request _ = 0
      at sender number (what.Request j) h few (inr later) go some = skip (sender == t && j == k) few
        where
          skip : (b : Bool) → cond b 1 0 + count_asked ms ≤ 1
              → cond b (option_and_then (answer_after (block_of_owner s o) (ops_run s past)) (op_at s sender j)) (look_up t k (zip (journal_of ms) (answers_of (op_at s sender j ∷ ops_run s past) (journal_of ms)))) ≡ answer_in y.load
          skip true few = absurd (omega (arith, some later, few))
          skip false few = go later (omega (arith, few))
      at sender number v h few (inl here) go some =
          let f = ran_answers past n sender number v now h here in
          absurd (false≢true (ap (asks k) f.request ∙ eq-eqb k k refl))
      at sender number v h few (inr later) go some = go later (omega (arith, few))

-- the steps of a thread that only ran messages are its messages
later_rans : (n : ℕ) (ms : List Tag) (most : ℕ) → most ≤ n → AllByRecursion (λ (x : Step). most ≤ at_of x) (map (λ p. step.Ran p.0 p.1) (enumerate_from n ms))
later_rans n [] most h = tt
later_rans n (m ∷ ms) most h = (h, later_rans (n + 1) ms most (omega (arith, h)))

rans_ordered : (n : ℕ) (ms : List Tag) → in_order (map (λ p. step.Ran p.0 p.1) (enumerate_from n ms)) ≡ map (λ p. step.Ran p.0 p.1) (enumerate_from n ms)
rans_ordered n [] = refl
rans_ordered n (m ∷ ms) = ap (put_in (step.Ran n m)) (rans_ordered (n + 1) ms) ∙ put_first (step.Ran n m) (map (λ p. step.Ran p.0 p.1) (enumerate_from (n + 1) ms)) (later_rans (n + 1) ms n (omega arith))

pub owner_steps : (l : Log) → l.lines.did ≡ [] → steps l ≡ map (λ p. step.Ran p.0 p.1) (enumerate_from 0 l.lines.ran)
owner_steps l none = ap (λ (ds : List Did). in_order (map (λ p. step.Did p.0 p.1) (enumerate_from 0 ds) ++ [] ++ map (λ p. step.Ran p.0 p.1) (enumerate_from 0 l.lines.ran))) none ∙ rans_ordered 0 l.lines.ran
