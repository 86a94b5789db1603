-- How often a token was run, and whom it was sent to, by thread.
use Rattle.std.proofs.Common.{◌≡◌, ℕ, ◌+◌, ◌<◌, ◌==◌, Bool, true, false, cond, ◌&&◌, List, [], ◌∷◌, ◌++◌, map, Option, Some, None, option_map, option_to_list, refl, sym, ap, subst, ◌∙◌, arith, inl, inr}
use Rattle.std.specs.List.{AllByRecursion, flat_map}
use Rattle.std.proofs.lemmas.Bool.{and_parts, and_from, eqb-true, eq-eqb, ne_eqb, false≢true}
use Rattle.lw_base.specs.declared.message.What.{What}
use Rattle.lw_base.specs.declared.message.What.TheVariants as what
use Rattle.lw_model.specs.declared.script.Script.{Script}
use Rattle.lw_model.specs.declared.record.Answer.{Answer}
use Rattle.lw_model.specs.declared.record.Answer.TheVariants as answer
use Rattle.lw_model.specs.declared.step.Step.{Step}
use Rattle.lw_model.specs.declared.step.Step.TheVariants as step
use Rattle.lw_model.specs.Threads.{owner_of, is_client, is_owner, image_at}
use Rattle.lw_model.specs.Holding.{runs, is_started}
use Rattle.lw_model.specs.Sent.{is_same_token, token_of, completion, referred}
use Rattle.lw_whole.specs.Letters.{Letter, Load}
use Rattle.lw_whole.specs.Logs.{Log, addressed}
use Rattle.lw_whole.specs.Tokens.{GoesOn, empty_load}
use Rattle.lw_whole.specs.Sends.{Sets, SentByDid, SentByRan, SentBy, SentAlong, Replies}
use Rattle.lw_whole.proofs.Flow.{count_at}

-- one of two, by a test
abbrev pub Either : Bool → Type 0 → Type 0 → Type 0
Either b P Q = elim b [ true ↦ P | false ↦ Q ]

-- ---- tokens

pub same_is : (w v : What) → is_same_token w v ≡ true → v ≡ w
same_is (what.Visit o k d) (what.Visit o' k' d') e =
    let a = and_parts (o == o' && k == k') (d == d') e in
    let b = and_parts (o == o') (k == k') a.0 in
    ap (λ n. what.Visit n k' d') (sym (eqb-true o o' b.0)) ∙ ap (λ n. what.Visit o n d') (sym (eqb-true k k' b.1)) ∙ ap (λ n. what.Visit o k n) (sym (eqb-true d d' a.1))
same_is (what.Cast o k) (what.Cast o' k') e =
    let b = and_parts (o == o') (k == k') e in
    ap (λ n. what.Cast n k') (sym (eqb-true o o' b.0)) ∙ ap (λ n. what.Cast o n) (sym (eqb-true k k' b.1))
same_is (what.Visit o k d) (what.Request a) e = absurd (false≢true e)
same_is (what.Visit o k d) (what.Reply a) e = absurd (false≢true e)
same_is (what.Visit o k d) (what.PutSelf a) e = absurd (false≢true e)
same_is (what.Visit o k d) (what.Visited a) e = absurd (false≢true e)
same_is (what.Visit o k d) (what.Cast a b) e = absurd (false≢true e)
same_is (what.Visit o k d) (what.Casted a) e = absurd (false≢true e)
same_is (what.Visit o k d) what.Done e = absurd (false≢true e)
same_is (what.Visit o k d) what.Stop e = absurd (false≢true e)
same_is (what.Visit o k d) (what.Arrive a b) e = absurd (false≢true e)
same_is (what.Visit o k d) (what.Order a b c) e = absurd (false≢true e)
same_is (what.Cast o k) (what.Request a) e = absurd (false≢true e)
same_is (what.Cast o k) (what.Reply a) e = absurd (false≢true e)
same_is (what.Cast o k) (what.PutSelf a) e = absurd (false≢true e)
same_is (what.Cast o k) (what.Visit a b c) e = absurd (false≢true e)
same_is (what.Cast o k) (what.Visited a) e = absurd (false≢true e)
same_is (what.Cast o k) (what.Casted a) e = absurd (false≢true e)
same_is (what.Cast o k) what.Done e = absurd (false≢true e)
same_is (what.Cast o k) what.Stop e = absurd (false≢true e)
same_is (what.Cast o k) (what.Arrive a b) e = absurd (false≢true e)
same_is (what.Cast o k) (what.Order a b c) e = absurd (false≢true e)
same_is (what.Request a) v e = absurd (false≢true e)
same_is (what.Reply a) v e = absurd (false≢true e)
same_is (what.PutSelf a) v e = absurd (false≢true e)
same_is (what.Visited a) v e = absurd (false≢true e)
same_is (what.Casted a) v e = absurd (false≢true e)
same_is what.Done v e = absurd (false≢true e)
same_is what.Stop v e = absurd (false≢true e)
same_is (what.Arrive a b) v e = absurd (false≢true e)
same_is (what.Order a b c) v e = absurd (false≢true e)

pub visit_same : (o k d : ℕ) → is_same_token (what.Visit o k d) (what.Visit o k d) ≡ true
visit_same o k d = and_from (o == o && k == k) (d == d) (and_from (o == o) (k == k) (eq-eqb o o refl) (eq-eqb k k refl)) (eq-eqb d d refl)

pub cast_same : (o k : ℕ) → is_same_token (what.Cast o k) (what.Cast o k) ≡ true
cast_same o k = and_from (o == o) (k == k) (eq-eqb o o refl) (eq-eqb k k refl)

-- none of these is the token w
abbrev pub NoneIs : What → List (ℕ × What) → Type 0
NoneIs w ps = AllByRecursion (λ p. is_same_token w p.1 ≡ false) ps

-- a completion is no token
pub not_completion : (w v : What) → NoneIs w (completion v)
not_completion w (what.Visit o k d) = (at w, tt)
  where
    at : (w : What) → is_same_token w (what.Visited k) ≡ false
    at (what.Visit a b c) = refl
    at (what.Cast a b) = refl
    at _ = refl
not_completion w (what.Cast o k) = (at w, tt)
  where
    at : (w : What) → is_same_token w (what.Casted k) ≡ false
    at (what.Visit a b c) = refl
    at (what.Cast a b) = refl
    at _ = refl
not_completion w _ = tt

-- a token goes on as itself or as its completion
goes_on_none : (s : Script) (w v : What) (from : ℕ) (load : Load) (now : List (ℕ × Letter)) → is_same_token w v ≡ false → GoesOn s v from load now → NoneIs w (addressed now)
goes_on_none s w v from load [] e h = tt
goes_on_none s w v from load (p ∷ []) e (inl to) = (ap (is_same_token w) to.token ∙ e, tt)
goes_on_none s w v from load (p ∷ []) e (inr home) = subst (NoneIs w) (sym home.completes) (not_completion w v)
goes_on_none s w v from load (p ∷ q ∷ rest) e h = absurd h

pub plain_none : (w : What) (ps : List (ℕ × What)) (now : List (ℕ × Letter)) → addressed now ≡ ps → NoneIs w ps → NoneIs w (addressed now)
plain_none w ps now e h = subst (NoneIs w) (sym e) h

-- whether a step of thread t starts token w
abbrev pub starts : Script → ℕ → What → Step → Bool
starts s t w (step.Did i x) = is_client s t && is_started x.answer && elim (token_of s t x.op) [ None ↦ false | Some v ↦ is_same_token w v ]
starts s t w _ = false

request_none : (w : What) (k : ℕ) → is_same_token w (what.Request k) ≡ false
request_none (what.Visit a b c) k = refl
request_none (what.Cast a b) k = refl
request_none _ k = refl

reply_none : (w : What) (k : ℕ) → is_same_token w (what.Reply k) ≡ false
reply_none (what.Visit a b c) k = refl
reply_none (what.Cast a b) k = refl
reply_none _ k = refl

putself_none : (w : What) (k : ℕ) → is_same_token w (what.PutSelf k) ≡ false
putself_none (what.Visit a b c) k = refl
putself_none (what.Cast a b) k = refl
putself_none _ k = refl

pub done_none : (w : What) → is_same_token w what.Done ≡ false
done_none (what.Visit a b c) = refl
done_none (what.Cast a b) = refl
done_none _ = refl

pub stop_none : (w : What) → is_same_token w what.Stop ≡ false
stop_none (what.Visit a b c) = refl
stop_none (what.Cast a b) = refl
stop_none _ = refl

putselfs_none : (w : What) (t : ℕ) (ds : List ℕ) → NoneIs w (map (λ d. (t, what.PutSelf d)) ds)
putselfs_none w t [] = tt
putselfs_none w t (d ∷ ds) = (putself_none w d, putselfs_none w t ds)

module _ (s : Script) (t : ℕ) (l : Log) (w : What) where
  did_none : (past : List Step) (at k : ℕ) (a : Answer) (now : List (ℕ × Letter)) → (is_started a && elim (token_of s t k) [ None ↦ false | Some v ↦ is_same_token w v ]) ≡ false
      → SentByDid s t past (record { at = at; op = k; answer = a }) now → NoneIs w (addressed now)
  did_none past at k answer.Sent now e h = plain_none w _ now h (one (image_at s t k))
    where
      one : (o : Option ℕ) → NoneIs w (option_to_list (option_map (λ d. (owner_of s d, what.Request k)) o))
      one None = tt
      one (Some d) = (request_none w k, tt)
  did_none past at k answer.Deferred now e h = plain_none w _ now h (one (image_at s t k))
    where
      one : (o : Option ℕ) → NoneIs w (option_to_list (option_map (λ d. (t, what.PutSelf d)) o))
      one None = tt
      one (Some d) = (putself_none w d, tt)
  did_none past at k answer.Closed now e h = plain_none w _ now h (putselfs_none w t (referred s t past))
  did_none past at k answer.Started now e h = one (token_of s t k) e h
    where
      one : (o : Option What) → elim o [ None ↦ false | Some v ↦ is_same_token w v ] ≡ false → Sets s o now → NoneIs w (addressed now)
      one None e h = plain_none w [] now (ap addressed h) tt
      one (Some v) e h = goes_on_none s w v 0 (empty_load v) now e h
  did_none past at k _ now e h = plain_none w [] now (ap addressed h) tt

  ran_none : (past : List Step) (i sender number : ℕ) (v : What) (now : List (ℕ × Letter)) → is_same_token w v ≡ false → SentByRan s t l past i (record { sender = sender; number = number; what = v }) now → NoneIs w (addressed now)
  ran_none past i sender number (what.Request k) now e h = at (is_owner s t) h
    where
      at : (b : Bool) → Either b (Replies s t past (record { sender = sender; number = number; what = what.Request k }) k now) (now ≡ []) → NoneIs w (addressed now)
      at true h = plain_none w _ now h.reply (reply_none w k, tt)
      at false h = plain_none w [] now (ap addressed h) tt
  ran_none past i sender number (what.Visit o k d) now e h = goes_on_none s w (what.Visit o k d) (t + 1) _ now e h
  ran_none past i sender number (what.Cast o k) now e h = goes_on_none s w (what.Cast o k) (t + 1) _ now e h
  ran_none past i sender number _ now e h = plain_none w [] now (ap addressed h) tt

  -- a step that neither starts nor runs the token doesn't send it
  pub others_none : (past : List Step) (x : Step) (now : List (ℕ × Letter)) → starts s t w x ≡ false → runs (is_same_token w) x ≡ false → SentBy s t l past x now → NoneIs w (addressed now)
  others_none past (step.Did i x) now e f h = at (is_client s t) e h
    where
      at : (b : Bool) → (b && is_started x.answer && elim (token_of s t x.op) [ None ↦ false | Some v ↦ is_same_token w v ]) ≡ false → Either b (SentByDid s t past x now) (now ≡ []) → NoneIs w (addressed now)
      at true e h = did_none past x.at x.op x.answer now e h
      at false e h = plain_none w [] now (ap addressed h) tt
  others_none past (step.Called i x) now e f h = plain_none w [] now (ap addressed h) tt
  others_none past (step.Ran i m) now e f h = ran_none past i m.sender m.number m.what now f h

-- ---- counts

-- whom token w was sent to by these sends, where n stands for home
abbrev pub dest : ℕ → What → ℕ × Letter → ℕ
dest n w p = cond (is_same_token w p.1.tag.what) p.0 n

abbrev pub dests : ℕ → What → List (ℕ × Letter) → List ℕ
dests n w now = map (dest n w) now

-- of the steps that pass
abbrev pub outs : (Step → Bool) → ℕ → What → List (List Step × Step) → List (List (ℕ × Letter)) → List ℕ
outs passes n w [] sends = []
outs passes n w (p ∷ ps) [] = []
outs passes n w (p ∷ ps) (now ∷ sends) = cond (passes p.1) (dests n w now) [] ++ outs passes n w ps sends

-- how many of these letters are w for thread u
abbrev pub count_to : ℕ → What → List (ℕ × Letter) → ℕ
count_to u w [] = 0
count_to u w (p ∷ ps) = cond (p.0 == u && is_same_token w p.1.tag.what) 1 0 + count_to u w ps

pub count_to-append : (u : ℕ) (w : What) (ps qs : List (ℕ × Letter)) → count_to u w (ps ++ qs) ≡ count_to u w ps + count_to u w qs
count_to-append u w [] qs = omega arith
count_to-append u w (p ∷ ps) qs = omega (arith, count_to-append u w ps qs)

pub count_at-append : (u : ℕ) (xs ys : List ℕ) → count_at u (xs ++ ys) ≡ count_at u xs + count_at u ys
count_at-append u [] ys = omega arith
count_at-append u (x ∷ xs) ys = omega (arith, count_at-append u xs ys)

pub none_to : (u : ℕ) (w : What) (now : List (ℕ × Letter)) → NoneIs w (addressed now) → count_to u w now ≡ 0
none_to u w [] h = refl
none_to u w (p ∷ ps) h = omega (arith, ap {B = ℕ} (λ b. cond b 1 0) (ap (λ b. p.0 == u && b) h.0 ∙ no (p.0 == u)), none_to u w ps h.1)
  where
    no : (b : Bool) → (b && false) ≡ false
    no true = refl
    no false = refl

-- below n, the destinations are the receivers
to_dests : (n u : ℕ) (w : What) → u < n → (now : List (ℕ × Letter)) → count_to u w now ≡ count_at u (dests n w now)
to_dests n u w less [] = refl
to_dests n u w less (p ∷ ps) = omega (arith, ap {B = ℕ} (λ b. cond b 1 0) (one (is_same_token w p.1.tag.what)), to_dests n u w less ps)
  where
    one : (b : Bool) → (p.0 == u && b) ≡ (cond b p.0 n == u)
    one true = yes (p.0 == u)
      where
        yes : (a : Bool) → (a && true) ≡ a
        yes true = refl
        yes false = refl
    one false = no (p.0 == u) ∙ sym (ne_eqb n u (λ e. omega (arith, less, e)))
      where
        no : (a : Bool) → (a && false) ≡ false
        no true = refl
        no false = refl

-- a step doesn't both start and run a token
not_both : (s : Script) (t : ℕ) (w : What) (x : Step) → starts s t w x ≡ true → runs (is_same_token w) x ≡ false
not_both s t w (step.Did i x) e = refl
not_both s t w (step.Called i x) e = refl
not_both s t w (step.Ran i m) e = absurd (false≢true e)

module _ (s : Script) (t : ℕ) (l : Log) (w : What) (n : ℕ) where
  abbrev pub S_of : List (List Step × Step) → List (List (ℕ × Letter)) → List ℕ
  S_of = outs (starts s t w) n w

  abbrev pub D_of : List (List Step × Step) → List (List (ℕ × Letter)) → List ℕ
  D_of = outs (runs (is_same_token w)) n w

  -- what was sent of the token is what steps that started or ran it sent
  pub sent_counts : (u : ℕ) → u < n → (ps : List (List Step × Step)) (sends : List (List (ℕ × Letter))) → SentAlong s t l ps sends
      → count_to u w (flat_map (λ now. now) sends) ≡ count_at u (S_of ps sends) + count_at u (D_of ps sends)
  sent_counts u less [] [] h = refl
  sent_counts u less [] (now ∷ sends) h = absurd h
  sent_counts u less (p ∷ ps) [] h = absurd h
  sent_counts u less (p ∷ ps) (now ∷ sends) h =
      omega (
        arith,
        count_to-append u w now (flat_map (λ now. now) sends),
        sent_counts u less ps sends h.1,
        count_at-append u (cond (starts s t w p.1) (dests n w now) []) (S_of ps sends),
        count_at-append u (cond (runs (is_same_token w) p.1) (dests n w now) []) (D_of ps sends),
        here (starts s t w p.1) (runs (is_same_token w) p.1) refl refl,
      )
    where
      here : (a b : Bool) → starts s t w p.1 ≡ a → runs (is_same_token w) p.1 ≡ b → count_to u w now ≡ count_at u (cond a (dests n w now) []) + count_at u (cond b (dests n w now) [])
      here true true e f = absurd (false≢true (sym (not_both s t w p.1 e) ∙ f))
      here true false e f = omega (arith, to_dests n u w less now)
      here false true e f = omega (arith, to_dests n u w less now)
      here false false e f = omega (arith, none_to u w now (others_none s t l w p.0 p.1 now e f h.0))
