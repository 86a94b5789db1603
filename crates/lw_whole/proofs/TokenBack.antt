-- Who sent a completion had run its token, or started it; so a token that was started came home.
use Rattle.std.proofs.Common.{◌≡◌, ℕ, ◌+◌, ◌≤◌, ◌==◌, Bool, true, false, cond, ◌&&◌, List, [], ◌∷◌, ◌++◌, map, filter, Option, Some, None, option_map, option_to_list, refl, sym, ap, ap₂, subst, ◌∙◌, arith, inl, inr}
use Rattle.std.specs.Prelude.{◌⊎◌, if◌then◌else◌}
use Rattle.std.specs.List.{AllByRecursion, flat_map}
use Rattle.std.proofs.lemmas.Bool.{eqb-true, eq-eqb, false≢true}
use Rattle.lw_base.specs.declared.message.What.{What}
use Rattle.lw_base.specs.declared.message.What.TheVariants as what
use Rattle.lw_base.specs.Letters.{sent_by}
use Rattle.lw_model.specs.declared.script.Script.{Script}
use Rattle.lw_model.specs.declared.script.Op.{Op}
use Rattle.lw_model.specs.declared.script.Op.TheVariants as op
use Rattle.lw_model.specs.declared.record.Answer.{Answer}
use Rattle.lw_model.specs.declared.record.Answer.TheVariants as answer
use Rattle.lw_model.specs.declared.step.Step.{Step}
use Rattle.lw_model.specs.declared.step.Step.TheVariants as step
use Rattle.lw_model.specs.Threads.{is_client, is_owner, op_at, image_at, owner_of}
use Rattle.lw_model.specs.Holding.{runs}
use Rattle.lw_model.specs.Sent.{is_same_token, token_of, token_of_op, completion, referred, to_thread}
use Rattle.lw_whole.specs.Letters.{Letter, Load}
use Rattle.lw_whole.specs.Logs.{Log, addressed}
use Rattle.lw_whole.specs.Tokens.{GoesOn}
use Rattle.lw_whole.specs.Sends.{Sets, Replies, SentByDid, SentByRan, SentBy, SentAlong}
use Rattle.lw_whole.proofs.Flow.{count_at}
use Rattle.lw_whole.proofs.TokenCounts.{Either, same_is, starts, dests, S_of, D_of, count_at-append, visit_same, cast_same}
use Rattle.lw_whole.proofs.TokenRuns.{Token, count_if}

-- one of a list
abbrev pub Among : {X : Type 0} → (X → Type 0) → List X → Type 0
Among P [] = ⊥
Among P (x ∷ xs) = P x ⊎ Among P xs

pub among_either : {X : Type 0} (P : X → Type 0) (xs ys : List X) → Among P (xs ++ ys) → Among P xs ⊎ Among P ys
among_either P [] ys h = inr h
among_either P (x ∷ xs) ys (inl h) = inl (inl h)
among_either P (x ∷ xs) ys (inr h) = elim (among_either P xs ys h) [ inl a ↦ inl (inr a) | inr b ↦ inr b ]

-- a completion among letters
abbrev pub IsLetter : What → Letter → Type 0
IsLetter v x = x.tag.what ≡ v

-- one of these letters for thread o
abbrev pub IsTo : ℕ → (Letter → Type 0) → ℕ × Letter → Type 0
IsTo o P p = (p.0 ≡ o) × P p.1

abbrev pub IsSend : ℕ → What → ℕ × Letter → Type 0
IsSend o v p = IsTo o (IsLetter v) p

pub counted_among : (q : What → Bool) (v : What) → ((u : What) → q u ≡ true → u ≡ v) → (ls : List Letter) → 1 ≤ count_if q (map (λ x. x.tag) ls) → Among (IsLetter v) ls
counted_among q v is [] some = absurd (omega (arith, some))
counted_among q v is (x ∷ xs) some = at (q x.tag.what) refl some (λ more. counted_among q v is xs more)
  where
    at : (b : Bool) → q x.tag.what ≡ b → 1 ≤ cond b 1 0 + count_if q (map (λ x. x.tag) xs) → (1 ≤ count_if q (map (λ x. x.tag) xs) → Among (IsLetter v) xs) → IsLetter v x ⊎ Among (IsLetter v) xs
    at true e some go = inl (is x.tag.what e)
    at false e some go = inr (go (omega (arith, some)))

-- a letter came of some sender
pub of_some_sender : (P : Letter → Type 0) (ls : List Letter) → Among P ls → (s : ℕ) × Among P (sent_by (λ l. l.tag) s ls)
of_some_sender P [] h = absurd h
of_some_sender P (x ∷ xs) (inl h) = (x.tag.sender, at (x.tag.sender == x.tag.sender) (eq-eqb x.tag.sender x.tag.sender refl))
  where
    at : (b : Bool) → b ≡ true → Among P (if b then x ∷ sent_by (λ l. l.tag) x.tag.sender xs else sent_by (λ l. l.tag) x.tag.sender xs)
    at true e = inl h
    at false e = absurd (false≢true e)
of_some_sender P (x ∷ xs) (inr h) = let rest = of_some_sender P xs h in (rest.0, at rest.0 (x.tag.sender == rest.0) rest.1)
  where
    at : (s : ℕ) (b : Bool) → Among P (sent_by (λ l. l.tag) s xs) → Among P (if b then x ∷ sent_by (λ l. l.tag) s xs else sent_by (λ l. l.tag) s xs)
    at s true g = inr g
    at s false g = g

pub sent_to : (o : ℕ) (P : Letter → Type 0) (ps : List (ℕ × Letter)) → Among P (to_thread o ps) → Among (IsTo o P) ps
sent_to o P [] h = h
sent_to o P (p ∷ ps) h = at (p.0 == o) refl h (λ g. sent_to o P ps g)
  where
    at : (b : Bool) → (p.0 == o) ≡ b → Among P (map (λ (q : ℕ × Letter). q.1) (cond b (p ∷ filter (λ q. q.0 == o) ps) (filter (λ q. q.0 == o) ps))) → (Among P (to_thread o ps) → Among (IsTo o P) ps) → IsTo o P p ⊎ Among (IsTo o P) ps
    at true e (inl g) go = inl (eqb-true p.0 o e, g)
    at true e (inr g) go = inr (go g)
    at false e g go = inr (go g)

-- ---- completions

abbrev pub is_back : What → Bool
is_back (what.Visited k) = true
is_back (what.Casted k) = true
is_back _ = false

pub back_no_token : (v : What) → is_back v ≡ true → is_same_token v v ≡ false
back_no_token (what.Visited k) e = refl
back_no_token (what.Casted k) e = refl
back_no_token (what.Request k) e = absurd (false≢true e)
back_no_token (what.Reply k) e = absurd (false≢true e)
back_no_token (what.PutSelf k) e = absurd (false≢true e)
back_no_token (what.Visit a b c) e = absurd (false≢true e)
back_no_token (what.Cast a b) e = absurd (false≢true e)
back_no_token what.Done e = absurd (false≢true e)
back_no_token what.Stop e = absurd (false≢true e)
back_no_token (what.Arrive a b) e = absurd (false≢true e)
back_no_token (what.Order a b c) e = absurd (false≢true e)

abbrev pub NoneBack : List (ℕ × What) → Type 0
NoneBack ps = AllByRecursion (λ p. is_back p.1 ≡ false) ps

not_among : (o : ℕ) (v : What) (now : List (ℕ × Letter)) → is_back v ≡ true → NoneBack (addressed now) → Among (IsSend o v) now → ⊥
not_among o v [] e h g = absurd g
not_among o v (p ∷ ps) e h (inl is) = false≢true (sym h.0 ∙ ap is_back is.1 ∙ e)
not_among o v (p ∷ ps) e h (inr more) = not_among o v ps e h.1 more

pub plain_not : (o : ℕ) (v : What) (ps : List (ℕ × What)) (now : List (ℕ × Letter)) → is_back v ≡ true → addressed now ≡ ps → NoneBack ps → Among (IsSend o v) now → ⊥
plain_not o v ps now e is h g = not_among o v now e (subst NoneBack (sym is) h) g

-- the token that a completion came of, which the step started or ran
pub record CameOf (s : Script) (t n o : ℕ) (v : What) (x : Step) (now : List (ℕ × Letter)) : Type 0 where
  pub token : What
  pub is_token : Token token
  pub completes : completion token ≡ (o, v) ∷ []
  pub by : (starts s t token x ≡ true) ⊎ (runs (is_same_token token) x ≡ true)
  pub home : 1 ≤ count_at n (dests n token now)

came_home : (s : Script) (t n o : ℕ) (v w : What) (x : Step) (from : ℕ) (load : Load) (now : List (ℕ × Letter)) → is_back v ≡ true → Token w → ((starts s t w x ≡ true) ⊎ (runs (is_same_token w) x ≡ true))
    → GoesOn s w from load now → Among (IsSend o v) now → CameOf s t n o v x now
came_home s t n o v w x from load [] e tok by h g = absurd g
came_home s t n o v w x from load (p ∷ []) e tok by (inl to) (inr g) = absurd g
came_home s t n o v w x from load (p ∷ []) e tok by (inr home) (inr g) = absurd g
came_home s t n o v w x from load (p ∷ []) e tok by (inl to) (inl is) =
    let same : v ≡ w = sym is.1 ∙ to.token in absurd (false≢true (sym (back_no_token v e) ∙ ap (λ z. is_same_token z z) same ∙ tok))
came_home s t n o v w x from load (p ∷ []) e tok by (inr home) (inl is) = record {
  token = w;
  is_token = tok;
  completes = sym home.completes ∙ ap₂ (λ (a : ℕ) (b : What). (a, b) ∷ []) is.0 is.1;
  by = by;
  home = omega (arith, ap {B = ℕ} (λ b. cond (b == n) 1 0) (ap {B = ℕ} (λ b. cond b p.0 n) (other (is_same_token w p.1.tag.what) refl)), ap {B = ℕ} (λ b. cond b 1 0) (eq-eqb n n refl));
}
  where
    other : (b : Bool) → is_same_token w p.1.tag.what ≡ b → is_same_token w p.1.tag.what ≡ false
    other false f = f
    other true f = let same : v ≡ w = sym is.1 ∙ same_is w p.1.tag.what f in absurd (false≢true (sym (back_no_token v e) ∙ ap (λ z. is_same_token z z) same ∙ tok))
came_home s t n o v w x from load (p ∷ q ∷ rest) e tok by h g = absurd h

pub token_made : (t k : ℕ) (o : Option Op) (w : What) → elim o [ None ↦ None | Some x ↦ token_of_op t k x ] ≡ Some w → Token w
token_made t k None w e = cc
token_made t k (Some (op.Visit d)) w e = let is : what.Visit t k d ≡ w = cc in subst Token is (visit_same t k d)
token_made t k (Some op.Each) w e = let is : what.Cast t k ≡ w = cc in subst Token is (cast_same t k)
token_made t k (Some (op.Get d)) w e = cc
token_made t k (Some (op.Put d)) w e = cc
token_made t k (Some (op.Write d a b c)) w e = cc
token_made t k (Some (op.Read d a b)) w e = cc
token_made t k (Some (op.Flush d)) w e = cc
token_made t k (Some (op.Wait d)) w e = cc
token_made t k (Some (op.Unregister d)) w e = cc

putselfs_back : (t : ℕ) (ds : List ℕ) → NoneBack (map (λ d. (t, what.PutSelf d)) ds)
putselfs_back t [] = tt
putselfs_back t (d ∷ ds) = (refl, putselfs_back t ds)

module _ (s : Script) (t n o : ℕ) (l : Log) (v : What) (is : is_back v ≡ true) where
  of_ran : (past : List Step) (i sender number : ℕ) (u : What) (now : List (ℕ × Letter)) → SentByRan s t l past i (record { sender = sender; number = number; what = u }) now → Among (IsSend o v) now
      → CameOf s t n o v (step.Ran i (record { sender = sender; number = number; what = u })) now
  of_ran past i sender number (what.Visit a b c) now h g = came_home s t n o v (what.Visit a b c) _ (t + 1) _ now is (visit_same a b c) (inr (visit_same a b c)) h g
  of_ran past i sender number (what.Cast a b) now h g = came_home s t n o v (what.Cast a b) _ (t + 1) _ now is (cast_same a b) (inr (cast_same a b)) h g
  of_ran past i sender number (what.Request k) now h g = absurd (at (is_owner s t) h)
    where
      at : (b : Bool) → Either b (Replies s t past (record { sender = sender; number = number; what = what.Request k }) k now) (now ≡ []) → ⊥
      at true h = plain_not o v _ now is h.reply (refl, tt) g
      at false h = plain_not o v [] now is (ap addressed h) tt g
  of_ran past i sender number u now h g = absurd (plain_not o v [] now is (ap addressed h) tt g)

  of_line : (past : List Step) (i at k : ℕ) (a : Answer) (now : List (ℕ × Letter)) → is_client s t ≡ true → SentByDid s t past (record { at = at; op = k; answer = a }) now → Among (IsSend o v) now
      → CameOf s t n o v (step.Did i (record { at = at; op = k; answer = a })) now
  of_line past i at k answer.Sent now c h g = absurd (plain_not o v _ now is h (one (image_at s t k)) g)
    where
      one : (o : Option ℕ) → NoneBack (option_to_list (option_map (λ d. (owner_of s d, what.Request k)) o))
      one None = tt
      one (Some d) = (refl, tt)
  of_line past i at k answer.Deferred now c h g = absurd (plain_not o v _ now is h (one (image_at s t k)) g)
    where
      one : (o : Option ℕ) → NoneBack (option_to_list (option_map (λ d. (t, what.PutSelf d)) o))
      one None = tt
      one (Some d) = (refl, tt)
  of_line past i at k answer.Closed now c h g = absurd (plain_not o v _ now is h (putselfs_back t (referred s t past)) g)
  of_line past i at k answer.Started now c h g = one (token_of s t k) refl h
    where
      one : (z : Option What) → token_of s t k ≡ z → Sets s z now → CameOf s t n o v (step.Did i (record { at = at; op = k; answer = answer.Started })) now
      one None e h = absurd (plain_not o v [] now is (ap addressed h) tt g)
      one (Some w) e h =
          let tok = token_made t k (op_at s t k) w e in
          came_home s t n o v w _ 0 _ now is tok
          (inl (ap (λ b. b && true && elim (token_of s t k) as (λ z. Bool) [ None ↦ false | Some u ↦ is_same_token w u ]) c ∙ ap (λ (z : Option What). elim z as (λ z. Bool) [ None ↦ false | Some u ↦ is_same_token w u ]) e ∙ tok)) h g
  of_line past i at k a now c h g = absurd (plain_not o v [] now is (ap addressed h) tt g)

  pub of_step : (past : List Step) (x : Step) (now : List (ℕ × Letter)) → SentBy s t l past x now → Among (IsSend o v) now → CameOf s t n o v x now
  of_step past (step.Did i x) now h g = at (is_client s t) refl h
    where
      at : (b : Bool) → is_client s t ≡ b → Either b (SentByDid s t past x now) (now ≡ []) → CameOf s t n o v (step.Did i x) now
      at true c h = of_line past i x.at x.op x.answer now c h g
      at false c h = absurd (plain_not o v [] now is (ap addressed h) tt g)
  of_step past (step.Called i x) now h g = absurd (plain_not o v [] now is (ap addressed h) tt g)
  of_step past (step.Ran i m) now h g = of_ran past i m.sender m.number m.what now h g

  -- whose token came home here
  pub of_steps : (ps : List (List Step × Step)) (sends : List (List (ℕ × Letter))) → SentAlong s t l ps sends → Among (IsSend o v) (flat_map (λ now. now) sends)
      → (w : What) × Token w × (completion w ≡ (o, v) ∷ []) × (1 ≤ count_at n (S_of s t l w n ps sends) + count_at n (D_of s t l w n ps sends))
  of_steps [] [] h g = absurd g
  of_steps [] (now ∷ sends) h g = absurd h
  of_steps (p ∷ ps) [] h g = absurd h
  of_steps (p ∷ ps) (now ∷ sends) h g = elim (among_either (IsSend o v) now (flat_map (λ now. now) sends) g) [
    | inl here ↦
        let c = of_step p.0 p.1 now h.0 here in (
          c.token,
          c.is_token,
          c.completes,
          omega (
            arith,
            count_at-append n (cond (starts s t c.token p.1) (dests n c.token now) []) (S_of s t l c.token n ps sends),
            count_at-append n (cond (runs (is_same_token c.token) p.1) (dests n c.token now) []) (D_of s t l c.token n ps sends),
            either c.token c.home c.by,
          ),
        )
    | inr later ↦
        let c = of_steps ps sends h.1 later in (
          c.0,
          c.1,
          c.2,
          omega (
            arith,
            count_at-append n (cond (starts s t c.0 p.1) (dests n c.0 now) []) (S_of s t l c.0 n ps sends),
            count_at-append n (cond (runs (is_same_token c.0) p.1) (dests n c.0 now) []) (D_of s t l c.0 n ps sends),
            c.3,
          ),
        )
  ]
    where
      either : (w : What) → 1 ≤ count_at n (dests n w now) → ((starts s t w p.1 ≡ true) ⊎ (runs (is_same_token w) p.1 ≡ true))
          → 1 ≤ count_at n (cond (starts s t w p.1) (dests n w now) []) + count_at n (cond (runs (is_same_token w) p.1) (dests n w now) [])
      either w home (inl e) = omega (arith, home, ap (λ b. count_at n (cond b (dests n w now) [])) e)
      either w home (inr e) = omega (arith, home, ap (λ b. count_at n (cond b (dests n w now) [])) e)
