-- What the steps of a history's log sent is what those of the history did.
use Rattle.std.proofs.Common.{◌≡◌, ℕ, ◌+◌, Bool, true, false, List, [], ◌∷◌, ◌++◌, reverse, length, Option, None, Some, slice_get, unwrap_or, option_map, refl, sym, ap, subst, ◌∙◌, append_assoc, inl, inr}
use Rattle.std.proofs.lemmas.Bool.{false≢true}
use Rattle.lw_base.specs.declared.message.Tag.{Tag}
use Rattle.lw_base.specs.declared.message.What.{What}
use Rattle.lw_base.specs.declared.message.What.TheVariants as what
use Rattle.lw_model.specs.declared.script.Script.{Script}
use Rattle.lw_model.specs.declared.step.Step.{Step}
use Rattle.lw_model.specs.declared.step.Step.TheVariants as step
use Rattle.lw_model.specs.declared.record.Did.{Did}
use Rattle.lw_model.specs.declared.record.Answer.{Answer}
use Rattle.lw_model.specs.declared.record.Answer.TheVariants as answer
use Rattle.lw_model.specs.Threads.{is_client, is_owner}
use Rattle.lw_model.specs.OwnOrder.{with_past}
use Rattle.lw_model.specs.Sent.{token_of}
use Rattle.lw_whole.specs.Letters.{Letter, Load, nothing}
use Rattle.lw_whole.specs.Logs.{Log, load_at}
use Rattle.lw_whole.specs.Tokens.{GoesOn, load_behind, empty_load}
use Rattle.lw_whole.specs.Sends.{Sets, Replies, SentBy, SentByDid, SentByRan, SentAlong}
use Rattle.lw_history.specs.Histories.{Event, ran, did, called, ended, runs_of, dids_of, past_of, sends_of, numbered, numbered_each, flat}
use Rattle.lw_history.specs.Fitting.{SentByRun, EachFits}
use Rattle.lw_history.proofs.Numbering.{numbered_each_push, addressed_numbered, none_numbered}
use Rattle.lw_history.proofs.InOrder.{SentByLine, BothFits, with_past_more}

-- ---- numbers change nothing of that

goes_numbered : (s : Script) (w : What) (from : ℕ) (load : Load) (t : ℕ) (sent now : List (ℕ × Letter)) → GoesOn s w from load now → GoesOn s w from load (numbered t sent now)
goes_numbered s w from load t sent [] h = tt
goes_numbered s w from load t sent (p ∷ []) h = elim h [
  | inl k ↦ inl (record { above = k.above; thread = k.thread; token = k.token; carried = k.carried; passed = k.passed })
  | inr k ↦ inr (record { completes = k.completes; carried = k.carried; passed = k.passed })
]
goes_numbered s w from load t sent (p ∷ q ∷ rest) h = absurd h

module _ (s : Script) (t : ℕ) (past : List Step) (sent now : List (ℕ × Letter)) where
  abbrev ns : List (ℕ × Letter)
  ns = numbered t sent now

  start_numbered : (o : Option What) → Sets s o now → Sets s o ns
  start_numbered None g = none_numbered t sent now g
  start_numbered (Some w) g = goes_numbered s w 0 (empty_load w) t sent now g

  line_numbered : (x : Did) → SentByDid s t past x now → SentByDid s t past x ns
  line_numbered x h = of x.answer h
    where
      of : (a : Answer) → SentByDid s t past (record x { answer = a }) now → SentByDid s t past (record x { answer = a }) ns
      of answer.Sent g = addressed_numbered t sent now ∙ g
      of answer.Deferred g = addressed_numbered t sent now ∙ g
      of answer.Closed g = addressed_numbered t sent now ∙ g
      of answer.Started g = start_numbered (token_of s t x.op) g
      of _ g = none_numbered t sent now g

  abbrev AsLine : Did → List (ℕ × Letter) → Bool → Type 0
  AsLine x ms b = elim b [ true ↦ SentByDid s t past x ms | false ↦ ms ≡ [] ]

  sends_line : (x : Did) → SentByLine s t past x now → AsLine x ns (is_client s t)
  sends_line x h = at (is_client s t) h
    where
      at : (b : Bool) → AsLine x now b → AsLine x ns b
      at true g = line_numbered x g
      at false g = none_numbered t sent now g

  -- what a request would send, which neither a client nor the app answers
  abbrev AsRequest : Tag → ℕ → Bool → Type 0
  AsRequest m k b = elim b [ true ↦ Replies s t past m k ns | false ↦ ns ≡ [] ]

  sends_run : (l : Log) (i : ℕ) (x : Letter) → is_owner s t ≡ false → load_at l i ≡ x.load → SentByRun s t past x now → SentByRan s t l past i x.tag ns
  sends_run l i x not_owner load h = from x.tag.what h
    where
      runs : What → Type 0
      runs v = elim v [
        | what.Visit o k d ↦ GoesOn s (what.Visit o k d) (t + 1) (load_behind s t past (what.Visit o k d) x.load) now
        | what.Cast o k ↦ GoesOn s (what.Cast o k) (t + 1) (load_behind s t past (what.Cast o k) x.load) now
        | _ ↦ now ≡ []
      ]

      of : What → Type 0
      of v = elim v [
        | what.Request k ↦ elim (is_owner s t) [ true ↦ Replies s t past x.tag k ns | false ↦ ns ≡ [] ]
        | what.Visit o k d ↦ GoesOn s (what.Visit o k d) (t + 1) (load_behind s t past (what.Visit o k d) (load_at l i)) ns
        | what.Cast o k ↦ GoesOn s (what.Cast o k) (t + 1) (load_behind s t past (what.Cast o k) (load_at l i)) ns
        | _ ↦ ns ≡ []
      ]

      request : (k : ℕ) (b : Bool) → b ≡ false → now ≡ [] → AsRequest x.tag k b
      request k true e g = absurd (false≢true (sym e))
      request k false e g = none_numbered t sent now g

      from : (v : What) → runs v → of v
      from (what.Request k) g = request k (is_owner s t) not_owner g
      from (what.Visit o k d) g = subst (λ y. GoesOn s (what.Visit o k d) (t + 1) (load_behind s t past (what.Visit o k d) y) ns) (sym load) (goes_numbered s (what.Visit o k d) (t + 1) (load_behind s t past (what.Visit o k d) x.load) t sent now g)
      from (what.Cast o k) g = subst (λ y. GoesOn s (what.Cast o k) (t + 1) (load_behind s t past (what.Cast o k) y) ns) (sym load) (goes_numbered s (what.Cast o k) (t + 1) (load_behind s t past (what.Cast o k) x.load) t sent now g)
      from (what.Reply k) g = none_numbered t sent now g
      from (what.PutSelf d) g = none_numbered t sent now g
      from (what.Visited k) g = none_numbered t sent now g
      from (what.Casted k) g = none_numbered t sent now g
      from what.Done g = none_numbered t sent now g
      from what.Stop g = none_numbered t sent now g
      from (what.Arrive a b) g = none_numbered t sent now g
      from (what.Order a b c) g = none_numbered t sent now g

-- ---- each step in turn

-- the letter behind so many others
at_behind : (xs : List Letter) (x : Letter) (ys : List Letter) → slice_get (xs ++ x ∷ ys) (length xs) ≡ Some x
at_behind [] x ys = refl
at_behind (z ∷ zs) x ys = at_behind zs x ys

module _ (s : Script) (t : ℕ) (l : Log) (not_owner : is_owner s t ≡ false) where
  one_more : (ps : List (List Step × Step)) (sends : List (List (ℕ × Letter))) (p : List Step × Step) (now : List (ℕ × Letter)) → SentAlong s t l ps sends → SentBy s t l p.0 p.1 now → SentAlong s t l (ps ++ p ∷ []) (sends ++ now ∷ [])
  one_more [] [] p now h g = (g, tt)
  one_more [] (x ∷ xs) p now h g = absurd h
  one_more (q ∷ qs) [] p now h g = absurd h
  one_more (q ∷ qs) (x ∷ xs) p now h g = (h.0, one_more qs xs p now h.1 g)

  step_more : (y : Step) (past : List Step) (sends : List (List (ℕ × Letter))) (now : List (ℕ × Letter)) → SentAlong s t l (with_past [] (reverse past)) (numbered_each t [] sends) → SentBy s t l past y (numbered t (flat sends) now)
      → SentAlong s t l (with_past [] (reverse (y ∷ past))) (numbered_each t [] (sends ++ now ∷ []))
  step_more y past sends now h g =
      subst (λ ps. SentAlong s t l ps (numbered_each t [] (sends ++ now ∷ []))) (sym (with_past_more y past))
      (subst (SentAlong s t l (with_past [] (reverse past) ++ (past, y) ∷ [])) (sym (numbered_each_push t [] sends now))
      (one_more (with_past [] (reverse past)) (numbered_each t [] sends) (past, y) (numbered t (flat sends) now) h g))

  pub sent_along : (h : List Event) (later : List Letter) → l.ran ≡ runs_of h ++ later → EachFits (BothFits s t) h → SentAlong s t l (with_past [] (reverse (past_of h))) (numbered_each t [] (sends_of h))
  sent_along [] later e fits = tt
  sent_along (ran x now ∷ before) later e fits =
      let all : l.ran ≡ runs_of before ++ x ∷ later = e ∙ append_assoc (runs_of before) (x ∷ []) later in
      let load : load_at l (length (runs_of before)) ≡ x.load = ap (λ (o : Option Letter). unwrap_or (option_map (λ z. z.load) o) nothing) (ap (λ ls. slice_get ls (length (runs_of before))) all ∙ at_behind (runs_of before) x later) in
      step_more (step.Ran (length (runs_of before)) x.tag) (past_of before) (sends_of before) now (sent_along before (x ∷ later) all fits.1)
      (sends_run s t (past_of before) (flat (sends_of before)) now l (length (runs_of before)) x not_owner load fits.0)
  sent_along (did x now ∷ before) later e fits =
      step_more (step.Did (length (dids_of before)) x) (past_of before) (sends_of before) now (sent_along before later e fits.1)
      (sends_line s t (past_of before) (flat (sends_of before)) now x fits.0.sent)
  sent_along (called x ∷ before) later e fits = sent_along before later e fits.1
  sent_along (ended now ∷ before) later e fits = sent_along before later e fits.1
