-- What each thread adds to the results of a visit or a cast, and what a token has of those below a thread.
use Rattle.std.proofs.Common.{◌≡◌, ℕ, zero, suc, ◌+◌, ◌-◌, ◌<◌, ◌≤◌, Bool, true, false, cond, List, [], ◌∷◌, ◌++◌, filter, Option, Some, None, option_map, option_to_list, append-nil, refl, sym, ap, ap₂, ◌∙◌, arith, find}
use Rattle.std.specs.Prelude.{option_and_then, filter_map}
use Rattle.std.specs.List.{range_with_len, cons_option}
use Rattle.std.proofs.lemmas.List.Elements.{filter-append, filter_map-append}
use Rattle.lw_base.specs.declared.message.Mark.{Mark}
use Rattle.lw_base.specs.declared.message.What.{What}
use Rattle.lw_base.specs.declared.message.What.TheVariants as what
use Rattle.lw_model.specs.declared.script.Script.{Script}
use Rattle.lw_model.specs.declared.record.Record.{Record}
use Rattle.lw_model.specs.declared.step.Step.{Step}
use Rattle.lw_model.specs.declared.step.Step.TheVariants as step
use Rattle.lw_model.specs.Threads.{is_on}
use Rattle.lw_model.specs.OwnOrder.{with_past}
use Rattle.lw_model.specs.Holding.{runs, held, submitted}
use Rattle.lw_model.specs.Lawful.{has_run, mark_of}
use Rattle.lw_model.proofs.Callbacks.{without, held-without, submitted-without}
use Rattle.lw_whole.specs.Letters.{Load, nothing, marked, reached}
use Rattle.lw_whole.specs.Tokens.{empty_load, load_behind}

-- ---- ranges

range_last : (a n j : ℕ) → a + n ≡ j → range_with_len a (suc n) ≡ range_with_len a n ++ j ∷ []
range_last a zero j e = ap (λ k. k ∷ []) (omega (arith, e))
range_last a (suc n) j e = ap (λ xs. a ∷ xs) (range_last (a + 1) n j (omega (arith, e)))

-- those below u that ran the token
abbrev pub runners_below : Record → What → ℕ → List ℕ
runners_below r w u = filter (has_run r w) (range_with_len 0 u)

below_next : (r : Record) (w : What) (u : ℕ) → runners_below r w (suc u) ≡ runners_below r w u ++ cond (has_run r w u) (u ∷ []) []
below_next r w u = ap (filter (has_run r w)) (range_last 0 u u (omega arith)) ∙ filter-append (has_run r w) (range_with_len 0 u) (u ∷ [])

-- who ran it not adds nothing
below_gap : (r : Record) (w : What) (u k : ℕ) → ((v : ℕ) → u ≤ v → v < u + k → has_run r w v ≡ false) → runners_below r w (u + k) ≡ runners_below r w u
below_gap r w u zero none = let same : u + 0 ≡ u = omega arith in ap (runners_below r w) same
below_gap r w u (suc k) none =
    let one_more : u + suc k ≡ suc (u + k) = omega arith in
    ap (runners_below r w) one_more
    ∙ below_next r w (u + k)
    ∙ ap (λ b. runners_below r w (u + k) ++ cond b ((u + k) ∷ []) []) (none (u + k) (omega arith) (omega arith))
    ∙ append-nil (runners_below r w (u + k))
    ∙ below_gap r w u k (λ v low high. none v low (omega (arith, high)))

pub below_same : (r : Record) (w : What) (u v : ℕ) → u ≤ v → ((k : ℕ) → u ≤ k → k < v → has_run r w k ≡ false) → runners_below r w v ≡ runners_below r w u
below_same r w u v le none = let as_gap : v ≡ u + (v - u) = omega (arith, le) in ap (runners_below r w) as_gap ∙ below_gap r w u (v - u) (λ k low high. none k low (omega (arith, high, le)))

-- ---- loads

-- what a token carries of these threads
abbrev pub loaded_of : Record → What → List ℕ → Load
loaded_of r (what.Visit o k d) us = marked (filter_map (mark_of r (what.Visit o k d) d) us)
loaded_of r (what.Cast o k) us = reached us
loaded_of r _ us = nothing

-- what a token carries to thread u
abbrev pub loaded : Record → What → ℕ → Load
loaded r w u = loaded_of r w (runners_below r w u)

pub loaded_first : (r : Record) (w : What) → loaded_of r w [] ≡ empty_load w
loaded_first r (what.Visit o k d) = refl
loaded_first r (what.Cast o k) = refl
loaded_first r _ = refl

-- the mark of thread t, from its steps but the callbacks
abbrev pub mark_behind : Script → ℕ → ℕ → List Step → Option Mark
mark_behind s t d past = option_map (λ n. record { thread = t; submitted = submitted (is_on s t d) past }) (held (is_on s t d) d past)

mark-without : (s : Script) (t d : ℕ) (past : List Step) → mark_behind s t d past ≡ mark_behind s t d (without past)
mark-without s t d past = ap₂ (λ (n : ℕ) (h : Option ℕ). option_map (λ (z : ℕ). record { thread = t; submitted = n }) h) (submitted-without (is_on s t d) past) (held-without (is_on s t d) d past)

pub find_without : (s : Script) (t d : ℕ) (q : What → Bool) (past rest : List Step)
    → option_and_then (λ (p : List Step × Step). mark_behind s t d p.0) (find (λ p. runs q p.1) (with_past past rest))
    ≡ option_and_then (λ (p : List Step × Step). mark_behind s t d p.0) (find (λ p. runs q p.1) (with_past (without past) (without rest)))
find_without s t d q past [] = refl
find_without s t d q past (step.Did i x ∷ rest) = find_without s t d q (step.Did i x ∷ past) rest
find_without s t d q past (step.Called i x ∷ rest) = find_without s t d q (step.Called i x ∷ past) rest
find_without s t d q past (step.Ran i m ∷ rest) = at (q m.what) (find_without s t d q (step.Ran i m ∷ past) rest)
  where
    at : (b : Bool)
        → option_and_then (λ (p : List Step × Step). mark_behind s t d p.0) (find (λ p. runs q p.1) (with_past (step.Ran i m ∷ past) rest))
        ≡ option_and_then (λ (p : List Step × Step). mark_behind s t d p.0) (find (λ p. runs q p.1) (with_past (step.Ran i m ∷ without past) (without rest)))
        → option_and_then (λ (p : List Step × Step). mark_behind s t d p.0) (cond b (Some (past, step.Ran i m)) (find (λ p. runs q p.1) (with_past (step.Ran i m ∷ past) rest)))
        ≡ option_and_then (λ (p : List Step × Step). mark_behind s t d p.0) (cond b (Some (without past, step.Ran i m)) (find (λ p. runs q p.1) (with_past (step.Ran i m ∷ without past) (without rest))))
    at true go = mark-without s t d past
    at false go = go

-- behind a thread that ran it the token has what that thread adds
pub loaded_behind : (r : Record) (w : What) (t : ℕ) (past : List Step) → has_run r w t ≡ true → ((o k d : ℕ) → w ≡ what.Visit o k d → mark_of r w d t ≡ mark_behind r.script t d past)
    → load_behind r.script t past w (loaded r w t) ≡ loaded r w (suc t)
loaded_behind r (what.Visit o k d) t past ran mark =
    ap marked (
    ap (λ m. filter_map (mark_of r (what.Visit o k d) d) (runners_below r (what.Visit o k d) t) ++ m) (option_cons (mark_behind r.script t d past) ∙ ap (λ m. cons_option m []) (sym (mark o k d refl)))
    ∙ sym (filter_map-append (mark_of r (what.Visit o k d) d) (runners_below r (what.Visit o k d) t) (t ∷ []))
    ∙ ap (filter_map (mark_of r (what.Visit o k d) d)) (sym (below_next r (what.Visit o k d) t ∙ ap (λ b. runners_below r (what.Visit o k d) t ++ cond b (t ∷ []) []) ran))
    )
  where
    option_cons : (m : Option Mark) → option_to_list m ≡ cons_option m []
    option_cons None = refl
    option_cons (Some m) = refl
loaded_behind r (what.Cast o k) t past ran mark = ap reached (sym (below_next r (what.Cast o k) t ∙ ap (λ b. runners_below r (what.Cast o k) t ++ cond b (t ∷ []) []) ran))
loaded_behind r (what.Request k) t past ran mark = refl
loaded_behind r (what.Reply k) t past ran mark = refl
loaded_behind r (what.PutSelf k) t past ran mark = refl
loaded_behind r (what.Visited k) t past ran mark = refl
loaded_behind r (what.Casted k) t past ran mark = refl
loaded_behind r what.Done t past ran mark = refl
loaded_behind r what.Stop t past ran mark = refl
loaded_behind r (what.Arrive a b) t past ran mark = refl
loaded_behind r (what.Order a b c) t past ran mark = refl
