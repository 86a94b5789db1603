-- Tests of what steps send.
use Rattle.std.proofs.Common.{◌≡◌, ℕ, ◌+◌, ◌-◌, nat_le, nat_lt, Bool, true, false, cond, not, ◌&&◌, ◌||◌, List, [], ◌∷◌, map, Option, Some, None, option_to_list, option_map, refl, inl, inr}
use Rattle.std.specs.Prelude.{option_and_then}
use Rattle.std.specs.List.{list_all, range_with_len}
use Rattle.std.proofs.lemmas.Bool.{and_parts, leb-true, ltb-true, false≢true}
use Rattle.lw_base.specs.declared.message.Tag.{Tag}
use Rattle.lw_base.specs.declared.message.What.{What}
use Rattle.lw_base.specs.declared.message.What.TheVariants as what
use Rattle.lw_model.specs.declared.script.Script.{Script}
use Rattle.lw_model.specs.declared.record.Did.{Did}
use Rattle.lw_model.specs.declared.record.Answer.{Answer}
use Rattle.lw_model.specs.declared.record.Answer.TheVariants as answer
use Rattle.lw_model.specs.declared.step.Step.{Step}
use Rattle.lw_model.specs.declared.step.Step.TheVariants as step
use Rattle.lw_model.specs.Same.{is_same_what}
use Rattle.lw_model.specs.Threads.{thread_count, owner_of, is_client, is_owner, op_at, image_at}
use Rattle.lw_model.specs.Replay.{answer_after}
use Rattle.lw_model.specs.Sent.{must_run, completion, referred, token_of}
use Rattle.lw_model.proofs.Sameness.{Tells-what}
use Rattle.lw_model.specs.Printable.{is_empty}
use Rattle.lw_model.proofs.Printed.{empty_is}
use Rattle.lw_whole.specs.Letters.{Letter, Load}
use Rattle.lw_whole.specs.Logs.{Log, addressed, load_at}
use Rattle.lw_whole.specs.Tokens.{empty_load, load_behind, GoesOn}
use Rattle.lw_whole.specs.Sends.{answers_in, ops_run, block_of_owner, Sets, SentByDid, Replies, SentByRan, SentBy, SentAlong}
use Rattle.lw_whole.proofs.TokenCounts.{Either}
use Rattle.lw_whole.proofs.Sames.{same_load, tells_load, same_sends, tells_sends, same_answers, tells_answers}

abbrev passes_by : Script → What → ℕ → ℕ → Bool
passes_by s w from to = list_all (λ v. not (must_run s w v)) (range_with_len from (to - from))

abbrev went_to : Script → What → ℕ → Load → ℕ × Letter → Bool
went_to s w from load p = nat_le from p.0 && nat_lt p.0 (thread_count s) && is_same_what p.1.tag.what w && same_load p.1.load load && passes_by s w from p.0

abbrev went_home : Script → What → ℕ → Load → ℕ × Letter → Bool
went_home s w from load p = same_sends (addressed (p ∷ [])) (completion w) && same_load p.1.load load && passes_by s w from (thread_count s)

abbrev goes_on : Script → What → ℕ → Load → List (ℕ × Letter) → Bool
goes_on s w from load [] = true
goes_on s w from load (p ∷ []) = went_to s w from load p || went_home s w from load p
goes_on s w from load (p ∷ q ∷ rest) = false

goes_on_is : (s : Script) (w : What) (from : ℕ) (load : Load) (now : List (ℕ × Letter)) → goes_on s w from load now ≡ true → GoesOn s w from load now
goes_on_is s w from load [] e = tt
goes_on_is s w from load (p ∷ []) e = at (went_to s w from load p) refl e
  where
    at : (b : Bool) → went_to s w from load p ≡ b → (b || went_home s w from load p) ≡ true → GoesOn s w from load (p ∷ [])
    at true f e =
        let a = and_parts (nat_le from p.0 && nat_lt p.0 (thread_count s) && is_same_what p.1.tag.what w && same_load p.1.load load) (passes_by s w from p.0) f in
        let b = and_parts (nat_le from p.0 && nat_lt p.0 (thread_count s) && is_same_what p.1.tag.what w) (same_load p.1.load load) a.0 in
        let c = and_parts (nat_le from p.0 && nat_lt p.0 (thread_count s)) (is_same_what p.1.tag.what w) b.0 in
        let d = and_parts (nat_le from p.0) (nat_lt p.0 (thread_count s)) c.0 in
        inl (record { above = leb-true from p.0 d.0; thread = ltb-true p.0 (thread_count s) d.1; token = (Tells-what p.1.tag.what w).0 c.1; carried = tells_load p.1.load load b.1; passed = a.1 })
    at false f e =
        let a = and_parts (same_sends (addressed (p ∷ [])) (completion w) && same_load p.1.load load) (passes_by s w from (thread_count s)) e in
        let b = and_parts (same_sends (addressed (p ∷ [])) (completion w)) (same_load p.1.load load) a.0 in
        inr (record { completes = tells_sends (addressed (p ∷ [])) (completion w) b.0; carried = tells_load p.1.load load b.1; passed = a.1 })
goes_on_is s w from load (p ∷ q ∷ rest) e = absurd (false≢true e)

abbrev sets : Script → Option What → List (ℕ × Letter) → Bool
sets s None now = is_empty now
sets s (Some w) now = goes_on s w 0 (empty_load w) now

sets_is : (s : Script) (o : Option What) (now : List (ℕ × Letter)) → sets s o now ≡ true → Sets s o now
sets_is s None now e = empty_is now e
sets_is s (Some w) now e = goes_on_is s w 0 (empty_load w) now e

abbrev line_sends : Script → ℕ → List Step → Did → List (ℕ × Letter) → Bool
line_sends s t past x now = elim x.answer [
  | answer.Sent ↦ same_sends (addressed now) (option_to_list (option_map (λ d. (owner_of s d, what.Request x.op)) (image_at s t x.op)))
  | answer.Deferred ↦ same_sends (addressed now) (option_to_list (option_map (λ d. (t, what.PutSelf d)) (image_at s t x.op)))
  | answer.Closed ↦ same_sends (addressed now) (map (λ d. (t, what.PutSelf d)) (referred s t past))
  | answer.Started ↦ sets s (token_of s t x.op) now
  | _ ↦ is_empty now
]

line_sends_is : (s : Script) (t : ℕ) (past : List Step) (at k : ℕ) (a : Answer) (now : List (ℕ × Letter)) → line_sends s t past (record { at = at; op = k; answer = a }) now ≡ true → SentByDid s t past (record { at = at; op = k; answer = a }) now
line_sends_is s t past at k answer.Sent now e = tells_sends (addressed now) _ e
line_sends_is s t past at k answer.Deferred now e = tells_sends (addressed now) _ e
line_sends_is s t past at k answer.Closed now e = tells_sends (addressed now) _ e
line_sends_is s t past at k answer.Started now e = sets_is s (token_of s t k) now e
line_sends_is s t past at k _ now e = empty_is now e

abbrev replies : Script → ℕ → List Step → Tag → ℕ → List (ℕ × Letter) → Bool
replies s t past m k now = same_sends (addressed now) ((m.sender, what.Reply k) ∷ []) && same_answers (answers_in now) (option_and_then (answer_after (block_of_owner s t) (ops_run s past)) (op_at s m.sender k) ∷ [])

abbrev ran_sends : Script → ℕ → Log → List Step → ℕ → Tag → List (ℕ × Letter) → Bool
ran_sends s t l past i m now = elim m.what [
  | what.Request k ↦ cond (is_owner s t) (replies s t past m k now) (is_empty now)
  | what.Visit o k d ↦ goes_on s (what.Visit o k d) (t + 1) (load_behind s t past (what.Visit o k d) (load_at l i)) now
  | what.Cast o k ↦ goes_on s (what.Cast o k) (t + 1) (load_behind s t past (what.Cast o k) (load_at l i)) now
  | _ ↦ is_empty now
]

ran_sends_is : (s : Script) (t : ℕ) (l : Log) (past : List Step) (i sender number : ℕ) (v : What) (now : List (ℕ × Letter)) → ran_sends s t l past i (record { sender = sender; number = number; what = v }) now ≡ true
    → SentByRan s t l past i (record { sender = sender; number = number; what = v }) now
ran_sends_is s t l past i sender number (what.Request k) now e = at (is_owner s t) e
  where
    at : (b : Bool) → cond b (replies s t past (record { sender = sender; number = number; what = what.Request k }) k now) (is_empty now) ≡ true
        → Either b (Replies s t past (record { sender = sender; number = number; what = what.Request k }) k now) (now ≡ [])
    at true e =
        let a = and_parts (same_sends (addressed now) ((sender, what.Reply k) ∷ [])) (same_answers (answers_in now) (option_and_then (answer_after (block_of_owner s t) (ops_run s past)) (op_at s sender k) ∷ [])) e in
        record { reply = tells_sends (addressed now) _ a.0; answer = tells_answers (answers_in now) _ a.1 }
    at false e = empty_is now e
ran_sends_is s t l past i sender number (what.Visit o k d) now e = goes_on_is s (what.Visit o k d) (t + 1) _ now e
ran_sends_is s t l past i sender number (what.Cast o k) now e = goes_on_is s (what.Cast o k) (t + 1) _ now e
ran_sends_is s t l past i sender number _ now e = empty_is now e

abbrev step_sends : Script → ℕ → Log → List Step → Step → List (ℕ × Letter) → Bool
step_sends s t l past (step.Did i x) now = cond (is_client s t) (line_sends s t past x now) (is_empty now)
step_sends s t l past (step.Called i x) now = is_empty now
step_sends s t l past (step.Ran i m) now = ran_sends s t l past i m now

step_sends_is : (s : Script) (t : ℕ) (l : Log) (past : List Step) (x : Step) (now : List (ℕ × Letter)) → step_sends s t l past x now ≡ true → SentBy s t l past x now
step_sends_is s t l past (step.Did i x) now e = at (is_client s t) e
  where
    at : (b : Bool) → cond b (line_sends s t past x now) (is_empty now) ≡ true → Either b (SentByDid s t past x now) (now ≡ [])
    at true e = line_sends_is s t past x.at x.op x.answer now e
    at false e = empty_is now e
step_sends_is s t l past (step.Called i x) now e = empty_is now e
step_sends_is s t l past (step.Ran i m) now e = ran_sends_is s t l past i m.sender m.number m.what now e

abbrev pub sends_along : Script → ℕ → Log → List (List Step × Step) → List (List (ℕ × Letter)) → Bool
sends_along s t l [] [] = true
sends_along s t l (p ∷ ps) (now ∷ sends) = step_sends s t l p.0 p.1 now && sends_along s t l ps sends
sends_along s t l _ _ = false

pub sends_along_is : (s : Script) (t : ℕ) (l : Log) (ps : List (List Step × Step)) (sends : List (List (ℕ × Letter))) → sends_along s t l ps sends ≡ true → SentAlong s t l ps sends
sends_along_is s t l [] [] e = tt
sends_along_is s t l [] (now ∷ sends) e = absurd (false≢true e)
sends_along_is s t l (p ∷ ps) [] e = absurd (false≢true e)
sends_along_is s t l (p ∷ ps) (now ∷ sends) e =
    let h = and_parts (step_sends s t l p.0 p.1 now) (sends_along s t l ps sends) e in
    (step_sends_is s t l p.0 p.1 now h.0, sends_along_is s t l ps sends h.1)
