-- What a thread sends at each of its steps.
use Rattle.std.specs.Prelude.{ℕ, ◌+◌, ◌-◌, ◌≡◌, true, false, List, [], ◌∷◌, map, filter_map, Option, Some, None, option_to_list, option_map, option_and_then}
use Rattle.lw_base.specs.declared.message.Tag.{Tag}
use Rattle.lw_base.specs.declared.message.What.{What}
use Rattle.lw_base.specs.declared.message.What.TheVariants as what
use Rattle.lw_model.specs.declared.script.Script.{Script}
use Rattle.lw_model.specs.declared.script.Op.{Op}
use Rattle.lw_model.specs.declared.step.Step.{Step}
use Rattle.lw_model.specs.declared.step.Step.TheVariants as step
use Rattle.lw_model.specs.declared.record.Did.{Did}
use Rattle.lw_model.specs.declared.record.Answer.TheVariants as answer
use Rattle.lw_model.specs.declared.record.Replied.{Replied}
use Rattle.lw_model.specs.Threads.{owner_of, is_client, is_owner, op_at, image_at}
use Rattle.lw_model.specs.Sent.{referred, token_of, sent_last}
use Rattle.lw_model.specs.ScriptRules.{block_at}
use Rattle.lw_model.specs.Replay.{answer_after}
use Rattle.lw_whole.specs.Letters.{Letter, Load, answered, row}
use Rattle.lw_whole.specs.Logs.{Log, addressed, load_at, steps_with_past}
use Rattle.lw_whole.specs.Tokens.{empty_load, load_behind, GoesOn}

-- the answer that a message carries
abbrev pub answer_in : Load → Option Replied
answer_in (answered a) = Some a
answer_in _ = None

abbrev pub answers_in : List (ℕ × Letter) → List (Option Replied)
answers_in now = map (λ p. answer_in p.1.load) now

-- the op of a request that was run
abbrev pub op_run : Script → Step → Option (Option Op)
op_run s (step.Ran i m) = elim m.what [ what.Request k ↦ Some (op_at s m.sender k) | _ ↦ None ]
op_run s _ = None

-- the ops of the requests among these steps, the latest first
abbrev pub ops_run : Script → List Step → List (Option Op)
ops_run s past = filter_map (op_run s) past

-- the image of an owner
abbrev pub block_of_owner : Script → ℕ → ℕ
block_of_owner s t = block_at s (t - owner_of s 0)

-- a token that a `started` line sends goes to the first thread from 0 on
abbrev pub Sets : Script → Option What → List (ℕ × Letter) → Type 0
Sets s None now = now ≡ []
Sets s (Some w) now = GoesOn s w 0 (empty_load w) now

-- what a client's `did` line sends
abbrev pub SentByDid : Script → ℕ → List Step → Did → List (ℕ × Letter) → Type 0
SentByDid s t past x now = elim x.answer [
  | answer.Sent ↦ addressed now ≡ option_to_list (option_map (λ d. (owner_of s d, what.Request x.op)) (image_at s t x.op))
  | answer.Deferred ↦ addressed now ≡ option_to_list (option_map (λ d. (t, what.PutSelf d)) (image_at s t x.op))
  | answer.Closed ↦ addressed now ≡ map (λ d. (t, what.PutSelf d)) (referred s t past)
  | answer.Started ↦ Sets s (token_of s t x.op) now
  | _ ↦ now ≡ []
]

-- an owner's reply to a request, with the answer of the requests run one by one
pub record Replies (s : Script) (t : ℕ) (past : List Step) (m : Tag) (k : ℕ) (now : List (ℕ × Letter)) : Type 0 where
  pub reply : addressed now ≡ (m.sender, what.Reply k) ∷ []
  pub answer : answers_in now ≡ option_and_then (answer_after (block_of_owner s t) (ops_run s past)) (op_at s m.sender k) ∷ []

-- what a message sends that was run at place i
abbrev pub SentByRan : Script → ℕ → Log → List Step → ℕ → Tag → List (ℕ × Letter) → Type 0
SentByRan s t l past i m now = elim m.what [
  | what.Request k ↦ elim (is_owner s t) [ true ↦ Replies s t past m k now | false ↦ now ≡ [] ]
  | what.Visit o k d ↦ GoesOn s (what.Visit o k d) (t + 1) (load_behind s t past (what.Visit o k d) (load_at l i)) now
  | what.Cast o k ↦ GoesOn s (what.Cast o k) (t + 1) (load_behind s t past (what.Cast o k) (load_at l i)) now
  | _ ↦ now ≡ []
]

-- what a step of thread t sends
abbrev pub SentBy : Script → ℕ → Log → List Step → Step → List (ℕ × Letter) → Type 0
SentBy s t l past (step.Did i x) now = elim (is_client s t) [ true ↦ SentByDid s t past x now | false ↦ now ≡ [] ]
SentBy s t l past (step.Called i x) now = now ≡ []
SentBy s t l past (step.Ran i m) now = SentByRan s t l past i m now

-- each of these steps sent what stands at its place
abbrev pub SentAlong : Script → ℕ → Log → List (List Step × Step) → List (List (ℕ × Letter)) → Type 0
SentAlong s t l [] [] = Unit {0}
SentAlong s t l (p ∷ ps) (now ∷ sends) = SentBy s t l p.0 p.1 now × SentAlong s t l ps sends
SentAlong s t l _ _ = ⊥

-- what a thread sent: at each step, and at its end a client its Done with its row, and the app a Stop to each owner
pub record Sends (s : Script) (t : ℕ) (l : Log) : Type 0 where
  pub at_steps : SentAlong s t l (steps_with_past l) l.sends
  pub at_end : addressed l.last ≡ sent_last s t
  pub with_row : is_client s t ≡ true → map (λ p. p.1.load) l.last ≡ row l.own ∷ []
