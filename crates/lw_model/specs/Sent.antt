-- What a sender is made to send: S(s, r), from the sender's own lines and, for tokens alone, from which threads ran each token.
use Rattle.std.specs.Prelude.{ℕ, ◌==◌, nat_lt, Bool, true, false, cond, ◌&&◌, ◌||◌, List, [], ◌∷◌, ◌++◌, map, filter, Option, Some, None, option_to_list, option_map, slice_get}
use Rattle.std.specs.List.{list_any, flat_map}
use Rattle.lw_model.specs.declared.script.Script.{Script}
use Rattle.lw_model.specs.declared.script.Op.{Op}
use Rattle.lw_model.specs.declared.script.Op.TheVariants as op
use Rattle.lw_base.specs.declared.message.Tag.{Tag}
use Rattle.lw_base.specs.declared.message.What.{What}
use Rattle.lw_base.specs.declared.message.What.TheVariants as what
use Rattle.lw_model.specs.declared.record.Record.{Record}
use Rattle.lw_model.specs.declared.record.Did.{Did}
use Rattle.lw_model.specs.declared.record.Answer.TheVariants as answer
use Rattle.lw_model.specs.Threads.{owner_of, is_client, is_owner, threads, clients, images, op_at, image_at, is_on, ran_of}
use Rattle.lw_model.specs.declared.step.Step.{Step}
use Rattle.lw_model.specs.declared.step.Step.TheVariants as step
use Rattle.lw_model.specs.OwnOrder.{history}
use Rattle.lw_model.specs.Holding.{references}

-- of messages with their receivers, those to thread t
abbrev pub to_thread : {X : Type 0} → ℕ → List (ℕ × X) → List X
to_thread t sends = map (λ p. p.1) (filter (λ p. p.0 == t) sends)

-- the token that an op of thread t starts: of a visit or of a cast
abbrev pub token_of_op : ℕ → ℕ → Op → Option What
token_of_op t k (op.Visit d) = Some (what.Visit t k d)
token_of_op t k op.Each = Some (what.Cast t k)
token_of_op t k _ = None

-- the token that the op k of thread t starts
abbrev pub token_of : Script → ℕ → ℕ → Option What
token_of s t k = elim (op_at s t k) [ None ↦ None | Some o ↦ token_of_op t k o ]

-- whether a WHAT is the token of the op k of thread t
abbrev pub is_same_token : What → What → Bool
is_same_token (what.Visit o k d) (what.Visit o' k' d') = o == o' && k == k' && d == d'
is_same_token (what.Cast o k) (what.Cast o' k') = o == o' && k == k'
is_same_token _ _ = false

-- the threads that ran a token, ascending, and the first of those that pass
abbrev pub runners : Record → What → List ℕ
runners r w = filter (λ t. list_any (λ m. is_same_token w m.what) (ran_of r t)) (threads r.script)

-- the first thread that ran a token, among those that pass
abbrev pub first_runner : Record → What → (ℕ → Bool) → Option ℕ
first_runner r w passes = slice_get (filter passes (runners r w)) 0

-- what ends a token's way, to its origin
abbrev pub completion : What → List (ℕ × What)
completion (what.Visit origin k d) = (origin, what.Visited k) ∷ []
completion (what.Cast origin k) = (origin, what.Casted k) ∷ []
completion _ = []

-- from thread s, which ran it, a token goes to the next greater thread that ran it, else home
abbrev pub passed_on : Record → ℕ → What → List (ℕ × What)
passed_on r s w = elim (first_runner r w (nat_lt s)) [ Some t ↦ (t, w) ∷ [] | None ↦ completion w ]

-- a started token goes to the least thread that ran it
abbrev pub started : Record → What → List (ℕ × What)
started r w = elim (first_runner r w (λ t. true)) [ Some t ↦ (t, w) ∷ [] | None ↦ [] ]

-- the devices of which thread s holds a reference
abbrev pub referred : Script → ℕ → List Step → List ℕ
referred s t past = filter (λ d. nat_lt 0 (references (is_on s t d) past)) (images s)

-- what a `did` line of client t sends
abbrev pub sent_by_did : Record → ℕ → List Step → Did → List (ℕ × What)
sent_by_did r t past x = elim x.answer [
  | answer.Sent ↦ option_to_list (option_map (λ d. (owner_of r.script d, what.Request x.op)) (image_at r.script t x.op))
  | answer.Deferred ↦ option_to_list (option_map (λ d. (t, what.PutSelf d)) (image_at r.script t x.op))
  | answer.Closed ↦ map (λ d. (t, what.PutSelf d)) (referred r.script t past)
  | answer.Started ↦ flat_map (started r) (option_to_list (token_of r.script t x.op))
  | _ ↦ []
]

-- what a `ran` line of thread t sends
abbrev pub sent_by_ran : Record → ℕ → Tag → List (ℕ × What)
sent_by_ran r t m = elim m.what [
  | what.Request k ↦ cond (is_owner r.script t) ((m.sender, what.Reply k) ∷ []) []
  | what.Visit origin k d ↦ passed_on r t (what.Visit origin k d)
  | what.Cast origin k ↦ passed_on r t (what.Cast origin k)
  | _ ↦ []
]

-- what a step of thread t sends: each message with its receiver
abbrev pub sent_by : Record → ℕ → List Step → Step → List (ℕ × What)
sent_by r t past (step.Did i x) = cond (is_client r.script t) (sent_by_did r t past x) []
sent_by r t past (step.Called i x) = []
sent_by r t past (step.Ran i m) = sent_by_ran r t m

-- what a thread sends last
abbrev pub sent_last : Script → ℕ → List (ℕ × What)
sent_last s t = cond (is_client s t) ((0, what.Done) ∷ []) (cond (t == 0) (map (λ d. (owner_of s d, what.Stop)) (images s)) [])

-- all that thread s sends, each with its receiver
abbrev pub all_sent : Record → ℕ → List (ℕ × What)
all_sent r s = flat_map (λ p. sent_by r s p.0 p.1) (history r s) ++ sent_last r.script s

-- the sent list S(s, t)
abbrev pub sent : Record → ℕ → ℕ → List What
sent r s t = map (λ p. p.1) (filter (λ p. p.0 == t) (all_sent r s))

-- what thread t ran of sender s, in order
abbrev pub run_of : Record → ℕ → ℕ → List What
run_of r s t = map (λ m. m.what) (filter (λ m. m.sender == s) (ran_of r t))

-- the tokens of all `started` lines
abbrev pub tokens_started_by : Record → ℕ → Step → List What
tokens_started_by r t (step.Did i x) = elim x.answer [ answer.Started ↦ option_to_list (token_of r.script t x.op) | _ ↦ [] ]
tokens_started_by r t _ = []

-- the tokens that were started, by client and then in own order
abbrev pub tokens : Record → List What
tokens r = flat_map (λ t. flat_map (λ p. tokens_started_by r t p.1) (history r t)) (clients r.script)

-- the threads that run a token wherever they stand: the app, the owners, its origin
abbrev pub is_origin : What → ℕ → Bool
is_origin (what.Visit origin k d) t = t == origin
is_origin (what.Cast origin k) t = t == origin
is_origin _ t = false

-- the app, the owners and its origin run each token that was started
abbrev pub must_run : Script → What → ℕ → Bool
must_run s w t = t == 0 || is_owner s t || is_origin w t
