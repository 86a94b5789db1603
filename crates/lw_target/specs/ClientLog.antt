-- What a client has listed and run so far, and how what it keeps agrees with that.
use Rattle.std.specs.Prelude.{ℕ, ◌+◌, ◌≡◌, ◌<◌, ◌≤◌, ◌⊎◌, ◌==◌, nat_le, Bool, true, cond, ◌&&◌, not, is_some, IsTrue, List, [], ◌∷◌, ◌++◌, length, map, reverse, Some, option_to_list, option_map, slice_get, vec_len, count_by, filter_map}
use Rattle.std.specs.List.{list_all, list_any, flat_map}
use Rattle.lw_base.specs.declared.message.Tag.{Tag}
use Rattle.lw_base.specs.declared.message.What.{What}
use Rattle.lw_base.specs.declared.message.What.TheVariants as what
use Rattle.lw_model.specs.declared.script.Script.{Script}
use Rattle.lw_model.specs.declared.step.Step.{Step}
use Rattle.lw_model.specs.declared.step.Step.TheVariants as step
use Rattle.lw_model.specs.declared.record.Did.{Did}
use Rattle.lw_model.specs.declared.record.Reply.{Reply}
use Rattle.lw_model.specs.declared.record.Answer.TheVariants as answer
use Rattle.lw_model.specs.declared.record.ThreadRecord.{ThreadRecord}
use Rattle.lw_model.specs.declared.record.RoleKind.TheVariants as role
use Rattle.lw_model.specs.Threads.{is_client, owner_of, ops_of, depth_of, op_at, image_at, is_on}
use Rattle.lw_model.specs.OwnOrder.{own_order, with_past}
use Rattle.lw_model.specs.Holding.{is_started, says, always, is_closed, gains, loses, ordinal_given, references, pending, held}
use Rattle.lw_model.specs.Answers.{unanswered, unanswered_on, answer_fits, depth_fits}
use Rattle.lw_model.specs.Devices.{is_refusal}
use Rattle.lw_model.specs.Sent.{referred}
use Rattle.lw_model.specs.Answers as answers
use Rattle.lw_target.specs.declared.client.Client.{Client}
use Rattle.lw_target.specs.declared.channel.Channel.{Channel}

-- what a client that stays on reactor 0 has run and listed, as its part of a record
abbrev pub log_of : List Tag → List Did → List Reply → ThreadRecord
log_of ran did replies = record { role = role.Client; home = 0; hops = []; ran = ran; did = did; called = []; replies = replies; seen = [] }

-- its steps in own order
abbrev pub steps_so_far : Client → List Tag → List Step
steps_so_far c ran = own_order (log_of ran c.did c.replies)

-- the same, the latest first
abbrev pub past_so_far : Client → List Tag → List Step
past_so_far c ran = reverse (steps_so_far c ran)

-- what a client's step sends, each message with its receiver, where no visit and no cast is started
abbrev pub sends_of : Script → ℕ → List Step → Step → List (ℕ × What)
sends_of s t past (step.Did i x) = elim x.answer [
  | answer.Sent ↦ option_to_list (option_map (λ d. (owner_of s d, what.Request x.op)) (image_at s t x.op))
  | answer.Deferred ↦ option_to_list (option_map (λ d. (t, what.PutSelf d)) (image_at s t x.op))
  | answer.Closed ↦ map (λ d. (t, what.PutSelf d)) (referred s t past)
  | _ ↦ []
]
sends_of s t past (step.Called i x) = []
sends_of s t past (step.Ran i m) = []

-- what the steps of a client send
abbrev pub sends_of_steps : Script → ℕ → List Step → List (ℕ × What)
sends_of_steps s t steps = flat_map (λ p. sends_of s t p.0 p.1) (with_past [] steps)

-- what a client has sent so far; last comes its `done`
abbrev pub sent_so_far : Script → Client → List Tag → List (ℕ × What)
sent_so_far s c ran = sends_of_steps s c.thread (steps_so_far c ran) ++ cond c.done ((0, what.Done) ∷ []) []

-- a step that fits what stands before it, the latest first, where no visit and no cast is started
abbrev pub line_fits : Script → ℕ → List Step → Step → Bool
line_fits s t past (step.Did i x) = x.op == i && nat_le i (length (ops_of s t)) && answer_fits s t past (op_at s t i) x.answer && depth_fits s t past x.answer && not (is_started x.answer)
line_fits s t past (step.Called i x) = true
line_fits s t past (step.Ran i m) = true

abbrev pub lines_fit : Script → ℕ → List Step → Bool
lines_fit s t steps = list_all (λ p. line_fits s t p.0 p.1) (with_past [] steps)

-- the lines of a client came behind ever more messages, and behind `most` at most
abbrev pub ats_ascend : ℕ → List Did → Bool
ats_ascend most dids = answers.ats_ascend most (map (λ x. x.at) dids)

-- the client is one of the script's, with a channel for each of its images
pub record IsOf (s : Script) (c : Client) : Type 0 where
  pub client : is_client s c.thread ≡ true
  pub ops : ops_of s c.thread ≡ c.of.ops
  pub depth : depth_of s c.thread ≡ c.of.depth
  pub devices : length s.images ≡ vec_len c.channels
  pub owners : owner_of s 0 ≡ c.first_owner

-- what the client keeps of device d is what its steps say
pub record KeepsDevice (s : Script) (t : ℕ) (past : List Step) (d : ℕ) (k : Channel) : Type 0 where
  pub ordinal : held (is_on s t d) d past ≡ k.ordinal
  pub references : references (is_on s t d) past ≡ k.references
  pub pending : pending (is_on s t d) d past ≡ k.pending
  -- a channel that stands has a reference or awaits its put, and no other does
  pub standing : IsTrue (is_some k.ordinal) → 0 < k.references + k.pending
  pub stands : 0 < k.references + k.pending → IsTrue (is_some k.ordinal)
  -- no more references were given back than were taken
  pub balance : count_by (says (is_on s t d) loses) past ≤ count_by (says (is_on s t d) gains) past
  -- the last reference is kept as long as a request on it is unanswered
  pub waited : k.references ≡ 0 → length (unanswered_on s t d past) ≡ 0

-- what the client keeps is what its steps say, and each step fits those before it
pub record Follows (s : Script) (c : Client) (ran : List Tag) : Type 0 where
  pub of : IsOf s c
  pub listed : length c.did ≡ c.next + cond c.closed 1 0
  pub closed : c.closed ≡ true → c.next ≡ length c.of.ops
  pub says_closed : list_any (says always is_closed) (past_so_far c ran) ≡ c.closed
  pub devices : (d : ℕ) (k : Channel) → slice_get c.channels.items d ≡ Some k → KeepsDevice s c.thread (past_so_far c ran) d k
  pub standing : c.standing ≡ count_by (λ k. is_some k.ordinal) c.channels.items
  -- oldest first
  pub unanswered : c.unanswered.items ≡ reverse (unanswered (past_so_far c ran))
  pub lines : lines_fit s c.thread (steps_so_far c ran) ≡ true
  pub ats : ats_ascend (length ran) c.did ≡ true
  pub done : c.done ≡ true → (c.closed ≡ true) × (c.standing ≡ 0)
  -- each op is given a channel once at most
  pub gets : (d : ℕ) → length (filter_map (ordinal_given (is_on s c.thread d)) (steps_so_far c ran)) ≤ c.next

-- the client was never refused a channel
abbrev pub was_refused : Client → List Tag → Bool
was_refused c ran = list_any (says always is_refusal) (steps_so_far c ran)

-- what keeps a client from going on: a request is unanswered, or it has closed and a channel stands
abbrev pub IsHeldUp : Client → Type 0
IsHeldUp c = (0 < length c.unanswered.items) ⊎ ((c.closed ≡ true) × (0 < c.standing))
