-- What the threads sent, thread by thread and step by step.
use Rattle.std.specs.Prelude.{ℕ, ◌≡◌, ◌<◌, ◌==◌, ◌++◌, nat_lt, cond, List, [], Some, None, Vec, length, map, filter, slice_get}
use Rattle.std.specs.List.{flat_map}
use Rattle.lw_base.specs.declared.message.What.{What}
use Rattle.lw_model.specs.declared.record.Record.{Record}
use Rattle.lw_model.specs.declared.step.Step.{Step}
use Rattle.lw_model.specs.OwnOrder.{history}
use Rattle.lw_model.specs.Threads.{thread_count, clients, is_client}
use Rattle.lw_model.specs.Sent.{sent, sent_by, tokens_started_by, to_thread}
use Rattle.lw_judge_messages.specs.declared.sends.Sends.{Sends}
use Rattle.lw_judge_threads.specs.Folded.{folded}
use Rattle.lw_judge_messages.specs.Tokens.{what_of}

-- the items of the list at a place; none where there is no such list
abbrev pub items_at : {X Z : Type 0} → List (Vec X Z) → ℕ → List X
items_at vs i = elim (slice_get vs i) [ None ↦ [] | Some v ↦ v.items ]

-- what is kept of thread s for thread u
abbrev pub list_at : Sends → ℕ → ℕ → List What
list_at x s u = items_at (items_at x.lists.items s) u

-- what thread s sent to thread u, where the threads below t have come to their end, and t behind the steps of `past`
abbrev pub sent_so_far : Record → ℕ → List Step → ℕ → ℕ → List What
sent_so_far r t past s u = cond (nat_lt s t) (sent r s u) (cond (s == t) (to_thread u (folded (sent_by r t) past)) [])

-- the tokens that thread t started
abbrev pub tokens_of : Record → ℕ → List What
tokens_of r t = flat_map (λ p. tokens_started_by r t p.1) (history r t)

-- the tokens that clients started so far
abbrev pub tokens_so_far : Record → ℕ → List Step → List What
tokens_so_far r t past = flat_map (tokens_of r) (filter (λ s. nat_lt s t) (clients r.script))
    ++ cond (is_client r.script t) (folded (λ _ s. tokens_started_by r t s) past) []

-- there is a list of each of n threads for each of them
pub record IsSized (n : ℕ) (x : Sends) : Type 0 where
  pub count : length x.lists.items ≡ n
  pub each : (s : ℕ) → s < n → length (items_at x.lists.items s) ≡ n

-- these are the lists behind the threads below t and the steps of `past` of thread t
pub record AreSendsAt (r : Record) (t : ℕ) (past : List Step) (x : Sends) : Type 0 where
  pub sized : IsSized (thread_count r.script) x
  pub lists : (s u : ℕ) → s < thread_count r.script → u < thread_count r.script → list_at x s u ≡ sent_so_far r t past s u
  pub tokens : map what_of x.tokens.items ≡ tokens_so_far r t past

-- of n threads, thread t sent these messages more, and these tokens more were started
pub record Adds (n t : ℕ) (ms : List (ℕ × What)) (ws : List What) (old new : Sends) : Type 0 where
  pub sized : IsSized n new
  pub lists : (s u : ℕ) → s < n → u < n → list_at new s u ≡ list_at old s u ++ cond (s == t) (to_thread u ms) []
  pub tokens : map what_of new.tokens.items ≡ map what_of old.tokens.items ++ ws
