-- The journal of an image, and what each of its requests is answered.
use Rattle.std.specs.Prelude.{◌<◌, ◌≡◌, IsTrue, filter, ℕ, ◌==◌, cond, ◌&&◌, List, [], ◌∷◌, map, length, Option, Some, None, option_and_then, filter_map, zip}
use Rattle.lw_base.specs.declared.message.Tag.{Tag}
use Rattle.lw_base.specs.declared.message.What.TheVariants as what
use Rattle.lw_model.specs.declared.record.Record.{Record}
use Rattle.lw_model.specs.declared.record.Replied.{Replied}
use Rattle.lw_model.specs.declared.record.Answer.TheVariants as answer
use Rattle.lw_model.specs.declared.step.Step.{Step}
use Rattle.lw_model.specs.declared.step.Step.TheVariants as step
use Rattle.lw_model.specs.OwnOrder.{own_order_of}
use Rattle.lw_model.specs.ScriptRules.{block_at}
use Rattle.lw_model.specs.Replay.{replay}
use Rattle.lw_model.specs.Threads.{is_client, is_on, owner_of, op_at, image_at, ran_of}

-- a request by its client and its op
abbrev pub request_of : Tag → Option (ℕ × ℕ)
request_of m = elim m.what [ what.Request k ↦ Some (m.sender, k) | _ ↦ None ]

-- J(d)
abbrev pub journal : Record → ℕ → List (ℕ × ℕ)
journal r d = filter_map request_of (ran_of r (owner_of r.script d))

-- the requests of J(d), each with its answer
abbrev pub answers : Record → ℕ → List ((ℕ × ℕ) × Option Replied)
answers r d = zip (journal r d) (replay (block_at r.script d) [] (map (λ e. op_at r.script e.0 e.1) (journal r d)))

-- what stands under a client's op in such a list
abbrev pub look_up : ℕ → ℕ → List ((ℕ × ℕ) × Option Replied) → Option Replied
look_up c k [] = None
look_up c k (e ∷ rest) = cond (e.0.0 == c && e.0.1 == k) e.1 (look_up c k rest)

-- the answer of the request of op k of client c
abbrev pub reply_of : Record → ℕ → ℕ → Option Replied
reply_of r c k = option_and_then (λ d. look_up c k (answers r d)) (image_at r.script c k)

-- the op of a line that says that it was sent on d
abbrev pub sent_op : Record → ℕ → ℕ → Step → Option ℕ
sent_op r c d (step.Did i x) = elim x.answer [ answer.Sent ↦ cond (is_on r.script c d x.op) (Some x.op) None | _ ↦ None ]
sent_op r c d _ = None

-- the part of each journal that came from a client is the ops that this client lists as sent on the image, in its own order
abbrev pub IsOfClients : Record → Type 0
IsOfClients r = (c d : ℕ) → IsTrue (is_client r.script c) → d < length r.script.images
    → map (λ e. e.1) (filter (λ e. e.0 == c) (journal r d)) ≡ filter_map (sent_op r c d) (own_order_of r c)
