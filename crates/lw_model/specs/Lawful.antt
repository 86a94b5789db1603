-- When a record is lawful: nine rules, each of the whole record.
use Rattle.std.specs.Prelude.{ℕ, ◌≡◌, Bool, ◌||◌, not, IsTrue, List, [], map, Option, Some, None, option_map, option_and_then, filter_map, find}
use Rattle.std.specs.List.{list_all, list_any}
use Rattle.lw_base.specs.declared.message.Tag.{Tag}
use Rattle.lw_base.specs.declared.message.Mark.{Mark}
use Rattle.lw_base.specs.declared.message.What.{What}
use Rattle.lw_base.specs.declared.message.What.TheVariants as what
use Rattle.lw_model.specs.declared.record.Record.{Record}
use Rattle.lw_model.specs.declared.record.Reply.{Reply}
use Rattle.lw_model.specs.declared.record.Seen.{Seen}
use Rattle.lw_model.specs.declared.record.SeenBy.{SeenBy}
use Rattle.lw_model.specs.declared.record.SeenBy.TheVariants as by
use Rattle.lw_model.specs.Threads.{EachThread, EachClient, image_at, is_on, of_thread, ran_of}
use Rattle.lw_model.specs.OwnOrder.{with_past, history}
use Rattle.lw_model.specs.Holding.{runs, held, submitted}
use Rattle.lw_model.specs.Sent.{sent, run_of, tokens, must_run, runners, is_same_token}
use Rattle.lw_model.specs.Journal.{reply_of}
use Rattle.lw_model.specs.Moves.{HomesAndHops, Numbers}
use Rattle.lw_model.specs.Answers.{Answers}
use Rattle.lw_model.specs.Devices.{Devices}
use Rattle.lw_model.specs.Rounds.{RoundsAndOrders}

-- ---- Ran is sent

-- thread t ran the token w
abbrev pub has_run : Record → What → ℕ → Bool
has_run r w t = list_any (λ m. is_same_token w m.what) (ran_of r t)

-- no token of the list stands in it twice
abbrev pub is_first_run : List Tag → Tag → Bool
is_first_run past m = not (list_any (λ x. is_same_token m.what x.what) past)

-- what each thread ran of each sender is what that sender sent to it, and each token went its way
pub record RanIsSent (r : Record) : Type 0 where
  pub all : EachThread r (λ t. (s : ℕ) → run_of r s t ≡ sent r s t)
  pub once : EachThread r (λ t. IsTrue (list_all (λ p. is_first_run p.0 p.1) (with_past [] (ran_of r t))))
  pub everywhere : EachThread r (λ t. IsTrue (list_all (λ w. not (must_run r.script w t) || has_run r w t) (tokens r)))

-- ---- Replies

-- the op of a reply
abbrev pub reply_op : Tag → Option ℕ
reply_op m = elim m.what [ what.Reply k ↦ Some k | _ ↦ None ]

-- the ops of the replies that thread t ran, in order
abbrev pub replied_ops : Record → ℕ → List ℕ
replied_ops r t = filter_map reply_op (ran_of r t)

-- the replies that a thread lists
abbrev pub replies_of : Record → ℕ → List Reply
replies_of r t = of_thread (λ x. x.replies) r t

-- the `reply` line that is owed for op k of client t
abbrev pub owed : Record → ℕ → ℕ → Option Reply
owed r t k = option_map (λ a. record { op = k; answer = a }) (reply_of r t k)

-- a client lists each reply that it ran, in order, with the answer that it is owed
abbrev pub Replies : Record → Type 0
Replies r = EachClient r (λ t. map (λ x. Some x) (replies_of r t) ≡ map (owed r t) (replied_ops r t))

-- ---- Visits seen

-- what a thread adds to the results of the visit with token w: where it ran the token, it held a channel
abbrev pub mark_of : Record → What → ℕ → ℕ → Option Mark
mark_of r w d t = option_and_then (λ p. option_map (λ n. record { thread = t; submitted = submitted (is_on r.script t d) p.0 }) (held (is_on r.script t d) d p.0))
    (find (λ p. runs (is_same_token w) p.1) (history r t))

-- the results of the visit that is the op k of client t: the threads that held a channel, ascending
abbrev pub visit_results : Record → ℕ → ℕ → SeenBy
visit_results r t k = elim (image_at r.script t k) [ None ↦ by.Visit [] | Some d ↦ by.Visit (filter_map (mark_of r (what.Visit t k d) d) (runners r (what.Visit t k d))) ]

-- the results of the cast that is the op k of client t: the threads that ran it, ascending
abbrev pub cast_results : Record → ℕ → ℕ → SeenBy
cast_results r t k = by.Cast (runners r (what.Cast t k))

-- the `seen` line that is owed for a completion that client t ran
abbrev pub seen_by : Record → ℕ → Tag → Option Seen
seen_by r t m = elim m.what [
  | what.Visited k ↦ Some (record { op = k; results = visit_results r t k })
  | what.Casted k ↦ Some (record { op = k; results = cast_results r t k })
  | _ ↦ None
]

-- the `seen` lines of a thread
abbrev pub seen_of : Record → ℕ → List Seen
seen_of r t = of_thread (λ x. x.seen) r t

-- a client lists the results of each completion that it ran, in order
abbrev pub VisitsSeen : Record → Type 0
VisitsSeen r = EachClient r (λ t. seen_of r t ≡ filter_map (seen_by r t) (ran_of r t))

-- ---- Buffers home

-- all buffers are in the pool at the end
pub record BuffersHome (r : Record) : Type 0 where
  pub small : r.home.small ≡ r.script.small
  pub large : r.home.large ≡ r.script.large

-- a lawful record
pub record Lawful (r : Record) : Type 0 where
  pub homes_and_hops : HomesAndHops r
  pub numbers : Numbers r
  pub answers : Answers r
  pub ran_is_sent : RanIsSent r
  pub replies : Replies r
  pub devices : Devices r
  pub visits_seen : VisitsSeen r
  pub rounds_and_orders : RoundsAndOrders r
  pub buffers_home : BuffersHome r
