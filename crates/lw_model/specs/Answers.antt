-- What ops may be answered, by what the thread did before.
use Rattle.std.specs.Prelude.{ℕ, zero, suc, ◌+◌, ◌≤◌, ◌==◌, nat_lt, nat_le, Bool, true, false, cond, ◌&&◌, ◌||◌, not, IsTrue, List, [], ◌∷◌, length, map, filter, Option, Some, None, slice_get, take_while}
use Rattle.std.specs.List.{list_all, list_any}
use Rattle.lw_model.specs.declared.script.Script.{Script}
use Rattle.lw_model.specs.declared.script.Op.{Op}
use Rattle.lw_model.specs.declared.script.Op.TheVariants as op
use Rattle.lw_base.specs.declared.message.What.{What}
use Rattle.lw_base.specs.declared.message.What.TheVariants as what
use Rattle.lw_model.specs.declared.record.Record.{Record}
use Rattle.lw_model.specs.declared.record.Did.{Did}
use Rattle.lw_model.specs.declared.record.Called.{Called}
use Rattle.lw_model.specs.declared.record.Answer.{Answer}
use Rattle.lw_model.specs.declared.record.Answer.TheVariants as answer
use Rattle.lw_model.specs.Threads.{EachThread, is_client, clients, ops_of, depth_of, op_at, is_on, of_thread, ran_of, did_of}
use Rattle.lw_model.specs.declared.step.Step.{Step}
use Rattle.lw_model.specs.declared.step.Step.TheVariants as step
use Rattle.lw_model.specs.OwnOrder.{with_past, history}
use Rattle.lw_model.specs.Holding.{is_sent, is_closed, is_started, runs, references, held}

-- the ops of a client whose requests are unanswered after the steps of `past`, the latest first
abbrev pub unanswered : List Step → List ℕ
unanswered [] = []
unanswered (step.Did i x ∷ past) = cond (is_sent x.answer) (x.op ∷ unanswered past) (unanswered past)
unanswered (step.Called i x ∷ past) = unanswered past
unanswered (step.Ran i m ∷ past) = elim m.what [ what.Reply k ↦ filter (λ j. not (j == k)) (unanswered past) | _ ↦ unanswered past ]

-- those of them that are on image d
abbrev pub unanswered_on : Script → ℕ → ℕ → List Step → List ℕ
unanswered_on s t d past = filter (is_on s t d) (unanswered past)

-- what a get may be answered, by the ordinal that is held
abbrev pub get_fits : Option ℕ → Answer → Bool
get_fits None (answer.Given n) = true
get_fits (Some e) (answer.Again n) = n == e
get_fits _ answer.Shut = true
get_fits _ _ = false

-- what a put may be answered, by the reference count
abbrev pub put_fits : ℕ → Answer → Bool
put_fits n answer.NoChannel = n == 0
put_fits n answer.Deferred = n == 1
put_fits n answer.Counted = nat_lt 1 n
put_fits n _ = false

-- what a write, read or flush may be answered, by the reference count
abbrev pub request_fits : ℕ → Answer → Bool
request_fits n answer.NoChannel = n == 0
request_fits n answer.Sent = nat_lt 0 n
request_fits n _ = false

-- what a visit may be answered
abbrev pub visit_fits : Answer → Bool
visit_fits answer.Started = true
visit_fits answer.Shut = true
visit_fits _ = false

-- what an unregister may be answered
abbrev pub unregister_fits : Answer → Bool
unregister_fits (answer.Began n) = true
unregister_fits answer.Already = true
unregister_fits _ = false

-- what a wait may be answered
abbrev pub is_waited : Answer → Bool
is_waited answer.Waited = true
is_waited _ = false

-- the answer is one that the op allows where the steps of `past` stand before it; past the last op stands `closed`
abbrev pub answer_fits : Script → ℕ → List Step → Option Op → Answer → Bool
answer_fits s t past None a = is_closed a && length (unanswered past) == 0
answer_fits s t past (Some o) a = elim o [
  | op.Get d ↦ get_fits (held (is_on s t d) d past) a
  | op.Put d ↦ put_fits (references (is_on s t d) past) a && length (unanswered_on s t d past) == 0
  | op.Write d start count pattern ↦ request_fits (references (is_on s t d) past) a
  | op.Read d start count ↦ request_fits (references (is_on s t d) past) a
  | op.Flush d ↦ request_fits (references (is_on s t d) past) a
  | op.Wait ticks ↦ is_waited a
  | op.Visit d ↦ visit_fits a
  | op.Each ↦ is_started a
  | op.Unregister d ↦ unregister_fits a && length (unanswered_on s t d past) == 0
]

-- a request is sent only while fewer are unanswered than the depth
abbrev pub depth_fits : Script → ℕ → List Step → Answer → Bool
depth_fits s t past a = not (is_sent a) || nat_lt (length (unanswered past)) (depth_of s t)

-- `w` completes the op k, which started
abbrev pub completes : Option Op → ℕ → What → Bool
completes (Some o) k (what.Visited j) = j == k && elim o [ op.Visit d ↦ true | _ ↦ false ]
completes (Some o) k (what.Casted j) = j == k && elim o [ op.Each ↦ true | _ ↦ false ]
completes _ k _ = false

-- the `did` line of place i
abbrev pub is_did : ℕ → Step → Bool
is_did i (step.Did j x) = j == i
is_did i _ = false

-- since the `did` line of place i the thread ran what completes it, if it started something
abbrev pub is_completed : Script → ℕ → List Step → ℕ → Did → Bool
is_completed s t past i x = not (is_started x.answer) || list_any (runs (completes (op_at s t x.op) x.op)) (take_while (λ s. not (is_did i s)) past)

-- what the `did` line before that of place i started is complete
abbrev pub earlier_completed : Record → ℕ → List Step → ℕ → Bool
earlier_completed r t past zero = true
earlier_completed r t past (suc i) = elim (slice_get (did_of r t) i) [ None ↦ true | Some x ↦ is_completed r.script t past i x ]

-- a client's `did` line of place i: the op of that number, then one `closed`
abbrev pub client_did_fits : Record → ℕ → List Step → ℕ → Did → Bool
client_did_fits r t past i x = x.op == i && nat_le i (length (ops_of r.script t)) && answer_fits r.script t past (op_at r.script t i) x.answer
    && depth_fits r.script t past x.answer && earlier_completed r t past i

-- the `done` line of client c stands among these steps of the app
abbrev pub is_done_of : ℕ → Step → Bool
is_done_of c (step.Ran i m) = m.sender == c && elim m.what [ what.Done ↦ true | _ ↦ false ]
is_done_of c _ = false

-- the app's `did` line of place i: that of device i, after each client's `done`
abbrev pub app_did_fits : Record → List Step → ℕ → Did → Bool
app_did_fits r past i x = x.op == i && nat_lt i (length r.script.images) && unregister_fits x.answer && list_all (λ c. list_any (is_done_of c) past) (clients r.script)

-- a `did` line of thread t; an owner has none
abbrev pub did_fits : Record → ℕ → List Step → ℕ → Did → Bool
did_fits r t past i x = cond (t == 0) (app_did_fits r past i x) (is_client r.script t && client_did_fits r t past i x)

-- a step of thread t where those of `past` stand before it
abbrev pub step_fits : Record → ℕ → List Step → Step → Bool
step_fits r t past (step.Did i x) = did_fits r t past i x
step_fits r t past _ = true

-- how many `did` lines a thread has
abbrev pub wanted : Record → ℕ → ℕ
wanted r t = cond (t == 0) (length r.script.images) (cond (is_client r.script t) (length (ops_of r.script t) + 1) 0)

-- a number that is not below the one before it, and at most `most`; `past` has the earlier ones, the latest first
abbrev pub at_fits : ℕ → List ℕ → ℕ → Bool
at_fits most [] a = nat_le a most
at_fits most (b ∷ past) a = nat_le b a && nat_le a most

-- each of these numbers is not below the one before it, and at most `most`
abbrev pub ats_ascend : ℕ → List ℕ → Bool
ats_ascend most ats = list_all (λ p. at_fits most p.0 p.1) (with_past [] ats)

-- the callbacks that were made on a thread
abbrev pub called_of : Record → ℕ → List Called
called_of r t = of_thread (λ x. x.called) r t

-- the AT of its `did` lines
abbrev pub did_ats : Record → ℕ → List ℕ
did_ats r t = map (λ x. x.at) (did_of r t)

-- the AT of its `called` lines
abbrev pub called_ats : Record → ℕ → List ℕ
called_ats r t = map (λ x. x.at) (called_of r t)

-- each of these is not below the one before it, and at most the number of messages that the thread ran
abbrev pub ats_fit : Record → ℕ → List ℕ → Bool
ats_fit r t ats = ats_ascend (length (ran_of r t)) ats

-- each thread has its `did` lines, their AT and those of the callbacks ascend, and each line fits what stands before it
pub record Answers (r : Record) : Type 0 where
  pub count : EachThread r (λ t. wanted r t ≤ length (did_of r t))
  pub did_order : EachThread r (λ t. IsTrue (ats_fit r t (did_ats r t)))
  pub called_order : EachThread r (λ t. IsTrue (ats_fit r t (called_ats r t)))
  pub lines : EachThread r (λ t. IsTrue (list_all (λ p. step_fits r t p.0 p.1) (history r t)))
