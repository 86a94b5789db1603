-- What a thread lists, by its own steps alone.
use Rattle.std.specs.Prelude.{ℕ, ◌==◌, nat_lt, nat_le, Bool, true, false, cond, ◌&&◌, ◌||◌, not, List, [], ◌∷◌, length, take, drop, reverse, Option, Some, None, option_map, is_none, count_by}
use Rattle.std.specs.List.{list_all, list_any}
use Rattle.lw_base.specs.declared.message.What.TheVariants as what
use Rattle.lw_model.specs.declared.script.Script.{Script}
use Rattle.lw_model.specs.declared.step.Step.{Step}
use Rattle.lw_model.specs.declared.step.Step.TheVariants as step
use Rattle.lw_model.specs.declared.record.Called.{Called}
use Rattle.lw_model.specs.declared.record.Reply.{Reply}
use Rattle.lw_model.specs.declared.record.Seen.{Seen}
use Rattle.lw_model.specs.declared.record.SeenBy.TheVariants as by
use Rattle.lw_model.specs.Threads.{ops_of, op_at, is_on, clients}
use Rattle.lw_model.specs.Holding.{is_started, says, held}
use Rattle.lw_model.specs.Answers.{answer_fits, depth_fits, completes, unregister_fits, is_done_of}
use Rattle.lw_model.specs.Devices.{is_began, needs_open, tells_shut}
use Rattle.lw_whole.specs.Letters.{Letter, marks_in, threads_in}
use Rattle.lw_whole.specs.Logs.{Log, steps}
use Rattle.lw_whole.specs.Sends.{answer_in}

-- the op whose completion a client awaits behind the steps of `past`, the latest first
abbrev pub awaits : Script → ℕ → List Step → Option ℕ
awaits s t [] = None
awaits s t (step.Did i x ∷ past) = cond (is_started x.answer) (Some x.op) None
awaits s t (step.Called i x ∷ past) = awaits s t past
awaits s t (step.Ran i m ∷ past) = elim (awaits s t past) [ None ↦ None | Some k ↦ cond (completes (op_at s t k) k m.what) None (Some k) ]

-- how many `did` lines stand among these steps
abbrev pub is_a_did : Step → Bool
is_a_did (step.Did i x) = true
is_a_did _ = false

abbrev pub dids_in : List Step → ℕ
dids_in past = count_by is_a_did past

-- a client's line: the next op, or behind the last one `closed`; its answer is one that the steps before allow, and no
-- completion is awaited
abbrev pub client_line_fits : Script → ℕ → List Step → Step → Bool
client_line_fits s t past (step.Did i x) = i == dids_in past && x.op == i && nat_le i (length (ops_of s t)) && answer_fits s t past (op_at s t i) x.answer && depth_fits s t past x.answer && is_none (awaits s t past)
client_line_fits s t past _ = true

-- the app's line: the next device's, behind the Done of each client
abbrev pub app_line_fits : Script → List Step → Step → Bool
app_line_fits s past (step.Did i x) = x.op == i && nat_lt i (length s.images) && unregister_fits x.answer && list_all (λ c. list_any (is_done_of c) past) (clients s)
app_line_fits s past _ = true

-- what needs the device open does not come behind what told the thread that it is shut
abbrev pub stays_shut : Script → ℕ → ℕ → List Step → Step → Bool
stays_shut s t d past x = not (says (is_on s t d) needs_open x) || not (list_any (says (is_on s t d) tells_shut) past)

-- a step that was made before a callback that came when `a` messages had been run, and one that was made behind it
abbrev pub made_before : ℕ → Step → Bool
made_before a (step.Did i x) = nat_le x.at a
made_before a (step.Called i x) = true
made_before a (step.Ran i m) = nat_lt i a

abbrev pub made_behind : ℕ → Step → Bool
made_behind a (step.Did i x) = nat_le a x.at
made_behind a (step.Called i x) = true
made_behind a (step.Ran i m) = nat_le a i

-- a callback came behind the first k steps, where the thread had begun and held no channel of the device
abbrev pub callback_stood : Script → ℕ → Log → ℕ → Called → Bool
callback_stood s t l k x =
    list_all (made_before x.at) (take k (steps l))
    && list_all (made_behind x.at) (drop k (steps l))
    && list_any (says (is_on s t x.device) is_began) (take k (steps l))
    && is_none (held (is_on s t x.device) x.device (reverse (take k (steps l))))

-- the reply that a message brought
abbrev pub reply_in : Letter → Option Reply
reply_in x = elim x.tag.what [ what.Reply k ↦ option_map (λ a. record { op = k; answer = a }) (answer_in x.load) | _ ↦ None ]

-- the results that a completion brought
abbrev pub results_in : Letter → Option Seen
results_in x = elim x.tag.what [
  | what.Visited k ↦ Some (record { op = k; results = by.Visit (marks_in x.load) })
  | what.Casted k ↦ Some (record { op = k; results = by.Cast (threads_in x.load) })
  | _ ↦ None
]
