-- The replies that a client should list, by what is owed for the replies that it ran.
use Rattle.std.specs.Prelude.{ℕ, cond, nat_lt, List, map, length, Option, Some, option_map, filter_map}
use Rattle.lw_base.specs.declared.message.Tag.{Tag}
use Rattle.lw_model.specs.declared.record.Replied.{Replied}
use Rattle.lw_model.specs.declared.record.Reply.{Reply}
use Rattle.lw_model.specs.declared.record.ThreadRecord.{ThreadRecord}
use Rattle.lw_model.specs.Lawful.{reply_op}
use Rattle.lw_model.specs.Same.{is_same_reply}
use Rattle.lw_judge_threads.specs.declared.lines.ThreadLines.{ThreadLines}
use Rattle.lw_judge_devices.specs.declared.table.Owed.{Owed}
use Rattle.lw_judge_threads.specs.Firsts.{at_line, first_unlike}
use Rattle.lw_judge_devices.specs.Owed.{reply_in}

-- the reply with which op k is answered
abbrev pub reply_to : ℕ → Option Replied → Option Reply
reply_to k o = option_map (λ a. record { op = k; answer = a }) o

-- the replies that are owed for those among some messages that thread t ran
abbrev pub replies_in : Owed → ℕ → List Tag → List (Option Reply)
replies_in w t ran = map (λ k. reply_to k (reply_in w t k)) (filter_map reply_op ran)

-- the first line at which a client's replies aren't the wanted ones: its `thread` line where one lacks
abbrev pub first_line : ThreadRecord → ThreadLines → List (Option Reply) → Option ℕ
first_line x l wanted = cond (nat_lt (length x.replies) (length wanted)) (Some l.thread) (at_line l.replies (first_unlike is_same_reply 0 wanted x.replies))
