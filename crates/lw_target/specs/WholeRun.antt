-- What a run of one client on one image leaves when all its threads have ended: the logs of the app, the client and the owner.
use Rattle.std.specs.Prelude.{ℕ, ◌+◌, ◌≡◌, ◌==◌, ◌||◌, Bool, true, false, List, [], ◌∷◌, length, map, filter, filter_map, zip, Option, Some}
use Rattle.std.specs.List.{range_with_len, list_all, list_any}
use Rattle.lw_base.specs.declared.message.Tag.{Tag}
use Rattle.lw_base.specs.declared.message.What.{What}
use Rattle.lw_base.specs.declared.message.What.TheVariants as what
use Rattle.lw_model.specs.declared.script.Script.{Script}
use Rattle.lw_model.specs.declared.record.ThreadRecord.{ThreadRecord}
use Rattle.lw_base.specs.declared.ends.DeviceEnd.{DeviceEnd}
use Rattle.lw_model.specs.declared.record.Replied.{Replied}
use Rattle.lw_model.specs.declared.record.Reply.{Reply}
use Rattle.lw_model.specs.declared.record.Answer.TheVariants.{Began}
use Rattle.lw_model.specs.ScriptRules.{block_at}
use Rattle.lw_model.specs.Replay.{replay}
use Rattle.lw_model.specs.Journal.{request_of}
use Rattle.lw_model.specs.Threads.{ops_of, op_at, is_on}
use Rattle.lw_model.specs.OwnOrder.{own_order, with_past}
use Rattle.lw_model.specs.Moves.{number_fits}
use Rattle.lw_model.specs.Holding.{says, always, ordinal_given}
use Rattle.lw_model.specs.Devices.{is_refusal}
use Rattle.lw_model.specs.Lawful.{reply_op}
use Rattle.lw_model.specs.Sent.{to_thread}
use Rattle.lw_target.specs.ClientLog.{sends_of_steps, lines_fit, ats_ascend}

-- what was run of a sender
abbrev pub run_from : ℕ → List Tag → List What
run_from sender ran = map (λ m. m.what) (filter (λ m. m.sender == sender) ran)

-- each message is numbered by how many of its sender came before
abbrev pub are_numbered : List Tag → Bool
are_numbered ran = list_all (λ p. number_fits p.0 p.1) (with_past [] ran)

-- what the requests of a log are answered, run one by one
abbrev pub answers_of : Script → List Tag → List (Option Replied)
answers_of s ran = replay (block_at s 0) [] (map (λ e. op_at s e.0 e.1) (filter_map request_of ran))

-- the ops of the requests of a log
abbrev pub requests_of : List Tag → List ℕ
requests_of ran = map (λ e. e.1) (filter_map request_of ran)

-- replies as pairs of an op and an answer
abbrev pub reply_pairs : List Reply → List (ℕ × Option Replied)
reply_pairs replies = map (λ x. (x.op, Some x.answer)) replies

-- a thread that stayed on reactor 0, for which no visit and no cast came back
pub record Stayed (t : ThreadRecord) : Type 0 where
  pub home : t.home ≡ 0
  pub hops : t.hops ≡ []
  pub seen : t.seen ≡ []
  pub numbered : are_numbered t.ran ≡ true

-- the app ran the client's `done`, then unregistered the device, made its callback and stopped the owner
pub record AppEnded (app : ThreadRecord) (end : DeviceEnd) : Type 0 where
  pub stayed : Stayed app
  pub ran : app.ran ≡ record { sender = 1; number = 0; what = what.Done } ∷ []
  pub did : app.did ≡ record { at = 1; op = 0; answer = Began end.given } ∷ []
  pub called : app.called ≡ record { at = 1; device = 0 } ∷ []
  pub replies : app.replies ≡ []

-- the owner ran what the client sent it, and one stop
pub record OwnerEnded (s : Script) (client owner : ThreadRecord) : Type 0 where
  pub stayed : Stayed owner
  pub did : owner.did ≡ []
  pub called : owner.called ≡ []
  pub replies : owner.replies ≡ []
  pub senders : list_all (λ m. m.sender == 0 || m.sender == 1) owner.ran ≡ true
  pub of_app : run_from 0 owner.ran ≡ what.Stop ∷ []
  pub of_client : run_from 1 owner.ran ≡ to_thread 2 (sends_of_steps s 1 (own_order client))

-- the client did all its ops and closed; it ran its own putselfs and one reply for each request, and lists the answers
pub record ClientEnded (s : Script) (client owner : ThreadRecord) (end : DeviceEnd) : Type 0 where
  pub stayed : Stayed client
  pub called : client.called ≡ []
  pub count : length client.did ≡ length (ops_of s 1) + 1
  pub lines : lines_fit s 1 (own_order client) ≡ true
  pub ats : ats_ascend (length client.ran) client.did ≡ true
  pub senders : list_all (λ m. m.sender == 1 || m.sender == 2) client.ran ≡ true
  pub of_itself : run_from 1 client.ran ≡ to_thread 1 (sends_of_steps s 1 (own_order client))
  pub of_owner : run_from 2 client.ran ≡ map (λ k. what.Reply k) (requests_of owner.ran)
  pub replies : reply_pairs client.replies ≡ zip (requests_of owner.ran) (answers_of s owner.ran)
  pub replied : map (λ x. x.op) client.replies ≡ filter_map reply_op client.ran
  pub given : filter_map (ordinal_given (is_on s 1 0)) (own_order client) ≡ range_with_len 0 end.given
  pub usable : list_any (says always is_refusal) (own_order client) ≡ false

-- the whole run
pub record IsWholeRun (s : Script) (app client owner : ThreadRecord) (end : DeviceEnd) : Type 0 where
  pub app_ended : AppEnded app end
  pub client_ended : ClientEnded s client owner end
  pub owner_ended : OwnerEnded s client owner
  pub thread : end.thread ≡ 0
  pub callbacks : end.callbacks ≡ 1
