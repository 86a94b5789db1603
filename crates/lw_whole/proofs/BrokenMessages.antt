-- Logs that break one premise each: requests, replies, tokens and their results.
use Rattle.std.proofs.Common.{ℕ, List, [], ◌∷◌, codes, refl}
use Rattle.lw_base.specs.declared.message.What.TheVariants as what
use Rattle.lw_model.specs.declared.script.Op.TheVariants as op
use Rattle.lw_model.specs.declared.record.Answer.TheVariants as answer
use Rattle.lw_model.specs.declared.record.Replied.TheVariants as replied
use Rattle.lw_model.specs.declared.record.Reply.{Reply}
use Rattle.lw_model.specs.declared.record.Seen.{Seen}
use Rattle.lw_model.specs.declared.record.SeenBy.TheVariants as by
use Rattle.lw_model.proofs.Records.{image, client_of, message, did, called, reply, seen, ended, app, client, owner, without_ops}
use Rattle.lw_whole.specs.Letters.{answered, reached}
use Rattle.lw_whole.specs.Logs.{Log}
use Rattle.lw_whole.specs.Notes.{idle}
use Rattle.lw_whole.proofs.Parts.{letter, plain, done_of, given, unregistered, app_log_of, client_log, owner_log}
use Rattle.lw_whole.proofs.Premises as the
use Rattle.lw_whole.proofs.Needed.{IsNeeded, needed}

-- ---- a client that flushes

abbrev app_log : Log
app_log = app_log_of (app (message 1 0 what.Done ∷ []) (did 1 0 (answer.Began 1) ∷ []) (called 1 0 ∷ [])) (done_of 1 0 (given (0 ∷ []) ∷ []) ∷ []) ([] ∷ [] ∷ []) ((2, plain 0 0 what.Stop) ∷ []) (2 ∷ []) (unregistered 1 0 ∷ [])

-- the flush was answered with so many writes; these replies are listed
abbrev flusher_log : ℕ → List Reply → Log
flusher_log writes replies = client_log 1 0
    (client 0 (message 2 0 (what.Reply 1) ∷ message 1 0 (what.PutSelf 0) ∷ []) (did 0 0 (answer.Given 0) ∷ did 0 1 answer.Sent ∷ did 1 2 answer.Closed ∷ []) replies)
    (letter 2 0 (what.Reply 1) (answered (replied.Writes writes)) ∷ plain 1 0 (what.PutSelf 0) ∷ [])
    ([] ∷ ((2, plain 1 0 (what.Request 1)) ∷ []) ∷ [] ∷ ((1, plain 1 0 (what.PutSelf 0)) ∷ []) ∷ [] ∷ [])
    [] (given (0 ∷ []) ∷ [])

abbrev flushed_log : ℕ → Log
flushed_log writes = owner_log (owner (message 1 0 (what.Request 1) ∷ message 0 0 what.Stop ∷ [])) (plain 1 0 (what.Request 1) ∷ plain 0 0 what.Stop ∷ [])
    (((1, letter 2 0 (what.Reply 1) (answered (replied.Writes writes))) ∷ []) ∷ [] ∷ []) (idle ∷ [])

-- the client lists no reply
pub replies-needed : IsNeeded the.replies
replies-needed = needed the.replies
    (record without_ops {
      script = record { images = image 1 ∷ []; clients = client_of (codes "a") 1 (op.Get 0 ∷ op.Flush 0 ∷ []) ∷ []; small = 1; large = 1 };
      threads = app_log.lines ∷ (flusher_log 0 []).lines ∷ (flushed_log 0).lines ∷ [];
      devices = ended 1 0 1 ∷ [];
      printable = refl;
    })
    (app_log ∷ flusher_log 0 [] ∷ flushed_log 0 ∷ []) [] 5 (λ e. refl) refl refl

-- the owner told of seven writes where there was none
pub answers-needed : IsNeeded the.sends
answers-needed = needed the.sends
    (record without_ops {
      script = record { images = image 1 ∷ []; clients = client_of (codes "a") 1 (op.Get 0 ∷ op.Flush 0 ∷ []) ∷ []; small = 1; large = 1 };
      threads = app_log.lines ∷ (flusher_log 7 (reply 1 (replied.Writes 7) ∷ [])).lines ∷ (flushed_log 7).lines ∷ [];
      devices = ended 1 0 1 ∷ [];
      printable = refl;
    })
    (app_log ∷ flusher_log 7 (reply 1 (replied.Writes 7) ∷ []) ∷ flushed_log 7 ∷ []) [] 5 (λ e. refl) refl refl

-- ---- a client that casts

abbrev cast_app : Log
cast_app = app_log_of (app (message 1 0 (what.Cast 1 0) ∷ message 1 1 what.Done ∷ []) (did 2 0 (answer.Began 0) ∷ []) (called 2 0 ∷ []))
    (letter 1 0 (what.Cast 1 0) (reached []) ∷ done_of 1 1 (idle ∷ []) ∷ [])
    (((1, letter 0 0 (what.Cast 1 0) (reached (0 ∷ []))) ∷ []) ∷ [] ∷ [] ∷ [])
    ((2, plain 0 0 what.Stop) ∷ []) (3 ∷ []) (unregistered 0 0 ∷ [])

abbrev caster : List Seen → Log
caster results = client_log 1 1
    (record (client 0 (message 0 0 (what.Cast 1 0) ∷ message 2 0 (what.Casted 0) ∷ []) (did 0 0 answer.Started ∷ did 2 1 answer.Closed ∷ []) []) { seen = results })
    (letter 0 0 (what.Cast 1 0) (reached (0 ∷ [])) ∷ letter 2 0 (what.Casted 0) (reached (0 ∷ 1 ∷ 2 ∷ [])) ∷ [])
    (((0, letter 1 0 (what.Cast 1 0) (reached [])) ∷ []) ∷ ((2, letter 1 0 (what.Cast 1 0) (reached (0 ∷ 1 ∷ []))) ∷ []) ∷ [] ∷ [] ∷ [])
    [] (idle ∷ [])

abbrev cast_owner : Log
cast_owner = owner_log (owner (message 1 0 (what.Cast 1 0) ∷ message 0 0 what.Stop ∷ []))
    (letter 1 0 (what.Cast 1 0) (reached (0 ∷ 1 ∷ [])) ∷ plain 0 0 what.Stop ∷ [])
    (((1, letter 2 0 (what.Casted 0) (reached (0 ∷ 1 ∷ 2 ∷ []))) ∷ []) ∷ [] ∷ []) (idle ∷ [])

-- the client lists no results
pub seen-needed : IsNeeded the.seen
seen-needed = needed the.seen
    (record without_ops {
      script = record { images = image 1 ∷ []; clients = client_of (codes "a") 1 (op.Each ∷ []) ∷ []; small = 1; large = 1 };
      threads = cast_app.lines ∷ (caster []).lines ∷ cast_owner.lines ∷ [];
      printable = refl;
    })
    (cast_app ∷ caster [] ∷ cast_owner ∷ []) [] 7 (λ e. refl) refl refl

-- the client sent the cast home past the owner
abbrev short_caster : Log
short_caster = client_log 1 1
    (record (client 0 (message 0 0 (what.Cast 1 0) ∷ message 1 0 (what.Casted 0) ∷ []) (did 0 0 answer.Started ∷ did 2 1 answer.Closed ∷ []) []) { seen = seen 0 (by.Cast (0 ∷ 1 ∷ [])) ∷ [] })
    (letter 0 0 (what.Cast 1 0) (reached (0 ∷ [])) ∷ letter 1 0 (what.Casted 0) (reached (0 ∷ 1 ∷ [])) ∷ [])
    (((0, letter 1 0 (what.Cast 1 0) (reached [])) ∷ []) ∷ ((1, letter 1 0 (what.Casted 0) (reached (0 ∷ 1 ∷ []))) ∷ []) ∷ [] ∷ [] ∷ [])
    [] (idle ∷ [])

abbrev passed_owner : Log
passed_owner = owner_log (owner (message 0 0 what.Stop ∷ [])) (plain 0 0 what.Stop ∷ []) ([] ∷ []) (idle ∷ [])

pub ways-needed : IsNeeded the.sends
ways-needed = needed the.sends
    (record without_ops {
      script = record { images = image 1 ∷ []; clients = client_of (codes "a") 1 (op.Each ∷ []) ∷ []; small = 1; large = 1 };
      threads = cast_app.lines ∷ short_caster.lines ∷ passed_owner.lines ∷ [];
      printable = refl;
    })
    (cast_app ∷ short_caster ∷ passed_owner ∷ []) [] 4 (λ e. refl) refl refl
