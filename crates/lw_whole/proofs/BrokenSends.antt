-- Logs that break one premise each: what is sent, run and listed.
use Rattle.std.proofs.Common.{[], ◌∷◌, codes, refl, true≢false}
use Rattle.lw_base.specs.declared.message.What.TheVariants as what
use Rattle.lw_model.specs.declared.script.Op.TheVariants as op
use Rattle.lw_model.specs.declared.record.Answer.TheVariants as answer
use Rattle.lw_model.proofs.Records.{image, client_of, message, did, called, app, client, owner, without_ops}
use Rattle.lw_whole.specs.Logs.{Log}
use Rattle.lw_whole.specs.Notes.{idle}
use Rattle.lw_whole.proofs.Parts.{plain, done_of, unregistered, app_log_of, client_log, owner_log}
use Rattle.lw_whole.proofs.Premises as the
use Rattle.lw_whole.proofs.Needed.{IsNeeded, needed}

-- ---- a client without ops

abbrev pub app_log : Log
app_log = app_log_of (app (message 1 0 what.Done ∷ []) (did 1 0 (answer.Began 0) ∷ []) (called 1 0 ∷ [])) (done_of 1 0 (idle ∷ []) ∷ []) ([] ∷ [] ∷ []) ((2, plain 0 0 what.Stop) ∷ []) (2 ∷ []) (unregistered 0 0 ∷ [])

abbrev pub closer_log : Log
closer_log = client_log 1 0 (client 0 [] (did 0 0 answer.Closed ∷ []) []) [] ([] ∷ []) [] (idle ∷ [])

abbrev pub keeper_log : Log
keeper_log = owner_log (owner (message 0 0 what.Stop ∷ [])) (plain 0 0 what.Stop ∷ []) ([] ∷ []) (idle ∷ [])

-- the record has no callback, though the app's log has it
pub threads-needed : IsNeeded the.threads
threads-needed = needed the.threads (record without_ops { threads = app (message 1 0 what.Done ∷ []) (did 1 0 (answer.Began 0) ∷ []) [] ∷ closer_log.lines ∷ keeper_log.lines ∷ []; printable = refl })
    (app_log ∷ closer_log ∷ keeper_log ∷ []) [] 6 (λ e. absurd (true≢false e)) refl refl

-- the owner lists another number than its message had
abbrev renumbering : Log
renumbering = record keeper_log { lines = owner (message 0 1 what.Stop ∷ []) }

pub tags-needed : IsNeeded the.tags
tags-needed = needed the.tags (record without_ops { threads = app_log.lines ∷ closer_log.lines ∷ renumbering.lines ∷ []; printable = refl })
    (app_log ∷ closer_log ∷ renumbering ∷ []) [] 2 (λ e. refl) refl refl

-- the app sends no Stop
abbrev no_stop : Log
no_stop = record app_log { last = [] }

abbrev unstopped : Log
unstopped = owner_log (owner []) [] [] (idle ∷ [])

pub last-needed : IsNeeded the.last
last-needed = needed the.last (record without_ops { threads = no_stop.lines ∷ closer_log.lines ∷ unstopped.lines ∷ []; printable = refl })
    (no_stop ∷ closer_log ∷ unstopped ∷ []) [] 4 (λ e. refl) refl refl

-- the owner didn't run the Stop that the app sent
pub run_is_sent-needed : IsNeeded the.run_is_sent
run_is_sent-needed = needed the.run_is_sent (record without_ops { threads = app_log.lines ∷ closer_log.lines ∷ unstopped.lines ∷ []; printable = refl })
    (app_log ∷ closer_log ∷ unstopped ∷ []) [] 4 (λ e. refl) refl refl

-- the app's one Stop has number 5
abbrev from_five : Log
from_five = record app_log { last = (2, plain 0 5 what.Stop) ∷ [] }

abbrev stopped_by_five : Log
stopped_by_five = owner_log (owner (message 0 5 what.Stop ∷ [])) (plain 0 5 what.Stop ∷ []) ([] ∷ []) (idle ∷ [])

pub numbered-needed : IsNeeded the.numbered
numbered-needed = needed the.numbered (record without_ops { threads = from_five.lines ∷ closer_log.lines ∷ stopped_by_five.lines ∷ []; printable = refl })
    (from_five ∷ closer_log ∷ stopped_by_five ∷ []) [] 2 (λ e. refl) refl refl

-- a line was made when more messages had been run than the client ran
abbrev too_late : Log
too_late = record closer_log { lines = client 0 [] (did 5 0 answer.Closed ∷ []) [] }

pub did_ats-needed : IsNeeded the.did_ats
did_ats-needed = needed the.did_ats (record without_ops { threads = app_log.lines ∷ too_late.lines ∷ keeper_log.lines ∷ []; printable = refl })
    (app_log ∷ too_late ∷ keeper_log ∷ []) [] 3 (λ e. refl) refl refl

abbrev called_too_late : Log
called_too_late = record app_log { lines = app (message 1 0 what.Done ∷ []) (did 1 0 (answer.Began 0) ∷ []) (called 7 0 ∷ []) }

pub called_ats-needed : IsNeeded the.called_ats
called_ats-needed = needed the.called_ats (record without_ops { threads = called_too_late.lines ∷ closer_log.lines ∷ keeper_log.lines ∷ []; printable = refl })
    (called_too_late ∷ closer_log ∷ keeper_log ∷ []) [] 3 (λ e. refl) refl refl

-- a client never closed
abbrev unclosed : Log
unclosed = record closer_log { lines = client 0 [] [] []; sends = [] }

pub client_count-needed : IsNeeded the.client_count
client_count-needed = needed the.client_count (record without_ops { threads = app_log.lines ∷ unclosed.lines ∷ keeper_log.lines ∷ []; printable = refl })
    (app_log ∷ unclosed ∷ keeper_log ∷ []) [] 3 (λ e. refl) refl refl

-- the app began before the client's Done came
abbrev too_early : Log
too_early = record app_log { lines = app (message 1 0 what.Done ∷ []) (did 0 0 (answer.Began 0) ∷ []) (called 1 0 ∷ []) }

pub app_lines-needed : IsNeeded the.app_lines
app_lines-needed = needed the.app_lines (record without_ops { threads = too_early.lines ∷ closer_log.lines ∷ keeper_log.lines ∷ []; printable = refl })
    (too_early ∷ closer_log ∷ keeper_log ∷ []) [] 3 (λ e. refl) refl refl

-- an owner lists an answer
abbrev listing : Log
listing = record keeper_log { lines = record (owner (message 0 0 what.Stop ∷ [])) { did = did 0 0 answer.Waited ∷ [] }; sends = [] ∷ [] ∷ [] }

pub owner_lines-needed : IsNeeded the.owner_lines
owner_lines-needed = needed the.owner_lines (record without_ops { threads = app_log.lines ∷ closer_log.lines ∷ listing.lines ∷ []; printable = refl })
    (app_log ∷ closer_log ∷ listing ∷ []) [] 3 (λ e. refl) refl refl

-- a wait was answered as a put
abbrev wrong_answer : Log
wrong_answer = client_log 1 0 (client 0 [] (did 0 0 answer.Counted ∷ did 0 1 answer.Closed ∷ []) []) [] ([] ∷ [] ∷ []) [] (idle ∷ [])

pub client_lines-needed : IsNeeded the.client_lines
client_lines-needed = needed the.client_lines
    (record without_ops {
      script = record { images = image 1 ∷ []; clients = client_of (codes "a") 1 (op.Wait 5 ∷ []) ∷ []; small = 1; large = 1 };
      threads = app_log.lines ∷ wrong_answer.lines ∷ keeper_log.lines ∷ [];
      printable = refl;
    })
    (app_log ∷ wrong_answer ∷ keeper_log ∷ []) [] 3 (λ e. refl) refl refl
