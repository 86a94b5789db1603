-- Logs that break one premise each: rows, the registry and callbacks.
use Rattle.std.proofs.Common.{ℕ, List, [], ◌∷◌, codes, refl}
use Rattle.lw_base.specs.declared.message.What.TheVariants as what
use Rattle.lw_model.specs.declared.script.Script.{Script}
use Rattle.lw_model.specs.declared.script.Op.{Op}
use Rattle.lw_model.specs.declared.script.Op.TheVariants as op
use Rattle.lw_model.specs.declared.record.Answer.{Answer}
use Rattle.lw_model.specs.declared.record.Answer.TheVariants as answer
use Rattle.lw_model.specs.declared.record.Called.{Called}
use Rattle.lw_model.proofs.Records.{image, client_of, message, did, called, ended, app, client, without_ops}
use Rattle.lw_whole.specs.Letters.{Letter, Note}
use Rattle.lw_whole.specs.Logs.{Log}
use Rattle.lw_whole.specs.Notes.{idle}
use Rattle.lw_whole.proofs.Parts.{plain, done_of, given, unregistered, refused, app_log_of, client_log}
use Rattle.lw_whole.proofs.Premises as the
use Rattle.lw_whole.proofs.Needed.{IsNeeded, needed}
use Rattle.lw_whole.proofs.BrokenSends.{app_log, closer_log, keeper_log}

-- ---- parts

-- a script of one client with one op
abbrev of_ops : List Op → Script
of_ops ops = record { images = image 1 ∷ []; clients = client_of (codes "a") 1 ops ∷ []; small = 1; large = 1 }

-- an app that began behind so many channels, with these callbacks, and took this row in
abbrev app_began : ℕ → List Called → List ℕ → Note → Letter → Log
app_began count calls stood own done = app_log_of (app (message 1 0 what.Done ∷ []) (did 1 0 (answer.Began count) ∷ []) calls) (done ∷ []) ([] ∷ [] ∷ []) ((2, plain 0 0 what.Stop) ∷ []) stood (own ∷ [])

-- an app that found the device shut
abbrev app_late : List Note → Log
app_late row = app_log_of (app (message 1 0 what.Done ∷ []) (did 1 0 answer.Already ∷ []) []) (done_of 1 0 row ∷ []) ([] ∷ [] ∷ []) ((2, plain 0 0 what.Stop) ∷ []) [] (refused 1 ∷ [])

-- a client that gets a channel with this ordinal, and closes; its row keeps this
abbrev getter_log : ℕ → List Note → Log
getter_log ordinal row = client_log 1 0
    (client 0 (message 1 0 (what.PutSelf 0) ∷ []) (did 0 0 (answer.Given ordinal) ∷ did 0 1 answer.Closed ∷ []) [])
    (plain 1 0 (what.PutSelf 0) ∷ []) ([] ∷ ((1, plain 1 0 (what.PutSelf 0)) ∷ []) ∷ [] ∷ []) [] row

-- a client with one op of this answer
abbrev one_log : Answer → List Called → List ℕ → List Note → Log
one_log a calls stood row = client_log 1 0 (record (client 0 [] (did 0 0 a ∷ did 0 1 answer.Closed ∷ []) []) { called = calls }) [] ([] ∷ [] ∷ []) stood row

-- ---- the row of a client

-- a Done brings no row
abbrev rowless : Log
rowless = record (getter_log 0 (given (0 ∷ []) ∷ [])) { last = (0, plain 1 0 what.Done) ∷ [] }

abbrev app_of_rowless : Log
app_of_rowless = app_began 0 (called 1 0 ∷ []) (2 ∷ []) (unregistered 0 0) (plain 1 0 what.Done)

pub with_row-needed : IsNeeded the.with_row
with_row-needed = needed the.with_row (record without_ops { script = of_ops (op.Get 0 ∷ []); threads = app_of_rowless.lines ∷ rowless.lines ∷ keeper_log.lines ∷ []; printable = refl })
    (app_of_rowless ∷ rowless ∷ keeper_log ∷ []) [] 6 (λ e. refl) refl refl

-- a client's row has no note of the device
abbrev noteless : Log
noteless = getter_log 0 []

abbrev app_of_noteless : Log
app_of_noteless = app_began 0 (called 1 0 ∷ []) (2 ∷ []) (unregistered 0 0) (done_of 1 0 [])

pub devices-needed : IsNeeded the.devices
devices-needed = needed the.devices (record without_ops { script = of_ops (op.Get 0 ∷ []); threads = app_of_noteless.lines ∷ noteless.lines ∷ keeper_log.lines ∷ []; printable = refl })
    (app_of_noteless ∷ noteless ∷ keeper_log ∷ []) [] 6 (λ e. refl) refl refl

-- a client's row doesn't keep that a channel was given
pub ordinals-needed : IsNeeded the.ordinals
ordinals-needed = needed the.ordinals (record without_ops { script = of_ops (op.Get 0 ∷ []); threads = app_log.lines ∷ (getter_log 0 (idle ∷ [])).lines ∷ keeper_log.lines ∷ []; printable = refl })
    (app_log ∷ getter_log 0 (idle ∷ []) ∷ keeper_log ∷ []) [] 6 (λ e. refl) refl refl

-- nor that the device was found shut
pub found-needed : IsNeeded the.found
found-needed = needed the.found (record without_ops { script = of_ops (op.Get 0 ∷ []); threads = app_log.lines ∷ (one_log answer.Shut [] [] (idle ∷ [])).lines ∷ keeper_log.lines ∷ []; printable = refl })
    (app_log ∷ one_log answer.Shut [] [] (idle ∷ []) ∷ keeper_log ∷ []) [] 6 (λ e. refl) refl refl

-- nor that it began
pub begun-needed : IsNeeded the.begun
begun-needed = needed the.begun (record without_ops { script = of_ops (op.Unregister 0 ∷ []); threads = app_log.lines ∷ (one_log (answer.Began 0) [] [] (idle ∷ [])).lines ∷ keeper_log.lines ∷ []; printable = refl })
    (app_log ∷ one_log (answer.Began 0) [] [] (idle ∷ []) ∷ keeper_log ∷ []) [] 6 (λ e. refl) refl refl

-- or it keeps that the app began
abbrev for_the_app : Log
for_the_app = one_log (answer.Began 0) (called 0 0 ∷ []) (1 ∷ []) (unregistered 0 0 ∷ [])

pub began_by-needed : IsNeeded the.began_by
began_by-needed = needed the.began_by (record without_ops { script = of_ops (op.Unregister 0 ∷ []); threads = (app_late (unregistered 0 0 ∷ [])).lines ∷ for_the_app.lines ∷ keeper_log.lines ∷ []; printable = refl })
    (app_late (unregistered 0 0 ∷ []) ∷ for_the_app ∷ keeper_log ∷ []) [] 6 (λ e. refl) refl refl

-- or a callback that didn't come
abbrev uncalled : Log
uncalled = app_began 0 [] [] (unregistered 0 0) (done_of 1 0 (idle ∷ []))

pub fired-needed : IsNeeded the.fired
fired-needed = needed the.fired (record without_ops { threads = uncalled.lines ∷ closer_log.lines ∷ keeper_log.lines ∷ []; printable = refl })
    (uncalled ∷ closer_log ∷ keeper_log ∷ []) [] 6 (λ e. refl) refl refl

-- ---- the rows that are settled

abbrev app_of_one : Log
app_of_one = app_began 1 (called 1 0 ∷ []) (2 ∷ []) (unregistered 1 0) (done_of 1 0 (idle ∷ []))

-- a client keeps a row behind its Done
abbrev keeping : Log
keeping = record closer_log { row = given (0 ∷ []) ∷ [] }

pub client_row-needed : IsNeeded the.client_row
client_row-needed = needed the.client_row (record without_ops { threads = app_of_one.lines ∷ keeping.lines ∷ keeper_log.lines ∷ []; devices = ended 1 0 1 ∷ []; printable = refl })
    (app_of_one ∷ keeping ∷ keeper_log ∷ []) [] 6 (λ e. refl) refl refl

-- an owner's row has more than its own
abbrev rich_owner : Log
rich_owner = record keeper_log { row = given (0 ∷ []) ∷ [] }

pub owner_row-needed : IsNeeded the.owner_row
owner_row-needed = needed the.owner_row (record without_ops { threads = app_of_one.lines ∷ closer_log.lines ∷ rich_owner.lines ∷ []; devices = ended 1 0 1 ∷ []; printable = refl })
    (app_of_one ∷ closer_log ∷ rich_owner ∷ []) [] 6 (λ e. refl) refl refl

-- the app's row has more than came
abbrev rich_app : Log
rich_app = record app_of_one { row = record (unregistered 1 0) { ordinals = 0 ∷ [] } ∷ [] }

pub took_in-needed : IsNeeded the.took_in
took_in-needed = needed the.took_in (record without_ops { threads = rich_app.lines ∷ closer_log.lines ∷ keeper_log.lines ∷ []; devices = ended 1 0 1 ∷ []; printable = refl })
    (rich_app ∷ closer_log ∷ keeper_log ∷ []) [] 6 (λ e. refl) refl refl

-- the app began though a row that it had taken in had found the device shut
abbrev bold_app : Log
bold_app = app_began 0 (called 1 0 ∷ []) (2 ∷ []) (unregistered 0 0) (done_of 1 0 (refused 1 ∷ []))

pub knew-needed : IsNeeded the.knew
knew-needed = needed the.knew (record without_ops { script = of_ops (op.Get 0 ∷ []); threads = bold_app.lines ∷ (one_log answer.Shut [] [] (refused 1 ∷ [])).lines ∷ keeper_log.lines ∷ []; printable = refl })
    (bold_app ∷ one_log answer.Shut [] [] (refused 1 ∷ []) ∷ keeper_log ∷ []) [] 6 (λ e. refl) refl refl

-- the app didn't unregister the device, since a client had
abbrev idle_app : Log
idle_app = app_log_of (app (message 1 0 what.Done ∷ []) [] []) (done_of 1 0 (unregistered 0 1 ∷ []) ∷ []) ([] ∷ []) ((2, plain 0 0 what.Stop) ∷ []) [] (idle ∷ [])

abbrev shutter : Log
shutter = one_log (answer.Began 0) (called 0 0 ∷ []) (1 ∷ []) (unregistered 0 1 ∷ [])

pub app_count-needed : IsNeeded the.app_count
app_count-needed = needed the.app_count (record without_ops { script = of_ops (op.Unregister 0 ∷ []); threads = idle_app.lines ∷ shutter.lines ∷ keeper_log.lines ∷ []; devices = ended 0 1 1 ∷ []; printable = refl })
    (idle_app ∷ shutter ∷ keeper_log ∷ []) [] 3 (λ e. refl) refl refl

-- ---- the registry

-- the one channel that was given has ordinal 1
abbrev app_of_second : Log
app_of_second = app_began 1 (called 1 0 ∷ []) (2 ∷ []) (unregistered 1 0) (done_of 1 0 (given (1 ∷ []) ∷ []))

pub each_once-needed : IsNeeded the.each_once
each_once-needed = needed the.each_once (record without_ops { script = of_ops (op.Get 0 ∷ []); threads = app_of_second.lines ∷ (getter_log 1 (given (1 ∷ []) ∷ [])).lines ∷ keeper_log.lines ∷ []; devices = ended 1 0 1 ∷ []; printable = refl })
    (app_of_second ∷ getter_log 1 (given (1 ∷ []) ∷ []) ∷ keeper_log ∷ []) [] 6 (λ e. refl) refl refl

-- the registry tells of none
abbrev app_of_none : Log
app_of_none = app_began 0 (called 1 0 ∷ []) (2 ∷ []) (unregistered 0 0) (done_of 1 0 (given (0 ∷ []) ∷ []))

pub given-needed : IsNeeded the.given
given-needed = needed the.given (record without_ops { script = of_ops (op.Get 0 ∷ []); threads = app_of_none.lines ∷ (getter_log 0 (given (0 ∷ []) ∷ [])).lines ∷ keeper_log.lines ∷ []; printable = refl })
    (app_of_none ∷ getter_log 0 (given (0 ∷ []) ∷ []) ∷ keeper_log ∷ []) [] 6 (λ e. refl) refl refl

-- the registry names another thread
pub who_began-needed : IsNeeded the.who_began
who_began-needed = needed the.who_began (record without_ops { threads = app_log.lines ∷ closer_log.lines ∷ keeper_log.lines ∷ []; devices = ended 0 1 1 ∷ []; printable = refl })
    (app_log ∷ closer_log ∷ keeper_log ∷ []) [] 6 (λ e. refl) refl refl

-- no callback came, though the registry tells of one
abbrev unfired : Log
unfired = app_began 0 [] [] (record (unregistered 0 0) { fired = 0 }) (done_of 1 0 (idle ∷ []))

pub all_fired-needed : IsNeeded the.all_fired
all_fired-needed = needed the.all_fired (record without_ops { threads = unfired.lines ∷ closer_log.lines ∷ keeper_log.lines ∷ []; printable = refl })
    (unfired ∷ closer_log ∷ keeper_log ∷ []) [] 6 (λ e. refl) refl refl

-- two came
abbrev fired_twice : Log
fired_twice = app_began 0 (called 1 0 ∷ called 1 0 ∷ []) (2 ∷ 2 ∷ []) (record (unregistered 0 0) { fired = 2 }) (done_of 1 0 (idle ∷ []))

pub one_callback-needed : IsNeeded the.one_callback
one_callback-needed = needed the.one_callback (record without_ops { threads = fired_twice.lines ∷ closer_log.lines ∷ keeper_log.lines ∷ []; devices = ended 0 0 2 ∷ []; printable = refl })
    (fired_twice ∷ closer_log ∷ keeper_log ∷ []) [] 6 (λ e. refl) refl refl

-- ---- callbacks

-- a callback came before the app began, and nothing is said of it
abbrev unsaid : Log
unsaid = app_began 0 (called 0 0 ∷ []) [] (unregistered 0 0) (done_of 1 0 (idle ∷ []))

pub stood-needed : IsNeeded the.stood
stood-needed = needed the.stood (record without_ops { threads = unsaid.lines ∷ closer_log.lines ∷ keeper_log.lines ∷ []; printable = refl })
    (unsaid ∷ closer_log ∷ keeper_log ∷ []) [] 6 (λ e. refl) refl refl

-- or it is said that it came behind what was made later
abbrev foreseen : Log
foreseen = app_began 0 (called 0 0 ∷ []) (2 ∷ []) (unregistered 0 0) (done_of 1 0 (idle ∷ []))

pub callbacks-needed : IsNeeded the.callbacks
callbacks-needed = needed the.callbacks (record without_ops { threads = foreseen.lines ∷ closer_log.lines ∷ keeper_log.lines ∷ []; printable = refl })
    (foreseen ∷ closer_log ∷ keeper_log ∷ []) [] 6 (λ e. refl) refl refl

-- a client got a channel of a device that it had begun to unregister
abbrev late_getter : Log
late_getter = client_log 1 0
    (record (client 0 (message 1 0 (what.PutSelf 0) ∷ []) (did 0 0 (answer.Began 1) ∷ did 0 1 (answer.Given 0) ∷ did 0 2 answer.Closed ∷ []) []) { called = called 1 0 ∷ [] })
    (plain 1 0 (what.PutSelf 0) ∷ []) ([] ∷ [] ∷ ((1, plain 1 0 (what.PutSelf 0)) ∷ []) ∷ [] ∷ []) (4 ∷ []) (record (unregistered 1 1) { ordinals = 0 ∷ [] } ∷ [])

abbrev app_of_late_getter : Log
app_of_late_getter = app_late (record (unregistered 1 1) { ordinals = 0 ∷ [] } ∷ [])

pub stays-needed : IsNeeded the.stays
stays-needed = needed the.stays (record without_ops { script = of_ops (op.Unregister 0 ∷ op.Get 0 ∷ []); threads = app_of_late_getter.lines ∷ late_getter.lines ∷ keeper_log.lines ∷ []; devices = ended 1 1 1 ∷ []; printable = refl })
    (app_of_late_getter ∷ late_getter ∷ keeper_log ∷ []) [] 6 (λ e. refl) refl refl
