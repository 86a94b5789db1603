-- A whole run in which a client unregisters the device, and another is refused a channel.
use Rattle.std.proofs.Common.{List, [], ◌∷◌, refl, arith}
use Rattle.std.proofs.lemmas.Bool.{false≢true}
use Rattle.lw_base.specs.declared.message.What.TheVariants as what
use Rattle.lw_model.specs.declared.record.Answer.TheVariants as answer
use Rattle.lw_model.specs.Devices.{device_at}
use Rattle.lw_model.proofs.Records.{shut, shut_app, shut_reader, shut_client, shut_owner, called, block}
use Rattle.lw_model.proofs.Verdicts.{shut-lawful}
use Rattle.lw_whole.specs.Letters.{answered}
use Rattle.lw_whole.specs.Logs.{Log}
use Rattle.lw_whole.specs.Notes.{idle, note_at, notes_of}
use Rattle.lw_whole.specs.Threads.{Ended}
use Rattle.lw_whole.specs.WholeRun.{IsWholeRun}
use Rattle.lw_whole.proofs.Computed.{rings_from, note_from, settled_from}
use Rattle.lw_whole.proofs.Parts.{letter, plain, done_of, given, unregistered, refused, app_log_of, client_log, owner_log}

abbrev app_log : Log
app_log = app_log_of (shut_app answer.Already)
    (done_of 3 0 (refused 1 ∷ []) ∷ done_of 1 0 (given (0 ∷ []) ∷ []) ∷ done_of 2 0 (unregistered 1 2 ∷ []) ∷ [])
    ([] ∷ [] ∷ [] ∷ [] ∷ [])
    ((4, plain 0 0 what.Stop) ∷ [])
    ([])
    (refused 1 ∷ [])

abbrev reader_log : Log
reader_log = client_log 1 0 (shut_reader)
    (letter 4 0 (what.Reply 1) (answered (block 0)) ∷ plain 1 0 (what.PutSelf 0) ∷ [])
    ([] ∷ ((4, plain 1 0 (what.Request 1)) ∷ []) ∷ [] ∷ ((1, plain 1 0 (what.PutSelf 0)) ∷ []) ∷ [] ∷ [])
    ([])
    (given (0 ∷ []) ∷ [])

abbrev shutter_log : Log
shutter_log = client_log 2 0 (shut_client (answer.Began 1) (called 0 0 ∷ []))
    ([])
    ([] ∷ [] ∷ [])
    (1 ∷ [])
    (unregistered 1 2 ∷ [])

abbrev late_log : Log
late_log = client_log 3 0 (shut_client answer.Shut [])
    ([])
    ([] ∷ [] ∷ [])
    ([])
    (refused 1 ∷ [])

abbrev keeper_log : Log
keeper_log = owner_log (shut_owner)
    (plain 1 0 (what.Request 1) ∷ plain 0 0 what.Stop ∷ [])
    (((1, letter 4 0 (what.Reply 1) (answered (block 0))) ∷ []) ∷ [] ∷ [])
    (idle ∷ [])

app_ended : Ended shut.script 0 app_log
app_ended = record {
  tags = refl;
  sends = record { at_steps = (refl, (refl, (refl, (refl, tt)))); at_end = refl; with_row = λ e. absurd (false≢true e) };
  did_ats = refl;
  called_ats = refl;
  stood = refl;
  callbacks = refl;
  stays_shut = (refl, tt);
  own_row = record { devices = refl; notes = (note_from shut.script 0 0 app_log (refused 1) refl refl refl refl, tt) };
  role = record { count = refl; fit = refl; took_in = record { joined = refl; knew = refl } };
}

reader_ended : Ended shut.script 1 reader_log
reader_ended = record {
  tags = refl;
  sends = record { at_steps = (refl, (refl, (refl, (refl, (refl, tt))))); at_end = refl; with_row = λ e. refl };
  did_ats = refl;
  called_ats = refl;
  stood = refl;
  callbacks = refl;
  stays_shut = (refl, tt);
  own_row = record { devices = refl; notes = (note_from shut.script 1 0 reader_log (given (0 ∷ [])) refl refl refl refl, tt) };
  role = record { count = refl; fit = refl; replies = refl; seen = refl; row = refl };
}

shutter_ended : Ended shut.script 2 shutter_log
shutter_ended = record {
  tags = refl;
  sends = record { at_steps = (refl, (refl, tt)); at_end = refl; with_row = λ e. refl };
  did_ats = refl;
  called_ats = refl;
  stood = refl;
  callbacks = refl;
  stays_shut = (refl, tt);
  own_row = record { devices = refl; notes = (note_from shut.script 2 0 shutter_log (unregistered 1 2) refl refl refl refl, tt) };
  role = record { count = refl; fit = refl; replies = refl; seen = refl; row = refl };
}

late_ended : Ended shut.script 3 late_log
late_ended = record {
  tags = refl;
  sends = record { at_steps = (refl, (refl, tt)); at_end = refl; with_row = λ e. refl };
  did_ats = refl;
  called_ats = refl;
  stood = refl;
  callbacks = refl;
  stays_shut = (refl, tt);
  own_row = record { devices = refl; notes = (note_from shut.script 3 0 late_log (refused 1) refl refl refl refl, tt) };
  role = record { count = refl; fit = refl; replies = refl; seen = refl; row = refl };
}

keeper_ended : Ended shut.script 4 keeper_log
keeper_ended = record {
  tags = refl;
  sends = record { at_steps = (record { reply = refl; answer = refl }, (refl, tt)); at_end = refl; with_row = λ e. absurd (false≢true e) };
  did_ats = refl;
  called_ats = refl;
  stood = refl;
  callbacks = refl;
  stays_shut = (refl, tt);
  own_row = record { devices = refl; notes = (note_from shut.script 4 0 keeper_log idle refl refl refl refl, tt) };
  role = record { did = refl; row = refl };
}

abbrev logs : List Log
logs = app_log ∷ reader_log ∷ shutter_log ∷ late_log ∷ keeper_log ∷ []

pub shut-whole : IsWholeRun shut logs
shut-whole = record {
  threads = refl;
  each = (app_ended, (reader_ended, (shutter_ended, (late_ended, (keeper_ended, tt)))));
  rings = rings_from logs refl refl refl;
  registry = (settled_from (notes_of 0 logs) (device_at shut 0) refl refl (0, note_at app_log.row 0, omega arith, refl, (refl, refl, refl)) refl refl, tt);
  moved = record {
    taken = [];
    homes = (refl, (refl, (refl, (refl, (refl, tt)))));
    ascend = (refl, (refl, (refl, (refl, (refl, tt)))));
    for_orders = (refl, (refl, (refl, (refl, (refl, tt)))));
    sent = refl;
  };
  rounds = shut-lawful.rounds_and_orders;
  pool = record { small = refl; large = refl };
}
