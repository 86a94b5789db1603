-- A whole dynamic run: a client that moves from reactor 1 to reactor 0 in the one round.
use Rattle.std.proofs.Common.{List, [], ◌∷◌, refl, arith}
use Rattle.std.proofs.lemmas.Bool.{false≢true}
use Rattle.lw_base.specs.declared.message.What.TheVariants as what
use Rattle.lw_model.specs.Devices.{device_at}
use Rattle.lw_model.proofs.Records.{moved, moved_app, moved_client, moved_owner, hop, order}
use Rattle.lw_model.proofs.Verdicts.{moved-lawful}
use Rattle.lw_whole.specs.Logs.{Log}
use Rattle.lw_whole.specs.Notes.{idle, note_at, notes_of}
use Rattle.lw_whole.specs.Threads.{Ended}
use Rattle.lw_whole.specs.WholeRun.{IsWholeRun}
use Rattle.lw_whole.proofs.Computed.{rings_from, note_from, settled_from}
use Rattle.lw_whole.proofs.Parts.{plain, done_of, unregistered, app_log_of, client_log, owner_log}

abbrev app_log : Log
app_log = app_log_of (moved_app)
    (done_of 1 0 (idle ∷ []) ∷ [])
    ([] ∷ [] ∷ [])
    ((2, plain 0 0 what.Stop) ∷ [])
    (2 ∷ [])
    (unregistered 0 0 ∷ [])

abbrev mover_log : Log
mover_log = client_log 1 0 (moved_client (hop 1 0 ∷ []))
    ([])
    ([] ∷ [] ∷ [])
    ([])
    (idle ∷ [])

abbrev stopped_log : Log
stopped_log = owner_log (moved_owner)
    (plain 0 0 what.Stop ∷ [])
    ([] ∷ [])
    (idle ∷ [])

app_ended : Ended moved.script 0 app_log
app_ended = record {
  tags = refl;
  sends = record { at_steps = (refl, (refl, tt)); at_end = refl; with_row = λ e. absurd (false≢true e) };
  did_ats = refl;
  called_ats = refl;
  stood = refl;
  callbacks = refl;
  stays_shut = (refl, tt);
  own_row = record { devices = refl; notes = (note_from moved.script 0 0 app_log (unregistered 0 0) refl refl refl refl, tt) };
  role = record { count = refl; fit = refl; took_in = record { joined = refl; knew = refl } };
}

mover_ended : Ended moved.script 1 mover_log
mover_ended = record {
  tags = refl;
  sends = record { at_steps = (refl, (refl, tt)); at_end = refl; with_row = λ e. refl };
  did_ats = refl;
  called_ats = refl;
  stood = refl;
  callbacks = refl;
  stays_shut = (refl, tt);
  own_row = record { devices = refl; notes = (note_from moved.script 1 0 mover_log idle refl refl refl refl, tt) };
  role = record { count = refl; fit = refl; replies = refl; seen = refl; row = refl };
}

stopped_ended : Ended moved.script 2 stopped_log
stopped_ended = record {
  tags = refl;
  sends = record { at_steps = (refl, tt); at_end = refl; with_row = λ e. absurd (false≢true e) };
  did_ats = refl;
  called_ats = refl;
  stood = refl;
  callbacks = refl;
  stays_shut = (refl, tt);
  own_row = record { devices = refl; notes = (note_from moved.script 2 0 stopped_log idle refl refl refl refl, tt) };
  role = record { did = refl; row = refl };
}

abbrev logs : List Log
logs = app_log ∷ mover_log ∷ stopped_log ∷ []

pub moved-whole : IsWholeRun moved logs
moved-whole = record {
  threads = refl;
  each = (app_ended, (mover_ended, (stopped_ended, tt)));
  rings = rings_from logs refl refl refl;
  registry = (settled_from (notes_of 0 logs) (device_at moved 0) refl refl (0, note_at app_log.row 0, omega arith, refl, (refl, refl, refl)) refl refl, tt);
  moved = record {
    taken = record { round = 1; order = order 1 0 } ∷ [];
    homes = (refl, (refl, (refl, tt)));
    ascend = (refl, (refl, (refl, tt)));
    for_orders = (refl, (refl, (refl, tt)));
    sent = refl;
  };
  rounds = moved-lawful.rounds_and_orders;
  pool = record { small = refl; large = refl };
}
