-- A whole run of two clients on two images, with a flush and a wait.
use Rattle.std.proofs.Common.{None, codes, List, [], ◌∷◌, refl, arith}
use Rattle.std.proofs.lemmas.Bool.{false≢true}
use Rattle.lw_base.specs.declared.message.What.TheVariants as what
use Rattle.lw_model.specs.declared.record.Answer.TheVariants as answer
use Rattle.lw_model.specs.declared.record.Replied.TheVariants as replied
use Rattle.lw_model.specs.declared.record.Record.{Record}
use Rattle.lw_base.specs.declared.moves.Scheduler.TheVariants.{Static}
use Rattle.lw_model.specs.declared.record.ThreadRecord.{ThreadRecord}
use Rattle.lw_model.specs.declared.script.Op.TheVariants as op
use Rattle.lw_model.specs.declared.script.ImageOf.{ImageOf}
use Rattle.lw_model.specs.Devices.{device_at}
use Rattle.lw_model.specs.Lawful.{Lawful}
use Rattle.lw_model.proofs.Judged.{verdict-exact}
use Rattle.lw_model.proofs.Records.{image, client_of, message, did, called, reply, ended, app, client, owner, block}
use Rattle.lw_whole.specs.Letters.{answered}
use Rattle.lw_whole.specs.Logs.{Log}
use Rattle.lw_whole.specs.Notes.{idle, note_at, notes_of}
use Rattle.lw_whole.specs.Threads.{Ended}
use Rattle.lw_whole.specs.WholeRun.{IsWholeRun}
use Rattle.lw_whole.proofs.Computed.{rings_from, note_from, settled_from}
use Rattle.lw_whole.proofs.Parts.{letter, plain, done_of, given, unregistered, app_log_of, client_log, owner_log}

abbrev second_image : ImageOf
second_image = record { name = codes "n"; block = 16; blocks = 2 }

abbrev pair_app : ThreadRecord
pair_app = app (message 2 0 what.Done ∷ message 1 0 what.Done ∷ []) (did 2 0 (answer.Began 1) ∷ did 2 1 (answer.Began 2) ∷ []) (called 2 0 ∷ called 2 1 ∷ [])

abbrev pair_first : ThreadRecord
pair_first = client 1
    (message 3 0 (what.Reply 1) ∷ message 3 1 (what.Reply 2) ∷ message 4 0 (what.Reply 5) ∷ message 1 0 (what.PutSelf 0) ∷ message 1 1 (what.PutSelf 1) ∷ [])
    (did 0 0 (answer.Given 0) ∷ did 0 1 answer.Sent ∷ did 0 2 answer.Sent ∷ did 2 3 answer.Waited ∷ did 2 4 (answer.Given 1) ∷ did 2 5 answer.Sent ∷ did 3 6 answer.Closed ∷ [])
    (reply 1 replied.Ok ∷ reply 2 (replied.Writes 1) ∷ reply 5 (block 205) ∷ [])

abbrev pair_second : ThreadRecord
pair_second = client 0
    (message 4 0 (what.Reply 1) ∷ message 2 0 (what.PutSelf 1) ∷ [])
    (did 0 0 (answer.Given 0) ∷ did 0 1 answer.Sent ∷ did 1 2 answer.Closed ∷ [])
    (reply 1 replied.Ok ∷ [])

abbrev pair_owner : ThreadRecord
pair_owner = record (owner (message 1 0 (what.Request 1) ∷ message 1 1 (what.Request 2) ∷ message 0 0 what.Stop ∷ [])) { home = 1 }

abbrev pair_other : ThreadRecord
pair_other = owner (message 2 0 (what.Request 1) ∷ message 1 0 (what.Request 5) ∷ message 0 0 what.Stop ∷ [])

abbrev pub pair : Record
pair = record {
  script = record {
    images = image 4 ∷ second_image ∷ [];
    clients =
        (client_of (codes "a") 4 (op.Get 0 ∷ op.Write 0 0 1 (171 ∷ []) ∷ op.Flush 0 ∷ op.Wait 5 ∷ op.Get 1 ∷ op.Read 1 0 1 ∷ [])
        ∷ client_of (codes "b") 4 (op.Get 1 ∷ op.Write 1 0 1 (205 ∷ []) ∷ [])
        ∷ []);
    small = 4;
    large = 1;
  };
  scheduler = Static;
  reactors = 2;
  period = 1000000;
  threads = pair_app ∷ pair_first ∷ pair_second ∷ pair_owner ∷ pair_other ∷ [];
  devices = ended 1 0 1 ∷ ended 2 0 1 ∷ [];
  span = None;
  rounds = [];
  home = record { small = 4; large = 1 };
  printable = refl;
}

pub pair-lawful : Lawful pair
pair-lawful = (verdict-exact pair).0 refl

abbrev app_log : Log
app_log = app_log_of (pair_app)
    (done_of 2 0 (idle ∷ given (0 ∷ []) ∷ []) ∷ done_of 1 0 (given (0 ∷ []) ∷ given (1 ∷ []) ∷ []) ∷ [])
    ([] ∷ [] ∷ [] ∷ [] ∷ [])
    ((3, plain 0 0 what.Stop) ∷ (4, plain 0 0 what.Stop) ∷ [])
    (4 ∷ 4 ∷ [])
    (unregistered 1 0 ∷ unregistered 2 0 ∷ [])

abbrev first_log : Log
first_log = client_log 1 0 (pair_first)
    (letter 3 0 (what.Reply 1) (answered replied.Ok) ∷ letter 3 1 (what.Reply 2) (answered (replied.Writes 1)) ∷ letter 4 0 (what.Reply 5) (answered (block 205)) ∷ plain 1 0 (what.PutSelf 0) ∷ plain 1 1 (what.PutSelf 1) ∷ [])
    ([] ∷ ((3, plain 1 0 (what.Request 1)) ∷ []) ∷ ((3, plain 1 1 (what.Request 2)) ∷ []) ∷ [] ∷ [] ∷ [] ∷ [] ∷ ((4, plain 1 0 (what.Request 5)) ∷ []) ∷ [] ∷ ((1, plain 1 0 (what.PutSelf 0)) ∷ (1, plain 1 1 (what.PutSelf 1)) ∷ []) ∷ [] ∷ [] ∷ [])
    ([])
    (given (0 ∷ []) ∷ given (1 ∷ []) ∷ [])

abbrev second_log : Log
second_log = client_log 2 0 (pair_second)
    (letter 4 0 (what.Reply 1) (answered replied.Ok) ∷ plain 2 0 (what.PutSelf 1) ∷ [])
    ([] ∷ ((4, plain 2 0 (what.Request 1)) ∷ []) ∷ [] ∷ ((2, plain 2 0 (what.PutSelf 1)) ∷ []) ∷ [] ∷ [])
    ([])
    (idle ∷ given (0 ∷ []) ∷ [])

abbrev keeper_log : Log
keeper_log = owner_log (pair_owner)
    (plain 1 0 (what.Request 1) ∷ plain 1 1 (what.Request 2) ∷ plain 0 0 what.Stop ∷ [])
    (((1, letter 3 0 (what.Reply 1) (answered replied.Ok)) ∷ []) ∷ ((1, letter 3 1 (what.Reply 2) (answered (replied.Writes 1))) ∷ []) ∷ [] ∷ [])
    (idle ∷ idle ∷ [])

abbrev other_log : Log
other_log = owner_log (pair_other)
    (plain 2 0 (what.Request 1) ∷ plain 1 0 (what.Request 5) ∷ plain 0 0 what.Stop ∷ [])
    (((2, letter 4 0 (what.Reply 1) (answered replied.Ok)) ∷ []) ∷ ((1, letter 4 0 (what.Reply 5) (answered (block 205))) ∷ []) ∷ [] ∷ [])
    (idle ∷ idle ∷ [])

app_ended : Ended pair.script 0 app_log
app_ended = record {
  tags = refl;
  sends = record { at_steps = (refl, (refl, (refl, (refl, tt)))); at_end = refl; with_row = λ e. absurd (false≢true e) };
  did_ats = refl;
  called_ats = refl;
  stood = refl;
  callbacks = refl;
  stays_shut = (refl, (refl, tt));
  own_row = record { devices = refl; notes = (note_from pair.script 0 0 app_log (unregistered 1 0) refl refl refl refl, (note_from pair.script 0 1 app_log (unregistered 2 0) refl refl refl refl, tt)) };
  role = record { count = refl; fit = refl; took_in = record { joined = refl; knew = refl } };
}

first_ended : Ended pair.script 1 first_log
first_ended = record {
  tags = refl;
  sends = record { at_steps = (refl, (refl, (refl, (refl, (refl, (refl, (refl, (refl, (refl, (refl, (refl, (refl, tt)))))))))))); at_end = refl; with_row = λ e. refl };
  did_ats = refl;
  called_ats = refl;
  stood = refl;
  callbacks = refl;
  stays_shut = (refl, (refl, tt));
  own_row = record { devices = refl; notes = (note_from pair.script 1 0 first_log (given (0 ∷ [])) refl refl refl refl, (note_from pair.script 1 1 first_log (given (1 ∷ [])) refl refl refl refl, tt)) };
  role = record { count = refl; fit = refl; replies = refl; seen = refl; row = refl };
}

second_ended : Ended pair.script 2 second_log
second_ended = record {
  tags = refl;
  sends = record { at_steps = (refl, (refl, (refl, (refl, (refl, tt))))); at_end = refl; with_row = λ e. refl };
  did_ats = refl;
  called_ats = refl;
  stood = refl;
  callbacks = refl;
  stays_shut = (refl, (refl, tt));
  own_row = record { devices = refl; notes = (note_from pair.script 2 0 second_log idle refl refl refl refl, (note_from pair.script 2 1 second_log (given (0 ∷ [])) refl refl refl refl, tt)) };
  role = record { count = refl; fit = refl; replies = refl; seen = refl; row = refl };
}

keeper_ended : Ended pair.script 3 keeper_log
keeper_ended = record {
  tags = refl;
  sends = record { at_steps = (record { reply = refl; answer = refl }, (record { reply = refl; answer = refl }, (refl, tt))); at_end = refl; with_row = λ e. absurd (false≢true e) };
  did_ats = refl;
  called_ats = refl;
  stood = refl;
  callbacks = refl;
  stays_shut = (refl, (refl, tt));
  own_row = record { devices = refl; notes = (note_from pair.script 3 0 keeper_log idle refl refl refl refl, (note_from pair.script 3 1 keeper_log idle refl refl refl refl, tt)) };
  role = record { did = refl; row = refl };
}

other_ended : Ended pair.script 4 other_log
other_ended = record {
  tags = refl;
  sends = record { at_steps = (record { reply = refl; answer = refl }, (record { reply = refl; answer = refl }, (refl, tt))); at_end = refl; with_row = λ e. absurd (false≢true e) };
  did_ats = refl;
  called_ats = refl;
  stood = refl;
  callbacks = refl;
  stays_shut = (refl, (refl, tt));
  own_row = record { devices = refl; notes = (note_from pair.script 4 0 other_log idle refl refl refl refl, (note_from pair.script 4 1 other_log idle refl refl refl refl, tt)) };
  role = record { did = refl; row = refl };
}

abbrev logs : List Log
logs = app_log ∷ first_log ∷ second_log ∷ keeper_log ∷ other_log ∷ []

pub pair-whole : IsWholeRun pair logs
pair-whole = record {
  threads = refl;
  each = (app_ended, (first_ended, (second_ended, (keeper_ended, (other_ended, tt)))));
  rings = rings_from logs refl refl refl;
  registry = (settled_from (notes_of 0 logs) (device_at pair 0) refl refl (0, note_at app_log.row 0, omega arith, refl, (refl, refl, refl)) refl refl, (settled_from (notes_of 1 logs) (device_at pair 1) refl refl (0, note_at app_log.row 1, omega arith, refl, (refl, refl, refl)) refl refl, tt));
  moved = record {
    taken = [];
    homes = (refl, (refl, (refl, (refl, (refl, tt)))));
    ascend = (refl, (refl, (refl, (refl, (refl, tt)))));
    for_orders = (refl, (refl, (refl, (refl, (refl, tt)))));
    sent = refl;
  };
  rounds = pair-lawful.rounds_and_orders;
  pool = record { small = refl; large = refl };
}
