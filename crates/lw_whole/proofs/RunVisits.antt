-- A whole run of five threads, with a visit and a cast past a client that has exited.
use Rattle.std.proofs.Common.{List, [], ◌∷◌, refl, arith, inl, inr}
use Rattle.std.proofs.lemmas.Bool.{false≢true, true≢false}
use Rattle.lw_base.specs.declared.message.What.TheVariants as what
use Rattle.lw_model.specs.declared.record.Answer.TheVariants as answer
use Rattle.lw_model.specs.Devices.{device_at}
use Rattle.lw_model.proofs.Records.{visit_and_cast, rounds_app, rounds_visitor, rounds_caster, rounds_owner, client, did, visit_seen, cast_seen, casted, mark}
use Rattle.lw_model.proofs.Verdicts.{visit_and_cast-lawful}
use Rattle.lw_whole.specs.Letters.{marked, reached}
use Rattle.lw_whole.specs.Logs.{Log}
use Rattle.lw_whole.specs.Notes.{idle, note_at, notes_of}
use Rattle.lw_whole.specs.Threads.{Ended, AllEnded}
use Rattle.lw_whole.specs.WholeRun.{IsWholeRun}
use Rattle.lw_whole.proofs.Computed.{rings_from, note_from, settled_from}
use Rattle.lw_whole.proofs.Parts.{letter, plain, done_of, given, unregistered, app_log_of, client_log, owner_log}

abbrev app_log : Log
app_log = app_log_of (rounds_app)
    (done_of 1 0 (idle ∷ []) ∷ letter 2 0 (what.Visit 2 1 0) (marked ([])) ∷ letter 3 0 (what.Cast 3 0) (reached ([])) ∷ done_of 3 1 (idle ∷ []) ∷ done_of 2 1 (given (0 ∷ []) ∷ []) ∷ [])
    ([] ∷ ((2, letter 0 0 (what.Visit 2 1 0) (marked ([]))) ∷ []) ∷ ((2, letter 0 1 (what.Cast 3 0) (reached (0 ∷ []))) ∷ []) ∷ [] ∷ [] ∷ [] ∷ [])
    ((4, plain 0 0 what.Stop) ∷ [])
    (6 ∷ [])
    (unregistered 1 0 ∷ [])

abbrev idler_log : Log
idler_log = client_log 1 0 (client 0 [] (did 0 0 answer.Closed ∷ []) [])
    ([])
    ([] ∷ [])
    ([])
    (idle ∷ [])

abbrev visitor_log : Log
visitor_log = client_log 2 1 (rounds_visitor 3 visit_seen)
    (letter 0 0 (what.Visit 2 1 0) (marked ([])) ∷ letter 0 1 (what.Cast 3 0) (reached (0 ∷ [])) ∷ letter 4 0 (what.Visited 1) (marked (mark 2 0 ∷ [])) ∷ plain 2 0 (what.PutSelf 0) ∷ [])
    ([] ∷ ((0, letter 2 0 (what.Visit 2 1 0) (marked ([]))) ∷ []) ∷ ((3, letter 2 0 (what.Visit 2 1 0) (marked (mark 2 0 ∷ []))) ∷ []) ∷ ((3, letter 2 1 (what.Cast 3 0) (reached (0 ∷ 2 ∷ []))) ∷ []) ∷ [] ∷ ((2, plain 2 0 (what.PutSelf 0)) ∷ []) ∷ [] ∷ [])
    ([])
    (given (0 ∷ []) ∷ [])

abbrev caster_log : Log
caster_log = client_log 3 1 (rounds_caster casted cast_seen)
    (letter 2 0 (what.Visit 2 1 0) (marked (mark 2 0 ∷ [])) ∷ letter 2 1 (what.Cast 3 0) (reached (0 ∷ 2 ∷ [])) ∷ letter 4 0 (what.Casted 0) (reached (0 ∷ 2 ∷ 3 ∷ 4 ∷ [])) ∷ [])
    (((0, letter 3 0 (what.Cast 3 0) (reached ([]))) ∷ []) ∷ ((4, letter 3 0 (what.Visit 2 1 0) (marked (mark 2 0 ∷ []))) ∷ []) ∷ ((4, letter 3 1 (what.Cast 3 0) (reached (0 ∷ 2 ∷ 3 ∷ []))) ∷ []) ∷ [] ∷ [] ∷ [])
    ([])
    (idle ∷ [])

abbrev keeper_log : Log
keeper_log = owner_log (rounds_owner)
    (letter 3 0 (what.Visit 2 1 0) (marked (mark 2 0 ∷ [])) ∷ letter 3 1 (what.Cast 3 0) (reached (0 ∷ 2 ∷ 3 ∷ [])) ∷ plain 0 0 what.Stop ∷ [])
    (((2, letter 4 0 (what.Visited 1) (marked (mark 2 0 ∷ []))) ∷ []) ∷ ((3, letter 4 0 (what.Casted 0) (reached (0 ∷ 2 ∷ 3 ∷ 4 ∷ []))) ∷ []) ∷ [] ∷ [])
    (idle ∷ [])

app_ended : Ended visit_and_cast.script 0 app_log
app_ended = record {
  tags = refl;
  sends = record { at_steps = (refl, (inl (record { above = omega arith; thread = omega arith; token = refl; carried = refl; passed = refl }), (inl (record { above = omega arith; thread = omega arith; token = refl; carried = refl; passed = refl }), (refl, (refl, (refl, tt)))))); at_end = refl; with_row = λ e. absurd (false≢true e) };
  did_ats = refl;
  called_ats = refl;
  stood = refl;
  callbacks = refl;
  stays_shut = (refl, tt);
  own_row = record { devices = refl; notes = (note_from visit_and_cast.script 0 0 app_log (unregistered 1 0) refl refl refl refl, tt) };
  role = record { count = refl; fit = refl; took_in = record { joined = refl; knew = refl } };
}

idler_ended : Ended visit_and_cast.script 1 idler_log
idler_ended = record {
  tags = refl;
  sends = record { at_steps = (refl, tt); at_end = refl; with_row = λ e. refl };
  did_ats = refl;
  called_ats = refl;
  stood = refl;
  callbacks = refl;
  stays_shut = (refl, tt);
  own_row = record { devices = refl; notes = (note_from visit_and_cast.script 1 0 idler_log idle refl refl refl refl, tt) };
  role = record { count = refl; fit = refl; replies = refl; seen = refl; row = refl };
}

visitor_ended : Ended visit_and_cast.script 2 visitor_log
visitor_ended = record {
  tags = refl;
  sends = record { at_steps = (refl, (inl (record { above = omega arith; thread = omega arith; token = refl; carried = refl; passed = refl }), (inl (record { above = omega arith; thread = omega arith; token = refl; carried = refl; passed = refl }), (inl (record { above = omega arith; thread = omega arith; token = refl; carried = refl; passed = refl }), (refl, (refl, (refl, tt))))))); at_end = refl; with_row = λ e. refl };
  did_ats = refl;
  called_ats = refl;
  stood = refl;
  callbacks = refl;
  stays_shut = (refl, tt);
  own_row = record { devices = refl; notes = (note_from visit_and_cast.script 2 0 visitor_log (given (0 ∷ [])) refl refl refl refl, tt) };
  role = record { count = refl; fit = refl; replies = refl; seen = refl; row = refl };
}

caster_ended : Ended visit_and_cast.script 3 caster_log
caster_ended = record {
  tags = refl;
  sends = record { at_steps = (inl (record { above = omega arith; thread = omega arith; token = refl; carried = refl; passed = refl }), (inl (record { above = omega arith; thread = omega arith; token = refl; carried = refl; passed = refl }), (inl (record { above = omega arith; thread = omega arith; token = refl; carried = refl; passed = refl }), (refl, (refl, tt))))); at_end = refl; with_row = λ e. refl };
  did_ats = refl;
  called_ats = refl;
  stood = refl;
  callbacks = refl;
  stays_shut = (refl, tt);
  own_row = record { devices = refl; notes = (note_from visit_and_cast.script 3 0 caster_log idle refl refl refl refl, tt) };
  role = record { count = refl; fit = refl; replies = refl; seen = refl; row = refl };
}

keeper_ended : Ended visit_and_cast.script 4 keeper_log
keeper_ended = record {
  tags = refl;
  sends = record { at_steps = (inr (record { completes = refl; carried = refl; passed = refl }), (inr (record { completes = refl; carried = refl; passed = refl }), (refl, tt))); at_end = refl; with_row = λ e. absurd (false≢true e) };
  did_ats = refl;
  called_ats = refl;
  stood = refl;
  callbacks = refl;
  stays_shut = (refl, tt);
  own_row = record { devices = refl; notes = (note_from visit_and_cast.script 4 0 keeper_log idle refl refl refl refl, tt) };
  role = record { did = refl; row = refl };
}

abbrev logs : List Log
logs = app_log ∷ idler_log ∷ visitor_log ∷ caster_log ∷ keeper_log ∷ []

pub visit_and_cast-whole : IsWholeRun visit_and_cast logs
visit_and_cast-whole = record {
  threads = refl;
  each = (app_ended, (idler_ended, (visitor_ended, (caster_ended, (keeper_ended, tt)))));
  rings = rings_from logs refl refl refl;
  registry = (settled_from (notes_of 0 logs) (device_at visit_and_cast 0) refl refl (0, note_at app_log.row 0, omega arith, refl, (refl, refl, refl)) refl refl, tt);
  moved = record {
    taken = [];
    homes = (refl, (refl, (refl, (refl, (refl, tt)))));
    ascend = (refl, (refl, (refl, (refl, (refl, tt)))));
    for_orders = (refl, (refl, (refl, (refl, (refl, tt)))));
    sent = refl;
  };
  rounds = visit_and_cast-lawful.rounds_and_orders;
  pool = record { small = refl; large = refl };
}

-- and its threads are such that they have a text
pub visit_and_cast-ended : AllEnded visit_and_cast.script logs
visit_and_cast-ended = record {
  accepted = refl;
  count = refl;
  roles = (
    record { role = refl; replies = λ e. refl; seen = λ e. refl },
    (
      record { role = refl; replies = λ e. absurd (true≢false e); seen = λ e. absurd (true≢false e) },
      (
        record { role = refl; replies = λ e. absurd (true≢false e); seen = λ e. absurd (true≢false e) },
        (record { role = refl; replies = λ e. absurd (true≢false e); seen = λ e. absurd (true≢false e) }, (record { role = refl; replies = λ e. refl; seen = λ e. refl }, tt)),
      ),
    ),
  );
  each = visit_and_cast-whole.each;
  rings = visit_and_cast-whole.rings;
}
