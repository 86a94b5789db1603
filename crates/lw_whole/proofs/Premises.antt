-- The premises of a whole run, one by one.
use Rattle.std.proofs.Common.{◌≡◌, ℕ, zero, suc, ◌+◌, ◌<◌, ◌≤◌, ◌==◌, Bool, true, false, not, ◌||◌, List, [], ◌∷◌, map, filter_map, take, zip, length, Some, slice_get, count_by, refl, subst, arith}
use Rattle.std.specs.Prelude.{Any}
use Rattle.std.specs.List.{list_all, list_any, AllByRecursion, enumerate_from, range_with_len}
use Rattle.lw_base.specs.Letters.{sent_by, Numbered}
use Rattle.lw_base.specs.Totals.{total, times}
use Rattle.lw_model.specs.declared.script.Script.{Script}
use Rattle.lw_model.specs.declared.record.Record.{Record}
use Rattle.lw_model.specs.Threads.{ops_of, is_client, is_on, images}
use Rattle.lw_model.specs.OwnOrder.{with_past}
use Rattle.lw_model.specs.Holding.{says, ordinal_given}
use Rattle.lw_model.specs.Devices.{device_at, is_began, is_refusal}
use Rattle.lw_model.specs.Moves.{first_reactor, is_above_last}
use Rattle.lw_model.specs.Rounds.{RoundsAndOrders}
use Rattle.lw_model.specs.Sent.{sent_last, to_thread}
use Rattle.lw_model.specs.Lawful.{BuffersHome}
use Rattle.lw_model.specs.Answers.{ats_ascend}
use Rattle.lw_whole.specs.Letters.{row, Note}
use Rattle.lw_whole.specs.Logs.{Log, addressed, steps, steps_with_past, run_by, sent_by_thread}
use Rattle.lw_whole.specs.Sends.{SentAlong}
use Rattle.lw_whole.specs.Notes.{note_at, begun_in, count_begun, rows_in, joined, knows_open, notes_of, NoteFits, DeviceSettled}
use Rattle.lw_whole.specs.Lines.{client_line_fits, app_line_fits, stays_shut, callback_stood, reply_in, results_in}
use Rattle.lw_whole.specs.Threads.{Ended, EndedAs}
use Rattle.lw_whole.specs.WholeRun.{Taken, is_for, was_sent, IsWholeRun}
use Rattle.lw_whole.proofs.Access.{at_number, RoleOf}
use Rattle.lw_whole.proofs.Steps.{placed}

-- each field of `IsWholeRun` and of the records below it; what a thread sends at its steps is one premise, with all its parts
pub data Premise : Type 0 where
  threads : Premise
  tags : Premise
  sends : Premise
  last : Premise
  with_row : Premise
  did_ats : Premise
  called_ats : Premise
  stood : Premise
  callbacks : Premise
  stays : Premise
  devices : Premise
  ordinals : Premise
  found : Premise
  begun : Premise
  began_by : Premise
  fired : Premise
  client_count : Premise
  client_lines : Premise
  replies : Premise
  seen : Premise
  client_row : Premise
  app_count : Premise
  app_lines : Premise
  took_in : Premise
  knew : Premise
  owner_lines : Premise
  owner_row : Premise
  run_is_sent : Premise
  numbered : Premise
  each_once : Premise
  given : Premise
  who_began : Premise
  all_fired : Premise
  one_callback : Premise
  homes : Premise
  ascend : Premise
  for_orders : Premise
  orders_sent : Premise
  rounds : Premise
  pool : Premise

-- what holds of each log with its thread, of each note of its own row, and of each image's notes
abbrev pub EachLog : (ℕ → Log → Type 0) → List Log → Type 0
EachLog P logs = AllByRecursion (λ p. P p.0 p.1) (enumerate_from 0 logs)

abbrev pub EachNote : (ℕ → Log → ℕ → Note → Type 0) → List Log → Type 0
EachNote P logs = EachLog (λ t l. AllByRecursion (λ p. P t l p.0 p.1) (enumerate_from 0 l.own)) logs

abbrev pub EachImage : Script → (ℕ → Type 0) → Type 0
EachImage s P = AllByRecursion P (images s)

abbrev pub Holds : Premise → Record → List Log → List Taken → Type 0
Holds threads r logs taken = r.threads ≡ map (λ l. l.lines) logs
Holds tags r logs taken = EachLog (λ t l. map (λ x. x.tag) l.ran ≡ l.lines.ran) logs
Holds sends r logs taken = EachLog (λ t l. SentAlong r.script t l (steps_with_past l) l.sends) logs
Holds last r logs taken = EachLog (λ t l. addressed l.last ≡ sent_last r.script t) logs
Holds with_row r logs taken = EachLog (λ t l. is_client r.script t ≡ true → map (λ p. p.1.load) l.last ≡ row l.own ∷ []) logs
Holds did_ats r logs taken = EachLog (λ t l. ats_ascend (length l.lines.ran) (map (λ x. x.at) l.lines.did) ≡ true) logs
Holds called_ats r logs taken = EachLog (λ t l. ats_ascend (length l.lines.ran) (map (λ x. x.at) l.lines.called) ≡ true) logs
Holds stood r logs taken = EachLog (λ t l. length l.stood ≡ length l.lines.called) logs
Holds callbacks r logs taken = EachLog (λ t l. list_all (λ p. callback_stood r.script t l p.0 p.1) (zip l.stood l.lines.called) ≡ true) logs
Holds stays r logs taken = EachLog (λ t l. EachImage r.script (λ d. list_all (λ p. stays_shut r.script t d p.0 p.1) (steps_with_past l) ≡ true)) logs
Holds devices r logs taken = EachLog (λ t l. length l.own ≡ length r.script.images) logs
Holds ordinals r logs taken = EachNote (λ t l d n. n.ordinals ≡ filter_map (ordinal_given (is_on r.script t d)) (steps l)) logs
Holds found r logs taken = EachNote (λ t l d n. list_any (says (is_on r.script t d) is_refusal) (steps l) ≡ true → 1 ≤ n.found) logs
Holds begun r logs taken = EachNote (λ t l d n. filter_map (count_begun (is_on r.script t d)) (steps l) ≡ begun_in n) logs
Holds began_by r logs taken = EachNote (λ t l d n. 1 ≤ n.begun → n.began_by ≡ t) logs
Holds fired r logs taken = EachNote (λ t l d n. count_by (λ x. x.device == d) l.lines.called ≡ n.fired) logs
Holds client_count r logs taken = EachLog (λ t l. is_client r.script t ≡ true → length l.lines.did ≡ length (ops_of r.script t) + 1) logs
Holds client_lines r logs taken = EachLog (λ t l. is_client r.script t ≡ true → list_all (λ p. client_line_fits r.script t p.0 p.1) (steps_with_past l) ≡ true) logs
Holds replies r logs taken = EachLog (λ t l. is_client r.script t ≡ true → l.lines.replies ≡ filter_map reply_in l.ran) logs
Holds seen r logs taken = EachLog (λ t l. is_client r.script t ≡ true → l.lines.seen ≡ filter_map results_in l.ran) logs
Holds client_row r logs taken = EachLog (λ t l. is_client r.script t ≡ true → l.row ≡ []) logs
Holds app_count r logs taken = EachLog (λ t l. (t == 0) ≡ true → length l.lines.did ≡ length r.script.images) logs
Holds app_lines r logs taken = EachLog (λ t l. (t == 0) ≡ true → list_all (λ p. app_line_fits r.script p.0 p.1) (steps_with_past l) ≡ true) logs
Holds took_in r logs taken = EachLog (λ t l. (t == 0) ≡ true → l.row ≡ joined l.own (rows_in l.ran)) logs
Holds knew r logs taken = EachLog (λ t l. (t == 0) ≡ true → list_all (λ x. not (is_began x.answer) || list_all (λ ns. knows_open (note_at ns x.op)) (rows_in (take x.at l.ran))) l.lines.did ≡ true) logs
Holds owner_lines r logs taken = EachLog (λ t l. (t == 0) ≡ false → is_client r.script t ≡ false → l.lines.did ≡ []) logs
Holds owner_row r logs taken = EachLog (λ t l. (t == 0) ≡ false → is_client r.script t ≡ false → l.row ≡ l.own) logs
Holds run_is_sent r logs taken = (t s : ℕ) → t < length logs → sent_by (λ l. l.tag) s (run_by logs t) ≡ to_thread t (sent_by_thread logs s)
Holds numbered r logs taken = (t s : ℕ) → t < length logs → s < length logs → Numbered (λ l. l.tag) s (to_thread t (sent_by_thread logs s))
Holds each_once r logs taken = EachImage r.script (λ d. (k : ℕ) → k < (device_at r d).given → total (λ n. times k n.ordinals) (notes_of d logs) ≡ 1)
Holds given r logs taken = EachImage r.script (λ d. total (λ n. length n.ordinals) (notes_of d logs) ≡ (device_at r d).given)
Holds who_began r logs taken = EachImage r.script (λ d. Any (λ n. (n.begun ≡ 1) × (n.count ≡ (device_at r d).given) × (n.began_by ≡ (device_at r d).thread)) (notes_of d logs))
Holds all_fired r logs taken = EachImage r.script (λ d. total (λ n. n.fired) (notes_of d logs) ≡ (device_at r d).callbacks)
Holds one_callback r logs taken = EachImage r.script (λ d. (device_at r d).callbacks ≡ 1)
Holds homes r logs taken = EachLog (λ t l. l.lines.home ≡ first_reactor r t) logs
Holds ascend r logs taken = EachLog (λ t l. list_all (λ p. is_above_last p.0 p.1) (with_past [] l.lines.hops) ≡ true) logs
Holds for_orders r logs taken = EachLog (λ t l. list_all (λ h. list_any (is_for t h) taken) l.lines.hops ≡ true) logs
Holds orders_sent r logs taken = list_all (was_sent r) taken ≡ true
Holds rounds r logs taken = RoundsAndOrders r
Holds pool r logs taken = BuffersHome r

-- ---- with all of them the run is whole

module _ (r : Record) (logs : List Log) (taken : List Taken) (all : (p : Premise) → Holds p r logs taken) where
  log_at : (P : ℕ → Log → Type 0) → EachLog P logs → (t : ℕ) (l : Log) → slice_get logs t ≡ Some l → P t l
  log_at P h t l e = subst (λ n. P n l) (omega arith) (at_number P 0 logs t l h e)

  note_at_place : (P : ℕ → Log → ℕ → Note → Type 0) → EachNote P logs → (t : ℕ) (l : Log) → slice_get logs t ≡ Some l → (d : ℕ) (n : Note) → slice_get l.own d ≡ Some n → P t l d n
  note_at_place P h t l e d n at = subst (λ k. P t l k n) (omega arith) (at_number (P t l) 0 l.own d n (log_at (λ t l. AllByRecursion (λ p. P t l p.0 p.1) (enumerate_from 0 l.own)) h t l e) at)

  fits : (t : ℕ) (l : Log) → slice_get logs t ≡ Some l → (d : ℕ) (n : Note) → slice_get l.own d ≡ Some n → NoteFits r.script t d l n
  fits t l e d n at = record {
    ordinals = note_at_place (λ t l d n. n.ordinals ≡ filter_map (ordinal_given (is_on r.script t d)) (steps l)) (all ordinals) t l e d n at;
    found = note_at_place (λ t l d n. list_any (says (is_on r.script t d) is_refusal) (steps l) ≡ true → 1 ≤ n.found) (all found) t l e d n at;
    begun = note_at_place (λ t l d n. filter_map (count_begun (is_on r.script t d)) (steps l) ≡ begun_in n) (all begun) t l e d n at;
    began_by = note_at_place (λ t l d n. 1 ≤ n.begun → n.began_by ≡ t) (all began_by) t l e d n at;
    fired = note_at_place (λ t l d n. count_by (λ x. x.device == d) l.lines.called ≡ n.fired) (all fired) t l e d n at;
  }

  role : (t : ℕ) (l : Log) → slice_get logs t ≡ Some l → EndedAs r.script t l
  role t l e = of (t == 0) refl (is_client r.script t) refl
    where
      of : (a : Bool) → (t == 0) ≡ a → (b : Bool) → is_client r.script t ≡ b → RoleOf r.script t l a b
      of true z b c = record {
        count = log_at (λ t l. (t == 0) ≡ true → length l.lines.did ≡ length r.script.images) (all app_count) t l e z;
        fit = log_at (λ t l. (t == 0) ≡ true → list_all (λ p. app_line_fits r.script p.0 p.1) (steps_with_past l) ≡ true) (all app_lines) t l e z;
        took_in = record {
          joined = log_at (λ t l. (t == 0) ≡ true → l.row ≡ joined l.own (rows_in l.ran)) (all took_in) t l e z;
          knew = log_at (λ t l. (t == 0) ≡ true → list_all (λ x. not (is_began x.answer) || list_all (λ ns. knows_open (note_at ns x.op)) (rows_in (take x.at l.ran))) l.lines.did ≡ true) (all knew) t l e z;
        };
      }
      of false z true c = record {
        count = log_at (λ t l. is_client r.script t ≡ true → length l.lines.did ≡ length (ops_of r.script t) + 1) (all client_count) t l e c;
        fit = log_at (λ t l. is_client r.script t ≡ true → list_all (λ p. client_line_fits r.script t p.0 p.1) (steps_with_past l) ≡ true) (all client_lines) t l e c;
        replies = log_at (λ t l. is_client r.script t ≡ true → l.lines.replies ≡ filter_map reply_in l.ran) (all replies) t l e c;
        seen = log_at (λ t l. is_client r.script t ≡ true → l.lines.seen ≡ filter_map results_in l.ran) (all seen) t l e c;
        row = log_at (λ t l. is_client r.script t ≡ true → l.row ≡ []) (all client_row) t l e c;
      }
      of false z false c = record {
        did = log_at (λ t l. (t == 0) ≡ false → is_client r.script t ≡ false → l.lines.did ≡ []) (all owner_lines) t l e z c;
        row = log_at (λ t l. (t == 0) ≡ false → is_client r.script t ≡ false → l.row ≡ l.own) (all owner_row) t l e z c;
      }

  ended_at : (t : ℕ) (l : Log) → slice_get logs t ≡ Some l → Ended r.script t l
  ended_at t l e = record {
    tags = log_at (λ t l. map (λ x. x.tag) l.ran ≡ l.lines.ran) (all tags) t l e;
    sends = record {
      at_steps = log_at (λ t l. SentAlong r.script t l (steps_with_past l) l.sends) (all sends) t l e;
      at_end = log_at (λ t l. addressed l.last ≡ sent_last r.script t) (all last) t l e;
      with_row = log_at (λ t l. is_client r.script t ≡ true → map (λ p. p.1.load) l.last ≡ row l.own ∷ []) (all with_row) t l e;
    };
    did_ats = log_at (λ t l. ats_ascend (length l.lines.ran) (map (λ x. x.at) l.lines.did) ≡ true) (all did_ats) t l e;
    called_ats = log_at (λ t l. ats_ascend (length l.lines.ran) (map (λ x. x.at) l.lines.called) ≡ true) (all called_ats) t l e;
    stood = log_at (λ t l. length l.stood ≡ length l.lines.called) (all stood) t l e;
    callbacks = log_at (λ t l. list_all (λ p. callback_stood r.script t l p.0 p.1) (zip l.stood l.lines.called) ≡ true) (all callbacks) t l e;
    stays_shut = log_at (λ t l. EachImage r.script (λ d. list_all (λ p. stays_shut r.script t d p.0 p.1) (steps_with_past l) ≡ true)) (all stays) t l e;
    own_row = record {
      devices = log_at (λ t l. length l.own ≡ length r.script.images) (all devices) t l e;
      notes = placed (λ d n. NoteFits r.script t d l n) 0 l.own (λ d n at. subst (λ k. NoteFits r.script t k l n) (omega arith) (fits t l e d n at));
    };
    role = role t l e;
  }

  without_numbers : (P : Log → Type 0) (n : ℕ) (ls : List Log) → AllByRecursion (λ p. P p.1) (enumerate_from n ls) → AllByRecursion P ls
  without_numbers P n [] h = tt
  without_numbers P n (l ∷ ls) h = (h.0, without_numbers P (n + 1) ls h.1)

  -- the premises are all that a whole run has
  pub whole_from : IsWholeRun r logs
  whole_from = record {
    threads = all threads;
    each = placed (Ended r.script) 0 logs (λ t l e. subst (λ n. Ended r.script n l) (omega arith) (ended_at t l e));
    rings = record { run_is_sent = all run_is_sent; numbered = all numbered };
    registry = image_each 0 (length r.script.images) (all each_once) (all given) (all who_began) (all all_fired) (all one_callback);
    moved = record {
      taken = taken;
      homes = all homes;
      ascend = without_numbers (λ l. list_all (λ p. is_above_last p.0 p.1) (with_past [] l.lines.hops) ≡ true) 0 logs (all ascend);
      for_orders = all for_orders;
      sent = all orders_sent;
    };
    rounds = all rounds;
    pool = all pool;
  }
    where
      image_each : (a n : ℕ) → AllByRecursion (λ d. (k : ℕ) → k < (device_at r d).given → total (λ n. times k n.ordinals) (notes_of d logs) ≡ 1) (range_with_len a n)
          → AllByRecursion (λ d. total (λ n. length n.ordinals) (notes_of d logs) ≡ (device_at r d).given) (range_with_len a n)
          → AllByRecursion (λ d. Any (λ n. (n.begun ≡ 1) × (n.count ≡ (device_at r d).given) × (n.began_by ≡ (device_at r d).thread)) (notes_of d logs)) (range_with_len a n)
          → AllByRecursion (λ d. total (λ n. n.fired) (notes_of d logs) ≡ (device_at r d).callbacks) (range_with_len a n)
          → AllByRecursion (λ d. (device_at r d).callbacks ≡ 1) (range_with_len a n)
          → AllByRecursion (λ d. DeviceSettled (notes_of d logs) (device_at r d)) (range_with_len a n)
      image_each a zero o g w f c = tt
      image_each a (suc n) o g w f c = (record { once = o.0; count = g.0; began = w.0; fired = f.0; one_callback = c.0 }, image_each (a + 1) n o.1 g.1 w.1 f.1 c.1)
