-- The set of a client is taken in.
use Rattle.std.proofs.Common.{◌≡◌, ℕ, zero, suc, ◌+◌, ◌-◌, ◌<◌, ◌≤◌, ◌==◌, Bool, true, false, ◌&&◌, ◌||◌, not, List, [], length, slice_set, refl, sym, ap, subst, ◌∙◌, arith, length-set}
use Rattle.std.specs.List.{list_any}
use Rattle.std.proofs.lemmas.Bool.{eqb-true, eqb-false, eq-eqb, ne_eqb, false≢true}
use Rattle.std.proofs.lemmas.List.Elements.{All-get_or}
use Rattle.std.proofs.lemmas.List.{append-nil}
use Rattle.lw_latch.specs.DeviceEnds.{SeatEnd, both_ends}
use Rattle.lw_device.specs.Rows.{latches, no_seat, seat_of}
use Rattle.lw_device.proofs.RowLaws.{seat_of-both_rows, latches-both_rows, length-seats}
use Rattle.lw_channel.specs.Channels.{Channels, both_sets}
use Rattle.lw_model.specs.Answers.{is_done_of}
use Rattle.lw_model.specs.declared.script.Script.{Script}
use Rattle.lw_base.specs.declared.message.What.TheVariants as what
use Rattle.lw_thread.specs.Acts.{Known, and_run}
use Rattle.lw_whole.specs.Letters.{Letter, row}
use Rattle.lw_history.specs.Histories.{past_of, last_of}
use Rattle.lw_whole.specs.Notes.{both_rows}
use Rattle.lw_history.proofs.Joining.{rows_taken_in}
use Rattle.lw_history.proofs.Sparing.{none_to_spare}
use Rattle.lw_mail.specs.Runs.{Run}
use Rattle.lw_mail.specs.Saying.{notes_of}
use Rattle.lw_mail.specs.Fitting.{MayGoIn}
use Rattle.lw_app.specs.declared.app.App.{App}
use Rattle.lw_app.specs.Flags.{how_many}
use Rattle.lw_app.specs.Apps.{flag_at, IsSeat, IsApp}
use Rattle.lw_app.specs.Handling.{awaits, takes_in}
use Rattle.lw_app.specs.Logging.{HasLog}
use Rattle.lw_app.proofs.Counting.{flag_here, flag_there, is_there, one_less}
use Rattle.lw_app.proofs.Seats.{as_many_seats}
use Rattle.lw_app.proofs.Histories.{none_last}
use Rattle.lw_app.proofs.Rows.{notes_both}
use Rattle.lw_app.proofs.Logs.{log_ran}

-- a thread whose Done is still to come is a client
pub its_flag : (fs : List Bool) (client : ℕ) → awaits fs client ≡ true → (1 ≤ client) × (flag_at fs (client - 1) ≡ true)
its_flag fs zero e = absurd (false≢true e)
its_flag fs (suc k) e = (omega arith, subst (λ j. flag_at fs j ≡ true) same e)
  where
    same : k ≡ suc k - 1
    same = omega arith

module _ (r : Run) (a : App) (client : ℕ) (set : Channels) (is : IsApp r 0 a) (awaited : awaits a.awaited client ≡ true) (may : MayGoIn r set) where
  same_registry : latches set.row ≡ latches a.set.row
  same_registry = may.registry ∙ sym is.registry

  both_seats : (d : ℕ) → d < length r.script.images → seat_of (both_sets a.set set).row d ≡ both_ends (seat_of a.set.row d) (seat_of set.row d)
  both_seats d l = seat_of-both_rows a.set.row set.row d same_registry (omega (arith, l, as_many_seats r 0 a is))

  in_it : (d : ℕ) → d < length r.script.images → d < length set.row.seats
  in_it d l = omega (arith, l, as_many_seats r 0 a is, length-seats a.set.row set.row same_registry)

  taken : (d w : ℕ) (e : SeatEnd) → w + 1 ≡ how_many a.awaited → IsSeat 0 d (1 + length r.script.clients) (how_many a.awaited) (flag_at a.owed d) e → (f : SeatEnd) → f.view.visit ≡ 0 → f.view.begun ≤ f.view.fired → f.view.seats ≡ 1
      → IsSeat 0 d (1 + length r.script.clients) w (flag_at a.owed d) (both_ends e f)
  taken d w e less i f visit fired one = record {
    number = i.number;
    no_visit = omega (arith, i.no_visit, visit);
    seats = omega (arith, i.seats, one, less);
    owes = λ g. absurd (false≢true (sym (i.later (omega arith)) ∙ g));
    fired = λ g. omega (arith, i.fired g, fired);
    shut = λ l. absurd (omega (arith, l));
    later = i.later;
  }

  pub app_taken : IsApp r 0 (takes_in client set a)
  app_taken =
      let flag = its_flag a.awaited client awaited in
      let less = one_less a.awaited (client - 1) flag.1 in
      record {
        script = is.script;
        devices = is.devices;
        registry = latches-both_rows a.set.row set.row ∙ is.registry;
        empty = is.empty;
        clients = length-set a.awaited (client - 1) false ∙ is.clients;
        images = is.images;
        seats = λ d l.
            let free = All-get_or (λ (e : SeatEnd). (e.view.visit ≡ 0) × (e.view.begun ≤ e.view.fired)) set.row.seats d no_seat (in_it d l) may.free in
            let one = All-get_or (λ (e : SeatEnd). e.view.seats ≡ 1) set.row.seats d no_seat (in_it d l) may.alone in
            subst (IsSeat 0 d (1 + length r.script.clients) (how_many (slice_set a.awaited (client - 1) false)) (flag_at a.owed d)) (sym (both_seats d l))
            (taken d (how_many (slice_set a.awaited (client - 1) false)) (seat_of a.set.row d) less (is.seats d l) (seat_of set.row d) free.0 free.1 one);
      }

-- a Done with this set
abbrev pub done_with : ℕ → ℕ → Channels → Letter
done_with client number set = record { tag = record { sender = client; number = number; what = what.Done }; load = row (notes_of set.row.seats) }

-- the log, where the Done was run
pub log_taken : (s : Script) (k : Known Letter Run) (unsent : List (ℕ × Letter)) (a : App) (client number : ℕ) (set : Channels) → HasLog s 0 0 k unsent a → awaits a.awaited client ≡ true
    → HasLog s 0 0 (and_run k (done_with client number set)) unsent (takes_in client set a)
log_taken s k unsent a client number set l awaited =
    log_ran s 0 k unsent a l (done_with client number set) [] unsent (takes_in client set a)
    (record { sent = refl; spares = none_to_spare (last_of l.history) [] (none_last l.history l.ends); no_reply = refl; no_results = refl })
    (sym (append-nil unsent)) refl refl refl
    (notes_both a.set.row.seats set.row.seats ∙ ap (λ ns. both_rows ns (notes_of set.row.seats)) l.row ∙ sym (rows_taken_in l.own l.history (done_with client number set) [] (notes_of set.row.seats) refl))
    came
  where
    came : (c : ℕ) → c < length s.clients → flag_at (slice_set a.awaited (client - 1) false) c ≡ not ((client == c + 1) && true || list_any (is_done_of (c + 1)) (past_of l.history))
    came c w = by (c == client - 1) refl
      where
        flag : (1 ≤ client) × (flag_at a.awaited (client - 1) ≡ true)
        flag = its_flag a.awaited client awaited

        by : (b : Bool) → (c == client - 1) ≡ b → flag_at (slice_set a.awaited (client - 1) false) c ≡ not ((client == c + 1) && true || list_any (is_done_of (c + 1)) (past_of l.history))
        by true e =
            let same = eqb-true c (client - 1) e in
            subst (λ j. flag_at (slice_set a.awaited (client - 1) false) j ≡ false) (sym same) (flag_here a.awaited (client - 1) false (is_there a.awaited (client - 1) flag.1))
            ∙ sym (ap (λ b. not (b && true || list_any (is_done_of (c + 1)) (past_of l.history))) (eq-eqb client (c + 1) (omega (arith, same, flag.0))))
        by false e =
            let ne = eqb-false c (client - 1) e in
            flag_there a.awaited (client - 1) c false ne ∙ l.came c w
            ∙ sym (ap (λ b. not (b && true || list_any (is_done_of (c + 1)) (past_of l.history))) (ne_eqb client (c + 1) (λ g. absurd (ne (omega (arith, g))))))
