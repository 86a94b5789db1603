-- How the log of the app grows.
use Rattle.std.proofs.Common.{◌≡◌, ℕ, ◌+◌, ◌<◌, ◌==◌, nat_lt, Bool, true, false, ◌&&◌, ◌||◌, not, List, [], ◌∷◌, ◌++◌, length, slice_set, refl, sym, ap, ap₂, subst, ◌∙◌, arith}
use Rattle.std.specs.Prelude.{is_none}
use Rattle.std.specs.List.{list_all, list_any}
use Rattle.std.proofs.lemmas.Bool.{and_parts, and_from, eqb-true, eqb-false, eq-eqb, lt-ltb, not-false, false≢true}
use Rattle.std.proofs.lemmas.List.{append-nil, length-append}
use Rattle.lw_model.specs.declared.script.Script.{Script}
use Rattle.lw_model.specs.declared.step.Step.TheVariants as step
use Rattle.lw_model.specs.declared.record.Answer.{Answer}
use Rattle.lw_model.specs.declared.record.Answer.TheVariants as answer
use Rattle.lw_model.specs.declared.record.Did.{Did}
use Rattle.lw_model.specs.declared.record.Called.{Called}
use Rattle.lw_model.specs.Threads.{is_on, clients}
use Rattle.lw_model.specs.Holding.{says, is_given}
use Rattle.lw_model.specs.Devices.{is_began}
use Rattle.lw_model.specs.Answers.{is_done_of, unregister_fits}
use Rattle.lw_model.specs.Sent.{sent_last}
use Rattle.lw_device.specs.Rows.{seat_of, seat_began, seat_found, seat_fired, seat_tried}
use Rattle.lw_channel.specs.Channels.{Channels}
use Rattle.lw_thread.specs.Acts.{Known, and_run}
use Rattle.lw_whole.specs.Letters.{Letter, Note}
use Rattle.lw_whole.specs.Lines.{app_line_fits}
use Rattle.lw_whole.specs.Logs.{addressed}
use Rattle.lw_whole.specs.Notes.{note_at, joined, rows_in, knows_open}
use Rattle.lw_history.specs.Histories.{ran, did, called, ended, runs_of, dids_of, past_of, all_of}
use Rattle.lw_history.specs.Fitting.{AppRunFits}
use Rattle.lw_history.specs.Made.{AreMade}
use Rattle.lw_history.specs.Noting.{note_began, note_found, note_fired, note_after, with_note}
use Rattle.lw_history.proofs.Made.{sends_are_asked}
use Rattle.lw_history.proofs.Keeping.{runs_keep_rows, ends_keep_rows, lines_keep_rows, calls_keep_rows}
use Rattle.lw_history.proofs.Joining.{all_know, lines_join, calls_join}
use Rattle.lw_mail.specs.Runs.{Run}
use Rattle.lw_mail.specs.Saying.{notes_of}
use Rattle.lw_app.specs.declared.app.App.{App}
use Rattle.lw_app.specs.Apps.{flag_at, IsApp}
use Rattle.lw_app.specs.Ticking.{none_set, Answered, Unregisters, Fires, Fails}
use Rattle.lw_app.specs.Logging.{HasLog}
use Rattle.lw_app.proofs.Counting.{flag_there, each_unset}
use Rattle.lw_app.proofs.Histories.{or_right, image_is, on_it, holds_none, stands_open, all_done}
use Rattle.lw_app.proofs.Rows.{notes_with, notes_kept, began_note, fired_note, note_open}

module _ (s : Script) (n : ℕ) (k : Known Letter Run) (unsent : List (ℕ × Letter)) (a : App) (l : HasLog s n 0 k unsent a) where
  -- a message was run
  pub log_ran : (x : Letter) (now unsent2 : List (ℕ × Letter)) (b : App) → AppRunFits s l.history x now → unsent2 ≡ unsent ++ now → b.did ≡ a.did → b.called ≡ a.called → b.owed ≡ a.owed
      → notes_of b.set.row.seats ≡ joined l.own (rows_in (runs_of (ran x now ∷ l.history)))
      → ((c : ℕ) → c < length s.clients → flag_at b.awaited c ≡ not (list_any (is_done_of (c + 1)) (past_of (ran x now ∷ l.history))))
      → HasLog s n 0 (and_run k x) unsent2 b
  log_ran x now unsent2 b fits more same_did same_called same_owed row came = record {
    history = ran x now ∷ l.history;
    own = l.own;
    ran = ap (λ xs. xs ++ x ∷ []) l.ran;
    sent = subst (λ u. AreMade 0 k.sent u (all_of l.history ++ now)) (sym more) (sends_are_asked 0 k.sent unsent (all_of l.history) now l.sent);
    fits = (fits, l.fits);
    did = same_did ∙ l.did;
    called = same_called ∙ l.called;
    lines = l.lines;
    ends = l.ends;
    keeps = runs_keep_rows s 0 l.history l.own x now l.keeps;
    row = row;
    came = came;
    began = λ d e. l.began d (sym (ap (λ fs. flag_at fs d) same_owed) ∙ e);
  }

  -- a device was unregistered
  module _ (r : Run) (script : r.script ≡ s) (at : ℕ) (b : App) (is : IsApp r n a) (within : n < length s.images) (every : none_set a.awaited ≡ true) (now : at ≡ length k.ran) (u : Unregisters at n a b) where
    abbrev line : Did
    line = record { at = at; op = n; answer = u.answer }

    abbrev rows : List (List Note)
    rows = rows_in (runs_of l.history)

    record Told (x : Answer) : Type 0 where
      pub fits : unregister_fits x ≡ true
      pub not_given : is_given x ≡ false
      pub knew : is_began x ≡ true → (knows_open (note_at l.own n) ≡ true) × (list_all (λ ns. knows_open (note_at ns n)) rows ≡ true)
      pub notes : notes_of b.set.row.seats ≡ with_note (notes_of a.set.row.seats) n (note_after 0 x)
      pub owed : (d : ℕ) → flag_at b.owed d ≡ true → (d ≡ n → is_began x ≡ true) × ((d ≡ n → ⊥) → flag_at a.owed d ≡ true)

    told : (x : Answer) → Answered x n a b.set b.owed → Told x
    told (answer.Began given) g = record {
      fits = refl;
      not_given = refl;
      knew = λ e. all_know l.own rows n (omega (arith, within, l.keeps.devices)) (ap (λ ns. knows_open (note_at ns n)) (sym l.row) ∙ note_open a.set.row n g.0.knew);
      notes = ap (λ (x : Channels). notes_of x.row.seats) g.0.row ∙ notes_with a.set.row n (seat_began given g.0.opens) (note_began 0 given) (began_note (seat_of a.set.row n) given g.0.opens (is.seats n (omega (arith, within, ap (λ (x : Script). length x.images) script))).number);
      owed = λ d e. (λ same. refl, λ ne. sym (ap (λ fs. flag_at fs d) g.1 ∙ flag_there a.owed n d true ne) ∙ e);
    }
    told answer.Already g = record {
      fits = refl;
      not_given = refl;
      knew = λ e. absurd (false≢true e);
      notes = ap (λ (x : Channels). notes_of x.row.seats) g.0 ∙ notes_with a.set.row n seat_found note_found refl;
      owed = λ d e.
          let was = sym (ap (λ fs. flag_at fs d) g.1) ∙ e in
          (λ same. absurd (false≢true (sym ((is.seats n (omega (arith, within, ap (λ (x : Script). length x.images) script))).later (omega arith)) ∙ subst (λ j. flag_at a.owed j ≡ true) same was)), λ ne. was);
    }
    told (answer.Given g) h = absurd h
    told (answer.Again g) h = absurd h
    told answer.Shut h = absurd h
    told answer.NoChannel h = absurd h
    told answer.Counted h = absurd h
    told answer.Deferred h = absurd h
    told answer.Sent h = absurd h
    told answer.Waited h = absurd h
    told answer.Started h = absurd h
    told answer.Closed h = absurd h

    all_came : list_all (λ c. list_any (is_done_of c) (past_of l.history)) (clients s) ≡ true
    all_came = all_done (length s.clients) 1 (past_of l.history) (λ c w. ap (λ j. list_any (is_done_of j) (past_of l.history)) (omega arith) ∙ not-false (list_any (is_done_of (c + 1)) (past_of l.history)) (sym (l.came c w) ∙ each_unset a.awaited every c))

    line_fits : (t : Told u.answer) → app_line_fits s (past_of l.history) (step.Did (length (dids_of l.history)) line) ≡ true
    line_fits t =
        let here = ap (λ m. n == m) l.lines ∙ eq-eqb n n refl in
        let low = ap (λ m. nat_lt m (length s.images)) l.lines ∙ lt-ltb n (length s.images) within in
        let first = and_from (n == length (dids_of l.history)) (nat_lt (length (dids_of l.history)) (length s.images)) here low in
        let second = and_from (n == length (dids_of l.history) && nat_lt (length (dids_of l.history)) (length s.images)) (unregister_fits u.answer) first t.fits in
        and_from ((n == length (dids_of l.history) && nat_lt (length (dids_of l.history)) (length s.images)) && unregister_fits u.answer) (list_all (λ c. list_any (is_done_of c) (past_of l.history)) (clients s)) second all_came

    owed_is : (t : Told u.answer) (d : ℕ) → flag_at b.owed d ≡ true → list_any (says (is_on s 0 d) is_began) (past_of (did line [] ∷ l.history)) ≡ true
    owed_is t d e = by (d == n) refl
      where
        by : (x : Bool) → (d == n) ≡ x → (is_on s 0 d n && is_began u.answer || list_any (says (is_on s 0 d) is_began) (past_of l.history)) ≡ true
        by true same =
            let is_n = eqb-true d n same in
            ap₂ (λ x y. x && y || list_any (says (is_on s 0 d) is_began) (past_of l.history)) (subst (λ j. is_on s 0 j n ≡ true) (sym is_n) (on_it s n within)) ((t.owed d e).0 is_n)
        by false other = or_right (is_on s 0 d n && is_began u.answer) (list_any (says (is_on s 0 d) is_began) (past_of l.history)) (l.began d ((t.owed d e).1 (eqb-false d n other)))

    log_with : Told u.answer → HasLog s (n + 1) 0 k unsent b
    log_with t = record {
      history = did line [] ∷ l.history;
      own = with_note l.own n (note_after 0 u.answer);
      ran = l.ran;
      sent = subst (AreMade 0 k.sent unsent) (sym (append-nil (all_of l.history))) l.sent;
      fits = (
        record {
          stands = record { at = now ∙ ap length l.ran; stays_shut = stands_open s l.history line l.fits (sym l.lines) };
          fits = line_fits t;
          knew = λ e. (t.knew e).1;
          sent = refl;
        },
        l.fits,
      );
      did = ap (λ (x : App). x.did) u.body ∙ ap (λ ds. ds ++ line ∷ []) l.did;
      called = ap (λ (x : App). x.called) u.body ∙ l.called;
      lines = length-append (dids_of l.history) (line ∷ []) ∙ ap (λ m. m + 1) l.lines;
      ends = l.ends;
      keeps = lines_keep_rows s 0 l.history l.own line [] n (image_is s n within) (λ e. eqb-true (note_at l.own n).begun 0 (and_parts ((note_at l.own n).found == 0) ((note_at l.own n).begun == 0) (t.knew e).0).1) l.keeps;
      row = t.notes ∙ ap (λ ns. with_note ns n (note_after 0 u.answer)) l.row ∙ sym (lines_join l.own rows 0 n u.answer t.not_given (λ e. (t.knew e).1));
      came = λ c w. ap (λ (x : App). flag_at x.awaited c) u.body ∙ l.came c w;
      began = owed_is t;
    }

    pub log_unregistered : HasLog s (n + 1) 0 k unsent b
    log_unregistered = log_with (told u.answer u.answered)

  -- a callback was made
  pub log_fired : (r : Run) (at d : ℕ) (b : App) → at ≡ length k.ran → flag_at a.owed d ≡ true → Fires at d a b → HasLog s n 0 k unsent b
  log_fired r at d b now owed u =
      let line : Called = record { at = at; device = d } in
      record {
        history = called line ∷ l.history;
        own = with_note l.own d note_fired;
        ran = l.ran;
        sent = l.sent;
        fits = (record { at = now ∙ ap length l.ran; began = l.began d owed; none_held = ap is_none (holds_none s d l.history l.fits) }, l.fits);
        did = ap (λ (x : App). x.did) u.body ∙ l.did;
        called = ap (λ (x : App). x.called) u.body ∙ ap (λ cs. cs ++ line ∷ []) l.called;
        lines = l.lines;
        ends = l.ends;
        keeps = calls_keep_rows s 0 l.history l.own line l.keeps;
        row = ap (λ (x : App). notes_of x.set.row.seats) u.body ∙ notes_with a.set.row d seat_fired note_fired (fired_note (seat_of a.set.row d) u.unfired)
            ∙ ap (λ ns. with_note ns d note_fired) l.row ∙ sym (calls_join l.own (rows_in (runs_of l.history)) d);
        came = λ c w. ap (λ (x : App). flag_at x.awaited c) u.body ∙ l.came c w;
        began = λ e f. l.began e (still e (sym (ap (λ (x : App). flag_at x.owed e) u.body) ∙ f));
      }
    where
      still : (e : ℕ) → flag_at (slice_set a.owed d false) e ≡ true → flag_at a.owed e ≡ true
      still e f = by (e == d) refl
        where
          by : (x : Bool) → (e == d) ≡ x → flag_at a.owed e ≡ true
          by true same = subst (λ j. flag_at a.owed j ≡ true) (sym (eqb-true e d same)) owed
          by false other = sym (flag_there a.owed d e false (eqb-false e d other)) ∙ f

  -- other parts of the app changed, but nothing that the log speaks of
  pub log_same : (b : App) → b.did ≡ a.did → b.called ≡ a.called → notes_of b.set.row.seats ≡ notes_of a.set.row.seats → b.awaited ≡ a.awaited → b.owed ≡ a.owed → HasLog s n 0 k unsent b
  log_same b same_did same_called same_row same_awaited same_owed = record {
    history = l.history;
    own = l.own;
    ran = l.ran;
    sent = l.sent;
    fits = l.fits;
    did = same_did ∙ l.did;
    called = same_called ∙ l.called;
    lines = l.lines;
    ends = l.ends;
    keeps = l.keeps;
    row = same_row ∙ l.row;
    came = λ c w. ap (λ fs. flag_at fs c) same_awaited ∙ l.came c w;
    began = λ d e. l.began d (sym (ap (λ fs. flag_at fs d) same_owed) ∙ e);
  }

  pub log_failed : (d : ℕ) (b : App) → Fails d a b → HasLog s n 0 k unsent b
  log_failed d b u = log_same b (ap (λ (x : App). x.did) u.body) (ap (λ (x : App). x.called) u.body)
      (ap (λ (x : App). notes_of x.set.row.seats) u.body ∙ notes_kept a.set.row d (seat_tried u.seen) refl)
      (ap (λ (x : App). x.awaited) u.body) (ap (λ (x : App). x.owed) u.body)

  -- the last messages were sent
  pub log_ended : (now unsent2 : List (ℕ × Letter)) (b : App) → addressed now ≡ sent_last s 0 → unsent2 ≡ unsent ++ now → b.did ≡ a.did → b.called ≡ a.called → b.set ≡ a.set → b.awaited ≡ a.awaited → b.owed ≡ a.owed → HasLog s n 1 k unsent2 b
  log_ended now unsent2 b last more same_did same_called same_set same_awaited same_owed = record {
    history = ended now ∷ l.history;
    own = l.own;
    ran = l.ran;
    sent = subst (λ u. AreMade 0 k.sent u (all_of l.history ++ now)) (sym more) (sends_are_asked 0 k.sent unsent (all_of l.history) now l.sent);
    fits = (last, l.fits);
    did = same_did ∙ l.did;
    called = same_called ∙ l.called;
    lines = l.lines;
    ends = ap (λ m. m + 1) l.ends;
    keeps = ends_keep_rows s 0 l.history l.own now l.keeps;
    row = ap (λ (x : Channels). notes_of x.row.seats) same_set ∙ l.row;
    came = λ c w. ap (λ fs. flag_at fs c) same_awaited ∙ l.came c w;
    began = λ d e. l.began d (sym (ap (λ fs. flag_at fs d) same_owed) ∙ e);
  }
