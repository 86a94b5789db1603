-- The app begins, is given its poller, and leaves its log.
use Rattle.std.proofs.Common.{◌≡◌, ℕ, zero, suc, ◌+◌, ◌<◌, ◌==◌, true, false, List, [], ◌∷◌, length, get_or, replicate, map, All, None, Some, refl, sym, ap, subst, ◌∙◌, arith, inl, inr}
use Rattle.std.specs.Arc.{arc_value}
use Rattle.std.specs.List.{AllByRecursion}
use Rattle.std.proofs.lemmas.Bool.{and_parts, eqb-true, false≢true}
use Rattle.std.proofs.lemmas.List.{length-replicate}
use Rattle.std.proofs.lemmas.List.Elements.{All-nil, All-cons, All-head, All-tail}
use Rattle.std.proofs.lemmas.List.Sums.{sum_by-append}
use Rattle.lw_base.specs.Letters.{list_at}
use Rattle.lw_base.specs.declared.moves.Hop.{Hop}
use Rattle.lw_model.specs.declared.script.Script.{Script}
use Rattle.lw_model.specs.declared.record.RoleKind.TheVariants as role
use Rattle.lw_model.specs.Threads.{thread_count}
use Rattle.lw_latch.specs.DeviceEnds.{DeviceLatch, new_seat}
use Rattle.lw_device.specs.Rows.{latches, no_seat, seat_of, new_row}
use Rattle.lw_device.proofs.RowLaws.{seat_of-new_row, latches-new_row}
use Rattle.lw_channel.specs.declared.channel.Channel.{Channel}
use Rattle.lw_channel.specs.Channels.{Channels, IsEmpty, no_channel, new_set}
use Rattle.lw_poller.specs.declared.poller.Active.{Active}
use Rattle.lw_poller.specs.Pollers.{Pollers, active_number, times, same}
use Rattle.lw_poller.specs.Changes.{with_active}
use Rattle.lw_thread.specs.Acts.{Known, ActsEnd, no_asks, asks_of}
use Rattle.lw_whole.specs.Letters.{Letter}
use Rattle.lw_whole.specs.Notes.{idle}
use Rattle.lw_whole.specs.Threads.{HasRole, Ended}
use Rattle.lw_history.specs.Histories.{log_of}
use Rattle.lw_history.proofs.Apps.{apps_leave_logs}
use Rattle.lw_history.proofs.Made.{none_are_made}
use Rattle.lw_history.proofs.Keeping.{rows_begin}
use Rattle.lw_history.proofs.SentLogs.{app_sends_are_the_logs}
use Rattle.lw_mail.specs.Runs.{Run}
use Rattle.lw_mail.specs.Saying.{letter_of, notes_of}
use Rattle.lw_mail.specs.declared.mail.Mail.{Mail}
use Rattle.lw_app.specs.declared.app.Stage.{Stage}
use Rattle.lw_app.specs.declared.app.Stage.TheVariants as stage
use Rattle.lw_app.specs.declared.app.App.{App}
use Rattle.lw_app.specs.Flags.{how_many}
use Rattle.lw_app.specs.Apps.{flag_at, lines_at, IsSeat, IsApp}
use Rattle.lw_app.specs.Handling.{has_stopped}
use Rattle.lw_app.specs.Ticking.{none_set}
use Rattle.lw_app.specs.Logging.{HasLog}
use Rattle.lw_app.specs.Keeping.{ends_at, IsAtStage, IsPolled, Keeps, may_end}
use Rattle.lw_app.specs.Leaving.{LeavesLog}
use Rattle.lw_app.proofs.Counting.{none_in, all_in, each_unset, all_set}
use Rattle.lw_app.proofs.Ticking.{keeps_at}

-- ---- beginning

empty_at : (ls : List (List Letter)) (t : ℕ) → All (λ l. l ≡ []) ls → list_at ls t ≡ []
empty_at [] t h = refl
empty_at (l ∷ ls) zero h = All-head (λ l. l ≡ []) l ls h
empty_at (l ∷ ls) (suc t) h = empty_at ls t (All-tail (λ l. l ≡ []) l ls h)

no_channels : (n : ℕ) → All (λ (k : Channel). k.ordinal ≡ None) (replicate n no_channel)
no_channels zero = All-nil (λ (k : Channel). k.ordinal ≡ None)
no_channels (suc n) = All-cons (λ (k : Channel). k.ordinal ≡ None) no_channel (replicate n no_channel) refl (no_channels n)

unused : (ls : List DeviceLatch) (t : ℕ) → AllByRecursion (λ n. n ≡ idle) (notes_of (map (λ l. new_seat l t) ls))
unused [] t = tt
unused (l ∷ ls) t = (refl, unused ls t)

as_many_notes : (ls : List DeviceLatch) (t : ℕ) → length (notes_of (map (λ l. new_seat l t) ls)) ≡ length ls
as_many_notes [] t = refl
as_many_notes (l ∷ ls) t = ap suc (as_many_notes ls t)

module _ (run : Run) (k : Known Letter Run) (b : App) (script : arc_value b.script ≡ run.script) (devices : length run.registry ≡ length run.script.images) (set : b.set ≡ new_set (new_row run.registry 0))
    (awaited : b.awaited ≡ replicate (length (arc_value b.script).clients) true) (owed : b.owed ≡ replicate (length (arc_value b.script).images) false) (did : b.did ≡ []) (called : b.called ≡ []) (waiting : b.stage ≡ stage.Waiting) where
  all_awaited : b.awaited ≡ replicate (length run.script.clients) true
  all_awaited = awaited ∙ ap (λ (s : Script). replicate (length s.clients) true) script

  none_owed : (d : ℕ) → flag_at b.owed d ≡ false
  none_owed d = ap (λ fs. flag_at fs d) owed ∙ none_in (length (arc_value b.script).images) d

  new_is : (d : ℕ) → d < length run.script.images → IsSeat 0 d (1 + length run.script.clients) (how_many b.awaited) (flag_at b.owed d) (seat_of b.set.row d)
  new_is d l =
      let none : DeviceLatch = no_seat.latch in
      let here = ap (λ (x : Channels). seat_of x.row d) set ∙ seat_of-new_row run.registry 0 d none (omega (arith, l, devices)) in
      let count = ap how_many all_awaited ∙ all_set (length run.script.clients) in
      subst (IsSeat 0 d (1 + length run.script.clients) (how_many b.awaited) (flag_at b.owed d)) (sym here)
      (subst (λ o. IsSeat 0 d (1 + length run.script.clients) (how_many b.awaited) o (new_seat (get_or run.registry d none) 0)) (sym (none_owed d)) (record {
        number = refl;
        no_visit = refl;
        seats = omega (arith, count);
        owes = λ e. absurd (false≢true e);
        fired = λ e. omega arith;
        shut = λ g. absurd (omega (arith, g));
        later = λ g. refl;
      }))

  new_app : IsApp run 0 b
  new_app = record {
    script = script;
    devices = devices;
    registry = ap (λ (x : Channels). latches x.row) set ∙ latches-new_row run.registry 0;
    empty = subst IsEmpty (sym set) (no_channels (length (new_row run.registry 0).seats));
    clients = ap length all_awaited ∙ length-replicate (length run.script.clients) true;
    images = ap length owed ∙ length-replicate (length (arc_value b.script).images) false ∙ ap (λ (s : Script). length s.images) script;
    seats = new_is;
  }

  new_log : k.ran ≡ [] → All (λ ls. ls ≡ []) k.sent → HasLog run.script 0 0 k [] b
  new_log ran none = record {
    history = [];
    own = notes_of b.set.row.seats;
    ran = ran;
    sent = none_are_made 0 k.sent (λ t within. empty_at k.sent t none);
    fits = tt;
    did = did;
    called = called;
    lines = refl;
    ends = refl;
    keeps = rows_begin run.script 0 (notes_of b.set.row.seats) (ap (λ (x : Channels). length (notes_of x.row.seats)) set ∙ as_many_notes run.registry 0 ∙ devices)
        (subst (λ (x : Channels). AllByRecursion (λ n. n ≡ idle) (notes_of x.row.seats)) (sym set) (unused run.registry 0));
    row = refl;
    came = λ c w. ap (λ fs. flag_at fs c) all_awaited ∙ all_in (length run.script.clients) c w;
    began = λ d e. absurd (false≢true (sym (none_owed d) ∙ e));
  }

  pub keeps_new : k.family ≡ Some run → k.thread ≡ 0 → k.ran ≡ [] → length k.sent ≡ thread_count run.script → All (λ ls. ls ≡ []) k.sent → Keeps k no_asks b
  keeps_new family number ran threads none = keeps_at k no_asks b run stage.Waiting waiting family number threads new_app tt (inl (λ n. refl)) (λ e. new_log ran none)

-- ---- the first poller

one_poller : (n m : ℕ) (s : Pollers) → times m s ≡ 0 → times m (with_active n s) ≡ same m n
one_poller n m s e = omega (arith, e, sum_by-append (λ (p : Active). same m (active_number p)) s.active (record { number = n; paused = false } ∷ []))

pub takes_a_poller : (k : Known Letter Run) (a : ActsEnd Mail) (n : ℕ) (b : App) → Keeps k (asks_of letter_of a) b → has_stopped b.stage ≡ false → ((m : ℕ) → times m a.pollers ≡ 0)
    → Keeps k (asks_of letter_of (record a { pollers = with_active n a.pollers })) b
takes_a_poller k a n b h waits none = record {
  run = h.run;
  family = h.family;
  number = h.number;
  threads = h.threads;
  app = h.app;
  at_stage = h.at_stage;
  polled = subst (λ x. IsPolled x (λ m. times m (with_active n a.pollers))) (sym waits) (inr (n, λ m. one_poller n m a.pollers (none m)));
  log = h.log;
}

-- ---- the end

none_kept : (b : App) → may_end b ≡ true → b.kept ≡ []
none_kept b e = empty b.kept (eqb-true (length b.kept) 0 (and_parts (has_stopped b.stage) (length b.kept == 0) e).1)
  where
    empty : (ms : List Mail) → length ms ≡ 0 → ms ≡ []
    empty [] e = refl
    empty (m ∷ ms) e = absurd (omega (arith, e))

stopped_is : (st : Stage) → has_stopped st ≡ true → st ≡ stage.Stopped
stopped_is stage.Waiting e = absurd (false≢true e)
stopped_is stage.Calling e = absurd (false≢true e)
stopped_is stage.Stopped e = refl

module _ (k : Known Letter Run) (live : ℕ → ℕ) (b : App) (home : ℕ) (hops : List Hop) (h : Keeps k (record { live = live; pending = [] }) b) (e : may_end b ≡ true) where
  abbrev script : Script
  script = h.run.script

  is_stopped : b.stage ≡ stage.Stopped
  is_stopped = stopped_is b.stage (and_parts (has_stopped b.stage) (length b.kept == 0) e).0

  app : IsApp h.run (length script.images) b
  app = subst (λ st. IsApp h.run (lines_at st script) b) is_stopped h.app

  none_left : (none_set b.awaited ≡ true) × (none_set b.owed ≡ true)
  none_left = subst (λ st. IsAtStage st b) is_stopped h.at_stage

  log : HasLog script (length script.images) 1 k [] b
  log = subst (λ st. HasLog script (lines_at st script) (ends_at st) k [] b) is_stopped (h.log (none_kept b e))

  seat : (d : ℕ) → d < length h.run.registry → IsSeat (length script.images) d (1 + length script.clients) (how_many b.awaited) (flag_at b.owed d) (seat_of b.set.row d)
  seat d l = app.seats d (omega (arith, l, app.devices))

  pub leaves_log : LeavesLog h.run k b home hops
  leaves_log =
      let l = log in
      let left = apps_leave_logs script home hops l.history l.own (notes_of b.set.row.seats) (record { fits = l.fits; ends = l.ends; count = l.lines; keeps = l.keeps; row = l.row }) in
      let the_log = log_of 0 role.App home hops l.history l.own (notes_of b.set.row.seats) in
      record {
        log = the_log;
        began = refl;
        moved = refl;
        did = sym l.did;
        called = sym l.called;
        ran = sym l.ran;
        sent = app_sends_are_the_logs script k.sent l.history role.App home hops l.own (notes_of b.set.row.seats) l.fits l.sent;
        row = refl;
        role = subst (λ t. HasRole script t the_log) (sym h.number) left.role;
        ended = subst (λ t. Ended script t the_log) (sym h.number) left.ended;
        empty = app.empty;
        registry = app.registry;
        seats = λ d w. omega (arith, (seat d w).seats, eqb-true (how_many b.awaited) 0 none_left.0);
        fired = λ d w. (seat d w).fired (each_unset b.owed none_left.1 d);
        shut = λ d w. (seat d w).shut (omega (arith, w, app.devices));
      }
