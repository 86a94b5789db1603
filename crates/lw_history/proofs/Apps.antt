-- The app, once it has unregistered each device and sent its Stops, leaves the log of a thread that ended.
use Rattle.std.proofs.Common.{◌≡◌, ℕ, Bool, true, false, not, ◌&&◌, ◌||◌, List, [], ◌∷◌, ◌++◌, length, take, filter_map, Option, None, refl, sym, ap, ap₂, ◌∙◌, arith, append_assoc}
use Rattle.std.specs.List.{cons_option, list_all}
use Rattle.std.proofs.lemmas.Bool.{and_from, le-ltb, false≢true}
use Rattle.std.proofs.lemmas.List.{append-nil}
use Rattle.std.proofs.lemmas.List.Elements.{filter_map-append}
use Rattle.std.proofs.lemmas.List.Folds.{list_all-append}
use Rattle.std.proofs.Math.Seq.{take-append_seam}
use Rattle.lw_base.specs.declared.moves.Hop.{Hop}
use Rattle.lw_model.specs.declared.script.Script.{Script}
use Rattle.lw_model.specs.declared.record.RoleKind.TheVariants as role
use Rattle.lw_model.specs.declared.record.Did.{Did}
use Rattle.lw_model.specs.OwnOrder.{with_past}
use Rattle.lw_model.specs.Devices.{is_began}
use Rattle.lw_whole.specs.Letters.{Letter, Note}
use Rattle.lw_whole.specs.Logs.{Log}
use Rattle.lw_whole.specs.Lines.{app_line_fits, reply_in, results_in}
use Rattle.lw_whole.specs.Notes.{note_at, rows_in, knows_open}
use Rattle.lw_whole.specs.Threads.{AppEnded}
use Rattle.lw_history.specs.Histories.{Event, ran, did, called, ended, runs_of, dids_of, past_of, log_of}
use Rattle.lw_history.specs.Fitting.{AppLineFits, AppFits, EachFits}
use Rattle.lw_history.specs.Leaving.{AppDone, IsLeft}
use Rattle.lw_history.proofs.InOrder.{BothFits, app_fits_both, Along, all_along}
use Rattle.lw_history.proofs.Ending.{in_order, ended_as}

nothing_more : {X : Type 0} (f : Letter → Option X) (xs : List Letter) (x : Letter) → f x ≡ None → filter_map f xs ≡ [] → filter_map f (xs ++ x ∷ []) ≡ []
nothing_more f xs x none e = filter_map-append f xs (x ∷ []) ∙ ap₂ (λ l o. l ++ cons_option o []) e none

module _ (s : Script) where
  lines_along : (h : List Event) → EachFits (AppFits s) h → Along (app_line_fits s) (past_of h)
  lines_along [] fits = tt
  lines_along (ran x now ∷ before) fits = (refl, lines_along before fits.1)
  lines_along (did x now ∷ before) fits = (fits.0.fits, lines_along before fits.1)
  lines_along (called x ∷ before) fits = lines_along before fits.1
  lines_along (ended now ∷ before) fits = lines_along before fits.1

  no_replies : (h : List Event) → EachFits (AppFits s) h → filter_map reply_in (runs_of h) ≡ []
  no_replies [] fits = refl
  no_replies (ran x now ∷ before) fits = nothing_more reply_in (runs_of before) x fits.0.no_reply (no_replies before fits.1)
  no_replies (did x now ∷ before) fits = no_replies before fits.1
  no_replies (called x ∷ before) fits = no_replies before fits.1
  no_replies (ended now ∷ before) fits = no_replies before fits.1

  no_results : (h : List Event) → EachFits (AppFits s) h → filter_map results_in (runs_of h) ≡ []
  no_results [] fits = refl
  no_results (ran x now ∷ before) fits = nothing_more results_in (runs_of before) x fits.0.no_results (no_results before fits.1)
  no_results (did x now ∷ before) fits = no_results before fits.1
  no_results (called x ∷ before) fits = no_results before fits.1
  no_results (ended now ∷ before) fits = no_results before fits.1

  -- what the app knew of a device that it began to unregister
  abbrev Knew : List Letter → Did → Bool
  Knew all x = not (is_began x.answer) || list_all (λ ns. knows_open (note_at ns x.op)) (rows_in (take x.at all))

  knew_here : (all : List Letter) (before : List Event) (x : Did) (now : List (ℕ × Letter)) (later : List Letter) → all ≡ runs_of before ++ later → AppLineFits s before x now → Knew all x ≡ true
  knew_here all before x now later e h = at (is_began x.answer) (list_all (λ ns. knows_open (note_at ns x.op)) (rows_in (take x.at all))) (λ b. ap (λ xs. list_all (λ ns. knows_open (note_at ns x.op)) (rows_in xs)) taken ∙ h.knew b)
    where
      taken : take x.at all ≡ runs_of before
      taken = ap₂ (λ n xs. take n xs) h.stands.at e ∙ take-append_seam (runs_of before) later

      at : (a b : Bool) → (a ≡ true → b ≡ true) → (not a || b) ≡ true
      at true b f = f refl
      at false b f = refl

  all_knew : (all : List Letter) (h : List Event) (later : List Letter) → all ≡ runs_of h ++ later → EachFits (AppFits s) h → list_all (Knew all) (dids_of h) ≡ true
  all_knew all [] later e fits = refl
  all_knew all (ran x now ∷ before) later e fits = all_knew all before (x ∷ later) (e ∙ append_assoc (runs_of before) (x ∷ []) later) fits.1
  all_knew all (did x now ∷ before) later e fits =
      list_all-append (Knew all) (dids_of before) (x ∷ [])
      ∙ and_from (list_all (Knew all) (dids_of before)) (Knew all x && true) (all_knew all before later e fits.1) (and_from (Knew all x) true (knew_here all before x now later e fits.0) refl)
  all_knew all (called x ∷ before) later e fits = all_knew all before later e fits.1
  all_knew all (ended now ∷ before) later e fits = all_knew all before later e fits.1

  module _ (home : ℕ) (hops : List Hop) (h : List Event) (own joint : List Note) (is : AppDone s h own joint) where
    abbrev log : Log
    log = log_of 0 role.App home hops h own joint

    both : EachFits (BothFits s 0) h
    both = app_fits_both s h is.fits

    app_ended : AppEnded s log
    app_ended = record {
      count = is.count;
      fit = ap (λ xs. list_all (λ p. app_line_fits s p.0 p.1) (with_past [] xs)) (in_order s 0 role.App home hops h own joint both) ∙ all_along (app_line_fits s) (past_of h) (lines_along h is.fits);
      took_in = record { joined = is.row; knew = all_knew (runs_of h) h [] (sym (append-nil (runs_of h))) is.fits };
    }

    leaves_log : IsLeft s 0 log
    leaves_log = record {
      ended = ended_as s 0 role.App home hops h own joint both (le-ltb (length s.clients) 0 (omega arith)) is.ends (λ client. absurd (false≢true client)) is.keeps app_ended;
      role = record { role = refl; replies = λ e. no_replies h is.fits; seen = λ e. no_results h is.fits };
    }

pub apps_leave_logs : (s : Script) (home : ℕ) (hops : List Hop) (h : List Event) (own joint : List Note) → AppDone s h own joint → IsLeft s 0 (log_of 0 role.App home hops h own joint)
apps_leave_logs s home hops h own joint is = leaves_log s home hops h own joint is
