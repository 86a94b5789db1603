-- A history whose thread has ended leaves what each thread that ended leaves, whatever its role.
use Rattle.std.proofs.Common.{◌≡◌, ℕ, true, false, List, [], ◌∷◌, ◌++◌, map, reverse, refl, sym, ap, subst, ◌∙◌, arith}
use Rattle.std.specs.List.{list_all, AllByRecursion}
use Rattle.std.proofs.lemmas.List.{append-nil}
use Rattle.lw_base.specs.declared.moves.Hop.{Hop}
use Rattle.lw_model.specs.declared.script.Script.{Script}
use Rattle.lw_model.specs.declared.record.RoleKind.{RoleKind}
use Rattle.lw_model.specs.Threads.{is_client, is_owner, images}
use Rattle.lw_model.specs.OwnOrder.{with_past}
use Rattle.lw_model.specs.Sent.{sent_last}
use Rattle.lw_whole.specs.Letters.{row, Note}
use Rattle.lw_whole.specs.Logs.{Log, addressed, steps}
use Rattle.lw_whole.specs.Lines.{stays_shut}
use Rattle.lw_whole.specs.Sends.{SentAlong}
use Rattle.lw_whole.specs.Threads.{Ended, EndedAs}
use Rattle.lw_history.specs.Histories.{Event, ran, did, called, ended, runs_of, past_of, sends_of, last_of, numbered_each, flat, log_of}
use Rattle.lw_history.specs.Fitting.{EachFits, ends_in}
use Rattle.lw_history.specs.Keeping.{KeepsRow}
use Rattle.lw_history.proofs.Numbering.{addressed_numbered, loads_numbered}
use Rattle.lw_history.proofs.InOrder.{BothFits, steps_in_order}
use Rattle.lw_history.proofs.Ascending.{lines_ascend, calls_ascend}
use Rattle.lw_history.proofs.Sending.{sent_along}
use Rattle.lw_history.proofs.Standing.{stood_count, calls_stood, stay_shut}
use Rattle.lw_history.proofs.Noting.{row_fits}

module _ (s : Script) (t : ℕ) where
  -- where nothing was sent last, and where that was once
  none_last : (h : List Event) → ends_in h ≡ 0 → last_of h ≡ []
  none_last [] e = refl
  none_last (ran x now ∷ before) e = none_last before e
  none_last (did x now ∷ before) e = none_last before e
  none_last (called x ∷ before) e = none_last before e
  none_last (ended now ∷ before) e = absurd (omega (arith, e))

  pub last_is : (h : List Event) → EachFits (BothFits s t) h → ends_in h ≡ 1 → addressed (last_of h) ≡ sent_last s t
  last_is [] fits e = absurd (omega (arith, e))
  last_is (ran x now ∷ before) fits e = last_is before fits.1 e
  last_is (did x now ∷ before) fits e = last_is before fits.1 e
  last_is (called x ∷ before) fits e = last_is before fits.1 e
  last_is (ended now ∷ before) fits e = ap (λ l. addressed (l ++ now)) (none_last before (omega (arith, e))) ∙ fits.0

  module _ (role : RoleKind) (home : ℕ) (hops : List Hop) (h : List Event) (own joint : List Note) (fits : EachFits (BothFits s t) h) where
    abbrev pub log : Log
    log = log_of t role home hops h own joint

    pub in_order : steps log ≡ reverse (past_of h)
    in_order = steps_in_order s t h fits

    pub ended_as : is_owner s t ≡ false → ends_in h ≡ 1 → (is_client s t ≡ true → map (λ p. p.1.load) (last_of h) ≡ row own ∷ []) → KeepsRow s t h own → EndedAs s t log → Ended s t log
    ended_as not_owner ends with_row keeps role_is = record {
      tags = refl;
      sends = record {
        at_steps = subst (λ xs. SentAlong s t log (with_past [] xs) (numbered_each t [] (sends_of h))) (sym in_order) (sent_along s t log not_owner h [] (sym (append-nil (runs_of h))) fits);
        at_end = addressed_numbered t (flat (sends_of h)) (last_of h) ∙ last_is h fits ends;
        with_row = λ client. loads_numbered t (flat (sends_of h)) (last_of h) ∙ with_row client;
      };
      did_ats = lines_ascend s t h fits;
      called_ats = calls_ascend s t h fits;
      stood = stood_count h;
      callbacks = calls_stood s t log h [] (in_order ∙ sym (append-nil (reverse (past_of h)))) tt fits;
      stays_shut = subst (λ xs. AllByRecursion (λ d. list_all (λ p. stays_shut s t d p.0 p.1) (with_past [] xs) ≡ true) (images s)) (sym in_order) (stay_shut s t h fits);
      own_row = row_fits s t h log in_order refl keeps;
      role = role_is;
    }
