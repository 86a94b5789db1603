-- What a history's row keeps is what the row of its log keeps.
use Rattle.std.proofs.Common.{◌≡◌, ℕ, ◌+◌, ◌<◌, ◌==◌, List, reverse, length, filter_map, count_by, unwrap_or, sym, ap, subst, ◌∙◌, arith}
use Rattle.std.specs.List.{list_any}
use Rattle.std.proofs.lemmas.Option.{slice_get_within}
use Rattle.lw_model.specs.declared.script.Script.{Script}
use Rattle.lw_model.specs.Threads.{is_on}
use Rattle.lw_model.specs.Holding.{says, ordinal_given}
use Rattle.lw_model.specs.Devices.{is_refusal}
use Rattle.lw_whole.specs.Letters.{Note}
use Rattle.lw_whole.specs.Logs.{Log, steps}
use Rattle.lw_whole.specs.Notes.{idle, note_at, count_begun, NoteFits, RowFits}
use Rattle.lw_whole.proofs.Steps.{placed}
use Rattle.lw_history.specs.Histories.{Event, past_of, calls_of}
use Rattle.lw_history.specs.Keeping.{KeepsNote, KeepsRow}
use Rattle.lw_history.proofs.Standing.{any_reverse}

module _ (s : Script) (t : ℕ) (h : List Event) (l : Log) (in_order : steps l ≡ reverse (past_of h)) (calls : l.lines.called ≡ calls_of h) where
  note_fits : (d : ℕ) (n : Note) → KeepsNote s t d h n → NoteFits s t d l n
  note_fits d n k = record {
    ordinals = k.ordinals ∙ ap (filter_map (ordinal_given (is_on s t d))) (sym in_order);
    found = λ e. k.found (sym (ap (list_any (says (is_on s t d) is_refusal)) in_order ∙ any_reverse (says (is_on s t d) is_refusal) (past_of h)) ∙ e);
    begun = ap (filter_map (count_begun (is_on s t d))) in_order ∙ k.begun;
    began_by = k.began_by;
    fired = ap (count_by (λ x. x.device == d)) calls ∙ k.fired;
  }

  pub row_fits : KeepsRow s t h l.own → RowFits s t l
  row_fits k = record {
    devices = k.devices;
    notes = placed (λ d n. NoteFits s t d l n) 0 l.own (λ d n e.
        let at : note_at l.own d ≡ n = ap (λ o. unwrap_or o idle) e in
        let within : d < length s.images = omega (arith, slice_get_within l.own d n e, k.devices) in
        let zero_on : 0 + d ≡ d = omega arith in
        subst (λ j. NoteFits s t j l n) (sym zero_on) (note_fits d n (subst (KeepsNote s t d h) at (k.notes d within))));
  }
