use Rattle.std.proofs.Common.{rules, ◌≡◌, List, [], ◌∷◌, All, refl, ap, sym, ◌∙◌}
use Rattle.std.proofs.lemmas.List.Elements.{All-nil, All-cons, All-head, All-tail, All-rest, All-same}
use Rattle.std.specs.Vec.Iter.{into_iter_items}
use Rattle.std.proofs.lemmas.List.{nil_from_length}
use Rattle.lw_latch.specs.DeviceEnds.{FiresOnlyWhatItBegan}
use Rattle.lw_device.specs.Rows.{Row, latches, gathered_into}
use Rattle.lw_device.proofs.Joining.{latches_both}
use Rattle.lw_device.proofs.settling.join_rows.Goals as goal

pub loop-row-init : goal.loop-row-init
loop-row-init c =
    let whole = c.in-Some.whole in
    let rest = into_iter_items c.into_iter-row-iterator.result in
    let all : whole ∷ rest ≡ c.args.rows.items = search rules in
    let P = λ (r : Row). latches r ≡ c.requires.registry in
    let of = All-same P (whole ∷ rest) c.args.rows.items all c.requires.of_registry in (
      refl,
      (λ k d l. All-tail P whole rest of k d l ∙ sym (All-head P whole rest of)),
      (λ a. a),
    )

pub loop-row-preserved : goal.loop-row-preserved
loop-row-preserved c =
    let i = c.loop-row.invariant in
    let whole = c.loop-row.whole in
    let row = c.in-Some-row.row in
    let rest = into_iter_items c.next-in-loop-row.new.self in
    let steps = c.in-Some-row.ensures.steps.0 in
    let Fires = λ (r : Row). All FiresOnlyWhatItBegan r.seats in
    let fires = c.gather.ensures.only_who_began in
    let same = ap latches c.gather.ensures.both ∙ latches_both whole.seats row.seats in (
      ap (λ (r : Row). gathered_into r rest) c.gather.ensures.both ∙ ap (λ (l : List Row). gathered_into whole l) (sym steps) ∙ i.0,
      (λ k d l. All-rest (λ (r : Row). latches r ≡ latches whole) row rest (into_iter_items c.loop-row.row-iterator) steps i.1 k d l ∙ sym same),
      (λ a. i.2 (All-same Fires (whole ∷ into_iter_items c.loop-row.row-iterator) (whole ∷ row ∷ rest) (ap (λ (l : List Row). whole ∷ l) steps) (All-cons Fires whole (row ∷ rest) fires.0 (All-cons Fires row rest fires.1 (All-tail Fires c.gather.new.self rest a))))),
    )

pub returns-clause-only_who_began : goal.returns-clause-only_who_began
returns-clause-only_who_began c = λ fires.
    let Fires = λ (r : Row). All FiresOnlyWhatItBegan r.seats in
    let whole = c.loop-row.whole in
    let none : into_iter_items c.loop-row.row-iterator ≡ [] = nil_from_length (into_iter_items c.loop-row.row-iterator) (search rules) in
    let all : c.args.rows.items ≡ c.in-Some.whole ∷ into_iter_items c.into_iter-row-iterator.result = search rules in
    All-same Fires _ _ all (c.loop-row.invariant.2 (All-same Fires (whole ∷ into_iter_items c.loop-row.row-iterator) (whole ∷ []) (ap (λ (l : List Row). whole ∷ l) none) (All-cons Fires whole [] fires (All-nil Fires))))
