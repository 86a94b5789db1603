use Rattle.std.proofs.Common.{List, length, map, ap, sym, subst, ◌∙◌, arith, All}
use Rattle.std.proofs.lemmas.List.{length-map}
use Rattle.std.proofs.lemmas.List.Elements.{All-map}
use Rattle.std.proofs.lemmas.Result.{IfOk-weaker}
use Rattle.lw_place.specs.declared.place.Place.{Place}
use Rattle.lw_place.specs.PlaceWord.{start_place, IsBelow}
use Rattle.lw_place.specs.PlaceSeats.{AreNew}
use Rattle.lw_place.proofs.making.places.Goals as goal

pub places_from-requires-clause-threads : goal.places_from-requires-clause-threads
places_from-requires-clause-threads c =
    let long = ap length c.in_ok-of.ensures ∙ length-map c.args.starts.now start_place in
    let few = c.requires.threads in
    let few0 = few.0 in
    let few1 = few.1 in
    (omega arith, omega arith)

pub places_from-requires-clause-homes : goal.places_from-requires-clause-homes
places_from-requires-clause-homes c = subst (λ (ps : List Place). All (IsBelow c.args.reactors) ps) (sym c.in_ok-of.ensures) (All-map (IsBelow c.args.reactors) start_place c.args.starts.now c.requires.starts)

pub returns : goal.returns
returns c =
    IfOk-weaker c.places_from.result
    (λ r. AreNew c.in_ok-of.of.items c.args.reactors r.0.items r.1.items)
    (λ r. AreNew (map start_place c.args.starts.now) c.args.reactors r.0.items r.1.items)
    (λ r new. subst (λ (ps : List Place). AreNew ps c.args.reactors r.0.items r.1.items) c.in_ok-of.ensures new)
    c.places_from.ensures
