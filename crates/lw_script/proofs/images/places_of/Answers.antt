use Rattle.std.proofs.Common.{◌∙◌, sym, ap, Some, None, cond, bytes_eq, position, take}
use Rattle.std.specs.Option.{option_or}
use Rattle.lw_script.proofs.Places.{position-more}
use Rattle.lw_script.proofs.images.places_of.Goals as goal

pub loop-place-preserved : goal.loop-place-preserved
loop-place-preserved c = λ name.
    let i = c.loop-place.place in
    let x = c.index-list-place.result in
    c.in_ok-note.ensures name
    ∙ ap (λ o. option_or o (cond (bytes_eq name c.as_str.result.now) (Some i) None)) (c.loop-place.invariant name)
    ∙ ap (λ t. option_or (position (λ image. bytes_eq name image.name) (take i c.args.list.now)) (cond (bytes_eq name t) (Some i) None)) c.as_str.ensures
    ∙ sym (position-more (λ i. bytes_eq name i.name) c.args.list.now i x c.loop-place-test.true c.index-list-place.is)
