use Rattle.std.proofs.Common.{rules, ◌≡◌, ◌∙◌, sym, ap, length, unwrap_or}
use Rattle.lw_script.proofs.Places.{place_of-map}
use Rattle.lw_script.proofs.images.Images.place_of.Goals as goal

pub returns-in-Some : goal.returns-in-Some
returns-in-Some c =
    let list = c.args.self.now.list.items in
    let name = c.args.name.now in
    sym (place_of-map (λ i. i.name) list name ∙ ap (λ o. unwrap_or o (length list)) (sym (c.args.self.now.found name) ∙ sym c.in-Some.ensures.value))

pub returns-in-None : goal.returns-in-None
returns-in-None c =
    let list = c.args.self.now.list.items in
    let name = c.args.name.now in
    let count : c.len.result ≡ length list = search rules in
    count ∙ sym (place_of-map (λ i. i.name) list name ∙ ap (λ o. unwrap_or o (length list)) (sym (c.args.self.now.found name) ∙ sym c.in-None.ensures.value))
