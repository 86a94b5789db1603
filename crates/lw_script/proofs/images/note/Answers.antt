use Rattle.std.proofs.Common.{◌∙◌, sym, ap, Some, cond, bytes_eq, string_bytes}
use Rattle.std.specs.HashMap.{get_by_text}
use Rattle.std.proofs.lemmas.Map.Text.{hash_map_updates_text}
use Rattle.lw_script.proofs.Noted.{noted}
use Rattle.lw_script.proofs.images.note.Goals as goal

pub returns : goal.returns
returns c = λ q.
    let old = c.args.places.now in
    let name = c.args.name.now in
    let written = c.in_ok-from_str.field-0 in
    hash_map_updates_text (string_bytes written) old c.insert.new.self (Some c.args.place) c.in_ok-insert.ensures.updates q
    ∙ ap (λ t. cond (bytes_eq t q) (Some c.args.place) (get_by_text old q)) c.in_ok-from_str.ensures.ok
    ∙ noted (get_by_text old) name q c.args.place (sym c.contains_key.ensures ∙ c.if-contains_key.false)
