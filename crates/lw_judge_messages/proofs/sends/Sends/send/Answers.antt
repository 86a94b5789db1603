use Rattle.std.proofs.Common.{◌≡◌, ◌≤◌, [], ◌∷◌, length, slice_get, Some, refl, arith}
use Rattle.std.proofs.lemmas.List.{length-set}
use Rattle.std.proofs.lemmas.Option.{gets, slice_get_within}
use Rattle.std.proofs.lemmas.Result.{on_ok_weaker}
use Rattle.std.proofs.lemmas.Grind.{common_steps}
use Rattle.lw_judge_messages.proofs.Added.{items_at-get, items_at-set, adds_one, adds_nowhere}
use Rattle.lw_judge_messages.proofs.sends.Sends.send.Goals as goal

pub returns-in-Some : goal.returns-in-Some
returns-in-Some c = λ n sized. on_ok_weaker c.push_to.result
    (λ put.
    let vs = c.args.self.now.lists.items in
    let from = c.args.from in
    let found : slice_get vs from ≡ Some c.in-Some.lists.now = grind (arith, common_steps, gets) in
    adds_one n from c.args.to c.args.what c.args.self.now _ c.in-Some.lists.now.items c.push_to.new.lists.items sized
    (length-set vs from c.push_to.new.lists)
    (λ s. items_at-set vs from c.push_to.new.lists s (slice_get_within vs from c.in-Some.lists.now found))
    (items_at-get vs from c.in-Some.lists.now found) put.0 put.1 refl)
    c.push_to.ensures

pub returns-in-None : goal.returns-in-None
returns-in-None c = λ n sized.
    let past : length c.args.self.now.lists.items ≤ c.args.from = grind (arith, common_steps, gets) in
    adds_nowhere n c.args.from ((c.args.to, c.args.what) ∷ []) c.args.self.now (omega (arith, past, sized.count)) sized
