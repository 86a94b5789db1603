use Rattle.std.proofs.Common.{◌∙◌, ◌≡◌, ap, ◌+◌, ◌-◌, slice_index, slice_set, get_or, ◌<◌, length}
use Rattle.std.proofs.lemmas.List.{get_or_default}
use Rattle.lw_world.proofs.Registers.{few_now, registered_set}
use Rattle.lw_world.proofs.register.Register.set.Goals as goal

pub more-requires-clause-few : goal.more-requires-clause-few
more-requires-clause-few g c =
    let states = c.self.inside.states.items in
    let counts = c.self.inside.counts.items in
    let below : c.args.place < length states = rw (← c.self.view_is) at c.requires.place in
    let was : c.key-before.result ≡ g.S.Keyed.key (get_or states c.args.place c.args.state) = c.key-before.ensures ∙ ap g.S.Keyed.key (c.index.ensures ∙ get_or_default states c.args.place c.index.result.now c.args.state below) in
    rw c.fewer.ensures (rw c.key-after.ensures
    (few_now g.S.Keyed.key states counts c.self.invariant c.args.place c.key-before.result c.args.state below was (rw (← c.self.view_is) at c.requires.key)))

pub invariant_of-self : goal.invariant_of-self
invariant_of-self g c =
    let states = c.self.inside.states.items in
    let counts = c.self.inside.counts.items in
    let below : c.args.place < length states = rw (← c.self.view_is) at c.requires.place in
    let was : c.key-before.result ≡ g.S.Keyed.key (get_or states c.args.place c.args.state) = c.key-before.ensures ∙ ap g.S.Keyed.key (c.index.ensures ∙ get_or_default states c.args.place c.index.result.now c.args.state below) in
    registered_set g.S.Keyed.key states counts c.self.invariant c.args.place c.key-before.result c.args.state below was (rw (← c.self.view_is) at c.requires.key)
    c.more.new.counts.items
    (c.more.ensures
    ∙ ap (λ xs. slice_set xs c.key-after.result (slice_index xs c.key-after.result + 1)) c.fewer.ensures
    ∙ ap (λ k. slice_set (slice_set counts c.key-before.result (slice_index counts c.key-before.result - 1)) k (slice_index (slice_set counts c.key-before.result (slice_index counts c.key-before.result - 1)) k + 1)) c.key-after.ensures)
