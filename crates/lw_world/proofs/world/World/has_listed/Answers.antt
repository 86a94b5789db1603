use Rattle.std.proofs.Common.{ap, sym, ◌∙◌, ◌+◌, nat_lt}
use Rattle.lw_world.specs.Keys.{list_key}
use Rattle.lw_world.specs.World.{is_list_of}
use Rattle.lw_world.proofs.Worlds.{any_keyed, list_test}
use Rattle.lw_world.proofs.world.World.has_listed.Goals as goal

pub returns : goal.returns
returns c =
    rw (← c.self.view_is) (
    ap (nat_lt 0) c.count.ensures
    ∙ sym (any_keyed list_key (c.args.reactor + 1) (is_list_of c.args.reactor) (list_test c.args.reactor) c.self.inside.standing.states))
