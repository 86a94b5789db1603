use Rattle.std.proofs.Common.{ap, sym, ◌∙◌, ◌+◌, nat_lt}
use Rattle.lw_world.specs.Keys.{shut_key}
use Rattle.lw_world.specs.World.{is_shut_by}
use Rattle.lw_world.proofs.Worlds.{any_keyed, shut_test}
use Rattle.lw_world.proofs.world.World.owes_callback.Goals as goal

pub returns : goal.returns
returns c =
    rw (← c.self.view_is) (
    ap (nat_lt 0) c.count.ensures
    ∙ sym (any_keyed shut_key (c.args.thread + 1) (is_shut_by c.args.thread) (shut_test c.args.thread) c.self.inside.stage.states))
