use Rattle.std.proofs.Common.{true, length, slice_set, ap, arith, length-set}
use Rattle.lw_app.specs.Flags.{how_many}
use Rattle.lw_app.proofs.Counting.{one_more, no_more}
use Rattle.lw_app.proofs.flags.Flags.set.Goals as goal

pub overflow_add-self : goal.overflow_add-self
overflow_add-self c =
    let fs = c.args.self.now in
    omega (arith, c.self.invariant.0, c.self.invariant.1, ap how_many c.self.view_is, ap length c.self.view_is, one_more fs c.args.number c.requires.there c.requires.unset, no_more (slice_set fs c.args.number true), length-set fs c.args.number true)
