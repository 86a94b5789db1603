use Rattle.std.proofs.Common.{reverse, sym, subst, rules}
use Rattle.lw_event.specs.Desks.{IsKept}
use Rattle.lw_event.proofs.Begun.{new_kept}
use Rattle.lw_event.proofs.making.desk.Goals as goal

pub invariant_of-result : goal.invariant_of-result
invariant_of-result g c = (
  search rules,
  subst (λ xs. IsKept (record { number = c.args.number; recv = c.args.recv; ends = c.args.ends.items; batch = reverse xs })) (sym c.in_ok-with_capacity.ensures.items) (new_kept c.args.number c.args.recv c.args.ends.items c.requires.parts),
)
