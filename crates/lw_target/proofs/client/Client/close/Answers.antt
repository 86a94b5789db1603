use Rattle.std.proofs.Common.{◌≡◌, true, subst, sym}
use Rattle.std.specs.List.{list_all}
use Rattle.lw_target.specs.Ops.{is_servable}
use Rattle.lw_target.specs.Effects.{AllHold}
use Rattle.lw_target.proofs.Holdings.{gave_back_holds}
use Rattle.lw_target.proofs.client.Client.close.Goals as goal

pub invariant_of-self-2-clause-held : goal.invariant_of-self-2-clause-held
invariant_of-self-2-clause-held c = subst (AllHold c.args.self.now.next) (sym c.give_back_all.ensures.items) (gave_back_holds c.args.self.now.next c.args.self.now.channels.items c.args.self.now.held)

pub invariant_of-self-2-clause-serves : goal.invariant_of-self-2-clause-serves
invariant_of-self-2-clause-serves c =
    subst (λ n. list_all (is_servable n) c.args.self.now.of.ops ≡ true) (sym c.give_back_all.ensures.len) c.args.self.now.serves
