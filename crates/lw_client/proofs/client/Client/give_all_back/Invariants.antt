use Rattle.std.proofs.Common.{◌≡◌}
use Rattle.lw_client.specs.declared.client.Stage.TheVariants.{Closed}
use Rattle.lw_client.specs.Doing.{State}
use Rattle.lw_client.specs.Going.{Goes}
use Rattle.lw_client.specs.Turning.{GivesBelow}
use Rattle.lw_client.proofs.client.Client.give_all_back.Given as goal

abbrev pub invariant-loop-image : goal.invariant-loop-image
invariant-loop-image l =
    let before : State = record { body = l.fn.self; acts = l.fn.acts } in
    let after : State = record { body = l.self; acts = l.acts } in
    record { gives : GivesBelow l.image before after; goes : Goes before after; stage : l.self.stage ≡ Closed }
