use Rattle.lw_client.specs.Doing.{State}
use Rattle.lw_client.specs.Going.{Lists}
use Rattle.lw_client.specs.Turning.{TriesBelow}
use Rattle.lw_client.proofs.client.Client.call_backs.Given as goal

abbrev pub invariant-loop-image : goal.invariant-loop-image
invariant-loop-image l =
    let before : State = record { body = l.fn.self; acts = l.fn.acts } in
    let after : State = record { body = l.self; acts = l.acts } in
    record { tries : TriesBelow l.image before after; lists : Lists before after }
