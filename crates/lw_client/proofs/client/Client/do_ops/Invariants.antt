use Rattle.lw_client.specs.Doing.{State}
use Rattle.lw_client.specs.Going.{Lists}
use Rattle.lw_client.specs.Turning.{DoesSome}
use Rattle.lw_client.proofs.client.Client.do_ops.Given as goal

abbrev pub invariant-loop-done : goal.invariant-loop-done
invariant-loop-done g l =
    let before : State = record { body = l.fn.self; acts = l.fn.acts } in
    let after : State = record { body = l.self; acts = l.acts } in
    record { does : DoesSome l.fn.now l._done before after; lists : Lists before after }
