use Rattle.std.proofs.Common.{reverse, rules}
use Rattle.lw_event.proofs.Left.{rest_of}
use Rattle.lw_event.proofs.settling.settle_one.Goals as goal

pub returns : goal.returns
returns g c =
    let s = c.in_ok-settled.ensures in
    rest_of c.args.inbox.recv (reverse c.args.inbox.batch.items) c.in_ok-settled.settled.left.items _ c.args.ends.items c.requires.paired s.each s.fits (search rules)
