use Rattle.std.proofs.Common.{◌-◌, ap, ◌∙◌}
use Rattle.lw_thread.specs.Threads.{booked}
use Rattle.lw_reactor.proofs.polls.poll_thread.Goals as goal

pub returns-in-Ok-clause-polled : goal.returns-in-Ok-clause-polled
returns-in-Ok-clause-polled g c =
    let e = c.in-Ok.ensures in
    let u = c.poll.new.self in
    record {
      mid = u;
      polled_so = e.polled;
      stays = record { seat = e.rest.0; load = e.rest.1; trail = e.rest.2; still = e.still };
      going = e.going;
      reads = c.read.ensures.read;
      booked_so = c.book.ensures.booked ∙ ap (λ n. record u { load = booked c.in-Ok.polled.worked (n - c.args.now.now) u.load }) c.read.ensures.now;
    }
