use Rattle.std.proofs.Common.{◌<◌, get_or, subst}
use Rattle.std.proofs.lemmas.Result.{IfOk-weaker}
use Rattle.lw_event.proofs.Begun.{parts, desks_are}
use Rattle.lw_event.proofs.Both.{if_ok_both}
use Rattle.lw_event.proofs.making.event_rings.Goals as goal

pub desks-requires-clause-parts : goal.desks-requires-clause-parts
desks-requires-clause-parts g c = λ κs bounds k r e low.
    let h = c.in_ok-recvs.ensures in
    let asked = c.requires.1.1.1.1.1.1 in
    let within = subst (λ n. k < n) h.count.0 low in
    parts g.run c.args.reactors k c.in_ok-recvs.recvs.items (get_or c.in_ok-recvs.recvs.items k r) (get_or c.in_ok-recvs.rows.items k e).items
    h.count.0 asked.0.0 asked.0.1 asked.1 (h.recvs k r low) (h.rows k e within)

pub returns : goal.returns
returns g c =
    let h = c.in_ok-recvs.ensures in
    let d = c.desks.ensures in
    IfOk-weaker c.desks.result _ _ (λ v s. desks_are g.run (λ v. v.items) c.args.reactors c.in_ok-recvs.recvs.items c.in_ok-recvs.rows.items v.items h.count.0 h.count.1 h.recvs h.rows s.0 s.1) (if_ok_both c.desks.result _ _ d.count d.each)
