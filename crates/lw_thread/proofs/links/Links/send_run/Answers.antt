use Rattle.std.proofs.Common.{◌<◌, length, map, reverse, sym, ap, subst, arith}
use Rattle.lw_ring.specs.Ends.{Sender}
use Rattle.lw_ring.specs.Calls.{AfterRefusal}
use Rattle.lw_thread.specs.Links.{Tied}
use Rattle.lw_thread.proofs.Tying.{found_tied}
use Rattle.lw_thread.proofs.links.Links.send_run.Goals as goal

pub invariant_of-self : goal.invariant_of-self
invariant_of-self g c =
    let e = c.index_mut-end.result.now in
    let s : Tied g.row.M-Letter.Denot g.row.M-Family.Denot = record { thread = c.self.inside.thread; recv = c.self.inside.recv; ends = c.self.inside.ends.items; ran = c.self.inside.ran.items; left = map g.M.Tagged.letter (reverse c.self.inside.batch.items) } in
    let r = subst (λ f. AfterRefusal f c.args.run (length c.args.run.items) e c.send_run.new.self) c.in-Err-Exited.field-0-is c.in-Err-Exited.ensures.refused in
    let more = ap (λ (x : Sender _ _). x.found) r.found in
    let within = subst (λ (t : Tied _ _). c.args.to < length t.ends) (sym c.self.view_is) c.requires.to in
    found_tied g.M.Tagged.letter g.M.Tagged.tag_of g.M.Tagged.fits s c.self.inside.ran c.self.inside.batch c.self.inside.gone.items c.args.to e c.send_run.new.self c.self.invariant within c.index_mut-end.ensures.value c.in-Err-Exited.ensures.same (omega arith)
