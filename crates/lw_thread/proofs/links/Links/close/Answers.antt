use Rattle.std.proofs.Common.{map, reverse, refl}
use Rattle.lw_thread.specs.Links.{Tied}
use Rattle.lw_thread.proofs.Tying.{tried_tied}
use Rattle.lw_thread.proofs.links.Links.close.Goals as goal

pub invariant_of-links : goal.invariant_of-links
invariant_of-links g c =
    let s : Tied g.row.M-Letter.Denot g.row.M-Family.Denot = record { thread = c.self.inside.thread; recv = c.self.inside.recv; ends = c.self.inside.ends.items; ran = c.self.inside.ran.items; left = map g.M.Tagged.letter (reverse c.self.inside.batch.items) } in
    tried_tied g.M.Tagged.letter g.M.Tagged.tag_of g.M.Tagged.fits s c.self.inside.ran c.self.inside.batch c.self.inside.gone.items c.close.new.self _ _ c.self.invariant (c.in-NotYet.ensures.not_yet c.in-NotYet.seen refl)
