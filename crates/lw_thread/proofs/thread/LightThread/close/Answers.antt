use Rattle.std.proofs.Common.{refl, sym, ap, subst, ◌∙◌}
use Rattle.lw_place.specs.declared.place.Place.TheVariants as place
use Rattle.lw_thread.specs.Links.{Tied}
use Rattle.lw_thread.specs.Threads.{Thread, IsKept}
use Rattle.lw_thread.proofs.Kept.{tried_kept}
use Rattle.lw_thread.proofs.Rests.{at_rest}
use Rattle.lw_thread.proofs.thread.LightThread.close.Goals as goal

pub invariant_of-result : goal.invariant_of-result
invariant_of-result g c =
    let p = c.self.view_is in
    let u = c.in-Closed.ensures in
    let kept = subst (λ (t : Thread _ _ _ _). IsKept g.B.Message.Tagged.letter g.B.Message.Tagged.tag_of g.B.Body.lawful t) p c.self.invariant.1 in
    at_rest g.B.Message.Tagged.letter g.B.Message.Tagged.tag_of g.B.Body.lawful g.B.Body.ends c.args.self _ kept c.requires.going
    (record {
      may = c.requires.may;
      body = ap (λ (t : Thread _ _ _ _). t.body) p;
      recv = u.recv ∙ ap (λ (t : Thread _ _ _ _). record t.recv { closed = 1 }) p;
      same_ends = u.ends ∙ ap (λ (t : Thread _ _ _ _). t.ends) p;
      seat = c.end.ensures ∙ ap (λ (t : Thread _ _ _ _). record t.seat { place = place.Ended }) p;
      load = ap (λ (t : Thread _ _ _ _). t.load) p;
      ran = u.ran ∙ ap (λ (t : Thread _ _ _ _). t.ran) p;
      trail = ap (λ (t : Thread _ _ _ _). t.trail) p;
    })

pub invariant_of-same : goal.invariant_of-same
invariant_of-same g c =
    let tried = c.in-NotYet.ensures.tried in
    let t : Tied _ _ → Thread g.row.B-Message-Letter.Denot g.row.B-Message-Family.Denot g.row.B-Message.Denot g.row.B.Denot =
    λ l. record { body = c.self.inside.body; acts = c.self.inside.acts; recv = l.recv; ends = l.ends; seat = c.self.inside.seat; load = c.self.inside.load; ran = l.ran; left = l.left; trail = c.self.inside.trail.items; stopped = c.self.inside.stopped } in (
      ap (λ (l : Tied _ _). l.thread) tried ∙ c.self.invariant.0,
      subst (λ (l : Tied _ _). IsKept g.B.Message.Tagged.letter g.B.Message.Tagged.tag_of g.B.Body.lawful (t l)) (sym tried)
          (tried_kept g.B.Message.Tagged.letter g.B.Message.Tagged.tag_of g.B.Body.lawful (t c.self.inside.links) _ _ _ c.self.invariant.1 refl),
    )
