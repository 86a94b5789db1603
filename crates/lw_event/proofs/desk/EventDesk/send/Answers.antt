use Rattle.std.proofs.Common.{◌<◌, length, sym, subst}
use Rattle.std.proofs.lemmas.Result.{on_ok_weaker, IfErr-weaker}
use Rattle.lw_base.specs.Letters.{FitsRing}
use Rattle.lw_event.specs.Events.{event_fits}
use Rattle.lw_event.specs.Desks.{Desk}
use Rattle.lw_event.proofs.Sending.{post_fits, post_open, sent_kept, sent_still, sent_is, refused_is}
use Rattle.lw_event.proofs.desk.EventDesk.send.Goals as goal

pub post-requires-clause-fits : goal.post-requires-clause-fits
post-requires-clause-fits g c κs within_bounds =
    let within = subst (λ (d : Desk _ _ _ _). c.args.to < length d.ends) (sym c.self.view_is) c.requires.range in
    post_fits _ c.args.to c.index_mut.result.now c.args.event c.self.invariant.1 within c.index_mut.ensures.value (subst (λ (d : Desk _ _ _ _). FitsRing event_fits c.args.to d.recv.family c.args.event) (sym c.self.view_is) c.requires.fits)

pub post-requires-clause-open : goal.post-requires-clause-open
post-requires-clause-open g c κs within_bounds =
    let within = subst (λ (d : Desk _ _ _ _). c.args.to < length d.ends) (sym c.self.view_is) c.requires.range in
    post_open _ c.args.to c.index_mut.result.now c.self.invariant.1 within c.index_mut.ensures.value

pub invariant_of-self : goal.invariant_of-self
invariant_of-self g c =
    let within = subst (λ (d : Desk _ _ _ _). c.args.to < length d.ends) (sym c.self.view_is) c.requires.range in
    (c.self.invariant.0, sent_kept _ c.args.to c.index_mut.result.now c.post.new.end c.self.invariant.1 within c.index_mut.ensures.value c.post.ensures.same)

pub returns-clause-still : goal.returns-clause-still
returns-clause-still g c =
    let within = subst (λ (d : Desk _ _ _ _). c.args.to < length d.ends) (sym c.self.view_is) c.requires.range in
    sent_still _ _ c.args.to c.index_mut.result.now c.post.new.end c.self.view_is within c.index_mut.ensures.value c.post.ensures.same

pub returns-clause-sent : goal.returns-clause-sent
returns-clause-sent g c =
    let within = subst (λ (d : Desk _ _ _ _). c.args.to < length d.ends) (sym c.self.view_is) c.requires.range in
    on_ok_weaker c.post.result (sent_is _ _ c.args.to c.args.event c.index_mut.result.now c.post.new.end c.self.view_is c.self.invariant.1 within c.index_mut.ensures.value) c.post.ensures.sent

pub returns-clause-refused : goal.returns-clause-refused
returns-clause-refused g c =
    let within = subst (λ (d : Desk _ _ _ _). c.args.to < length d.ends) (sym c.self.view_is) c.requires.range in
    IfErr-weaker c.post.result _ _ (λ r h. refused_is _ _ c.args.to c.args.event c.index_mut.result.now c.post.new.end r c.self.view_is within c.index_mut.ensures.value h) c.post.ensures.refused
