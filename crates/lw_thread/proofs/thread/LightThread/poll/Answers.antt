use Rattle.std.proofs.Common.{◌≡◌, [], ap, ◌∙◌}
use Rattle.lw_thread.specs.Threads.{Thread}
use Rattle.lw_thread.specs.Posting.{IsGoing}
use Rattle.lw_thread.proofs.Results.{polled_kept, took_parts, polls_came, polls_stopped, polls_whole}
use Rattle.lw_thread.proofs.thread.LightThread.poll.Goals as goal

pub invariant_of-self : goal.invariant_of-self
invariant_of-self g c =
    let p = c.poll_parts-outcome in
    let e = p.ensures in
    let s = c.self.inside in
    let goes = ap (λ (t : Thread _ _ _ _). t.stopped) c.self.view_is ∙ c.requires in
    let took = took_parts g.B.Message.Tagged.letter g.B.Message.Tagged.tag_of g.B.Message.Tagged.fits g.B.Message.Tagged.marked g.B.Body.runs g.B.Body.ticks g.B.Body.takes_back p.result c.args.now s.links p.new.links s.acts p.new.acts s.body p.new.body
    (IsGoing g.B.Message.Tagged.letter g.B.Message.Tagged.fits g.B.Body.lawful p.new.links p.new.acts p.new.body × (p.new.acts.pending ≡ []) × (p.new.acts.started ≡ []) × (p.new.links.left ≡ [])) e.going (λ h. h.3) e.polled e.stop in
    polled_kept g.B.Message.Tagged.letter g.B.Message.Tagged.tag_of g.B.Message.Tagged.fits g.B.Body.lawful p.result s.links p.new.links s.acts p.new.acts s.body p.new.body s.seat s.load s.trail.items s.stopped c.is_err-self-inside.result c.is_err-self-inside.ensures.value goes c.self.invariant.0 c.self.invariant.1 e.going e.kept took e.still

pub returns-clause-polled : goal.returns-clause-polled
returns-clause-polled g c =
    let p = c.poll_parts-outcome in
    let s = c.self.inside in
    polls_whole g.B.Message.Tagged.letter g.B.Message.Tagged.tag_of g.B.Message.Tagged.fits g.B.Message.Tagged.marked g.B.Body.runs g.B.Body.ticks g.B.Body.takes_back p.result c.args.now s.links p.new.links s.acts p.new.acts s.body p.new.body s.seat s.load s.trail.items s.stopped c.is_err-self-inside.result c.args.self.now c.self.invariant.0 c.self.view_is p.ensures.polled

pub returns-clause-stopped : goal.returns-clause-stopped
returns-clause-stopped g c =
    let p = c.poll_parts-outcome in
    let s = c.self.inside in
    polls_stopped g.B.Message.Tagged.letter g.B.Message.Tagged.tag_of g.B.Message.Tagged.fits g.B.Message.Tagged.marked g.B.Body.runs g.B.Body.ticks g.B.Body.takes_back p.result c.args.now s.links p.new.links s.acts p.new.acts s.body p.new.body s.seat s.load s.trail.items s.stopped c.is_err-self-inside.result c.args.self.now c.is_err-self-inside.ensures.value c.self.view_is p.ensures.stop

pub returns-clause-came : goal.returns-clause-came
returns-clause-came g c =
    let p = c.poll_parts-outcome in
    let s = c.self.inside in
    polls_came g.B.Message.Tagged.letter g.B.Message.Tagged.tag_of g.B.Message.Tagged.fits g.B.Message.Tagged.marked g.B.Body.runs g.B.Body.ticks g.B.Body.takes_back p.result c.args.now s.links p.new.links s.acts p.new.acts s.body p.new.body s.seat s.load s.trail.items s.stopped c.is_err-self-inside.result c.args.self.now c.self.invariant.0 c.self.view_is p.ensures.came
