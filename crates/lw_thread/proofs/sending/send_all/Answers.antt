use Rattle.std.proofs.Common.{◌<◌, true, [], ◌∷◌, ◌++◌, length, refl, sym, ap, subst, ◌∙◌, None}
use Rattle.std.proofs.lemmas.List.{append-nil, length-map}
use Rattle.lw_ring.specs.Ends.{Sender}
use Rattle.lw_thread.specs.Links.{Tied}
use Rattle.lw_thread.specs.Polls.{Sends}
use Rattle.lw_thread.specs.declared.stop.Stop.TheVariants as stop
use Rattle.lw_thread.specs.Posting.{PostsUntil, flow_tied}
use Rattle.lw_thread.proofs.Sent.{goes_there, step_back, step_sent, still_both}
use Rattle.lw_thread.proofs.Going.{going_sent}
use Rattle.lw_thread.proofs.Waits.{for_reason, posts_until, cut_back, ends_there}
use Rattle.lw_thread.proofs.sending.send_all.Goals as goal

pub returns-in_default-clause-posts : goal.returns-in_default-clause-posts
returns-in_default-clause-posts g c =
    let i = c.loop.invariant in
    let last = flow_tied c.loop.links c.loop.acts c.loop.body in
    record {
      returned = i.returned;
      sends = subst (λ bs. Sends c.args.links.now.thread g.B.Message.Tagged.letter g.B.Message.Tagged.marked g.B.Body.takes_back bs (flow_tied c.args.links.now c.args.acts.now c.args.body.now) last) (append-nil i.returned)
          (i.went None [] last (c.in_default.ensures, refl));
    }

pub send_on-requires-clause-in_range : goal.send_on-requires-clause-in_range
send_on-requires-clause-in_range g c =
    subst (λ z. c.in-Some-first_receiver.to < z) (c.loop.invariant.going.of.threads ∙ length-map c.loop.links.ends (λ (e : Sender _ _). e.sent)) c.in-Some-first_receiver.ensures.1

pub loop-preserved-in-Continue-1 : goal.loop-preserved-in-Continue-1
loop-preserved-in-Continue-1 g c =
    let i = c.loop.invariant in
    let d : Sender g.row.B-Message-Letter.Denot g.row.B-Message-Family.Denot = record { queue = c.args.links.now.recv.queue; latch = None; number = 0; family = None; sender = 0; sent = []; found = 0 } in
    let n = c.in-Some-first_receiver.ensures in
    let within = subst (λ z. c.in-Some-first_receiver.to < z) (i.going.of.threads ∙ length-map c.loop.links.ends (λ (e : Sender _ _). e.sent)) n.1 in
    record {
      going = c.in_ok-hand_back.ensures.going;
      same = i.same;
      returned = i.returned ++ true ∷ [];
      went = step_back c.args.links.now.thread g.B.Message.Tagged.letter g.B.Message.Tagged.marked g.B.Body.takes_back i.returned (flow_tied c.args.links.now c.args.acts.now c.args.body.now) c.loop.links c.loop.acts c.hand_back.new.acts c.loop.body c.hand_back.new.body c.in-Some-first_receiver.to d i.went c.in_ok-hand_back.ensures.back n.0 within (λ x. c.is_gone.ensures x c.if-is_gone.true);
    }

pub loop-preserved : goal.loop-preserved
loop-preserved g c =
    let i = c.loop.invariant in
    let n = c.in-Some-first_receiver.ensures in
    let to = c.in-Some-first_receiver.to in
    let s = c.in_ok-send_on.ensures in
    let count = s.ok.0 in
    let within = subst (λ z. to < z) (i.going.of.threads ∙ length-map c.loop.links.ends (λ (e : Sender _ _). e.sent)) n.1 in
    let there = goes_there c.args.links.now.thread g.B.Message.Tagged.letter g.B.Message.Tagged.marked g.B.Body.takes_back g.B.Message.Tagged.fits count c.loop.links c.send_on.new.links c.loop.acts c.send_on.new.acts to s.ok.2 s.ok.1 n.0 in
    let step = step_sent c.args.links.now.thread g.B.Message.Tagged.letter g.B.Message.Tagged.marked g.B.Body.takes_back g.B.Message.Tagged.fits count i.returned (flow_tied c.args.links.now c.args.acts.now c.args.body.now) c.loop.links c.send_on.new.links c.loop.acts c.send_on.new.acts c.loop.body to (ap (λ (t : Tied _ _). t.thread) i.same.rest) i.went s.ok.2 s.ok.1 n.0 within in
    record {
      going = going_sent g.B.Message.Tagged.letter g.B.Message.Tagged.marked g.B.Body.lawful g.B.Message.Tagged.fits count c.loop.links c.send_on.new.links c.loop.acts c.send_on.new.acts c.loop.body (λ k live r x rest body l h. (g.met.B.Body g.world.𝓛 g.world.𝓜 g.world.𝓡 ((λ s x. x), (λ x. x), (λ x. x), λ x. x)).sending k live r x rest body l h) i.going s.ok.2 (subst (λ z. z < length c.loop.links.ends) (sym there) within);
      same = still_both c.args.links.now c.loop.links c.send_on.new.links i.same s.same;
      returned = step.0;
      went = step.1;
    }

pub returns-in_err-hand_back-clause-until : goal.returns-in_err-hand_back-clause-until
returns-in_err-hand_back-clause-until g c =
    let i = c.loop.invariant in
    for_reason c.from_residual.result stop.NoMemory (PostsUntil g.B.Message.Tagged.letter g.B.Message.Tagged.marked g.B.Body.takes_back c.args.links.now c.loop.links c.args.acts.now c.hand_back.new.acts c.args.body.now c.hand_back.new.body) c.from_residual.ensures.1
    (posts_until g.B.Message.Tagged.letter g.B.Message.Tagged.marked g.B.Body.takes_back stop.NoMemory c.args.links.now c.loop.links c.loop.links c.args.acts.now c.loop.acts c.hand_back.new.acts c.args.body.now c.loop.body c.hand_back.new.body i.returned i.went
    (cut_back c.args.links.now.thread g.B.Message.Tagged.letter g.B.Message.Tagged.marked g.B.Body.takes_back c.loop.links c.loop.acts c.hand_back.new.acts c.loop.body c.hand_back.new.body c.in_err-hand_back.ensures.kept))

pub returns-in_err-send_on-clause-until : goal.returns-in_err-send_on-clause-until
returns-in_err-send_on-clause-until g c =
    let i = c.loop.invariant in
    let why = c.in_err-send_on.field-0.0 in
    for_reason c.from_residual-in_err-send_on.result why (PostsUntil g.B.Message.Tagged.letter g.B.Message.Tagged.marked g.B.Body.takes_back c.args.links.now c.send_on.new.links c.args.acts.now c.send_on.new.acts c.args.body.now c.loop.body) c.from_residual-in_err-send_on.ensures.1
    (posts_until g.B.Message.Tagged.letter g.B.Message.Tagged.marked g.B.Body.takes_back why c.args.links.now c.loop.links c.send_on.new.links c.args.acts.now c.loop.acts c.send_on.new.acts c.args.body.now c.loop.body c.loop.body i.returned i.went
    (ends_there c.args.links.now.thread g.B.Message.Tagged.letter g.B.Message.Tagged.marked g.B.Body.takes_back why c.loop.links c.send_on.new.links c.loop.acts c.send_on.new.acts c.loop.body c.in_err-send_on.ensures.wait))
