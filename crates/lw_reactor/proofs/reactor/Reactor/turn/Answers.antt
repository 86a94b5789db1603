use Rattle.std.proofs.Common.{subst}
use Rattle.lw_thread.specs.Polls.{Polls}
use Rattle.lw_reactor.specs.Polling.{Halts}
use Rattle.lw_reactor.specs.Reactors.{IsKept}
use Rattle.lw_reactor.proofs.Results.{err_then, ok_then}
use Rattle.lw_reactor.proofs.Turned.{err_pick, halted_shown, ok_pick, turn_stops_is, turns_is}
use Rattle.lw_reactor.proofs.Turning.{turn_stops_kept, turn_stops_still, turns_kept, turns_still}
use Rattle.lw_reactor.proofs.reactor.Reactor.turn.Goals as goal

pub invariant_of-self : goal.invariant_of-self
invariant_of-self g c =
    let polls = Polls g.B.Message.Tagged.letter g.B.Message.Tagged.tag_of g.B.Message.Tagged.fits g.B.Message.Tagged.marked g.B.Body.runs g.B.Body.ticks g.B.Body.takes_back in
    let halts = Halts g.B.Message.Tagged.letter g.B.Message.Tagged.tag_of g.B.Message.Tagged.fits g.B.Message.Tagged.marked g.B.Body.runs g.B.Body.ticks g.B.Body.takes_back in
    let e = err_pick c.steps-turned.result c.is_err.result _ c.is_err.ensures.value c.if-is_err.true c.steps-turned.ensures.stops in
    turn_stops_kept g.C.Clock.readings polls halts g.B.Body.ends e.0 c.args.self.now _ c.requires (turn_stops_is g.C.Clock.readings polls halts g.B.Body.ends e.0 _ c.args.self.now c.read-now.new.self c.steps-turned.new.self c.halt.new.self c.steps-turned.new.balancer c.as_slice.result.now c.read-now.result c.steps-turned.new.took c.spanned.result c.self.view_is c.as_slice.ensures.value c.read-now.ensures.now c.spanned.ensures c.read-now.ensures.read c.halt.ensures e.1) (subst IsKept c.self.view_is c.self.invariant)

pub returns-then-is_err-clause-stops : goal.returns-then-is_err-clause-stops
returns-then-is_err-clause-stops g c =
    let polls = Polls g.B.Message.Tagged.letter g.B.Message.Tagged.tag_of g.B.Message.Tagged.fits g.B.Message.Tagged.marked g.B.Body.runs g.B.Body.ticks g.B.Body.takes_back in
    let halts = Halts g.B.Message.Tagged.letter g.B.Message.Tagged.tag_of g.B.Message.Tagged.fits g.B.Message.Tagged.marked g.B.Body.runs g.B.Body.ticks g.B.Body.takes_back in
    err_then c.steps-turned.result _ _ c.steps-turned.ensures.stops (λ s h. turn_stops_is g.C.Clock.readings polls halts g.B.Body.ends s _ c.args.self.now c.read-now.new.self c.steps-turned.new.self c.halt.new.self c.steps-turned.new.balancer c.as_slice.result.now c.read-now.result c.steps-turned.new.took c.spanned.result c.self.view_is c.as_slice.ensures.value c.read-now.ensures.now c.spanned.ensures c.read-now.ensures.read c.halt.ensures h)

pub returns-then-is_err-clause-shown : goal.returns-then-is_err-clause-shown
returns-then-is_err-clause-shown g c = err_then c.steps-turned.result _ _ c.steps-turned.ensures.shown (λ s h. halted_shown c.steps-turned.new.self c.halt.new.self s c.halt.ensures h)

pub returns-then-is_err-clause-still : goal.returns-then-is_err-clause-still
returns-then-is_err-clause-still g c =
    let polls = Polls g.B.Message.Tagged.letter g.B.Message.Tagged.tag_of g.B.Message.Tagged.fits g.B.Message.Tagged.marked g.B.Body.runs g.B.Body.ticks g.B.Body.takes_back in
    let halts = Halts g.B.Message.Tagged.letter g.B.Message.Tagged.tag_of g.B.Message.Tagged.fits g.B.Message.Tagged.marked g.B.Body.runs g.B.Body.ticks g.B.Body.takes_back in
    let e = err_pick c.steps-turned.result c.is_err.result _ c.is_err.ensures.value c.if-is_err.true c.steps-turned.ensures.stops in
    turn_stops_still g.C.Clock.readings polls halts g.B.Body.ends e.0 c.args.self.now _ (turn_stops_is g.C.Clock.readings polls halts g.B.Body.ends e.0 _ c.args.self.now c.read-now.new.self c.steps-turned.new.self c.halt.new.self c.steps-turned.new.balancer c.as_slice.result.now c.read-now.result c.steps-turned.new.took c.spanned.result c.self.view_is c.as_slice.ensures.value c.read-now.ensures.now c.spanned.ensures c.read-now.ensures.read c.halt.ensures e.1)

pub invariant_of-self-else-is_err : goal.invariant_of-self-else-is_err
invariant_of-self-else-is_err g c =
    let polls = Polls g.B.Message.Tagged.letter g.B.Message.Tagged.tag_of g.B.Message.Tagged.fits g.B.Message.Tagged.marked g.B.Body.runs g.B.Body.ticks g.B.Body.takes_back in
    let e = ok_pick c.steps-turned.result c.is_err.result _ c.is_err.ensures.value c.if-is_err.false c.steps-turned.ensures.made in
    turns_kept g.C.Clock.readings polls g.B.Body.ends e.0 c.args.self.now _ c.requires (turns_is g.C.Clock.readings polls g.B.Body.ends e.0 _ c.args.self.now c.read-now.new.self c.steps-turned.new.self c.steps-turned.new.balancer c.as_slice.result.now c.read-now.result c.steps-turned.new.took c.spanned.result c.self.view_is c.as_slice.ensures.value c.read-now.ensures.now c.spanned.ensures c.read-now.ensures.read e.1) (subst IsKept c.self.view_is c.self.invariant)

pub returns-else-is_err-clause-turned : goal.returns-else-is_err-clause-turned
returns-else-is_err-clause-turned g c =
    let polls = Polls g.B.Message.Tagged.letter g.B.Message.Tagged.tag_of g.B.Message.Tagged.fits g.B.Message.Tagged.marked g.B.Body.runs g.B.Body.ticks g.B.Body.takes_back in
    ok_then c.steps-turned.result _ _ c.steps-turned.ensures.made (λ t h. turns_is g.C.Clock.readings polls g.B.Body.ends t _ c.args.self.now c.read-now.new.self c.steps-turned.new.self c.steps-turned.new.balancer c.as_slice.result.now c.read-now.result c.steps-turned.new.took c.spanned.result c.self.view_is c.as_slice.ensures.value c.read-now.ensures.now c.spanned.ensures c.read-now.ensures.read h)

pub returns-else-is_err-clause-still : goal.returns-else-is_err-clause-still
returns-else-is_err-clause-still g c =
    let polls = Polls g.B.Message.Tagged.letter g.B.Message.Tagged.tag_of g.B.Message.Tagged.fits g.B.Message.Tagged.marked g.B.Body.runs g.B.Body.ticks g.B.Body.takes_back in
    let e = ok_pick c.steps-turned.result c.is_err.result _ c.is_err.ensures.value c.if-is_err.false c.steps-turned.ensures.made in
    turns_still g.C.Clock.readings polls g.B.Body.ends e.0 c.args.self.now _ (turns_is g.C.Clock.readings polls g.B.Body.ends e.0 _ c.args.self.now c.read-now.new.self c.steps-turned.new.self c.steps-turned.new.balancer c.as_slice.result.now c.read-now.result c.steps-turned.new.took c.spanned.result c.self.view_is c.as_slice.ensures.value c.read-now.ensures.now c.spanned.ensures c.read-now.ensures.read e.1)
