use Rattle.std.proofs.Common.{◌≡◌, ◌∙◌, ◌+◌, ◌++◌, string_bytes, ap, sym, arith}
use Rattle.std.specs.List.{filter_map}
use Rattle.lw_world.specs.World.{State, refusal_of}
use Rattle.lw_walk.specs.WalkForm.{event_in}
use Rattle.lw_walk.specs.Walk.{answers, event_line, refused}
use Rattle.lw_walk.proofs.Walks.{took, stopped, bad_same, lines_less, answers_same, sent_more, refused-answer}
use Rattle.lw_walk.proofs.walk.answers.push_events.Goals as goal

pub loop-event-smaller : goal.loop-event-smaller
loop-event-smaller c =
    let step = took event_in c.loop-event.lines c.event.new.self c.in-Some.event c.in-Some.ensures in
    let less = lines_less c.loop-event.lines c.event.new.self c.in-Some.event step in
    omega (arith, less)

pub loop-event-preserved : goal.loop-event-preserved
loop-event-preserved c =
    let s = c.loop-event.lines in
    let t = c.event.new.self in
    let e = c.in-Some.event in
    let w = c.loop-event.world in
    let n = c.loop-event.number in
    let step = took event_in s t e c.in-Some.ensures in
    let less = lines_less s t e step in
    let why = ap refused c.step.ensures.answer ∙ refused-answer (refusal_of w e) in
    let told : string_bytes c.push_answer.new.out ≡ string_bytes c.loop-event.out ++ event_line (n + 1) (refused c.step.result) = c.in_ok-push_answer.ensures in
    let pushed = told ∙ ap (λ r. string_bytes c.loop-event.out ++ event_line (n + 1) r) why in
    record {
      lines = c.loop-event.invariant.lines ∙ bad_same s t e step;
      text =
          ap (λ (v : State). string_bytes c.push_answer.new.out ++ answers v (n + 1 + 1) (filter_map event_in t.lines)) c.step.ensures.world
          ∙ answers_same s t e step w (n + 1) (string_bytes c.loop-event.out) (string_bytes c.push_answer.new.out) pushed
          ∙ c.loop-event.invariant.text;
      few = omega (arith, c.loop-event.invariant.few, less);
      sent = λ i j. rw c.step.ensures.world (sent_more w n e c.loop-event.invariant.sent i j);
    }

pub returns-clause-lines : goal.returns-clause-lines
returns-clause-lines c = c.loop-event.invariant.lines ∙ (stopped c.loop-event.lines c.event.new.self c.in_default.ensures).0

pub returns-clause-text : goal.returns-clause-text
returns-clause-text c = λ nil.
    let none = (stopped c.loop-event.lines c.event.new.self c.in_default.ensures).1 nil in
    ap (λ ls. string_bytes c.loop-event.out ++ answers c.loop-event.world (c.loop-event.number + 1) (filter_map event_in ls)) (sym none) ∙ c.loop-event.invariant.text
