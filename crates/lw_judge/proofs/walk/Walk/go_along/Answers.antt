use Rattle.std.proofs.Common.{◌<◌, ◌^◌, length, get_or, reverse, take, sym, ap, ap₂, subst, ◌∙◌, arith}
use Rattle.std.proofs.lemmas.List.{length-take-le, length-reverse}
use Rattle.lw_model.specs.Verdict.{least_failing, step_test}
use Rattle.lw_judge_threads.specs.Firsts.{lesser}
use Rattle.lw_judge_threads.specs.Folded.{folded}
use Rattle.lw_judge_threads.specs.LinesOf.{IsPlaced}
use Rattle.lw_judge.specs.Walked.{IsGoingAt, IsWalkedTo}
use Rattle.lw_judge_answers.specs.AnsweringAt.{answers_of}
use Rattle.lw_judge_threads.proofs.Counts.{past_more}
use Rattle.lw_judge_threads.proofs.Threads.{least_threads}
use Rattle.lw_judge.proofs.WalkSteps.{all_at, no_step, whole}
use Rattle.lw_judge_devices.proofs.DevicesSteps as devices
use Rattle.lw_judge_messages.proofs.VisitThreads as visits
use Rattle.lw_judge.proofs.walk.Walk.go_along.Goals as goal

pub loop-step-preserved : goal.loop-step-preserved
loop-step-preserved c =
    let r = c.args.of.now in
    let t = c.args.thread in
    let i = c.loop-step.step-index in
    let xs = c.args.steps.now in
    let x = get_or xs i no_step in
    let more = past_more xs i no_step c.loop-step-test.true in
    let few : length (reverse (take i xs)) < 2 ^ 63 = omega (arith, length-reverse (take i xs), length-take-le i xs (omega (arith, c.loop-step-test.true)), c.loop-step-test.true, c.requires.few) in
    let here : IsPlaced r t x = all_at (IsPlaced r t) xs i no_step c.requires.placed c.loop-step-test.true in
    let step = c.in_ok-step.ensures (reverse (take i xs)) few c.requires.lines c.requires.runners here c.loop-step.invariant.going c.loop-step.invariant.walked in
    record {
      going = subst (λ past. IsGoingAt r t past c.step.new.going) (sym more) step.0;
      walked = subst (λ past. IsWalkedTo r t past c.step.new.self) (sym more) step.1;
    }

pub returns : goal.returns
returns c =
    let r = c.args.of.now in
    let t = c.args.thread in
    let all = whole r t c.args.steps.now c.loop-step.step-index c.requires.steps c.loop-step-test.false in
    let walked = c.loop-step.invariant.walked in
    let answering = c.loop-step.invariant.going.answering in
    record {
      sends = c.in_ok-finish.ensures (reverse (take c.loop-step.step-index c.args.steps.now)) all walked.sends;
      devices = devices.next_thread r t c.loop-step.self.devices (subst (λ past. Rattle.lw_judge_devices.specs.DevicesTold.AreDevicesAt r t past c.loop-step.self.devices) all walked.devices);
      marks = visits.next_thread r t c.loop-step.self.marks (subst (λ past. Rattle.lw_judge_messages.specs.MarksAt.AreMarksAt r t past c.loop-step.self.marks) all walked.marks);
      answers = c.lesser-self.ensures
          ∙ ap₂ lesser walked.answers (c.answers_of_thread-least.ensures c.requires.lines (c.least.ensures r t (reverse (take c.loop-step.step-index c.args.steps.now)) answering ∙ ap (λ past. least_failing (folded (step_test r t) past)) all))
          ∙ sym (least_threads (answers_of r) t);
    }
