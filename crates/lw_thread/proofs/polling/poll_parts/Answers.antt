use Rattle.std.proofs.Common.{◌≡◌, ◌<◌, ◌≤◌, ◌++◌, length, map, refl, sym, ap, subst, ◌∙◌, All, inl}
use Rattle.std.specs.Prelude.{IsTrue, ◌↔◌}
use Rattle.std.proofs.lemmas.List.{length-map}
use Rattle.lw_poller.specs.Pollers.{AreKept}
use Rattle.lw_poller.specs.LocalDue.{begun}
use Rattle.lw_thread.specs.Acts.{ActsEnd}
use Rattle.lw_ring.specs.Ends.{Sender}
use Rattle.lw_thread.specs.Polls.{Takes, RunsAll, Sends}
use Rattle.lw_thread.specs.Links.{Tied}
use Rattle.lw_thread.specs.declared.stop.Stop.TheVariants as stop
use Rattle.lw_thread.specs.Posting.{StopsParts, CameToParts, flow_tied}
use Rattle.lw_thread.proofs.Waits.{for_reason}
use Rattle.lw_thread.proofs.Whole.{stopped, stops_none, stops_part, stops_ran, stops_sent, came_sending, worked_any}
use Rattle.lw_thread.proofs.PollerCalls.{kept_runs, kept_ticked, kept_timed_calls, kept_sends}
use Rattle.lw_thread.proofs.polling.poll_parts.Goals as goal

pub returns-in_err-fill-clause-stop : goal.returns-in_err-fill-clause-stop
returns-in_err-fill-clause-stop g c =
    stopped c.from_residual.result c.fill.new.self (StopsParts g.B.Message.Tagged.tag_of g.B.Body.runs g.B.Message.Tagged.letter g.B.Message.Tagged.fits c.args.now c.args.links.now c.fill.new.self c.args.acts.now c.args.body.now) c.from_residual.ensures.1
    (stops_none g.B.Message.Tagged.letter g.B.Message.Tagged.tag_of g.B.Message.Tagged.fits g.B.Body.runs c.args.now c.args.links.now c.fill.new.self c.args.acts.now c.args.body.now c.in_err-fill.ensures.same c.requires.rest.2)

pub returns-in_err-ran-clause-stop : goal.returns-in_err-ran-clause-stop
returns-in_err-ran-clause-stop g c =
    stopped c.from_residual-in_err-ran.result c.run_batch.new.links (StopsParts g.B.Message.Tagged.tag_of g.B.Body.runs g.B.Message.Tagged.letter g.B.Message.Tagged.fits c.args.now c.args.links.now c.run_batch.new.links c.args.acts.now c.args.body.now) c.from_residual-in_err-ran.ensures.1
    (stops_part g.B.Message.Tagged.letter g.B.Message.Tagged.tag_of g.B.Message.Tagged.fits g.B.Body.runs c.args.now c.args.links.now c.fill.new.self c.run_batch.new.links c.args.acts.now c.begin.new.self c.args.body.now c.in_ok-fill.ensures.ok c.begin.ensures.begun c.in_err-ran.ensures.part)

pub returns-in_err-active-clause-stop : goal.returns-in_err-active-clause-stop
returns-in_err-active-clause-stop g c =
    stopped c.from_residual-in_err-active.result c.run_batch.new.links (StopsParts g.B.Message.Tagged.tag_of g.B.Body.runs g.B.Message.Tagged.letter g.B.Message.Tagged.fits c.args.now c.args.links.now c.run_batch.new.links c.args.acts.now c.args.body.now) c.from_residual-in_err-active.ensures.1
    (stops_ran g.B.Message.Tagged.letter g.B.Message.Tagged.tag_of g.B.Message.Tagged.fits g.B.Body.runs c.args.now c.args.links.now c.fill.new.self c.run_batch.new.links c.args.acts.now c.begin.new.self c.run_batch.new.acts c.args.body.now c.run_batch.new.body c.in_ok-ran.ran c.in_ok-fill.ensures.ok c.begin.ensures.begun c.in_ok-ran.ensures.ran)

pub returns-in_err-timed-clause-stop : goal.returns-in_err-timed-clause-stop
returns-in_err-timed-clause-stop g c =
    stopped c.from_residual-in_err-timed.result c.run_batch.new.links (StopsParts g.B.Message.Tagged.tag_of g.B.Body.runs g.B.Message.Tagged.letter g.B.Message.Tagged.fits c.args.now c.args.links.now c.run_batch.new.links c.args.acts.now c.args.body.now) c.from_residual-in_err-timed.ensures.1
    (stops_ran g.B.Message.Tagged.letter g.B.Message.Tagged.tag_of g.B.Message.Tagged.fits g.B.Body.runs c.args.now c.args.links.now c.fill.new.self c.run_batch.new.links c.args.acts.now c.begin.new.self c.run_batch.new.acts c.args.body.now c.run_batch.new.body c.in_ok-ran.ran c.in_ok-fill.ensures.ok c.begin.ensures.begun c.in_ok-ran.ensures.ran)

pub returns-in-Err-clause-stop : goal.returns-in-Err-clause-stop
returns-in-Err-clause-stop g c =
    let s = c.in-Err.ensures in (
      s.stop,
      stops_sent g.B.Message.Tagged.letter g.B.Message.Tagged.tag_of g.B.Message.Tagged.fits g.B.Body.runs c.args.now c.args.links.now c.run_batch.new.links c.send_all.new.links c.args.acts.now c.args.body.now
          (stops_ran g.B.Message.Tagged.letter g.B.Message.Tagged.tag_of g.B.Message.Tagged.fits g.B.Body.runs c.args.now c.args.links.now c.fill.new.self c.run_batch.new.links c.args.acts.now c.begin.new.self c.run_batch.new.acts c.args.body.now c.run_batch.new.body c.in_ok-ran.ran c.in_ok-fill.ensures.ok c.begin.ensures.begun c.in_ok-ran.ensures.ran)
          s.same,
    )

pub call_active-requires-clause-kept : goal.call_active-requires-clause-kept
call_active-requires-clause-kept g c = λ κs within.
    kept_runs g.B.Body.runs c.args.now c.in_ok-ran.ensures.ran.run (flow_tied c.fill.new.self c.begin.new.self c.args.body.now) (flow_tied c.run_batch.new.links c.run_batch.new.acts c.run_batch.new.body) c.begin.ensures.kept c.in_ok-ran.ensures.ran.each

pub call_timed-requires-clause-kept : goal.call_timed-requires-clause-kept
call_timed-requires-clause-kept g c = λ κs within.
    let kept = kept_runs g.B.Body.runs c.args.now c.in_ok-ran.ensures.ran.run (flow_tied c.fill.new.self c.begin.new.self c.args.body.now) (flow_tied c.run_batch.new.links c.run_batch.new.acts c.run_batch.new.body) c.begin.ensures.kept c.in_ok-ran.ensures.ran.each in
    let act = c.in_ok-active.ensures.called in
    kept_ticked g.B.Body.ticks c.args.now act.calls (flow_tied c.run_batch.new.links c.run_batch.new.acts c.run_batch.new.body) (flow_tied c.run_batch.new.links c.call_active.new.acts c.call_active.new.body) kept act.each

pub returns-clause-kept : goal.returns-clause-kept
returns-clause-kept g c =
    let m = c.run_batch.new.links in
    let n = c.send_all.new.links in
    let ran = c.in_ok-ran.ensures.ran in
    let act = c.in_ok-active.ensures.called in
    let tim = c.in_ok-timed.ensures.called in
    let s = c.in_default.ensures in
    let after_run = flow_tied m c.run_batch.new.acts c.run_batch.new.body in
    let after_active = flow_tied m c.call_active.new.acts c.call_active.new.body in
    let after_timed = flow_tied m c.call_timed.new.acts c.call_timed.new.body in
    let a = kept_runs g.B.Body.runs c.args.now ran.run (flow_tied c.fill.new.self c.begin.new.self c.args.body.now) after_run c.begin.ensures.kept ran.each in
    let b = kept_ticked g.B.Body.ticks c.args.now act.calls after_run after_active a act.each in
    let d = kept_timed_calls g.B.Body.ticks c.args.now tim.calls after_active after_timed b tim.each in
    let e = kept_sends m.thread g.B.Message.Tagged.letter g.B.Message.Tagged.marked g.B.Body.takes_back s.posts.returned after_timed (flow_tied n c.send_all.new.acts c.send_all.new.body) d s.posts.sends in
    subst AreKept (sym (ap (λ (q : ActsEnd _). q.pollers) c.take_started.ensures.taken.1)) e

pub returns-clause-polled : goal.returns-clause-polled
returns-clause-polled g c =
    let k = c.args.links.now in
    let l = c.fill.new.self in
    let m = c.run_batch.new.links in
    let n = c.send_all.new.links in
    let f = c.in_ok-fill.ensures.ok in
    let ran = c.in_ok-ran.ensures.ran in
    let act = c.in_ok-active.ensures.called in
    let tim = c.in_ok-timed.ensures.called in
    let s = c.in_default.ensures in
    let recv : n.recv ≡ l.recv = ap (λ (t : Tied _ _). t.recv) s.same.rest ∙ ap (λ (t : Tied _ _). t.recv) ran.noted in
    let thread : m.thread ≡ k.thread = ap (λ (t : Tied _ _). t.thread) ran.noted ∙ ap (λ (t : Tied _ _). t.thread) f.rest in
    let ends : length m.ends ≡ length k.ends = ap (λ (t : Tied _ _). length t.ends) ran.noted ∙ ap (λ (t : Tied _ _). length t.ends) f.rest in
    let first = flow_tied k (record c.args.acts.now { pollers = begun c.args.now c.args.acts.now.pollers }) c.args.body.now in
    let after_run = flow_tied m c.run_batch.new.acts c.run_batch.new.body in
    let after_timed = flow_tied m c.call_timed.new.acts c.call_timed.new.body in
    let last = flow_tied n c.send_all.new.acts c.send_all.new.body in
    let start : flow_tied l c.begin.new.self c.args.body.now ≡ first = λ i. record { body = c.args.body.now; acts = c.begin.ensures.begun i; ends = (f.rest i).ends } in
    record {
      batch = l.left;
      took = subst (λ q. Takes g.B.Message.Tagged.letter g.B.Message.Tagged.tag_of g.B.Message.Tagged.fits l.left k.recv q) (sym recv) f.took;
      ran = ap (λ (t : Tied _ _). t.ran) s.same.rest ∙ ap (λ (t : Tied _ _). t.ran) ran.noted ∙ (λ i. (f.rest i).ran ++ map g.B.Message.Tagged.tag_of (sym ran.all i));
      after_run = after_run;
      active = act.calls;
      after_active = flow_tied m c.call_active.new.acts c.call_active.new.body;
      timed = tim.calls;
      after_timed = after_timed;
      returned = s.posts.returned;
      last = last;
      run_each = subst (λ xs. RunsAll g.B.Body.runs c.args.now xs first after_run) (sym ran.all) (subst (λ b. RunsAll g.B.Body.runs c.args.now ran.run b after_run) start ran.each);
      call_active = act.each;
      call_timed = tim.each;
      send_all = subst (λ t. Sends t g.B.Message.Tagged.letter g.B.Message.Tagged.marked g.B.Body.takes_back s.posts.returned after_timed last) thread s.posts.sends;
      worked = worked_any c.in_ok-ran.ran c.in_ok-active.active c.in_ok-timed.timed (length l.left) act.calls tim.calls (subst (λ xs. IsTrue c.in_ok-ran.ran ↔ (1 ≤ length xs)) (sym ran.all) ran.had_run) act.was_busy tim.was_busy;
      started = c.take_started.ensures.taken.0;
      start_numbers = subst (λ z. All (λ n. n < z) c.take_started.result.items) (s.going.0.of.threads ∙ length-map n.ends (λ (e : Sender _ _). e.sent) ∙ s.same.ends.count ∙ ends) c.take_started.ensures.numbers;
      body = refl;
      acts = c.take_started.ensures.taken.1;
      ends = refl;
    }

pub returns-in_err-fill-clause-came : goal.returns-in_err-fill-clause-came
returns-in_err-fill-clause-came g c =
    for_reason c.from_residual.result stop.NoMemory (CameToParts g.B.Message.Tagged.letter g.B.Message.Tagged.tag_of g.B.Message.Tagged.fits g.B.Message.Tagged.marked g.B.Body.runs g.B.Body.ticks g.B.Body.takes_back c.args.now c.args.links.now c.fill.new.self c.args.acts.now c.begin.new.self c.args.body.now c.args.body.now) c.from_residual.ensures.1
    (inl (ap (λ (t : Tied _ _). t.ends) c.in_err-fill.ensures.same))

pub returns-in_err-ran-clause-came : goal.returns-in_err-ran-clause-came
returns-in_err-ran-clause-came g c =
    for_reason c.from_residual-in_err-ran.result stop.NoMemory (CameToParts g.B.Message.Tagged.letter g.B.Message.Tagged.tag_of g.B.Message.Tagged.fits g.B.Message.Tagged.marked g.B.Body.runs g.B.Body.ticks g.B.Body.takes_back c.args.now c.args.links.now c.run_batch.new.links c.args.acts.now c.run_batch.new.acts c.args.body.now c.run_batch.new.body) c.from_residual-in_err-ran.ensures.1
    (inl (ap (λ (t : Tied _ _). t.ends) c.in_err-ran.ensures.part.noted ∙ ap (λ (t : Tied _ _). t.ends) c.in_ok-fill.ensures.ok.rest))

pub returns-in_err-active-clause-came : goal.returns-in_err-active-clause-came
returns-in_err-active-clause-came g c =
    for_reason c.from_residual-in_err-active.result stop.NoMemory (CameToParts g.B.Message.Tagged.letter g.B.Message.Tagged.tag_of g.B.Message.Tagged.fits g.B.Message.Tagged.marked g.B.Body.runs g.B.Body.ticks g.B.Body.takes_back c.args.now c.args.links.now c.run_batch.new.links c.args.acts.now c.call_active.new.acts c.args.body.now c.call_active.new.body) c.from_residual-in_err-active.ensures.1
    (inl (ap (λ (t : Tied _ _). t.ends) c.in_ok-ran.ensures.ran.noted ∙ ap (λ (t : Tied _ _). t.ends) c.in_ok-fill.ensures.ok.rest))

pub returns-in_err-timed-clause-came : goal.returns-in_err-timed-clause-came
returns-in_err-timed-clause-came g c =
    for_reason c.from_residual-in_err-timed.result stop.NoMemory (CameToParts g.B.Message.Tagged.letter g.B.Message.Tagged.tag_of g.B.Message.Tagged.fits g.B.Message.Tagged.marked g.B.Body.runs g.B.Body.ticks g.B.Body.takes_back c.args.now c.args.links.now c.run_batch.new.links c.args.acts.now c.call_timed.new.acts c.args.body.now c.call_timed.new.body) c.from_residual-in_err-timed.ensures.1
    (inl (ap (λ (t : Tied _ _). t.ends) c.in_ok-ran.ensures.ran.noted ∙ ap (λ (t : Tied _ _). t.ends) c.in_ok-fill.ensures.ok.rest))

pub returns-in-Err-clause-came : goal.returns-in-Err-clause-came
returns-in-Err-clause-came g c =
    came_sending g.B.Message.Tagged.letter g.B.Message.Tagged.tag_of g.B.Message.Tagged.fits g.B.Body.runs g.B.Message.Tagged.marked g.B.Body.ticks g.B.Body.takes_back c.args.now c.args.links.now c.fill.new.self c.run_batch.new.links c.send_all.new.links
    c.args.acts.now c.begin.new.self c.run_batch.new.acts c.call_active.new.acts c.call_timed.new.acts c.send_all.new.acts c.args.body.now c.run_batch.new.body c.call_active.new.body c.call_timed.new.body c.send_all.new.body
    c.in_ok-ran.ran c.in_ok-active.active c.in_ok-timed.timed c.in-Err.stop c.in_ok-fill.ensures.ok c.begin.ensures.begun c.in_ok-ran.ensures.ran c.in_ok-active.ensures.called c.in_ok-timed.ensures.called c.in-Err.ensures.until c.in-Err.ensures.same
