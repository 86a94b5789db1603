use Rattle.std.proofs.Common.{[], ◌∷◌, ◌++◌, length, refl, ap, ◌∙◌, arith}
use Rattle.std.proofs.lemmas.List.{length_push}
use Rattle.lw_thread.specs.Links.{Tied}
use Rattle.lw_thread.specs.Posting.{flow_tied}
use Rattle.lw_thread.proofs.Calling.{going_run, on_error, part_left, part_run, part_noted, run_step, taken_count}
use Rattle.lw_thread.proofs.polling.run_batch.Goals as goal

pub returns-in_err-run-clause-part : goal.returns-in_err-run-clause-part
returns-in_err-run-clause-part g c =
    let i = c.loop.invariant in
    let x = g.B.Message.Tagged.letter c.in-Some.message in
    on_error c.from_residual.result
    (part_run g.B.Message.Tagged.tag_of g.B.Body.runs c.args.now i.run x c.args.links.now c.loop.links c.next.new.self c.args.acts.now c.loop.acts c.args.body.now c.loop.body
    (part_left g.B.Message.Tagged.tag_of c.args.links.now c.loop.links c.next.new.self i.run x i.parts c.in-Some.ensures.next)
    (part_noted g.B.Message.Tagged.tag_of c.args.links.now c.loop.links c.next.new.self i.run x i.noted c.in-Some.ensures.next)
    i.each)

pub count_run-requires : goal.count_run-requires
count_run-requires g c =
    let a = c.loop.invariant.going.of.ran in
    let b = c.in_ok-run.ensures.adds.ran in
    let few = c.in-Some.ensures.few in
    let long = ap (λ (t : Tied _ _). length t.ran) c.in-Some.ensures.next.ran ∙ length_push c.loop.links.ran _ in
    let most = taken_count c.loop.links in
    omega arith

pub loop-preserved : goal.loop-preserved
loop-preserved g c =
    let i = c.loop.invariant in
    let n = c.in-Some.ensures in
    let t = c.in_ok-run.ensures in
    let x = g.B.Message.Tagged.letter c.in-Some.message in
    let long = length_push i.run x in
    let left = ap length n.next.first in
    let turns = i.turns in
    record {
      going = going_run g.B.Message.Tagged.letter g.B.Message.Tagged.fits g.B.Body.lawful g.B.Message.Tagged.tag_of c.loop.links c.next.new.self c.loop.acts c.run.new.acts c.count_run.new.self c.loop.body c.run.new.self c.in-Some.message i.going n.next n.known n.fits t.lawful t.adds t.fits c.count_run.ensures;
      run = i.run ++ x ∷ [];
      parts = part_left g.B.Message.Tagged.tag_of c.args.links.now c.loop.links c.next.new.self i.run x i.parts n.next;
      each = run_step g.B.Body.runs g.B.Message.Tagged.tag_of c.args.now i.run x (flow_tied c.args.links.now c.args.acts.now c.args.body.now) c.loop.links c.next.new.self c.loop.acts c.run.new.acts c.count_run.new.self c.loop.body c.run.new.self i.each n.next t.does t.adds c.count_run.ensures;
      noted = part_noted g.B.Message.Tagged.tag_of c.args.links.now c.loop.links c.next.new.self i.run x i.noted n.next;
      worked = ((λ _. omega arith), λ _. refl);
      turns = omega arith;
    }
