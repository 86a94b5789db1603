use Rattle.std.proofs.Common.{◌≡◌, ◌+◌, ap, ◌∙◌, flat_map, length, arith}
use Rattle.std.specs.List.{range_with_len}
use Rattle.lw_model.specs.Verdict.{least_failing}
use Rattle.lw_model.proofs.Printed.{parts}
use Rattle.lw_judge_messages.specs.SeenLines.{client_tests}
use Rattle.lw_judge_messages.proofs.SeenTests.{client_below, client_stands, clients_more}
use Rattle.lw_judge_threads.proofs.Threads.{no_lines}
use Rattle.lw_judge_messages.proofs.seen.visits_seen.Goals as goal

pub bounds-layout-client : goal.bounds-layout-client
bounds-layout-client c = client_below c.args.of.now c.args.layout.now (c.loop-place.place + 1) c.requires (omega arith)

pub seen_by_client-requires : goal.seen_by_client-requires
seen_by_client-requires c = omega (arith, (parts c.args.of.now).threads)

pub loop-place-preserved : goal.loop-place-preserved
loop-place-preserved c = λ runners marks.
    let r = c.args.of.now in
    let stands = client_stands r c.args.layout.now (c.loop-place.place + 1) no_lines c.requires (omega arith) in
    clients_more r c.loop-place.place c.loop-place.least c.lesser-least.result c.seen_by_client.result
    (c.loop-place.invariant runners marks) (c.seen_by_client.ensures runners marks stands) c.lesser-least.ensures

pub returns : goal.returns
returns c = λ runners marks.
    let all : c.loop-place.place ≡ length c.args.of.now.script.clients = omega arith in
    c.loop-place.invariant runners marks ∙ ap (λ n. least_failing (flat_map (client_tests c.args.of.now) (range_with_len 1 n))) all
