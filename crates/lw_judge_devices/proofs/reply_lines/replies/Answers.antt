use Rattle.std.proofs.Common.{◌+◌, ◌<◌, length, get_or, arith, ap, ◌∙◌}
use Rattle.std.proofs.lemmas.Option.{slice_get-get_or}
use Rattle.lw_model.proofs.Printed.{parts}
use Rattle.lw_judge_threads.specs.declared.lines.ThreadLines.{ThreadLines}
use Rattle.lw_judge_devices.proofs.OpsFit.{few_clients}
use Rattle.lw_judge_devices.proofs.WhatStands.{is_in}
use Rattle.lw_judge_devices.proofs.RepliesLines.{replies_below, client_line, clients_more, client_there}
use Rattle.lw_judge_devices.proofs.reply_lines.replies.Goals as goal

-- before the first thread
none : ThreadLines
none = record { thread = 0; hops = 0; ran = 0; did = 0; called = 0; replies = 0; seen = 0; behind = 0 }

pub bounds-threads-thread : goal.bounds-threads-thread
bounds-threads-thread c = omega (arith, (parts c.args.of.now).threads, c.len-client-end.ensures, ap length c.as_slice-threads.ensures)

pub offset_bounds-layout-thread : goal.offset_bounds-layout-thread
offset_bounds-layout-thread c = omega (arith, few_clients c.args.of.now, c.len-client-end.ensures)

pub bounds-layout-thread : goal.bounds-layout-thread
bounds-layout-thread c = omega (arith, (parts c.args.of.now).threads, c.len-client-end.ensures, c.requires.count)

pub client_line-line-requires : goal.client_line-line-requires
unfolding none
client_line-line-requires c =
    let r = c.args.of.now in
    let t = c.loop-client.client + 1 in
    let x = c.index-threads-thread.result in
    let there : t < length r.threads = omega (arith, (parts r).threads, c.len-client-end.ensures) in
    let at = is_in c.as_slice-threads.result.now r.threads t x c.as_slice-threads.ensures there c.index-threads-thread.is in
    replies_below r t x (get_or c.args.layout.now t none) at (c.requires.each t _ (slice_get-get_or c.args.layout.now t none (omega (arith, there, c.requires.count))))

pub loop-client-preserved : goal.loop-client-preserved
unfolding none
loop-client-preserved c =
    let r = c.args.of.now in
    let t = c.loop-client.client + 1 in
    let x = c.index-threads-thread.result in
    let l = get_or c.args.layout.now t none in
    let there : t < length r.threads = omega (arith, (parts r).threads, c.len-client-end.ensures) in
    let at = is_in c.as_slice-threads.result.now r.threads t x c.as_slice-threads.ensures there c.index-threads-thread.is in
    let stands = c.requires.each t l (slice_get-get_or c.args.layout.now t none (omega (arith, there, c.requires.count))) in
    let client = client_there (length r.script.clients) t (omega arith) (omega (arith, c.len-client-end.ensures)) in
    c.lesser-least.ensures
    ∙ clients_more r c.loop-client.client c.loop-client.least c.client_line-line.result c.loop-client.invariant (c.client_line-line.ensures ∙ client_line r t x l c.in_ok-owed.owed c.in_ok-owed.ensures client at stands)
