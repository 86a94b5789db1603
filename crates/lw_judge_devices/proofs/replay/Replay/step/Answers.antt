use Rattle.std.proofs.Common.{◌≡◌, length, arith, ap, ◌∙◌}
use Rattle.std.proofs.lemmas.List.{with_items_is}
use Rattle.lw_judge_devices.proofs.LastWrites.{after_write, cover_told}
use Rattle.lw_judge_devices.proofs.replay.Replay.step.Goals as goal

pub returns-in_ok-push-clause-after : goal.returns-in_ok-push-clause-after
returns-in_ok-push-clause-after c = λ past after.
    let size : length c.cover.new.last ≡ length c.args.self.now.last.items = c.cover.auto.last ∙ ap length c.deref_mut.ensures.value in
    after_write past c.args.request.now c.in-Write.image c.in-Write.start c.in-Write.count c.in-Write.pattern c.cover.new.last c.args.self.now _ _ after c.in-Write.is
    (ap (λ l. (c.in-Write.start, l)) c.as_slice.ensures) (with_items_is c.args.self.now.last c.cover.new.last (omega (arith, c.args.self.now.last.ok, size))) size c.in_ok-push.ensures.items
    (cover_told c.deref_mut.result.now c.args.self.now.last.items c.cover.new.last c.in-Write.start c.in-Write.count c.len-number.result (length c.push.new.self.items) c.deref_mut.ensures.value (omega (arith, c.len-number.ensures, c.push.new.self.ok)) c.cover.ensures)
