use Rattle.std.proofs.Common.{◌*◌, ◌%◌, length, map, slice_index, sym, ap, ◌∙◌}
use Rattle.std.specs.List.{range_with_len}
use Rattle.std.proofs.lemmas.Result.{on_ok_weaker}
use Rattle.lw_judge_devices.proofs.BlockBytes.{written_block, zero_block, empty_block, appended}
use Rattle.lw_judge_devices.proofs.replay.Replay.push_block.Goals as goal
use Rattle.lw_judge_devices.proofs.replay.Replay.push_block.Goals.{in_default-via-in-Some+else-not-is_empty, in_default-via-in_default}

pub returns-in-Some : goal.returns-in-Some
returns-in-Some c =
    let block = c.args.self.now.block in
    let pattern = c.in-Some.write.pattern.now in
    on_ok_weaker c.push_repeated.result
    (λ pushed. λ past after. appended _ _ _ _ pushed
    (ap (λ n. map (λ i. slice_index pattern (i % length pattern)) (range_with_len (n * block) block)) c.saturating_sub.ensures
    ∙ sym (written_block block past c.args.block c.in-Some.write.start pattern (sym (c.in-Some.ensures past after)))))
    c.push_repeated.ensures

pub returns-in_default : goal.returns-in_default
returns-in_default c =
    let block = c.args.self.now.block in
    on_ok_weaker c.push_zeros.result
    (λ pushed. λ past after. appended _ _ _ _ pushed (elim c.in_default.branch [
      | in_default-via-in-Some+else-not-is_empty w ↦
          sym (empty_block block past c.args.block w.in-Some.write.start w.in-Some.write.pattern.now w.is_empty.result (sym (w.in-Some.ensures past after)) w.is_empty.ensures w.if-not-is_empty.false)
      | in_default-via-in_default w ↦ sym (zero_block block past c.args.block (sym (w.in_default.ensures past after)))
    ]))
    c.push_zeros.ensures
