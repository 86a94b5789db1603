use Rattle.std.proofs.Common.{◌++◌, sym, ap, ◌∙◌}
use Rattle.lw_model.specs.Replay.{bytes_after}
use Rattle.lw_judge_devices.proofs.BlockBytes.{bytes_more}
use Rattle.lw_judge_devices.proofs.replay.Replay.read.Goals as goal

pub loop-block-preserved : goal.loop-block-preserved
loop-block-preserved c = λ past after.
    let block = c.args.self.now.block in
    c.in_ok-push_block.ensures past after
    ∙ ap (λ l. l ++ bytes_after block past c.loop-block.block 1) (c.loop-block.invariant past after)
    ∙ sym (bytes_more block past c.args.start c.loop-block.block c.loop-block.auto.block)
