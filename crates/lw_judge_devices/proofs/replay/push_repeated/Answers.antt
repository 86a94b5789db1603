use Rattle.std.proofs.Common.{◌%◌, length, slice_index, ap, ◌∙◌}
use Rattle.lw_judge_devices.proofs.Repeats.{place_first, place_next, pushed_more}
use Rattle.lw_judge_devices.proofs.replay.push_repeated.Goals as goal
use Rattle.lw_judge_devices.proofs.replay.push_repeated.Goals.{then-place-pattern, else-place-pattern}

pub loop-preserved : goal.loop-preserved
loop-preserved c =
    let pattern = c.args.pattern.now in
    record {
      bytes = pushed_more (λ i. slice_index pattern (i % length pattern)) _ _ _ c.args.from c.loop.counter _ c.loop.invariant.bytes c.in_ok-push.ensures.items
          (ap (slice_index pattern) c.loop.invariant.place);
      place = elim c.if-place-pattern.branch [
        | then-place-pattern w ↦ w.place-is ∙ place_first c.args.from c.loop.counter (length pattern) c.loop.place c.requires.some c.loop.invariant.place w.if-place-pattern.true
        | else-place-pattern w ↦ w.place-is ∙ place_next c.args.from c.loop.counter (length pattern) c.loop.place c.requires.some c.loop.invariant.place w.if-place-pattern.false
      ];
    }
