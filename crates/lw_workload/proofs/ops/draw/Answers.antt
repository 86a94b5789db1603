use Rattle.std.proofs.Common.{rules, ◌+◌, ◌*◌, ◌∙◌}
use Rattle.lw_workload.specs.Workload.{op_at}
use Rattle.lw_workload.proofs.Words.{pushed, drawn_next, words_next}
use Rattle.lw_workload.proofs.ops.draw.Goals as goal

pub loop-preserved : goal.loop-preserved
loop-preserved c = record {
  words = words_next c.args.seed c.args.client c.loop.counter c.loop.words c.draw_one.new.words c.advance-in-loop.new.self c.loop.invariant.words (search rules) (search rules);
  list = pushed (λ i. op_at c.args.seed (8 * i + c.args.client)) _ _ _ c.loop.counter _ c.loop.invariant.list (search rules)
      (c.in_ok-draw_one.ensures.drawn ∙ drawn_next c.args.seed c.args.client c.loop.counter _ c.requires.client c.loop.invariant.words);
}
