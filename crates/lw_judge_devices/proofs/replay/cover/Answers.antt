use Rattle.std.proofs.Common.{◌≡◌, ◌+◌, min, length, replicate, arith, rules, ap, ◌∙◌}
use Rattle.lw_judge_devices.proofs.Covers.{covered, length-part}
use Rattle.lw_judge_devices.proofs.replay.cover.Goals as goal

pub returns : goal.returns
returns c =
    let end : c.min-end.result ≡ min (c.args.start + c.args.count) (length c.args.last.now) = omega arith in
    covered c.args.last.now c.fill.new.self c.args.start c.args.count c.min-first.result c.min-end.result c.args.number end c.min-first.ensures
    (c.fill.ensures.after (search rules) ∙ ap (λ n. replicate n c.args.number) (length-part c.args.last.now c.min-first.result c.min-end.result (omega arith)))
