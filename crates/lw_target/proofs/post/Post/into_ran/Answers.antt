use Rattle.std.proofs.Common.{◌∙◌, ap, map}
use Rattle.lw_target.specs.WholeRun.{are_numbered}
use Rattle.lw_target.proofs.Numbers.{numbered_front}
use Rattle.lw_target.proofs.post.Post.into_ran.Goals as goal

pub returns-clause-numbered : goal.returns-clause-numbered
returns-clause-numbered c = ap are_numbered c.from_vec.ensures ∙ numbered_front c.self.inside.ran.items (map (λ m. m.tag) c.self.inside.waiting.items) c.self.invariant.2.numbered
