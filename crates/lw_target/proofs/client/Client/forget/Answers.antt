use Rattle.std.proofs.Common.{rules}
use Rattle.std.specs.Prelude.{not, ◌==◌}
use Rattle.std.proofs.lemmas.Fn.{filter_same}
use Rattle.lw_target.proofs.client.Client.forget.Goals as goal

pub returns : goal.returns
returns c = filter_same _ (λ j. not (j == c.args.op)) _ (λ x b q r. search rules) _ _ c.retain.ensures.filtered
