use Rattle.std.proofs.Common.{◌∙◌}
use Rattle.serde_json.specs.View.{view}
use Rattle.lw_script.proofs.ValueRules.{image_count-values}
use Rattle.lw_script.proofs.read.has_image_count.Goals as goal

pub returns : goal.returns
returns c = c.is_within.ensures ∙ image_count-values c.values_under.result.now (view c.args.value.now) c.values_under.ensures
