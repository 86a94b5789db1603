use Rattle.std.proofs.lemmas.Result.{IfOk-weaker}
use Rattle.lw_device_tests.proofs.Alone.{rows_of_one}
use Rattle.lw_device_tests.proofs.devices.new_rows.Goals as goal

pub returns : goal.returns
returns c = IfOk-weaker c.devices.result _ _ (λ v a. rows_of_one c.args.threads v.items a) c.devices.ensures
