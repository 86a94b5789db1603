use Rattle.std.proofs.Common.{◌∙◌, sym, ◌++◌, ◌∷◌, [], arith}
use Rattle.lw_model.specs.ReportText.{device_line}
use Rattle.lw_model.specs.Ranges.{DeviceFits}
use Rattle.lw_report_print.proofs.TextLemmas.{after, all_more, all_taken, numbered-more}
use Rattle.lw_report_print.proofs.threads.push_devices.Goals as goal

pub loop-number-preserved : goal.loop-number-preserved
loop-number-preserved c = record {
  bytes = c.in_ok-push_device.ensures.bytes ∙ after _ _ _ _ _ c.loop-number.invariant.bytes (sym (numbered-more (λ p. device_line p.0 p.1 ++ 10 ∷ []) c.args.devices.now c.loop-number.number _ c.loop-number-test.true));
  range = all_more DeviceFits c.args.devices.now c.loop-number.number _ c.loop-number-test.true c.loop-number.invariant.range c.in_ok-push_device.ensures.range;
}

pub returns-clause-range : goal.returns-clause-range
returns-clause-range c = all_taken DeviceFits c.args.devices.now c.loop-number.number (omega (arith, c.loop-number-test.false)) c.loop-number.invariant.range
