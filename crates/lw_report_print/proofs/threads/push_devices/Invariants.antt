use Rattle.std.proofs.Common.{◌≡◌, ◌++◌, ◌∷◌, [], string_bytes, flat_map, take}
use Rattle.std.specs.List.{AllByRecursion, enumerate_from}
use Rattle.lw_model.specs.Ranges.{DeviceFits}
use Rattle.lw_model.specs.ReportText.{device_line}
use Rattle.lw_report_print.proofs.threads.push_devices.Given as goal

-- the devices so far stand behind what there was, and fit
abbrev pub invariant-loop-number : goal.invariant-loop-number
invariant-loop-number l = record {
  bytes : string_bytes l.out ≡ string_bytes l.initial.out ++ flat_map (λ p. device_line p.0 p.1 ++ 10 ∷ []) (enumerate_from 0 (take l.number l.devices));
  range : AllByRecursion DeviceFits (take l.number l.devices);
}
