use Rattle.std.proofs.Common.{◌≡◌, ◌++◌, string_bytes, flat_map, take}
use Rattle.std.specs.List.{AllByRecursion}
use Rattle.lw_report_print.proofs.printed.push_all.Given as goal

-- the texts of the items so far stand behind what there was, and these items fit
abbrev pub invariant-loop-item : goal.invariant-loop-item
invariant-loop-item g l = record {
  bytes : string_bytes l.out ≡ string_bytes l.initial.out ++ flat_map g.T.Printed.text (take l.item-index l.items);
  range : AllByRecursion g.T.Printed.fits (take l.item-index l.items);
}
