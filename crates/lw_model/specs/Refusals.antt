-- The line that a refusal of a script prints as.
use Rattle.std.specs.Prelude.{ℕ, List, ◌++◌, codes, decimal}
use Rattle.lw_model.specs.declared.refusal.ScriptRefusal.{ScriptRefusal}
use Rattle.lw_model.specs.declared.refusal.ScriptRefusal.TheVariants as refusal

abbrev pub refusal_line : ScriptRefusal → List ℕ
refusal_line refusal.TooLong = codes "script: too long"
refusal_line refusal.NotJson = codes "script: not JSON"
refusal_line (refusal.Shape rule) = codes "script: shape " ++ decimal rule
refusal_line refusal.Version = codes "script: version"
refusal_line (refusal.Limit rule) = codes "script: limit " ++ decimal rule
refusal_line refusal.Name = codes "script: name"
refusal_line (refusal.Range client op) = codes "script: range at client " ++ decimal client ++ codes " op " ++ decimal op
refusal_line (refusal.Pattern client op) = codes "script: pattern at client " ++ decimal client ++ codes " op " ++ decimal op
refusal_line refusal.NotBuilt = codes "script: not built"
refusal_line refusal.NoMemory = codes "out of memory"
