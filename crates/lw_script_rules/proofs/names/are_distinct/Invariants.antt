use Rattle.std.proofs.Common.{◌≡◌, ℕ, List, take, map, bytes_eq}
use Rattle.std.specs.List.{list_any}
use Rattle.std.specs.HashSet.{contains_text}
use Rattle.lw_model.specs.ScriptRules.{is_distinct}
use Rattle.lw_script_rules.proofs.names.are_distinct.Given as goal

-- the names so far are distinct, and those seen
abbrev pub invariant-loop-item : goal.invariant-loop-item
invariant-loop-item g l =
    record {
      distinct : l.distinct ≡ is_distinct (map g.T.Named.name_of (take l.item-index l.items));
      seen : (q : List ℕ) → contains_text l.seen q ≡ list_any (bytes_eq q) (map g.T.Named.name_of (take l.item-index l.items));
    }
