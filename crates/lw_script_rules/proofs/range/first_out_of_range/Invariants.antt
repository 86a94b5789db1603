use Rattle.std.proofs.Common.{◌≡◌, ◌≤◌, drop, sum_by}
use Rattle.lw_model.specs.ScriptRules.{first_out_of_range, is_in_range, read_bytes}
use Rattle.lw_script_rules.specs.First.{ops_before}
use Rattle.lw_script_rules.proofs.FirstFailing.{places_of, rest}
use Rattle.lw_script_rules.proofs.range.first_out_of_range.Given as goal

-- what is sought stands among the clients that are left
abbrev pub invariant-loop-client : goal.invariant-loop-client
invariant-loop-client l =
    (l.clients ≡ l.script.clients) × (l.read ≡ sum_by (read_bytes l.script) (ops_before l.script.clients l.client)) × (l.read ≤ 16777216)
    × (places_of (first_out_of_range l.script) ≡ rest (is_in_range l.script) (ops_before l.script.clients l.client) l.client (drop l.client l.script.clients))
