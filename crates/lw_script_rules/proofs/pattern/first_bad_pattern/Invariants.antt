use Rattle.std.proofs.Common.{◌≡◌, drop}
use Rattle.lw_model.specs.ScriptRules.{first_bad_pattern, is_pattern}
use Rattle.lw_script_rules.specs.First.{ops_before}
use Rattle.lw_script_rules.proofs.FirstFailing.{places_of, rest}
use Rattle.lw_script_rules.proofs.pattern.first_bad_pattern.Given as goal

-- what is sought stands among the clients that are left
abbrev pub invariant-loop-client : goal.invariant-loop-client
invariant-loop-client l = places_of (first_bad_pattern l.script) ≡ rest (λ _. is_pattern) (ops_before l.clients l.client) l.client (drop l.client l.clients)
