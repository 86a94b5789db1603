use Rattle.std.proofs.Common.{◌≡◌, ◌≤◌, ◌++◌, drop, take, sum_by}
use Rattle.lw_model.specs.ScriptRules.{is_in_range, read_bytes}
use Rattle.lw_script_rules.specs.First.{place_in, ops_before}
use Rattle.lw_script_rules.proofs.range.range_in.Given as goal

-- the sum is that of the ops so far, and what is sought stands among those that are left
abbrev pub invariant-loop-place : goal.invariant-loop-place
invariant-loop-place l =
    let before = ops_before l.script.clients l.client in
    let done = before ++ take l.place l.ops in
    (l.read ≡ sum_by (read_bytes l.script) done) × (l.read ≤ 16777216)
    × (place_in (is_in_range l.script) before 0 l.ops ≡ place_in (is_in_range l.script) done l.place (drop l.place l.ops))
