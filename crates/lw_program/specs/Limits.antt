-- How many bytes each command takes; a report's limit is the judge's, `report_limit` of lw_judge.
use Rattle.std.specs.Prelude.{ℕ}

-- 16 MiB
abbrev pub script_limit : ℕ
script_limit = 16777216

-- 16 MiB
abbrev pub walk_limit : ℕ
walk_limit = 16777216
