-- What a judge answers.
use Rattle.std.specs.Prelude.{ℕ, Option, Some, None}
use Rattle.lw_judge.specs.declared.answer.Verdict.{Verdict}
use Rattle.lw_judge.specs.declared.answer.Verdict.TheVariants.{Lawful, Unlawful}

-- the answer where this is the first rule that fails, with its first line
abbrev pub verdict_as : Option (ℕ × ℕ) → Verdict
verdict_as None = Lawful
verdict_as (Some p) = Unlawful p.0 p.1
