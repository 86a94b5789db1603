-- What is left of a text.
use Rattle.std.proofs.Common.{ℕ, List}
use Rattle.lw_walk.specs.WalkLines.{Left}

abbrev pub left : ℕ → List (List ℕ) → Left
left n ls = record { line = n; lines = ls }
