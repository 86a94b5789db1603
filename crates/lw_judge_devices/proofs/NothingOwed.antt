-- A table of what is owed in which nothing is noted yet.
use Rattle.std.proofs.Common.{◌≡◌, ℕ, List, length, slice_get, replicate, Option, Some, None}
use Rattle.std.specs.Global.{Vec}
use Rattle.lw_model.specs.declared.script.Script.{Script}
use Rattle.lw_model.specs.declared.record.Replied.{Replied}
use Rattle.lw_model.specs.Threads.{ops_of}

-- each row has a place for each op of its thread, and nothing in it
abbrev pub AreEmpty : Script → List (Vec (Option Replied)) → Type 0
AreEmpty s rows = (t : ℕ) (row : Vec (Option Replied)) → slice_get rows t ≡ Some row → row.items ≡ replicate (length (ops_of s t)) None
