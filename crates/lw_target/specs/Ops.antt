-- The ops that a client can do, and the requests that it makes of them.
use Rattle.std.specs.Prelude.{ℕ, ◌≡◌, nat_lt, Bool, true, false, List, Some, slice_get}
use Rattle.std.specs.List.{All}
use Rattle.lw_base.specs.declared.message.What.TheVariants as what
use Rattle.lw_model.specs.declared.script.Op.{Op}
use Rattle.lw_model.specs.declared.script.Op.TheVariants as op
use Rattle.lw_target.specs.declared.acts.Outgoing.{Outgoing}
use Rattle.lw_target.specs.Messages.{operands}

-- an op that a client of so many devices can do
abbrev pub is_servable : ℕ → Op → Bool
is_servable n (op.Get d) = nat_lt d n
is_servable n (op.Put d) = nat_lt d n
is_servable n (op.Write d start count pattern) = nat_lt d n
is_servable n (op.Read d start count) = nat_lt d n
is_servable n _ = false

-- an op that asks the owner of its image for something
abbrev pub asks_bytes : Op → Bool
asks_bytes (op.Write d start count pattern) = true
asks_bytes (op.Read d start count) = true
asks_bytes _ = false

-- a request of op k carries that op's operands
abbrev pub IsOfOps : List Op → Outgoing → Type 0
IsOfOps ops out = elim out.what [
  | what.Request k ↦ (o : Op) × (slice_get ops k ≡ Some o) × (asks_bytes o ≡ true) × (out.load ≡ operands o)
  | _ ↦ Unit {0}
]

abbrev pub AllOfOps : List Op → List Outgoing → Type 0
AllOfOps ops sends = All (IsOfOps ops) sends
