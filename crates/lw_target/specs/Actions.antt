-- What a client's op asks it to do.
use Rattle.std.specs.Prelude.{ℕ, Bool, true, false, ◌==◌, List, Some, None, option_and_then, slice_get}
use Rattle.lw_model.specs.declared.script.Op.{Op}
use Rattle.lw_model.specs.declared.script.Op.TheVariants as op
use Rattle.lw_model.specs.ScriptRules.{image_of}
use Rattle.lw_target.specs.declared.action.Action.{Action}
use Rattle.lw_target.specs.declared.action.Action.TheVariants as action

-- an op of those that a client serves
abbrev pub action_on : Op → Action
action_on (op.Get d) = action.Get d
action_on (op.Put d) = action.Put d
action_on (op.Write d start count pattern) = action.Ask d
action_on (op.Read d start count) = action.Ask d
action_on _ = action.Get 0

abbrev pub device_of : Action → ℕ
device_of (action.Get d) = d
device_of (action.Put d) = d
device_of (action.Ask d) = d

abbrev pub is_ask : Action → Bool
is_ask (action.Ask d) = true
is_ask _ = false

-- the op with number k of these is about image d
abbrev pub names_image : List Op → ℕ → ℕ → Bool
names_image ops d k = elim (option_and_then image_of (slice_get ops k)) [ None ↦ false | Some e ↦ e == d ]
