-- The scripts that the run serves so far.
use Rattle.std.specs.Prelude.{ℕ, Bool, true, false, ◌&&◌, ◌==◌, List, length, if◌then◌else◌, Option, Some, None, is_none}
use Rattle.std.specs.List.{list_all}
use Rattle.lw_model.specs.declared.script.Script.{Script}
use Rattle.lw_model.specs.declared.script.Op.{Op}
use Rattle.lw_model.specs.declared.script.Op.TheVariants as op
use Rattle.lw_model.specs.declared.refusal.ScriptRefusal.{ScriptRefusal}
use Rattle.lw_model.specs.declared.refusal.ScriptRefusal.TheVariants.{NotBuilt}
use Rattle.lw_model.specs.ScriptRules.{all_ops}
use Rattle.lw_model.specs.ScriptText.{refusal_of, script_of}

-- an op that asks nothing but an image's channel and its bytes
abbrev pub is_basic : Op → Bool
is_basic (op.Get d) = true
is_basic (op.Put d) = true
is_basic (op.Write d start count pattern) = true
is_basic (op.Read d start count) = true
is_basic _ = false

-- one client on one image, with get, put, write and read in any number and order
abbrev pub is_served : Script → Bool
is_served s = length s.images == 1 && length s.clients == 1 && list_all is_basic (all_ops s)

-- the refusal of a script whose rules all hold
abbrev pub unserved : Option Script → Option ScriptRefusal
unserved None = None
unserved (Some s) = if is_served s then None else Some NotBuilt

-- why the run takes no script from the bytes: the first rule that they break, and else the form that is not served
abbrev pub run_refusal : List ℕ → Option ScriptRefusal
run_refusal bytes = if is_none (refusal_of bytes) then unserved (script_of bytes) else refusal_of bytes
