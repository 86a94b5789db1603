-- Which ops a client may have, and what each asks for.
use Rattle.std.specs.Prelude.{◌≡◌, ◌*◌, ◌<◌, ◌≤◌, true, length}
use Rattle.lw_model.specs.declared.script.Script.{Script}
use Rattle.lw_model.specs.declared.script.Op.{Op}
use Rattle.lw_model.specs.declared.script.Op.TheVariants as op
use Rattle.lw_model.specs.ScriptRules.{block_at, is_in_image}
use Rattle.lw_mail.specs.Fitting.{class_for}
use Rattle.lw_ops.specs.declared.task.Task.{Task}
use Rattle.lw_ops.specs.declared.task.Task.TheVariants as task

-- the op names an image that there is; a request's range lies in it and is not empty, a pattern isn't empty, and a wait takes a tick at
-- least
abbrev pub MayStart : Script → Op → Type 0
MayStart s (op.Get d) = d < length s.images
MayStart s (op.Put d) = d < length s.images
MayStart s (op.Write d start count pattern) = (d < length s.images) × (is_in_image s d start count ≡ true) × (1 ≤ length pattern)
MayStart s (op.Read d start count) = (d < length s.images) × (is_in_image s d start count ≡ true)
MayStart s (op.Flush d) = d < length s.images
MayStart s (op.Wait ticks) = 1 ≤ ticks
MayStart s (op.Visit d) = d < length s.images
MayStart s op.Each = Unit {0}
MayStart s (op.Unregister d) = d < length s.images

-- what an op asks for
abbrev pub task_for : Script → Op → Task
task_for s (op.Get d) = task.Get d
task_for s (op.Put d) = task.Put d
task_for s (op.Write d start count pattern) = task.Ask d
task_for s (op.Read d start count) = task.Read d (class_for (count * block_at s d))
task_for s (op.Flush d) = task.Ask d
task_for s (op.Wait ticks) = task.Wait ticks
task_for s (op.Visit d) = task.Visit d
task_for s op.Each = task.Each
task_for s (op.Unregister d) = task.Unregister d
