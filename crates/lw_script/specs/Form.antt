-- The op of a form, among images of these names.
use Rattle.std.specs.Prelude.{ℕ, List}
use Rattle.lw_model.specs.declared.script.Op.{Op}
use Rattle.lw_model.specs.declared.script.Op.TheVariants as op
use Rattle.lw_model.specs.ScriptShape.{place_of, pattern_of}
use Rattle.lw_script.specs.declared.form.OpForm.{OpForm}
use Rattle.lw_script.specs.declared.form.OpForm.TheVariants as form

abbrev pub op_by : List (List ℕ) → OpForm → Op
op_by names (form.Get name) = op.Get (place_of names name.now)
op_by names (form.Put name) = op.Put (place_of names name.now)
op_by names (form.Write name start count digits) = op.Write (place_of names name.now) start count (pattern_of digits.now)
op_by names (form.Read name start count) = op.Read (place_of names name.now) start count
op_by names (form.Flush name) = op.Flush (place_of names name.now)
op_by names (form.Wait ticks) = op.Wait ticks
op_by names (form.Visit name) = op.Visit (place_of names name.now)
op_by names form.Each = op.Each
op_by names (form.Unregister name) = op.Unregister (place_of names name.now)
