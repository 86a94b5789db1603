-- Which ops are requests.
use Rattle.std.specs.Prelude.{ℕ, Option, Some, None}
use Rattle.lw_model.specs.declared.script.Op.{Op}
use Rattle.lw_model.specs.declared.script.Op.TheVariants as op
use Rattle.lw_ops.specs.declared.kind.Kind.{Kind}
use Rattle.lw_ops.specs.declared.kind.Kind.TheVariants as kind

-- the image of an op that is a request of this kind
abbrev pub requested : Kind → Option Op → Option ℕ
requested kind.Write (Some (op.Write d start count pattern)) = Some d
requested kind.Read (Some (op.Read d start count)) = Some d
requested kind.Flush (Some (op.Flush d)) = Some d
requested _ _ = None
