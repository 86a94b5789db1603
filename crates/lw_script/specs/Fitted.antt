-- A script whose numbers of 32 bits are at most the greatest of them.
use Rattle.std.specs.Prelude.{ℕ, min, map}
use Rattle.lw_model.specs.declared.script.Script.{Script}
use Rattle.lw_model.specs.declared.script.ImageOf.{ImageOf}
use Rattle.lw_model.specs.declared.script.ClientOf.{ClientOf}

-- a greater number breaks the same rules as the greatest does
abbrev pub fitted : ℕ → ℕ
fitted n = min n 4294967295

abbrev pub fitted_image : ImageOf → ImageOf
fitted_image i = record { name = i.name; block = fitted i.block; blocks = i.blocks }

abbrev pub fitted_client : ClientOf → ClientOf
fitted_client c = record { name = c.name; depth = fitted c.depth; ops = c.ops }

abbrev pub fitted_script : Script → Script
fitted_script s = record {
  images = map fitted_image s.images;
  clients = map fitted_client s.clients;
  small = fitted s.small;
  large = fitted s.large;
}
