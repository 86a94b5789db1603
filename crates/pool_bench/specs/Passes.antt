-- New passes of a pool.
use Rattle.std.specs.Prelude.{◌≡◌}
use Rattle.lw_pool.specs.PoolEnds.{PoolEnd, new_pass}

-- the pass has taken nothing
abbrev pub IsNew : PoolEnd → Type 0
IsNew e = e ≡ new_pass e.pool e.number
