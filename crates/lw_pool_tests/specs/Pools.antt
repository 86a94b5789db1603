-- Passes of a pool of four that go through a storm.
use Rattle.std.specs.Prelude.{◌≡◌}
use Rattle.lw_pool.specs.PoolEnds.{PoolEnd, IsEven, new_pass}

-- the pass has taken nothing
abbrev pub IsNew : PoolEnd → Type 0
IsNew e = e ≡ new_pass e.pool e.number

-- it is the same pass, and has given back what it took
abbrev pub IsBack : PoolEnd → PoolEnd → Type 0
IsBack old new = (new.pool ≡ old.pool) × (new.number ≡ old.number) × IsEven new

-- these are the four passes of one pool, in order
abbrev pub AreFour : PoolEnd → PoolEnd → PoolEnd → PoolEnd → Type 0
AreFour a b c d = (a.pool.users ≡ 4) × (b.pool ≡ a.pool) × (c.pool ≡ a.pool) × (d.pool ≡ a.pool)
    × (a.number ≡ 0) × (b.number ≡ 1) × (c.number ≡ 2) × (d.number ≡ 3)
