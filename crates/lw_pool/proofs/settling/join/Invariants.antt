use Rattle.std.proofs.Common.{◌≡◌, ◌+◌, ◌-◌, ◌<◌, ◌≤◌, length, All}
use Rattle.std.specs.Vec.Iter.{into_iter_items}
use Rattle.lw_pool.specs.Sizes.{most_users}
use Rattle.lw_pool.specs.PoolEnds.{PoolEnd, IsEven, IsHome}
use Rattle.lw_pool.proofs.settling.join.Given as goal

-- so many parts are joined as the passes left do not stand for, and those left are none of them the last
abbrev pub invariant-loop-pass : goal.invariant-loop-pass
invariant-loop-pass l =
    let rest = into_iter_items l.pass-iterator in
    (l.whole.pool ≡ l.initial.whole.pool)
    × (length rest + 1 ≤ most_users)
    × IsHome (most_users - length rest) l.whole
    × All (λ (p : PoolEnd). (p.pool ≡ l.initial.whole.pool) × (p.number + 1 < p.pool.users) × IsEven p) rest
