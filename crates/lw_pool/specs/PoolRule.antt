-- The rule of the queue in which a pool's free buffers of one class wait.
use Rattle.std.specs.Prelude.{◌≡◌, ℕ, ◌+◌, ◌-◌, ◌<◌, ◌≤◌, List, length, All}
use Rattle.std.specs.declared.alloc.Global.{Global}
use Rattle.std.specs.declared.vec.Vec.{Vec}
use mathlib.Core.Option.{some}
use lib.ListN.{get_elem?}
use Rattle.lw_base.specs.Totals.{total}
use Rattle.lw_pool.specs.declared.queue.PoolView.{PoolView}
use Rattle.lw_pool.specs.Sizes.{most_users}

abbrev pub parts : PoolView → ℕ
parts v = v.parts

-- how many buffers a pass has out: what it took, less what it gave back
abbrev pub lent : PoolView → ℕ
lent v = v.taken - v.given

-- the view of a pass that has taken nothing
abbrev pub new_view : ℕ → ℕ → PoolView
new_view parts count = record { parts = parts; count = count; taken = 0; given = 0 }

-- the first pass stands for all; the pool has no buffer yet
abbrev pub first_view : PoolView
first_view = new_view most_users 0

-- a pass that stands for none
abbrev pub idle : PoolView
idle = new_view 0 0

-- what the rule says of one view, where the pool has so many buffers of the class
pub record Fits (count : ℕ) (v : PoolView) : Type 0 where
  pub knows : 1 ≤ v.parts → v.count ≡ count
  pub gave_what_it_took : v.given ≤ v.taken
  pub idle_has_none : v.parts ≡ 0 → v.taken ≡ 0

-- the rule, where the buffers of the class have so many bytes: those that wait, and those that each pass has out, are all
-- buffers of the class, and each that waits has its size
pub record Kept (size : ℕ) (items : List (Vec ℕ Global)) (views : List PoolView) : Type 0 where
  pub count : ℕ
  pub home_or_lent : length items + total lent views ≡ count
  pub all_parts : total parts views ≡ most_users
  pub sizes : All (λ b. length b.items ≡ size) items
  pub each : (i : ℕ) (v : PoolView) → get_elem? views i ≡ some v → Fits count v

-- What each kind of step tells, of the pass's view before it, the buffer and the view after it.

-- one more buffer is put in while the pool is made
abbrev pub Stocks : PoolView → Vec ℕ Global → PoolView → Type 0
Stocks v b w = w ≡ record v { count = v.count + 1 }

-- a buffer is taken: it has the class's size, and this pass did not have all of them out
abbrev pub Takes : ℕ → PoolView → Vec ℕ Global → PoolView → Type 0
Takes size v b w = (w ≡ record v { taken = v.taken + 1 }) × (length b.items ≡ size) × (lent v < v.count)

-- a buffer is given back
abbrev pub Gives : PoolView → Vec ℕ Global → PoolView → Type 0
Gives v b w = w ≡ record v { given = v.given + 1 }

-- what a pass knows of the buffers that wait: with its own they are no more than all, and exactly all where it stands for
-- every pass
abbrev pub Counts : PoolView → List (Vec ℕ Global) → Type 0
Counts v items = (length items + lent v ≤ v.count) × (v.parts ≡ most_users → length items + lent v ≡ v.count)

-- one part is split off
abbrev pub less_one_part : PoolView → PoolView
less_one_part v = record v { parts = v.parts - 1 }

abbrev pub one_part : PoolView → PoolView
one_part v = new_view 1 v.count

-- what two passes know together
abbrev pub joined : PoolView → PoolView → PoolView
joined v w = record v { parts = v.parts + w.parts; taken = v.taken + w.taken; given = v.given + w.given }
