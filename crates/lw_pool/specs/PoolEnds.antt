-- What callers see of a pool's passes and buffers.
use Rattle.std.specs.Prelude.{◌≡◌, ℕ, ◌+◌, ◌-◌, ◌<◌, ◌≤◌, List, length, take, All, slice_index_or}
use Rattle.atomic_table.specs.Seated.{TableId}
use Rattle.lw_pool.specs.declared.class.Class.{Class}
use Rattle.lw_pool.specs.declared.class.Class.TheVariants.{Small, Large}
use Rattle.lw_pool.specs.declared.queue.PoolView.{PoolView}
use Rattle.lw_pool.specs.Sizes.{most_users}

-- which pool: the queues in which its buffers wait, how many buffers of each class it has, and how many passes
pub record Pool : Type 0 where
  pub small : TableId
  pub large : TableId
  pub small_count : ℕ
  pub large_count : ℕ
  pub users : ℕ

-- how many buffers of a class a pass has taken, and how many it has given back
pub record Tally : Type 0 where
  pub taken : ℕ
  pub given : ℕ

-- a pass: of which pool it is, its number, and what it has taken and given back
pub record PoolEnd : Type 0 where
  pub pool : Pool
  pub number : ℕ
  pub small : Tally
  pub large : Tally

-- a buffer that is out: the queue of its pool and class, its class, all its bytes, and how many of them are filled
pub record BufferEnd : Type 0 where
  pub queue : TableId
  pub class : Class
  pub bytes : List ℕ
  pub filled : ℕ

-- its filled bytes
abbrev pub filled_bytes : BufferEnd → List ℕ
filled_bytes b = take b.filled b.bytes

-- a pool's queue and count of a class
abbrev pub queue_of : Class → Pool → TableId
queue_of Small p = p.small
queue_of Large p = p.large

abbrev pub count_of : Class → Pool → ℕ
count_of Small p = p.small_count
count_of Large p = p.large_count

-- the buffer is of the pool
abbrev pub IsOf : Pool → BufferEnd → Type 0
IsOf p b = b.queue ≡ queue_of b.class p

-- what a pass has taken of a class and given back, and how many it has out: those are lent by it
abbrev pub taken_of : Class → PoolEnd → ℕ
taken_of Small e = e.small.taken
taken_of Large e = e.large.taken

abbrev pub given_of : Class → PoolEnd → ℕ
given_of Small e = e.small.given
given_of Large e = e.large.given

abbrev pub lent_of : Class → PoolEnd → ℕ
lent_of class e = taken_of class e - given_of class e

-- the pass with one more buffer of a class taken, and with one more given back
abbrev pub with_taken : Class → PoolEnd → PoolEnd
with_taken Small e = record e { small = record { taken = e.small.taken + 1; given = e.small.given } }
with_taken Large e = record e { large = record { taken = e.large.taken + 1; given = e.large.given } }

abbrev pub with_given : Class → PoolEnd → PoolEnd
with_given Small e = record e { small = record { taken = e.small.taken; given = e.small.given + 1 } }
with_given Large e = record e { large = record { taken = e.large.taken; given = e.large.given + 1 } }

-- a new pass of a pool
abbrev pub new_pass : Pool → ℕ → PoolEnd
new_pass p number = record { pool = p; number = number; small = record { taken = 0; given = 0 }; large = record { taken = 0; given = 0 } }

-- the passes of a new pool: pass k has number k, and no buffer is out
pub record AreNew (small large users : ℕ) (es : List PoolEnd) : Type 0 where
  pub pool : Pool
  pub small_count : pool.small_count ≡ small
  pub large_count : pool.large_count ≡ large
  pub for_users : pool.users ≡ users
  pub count : length es ≡ users
  pub each : (k : ℕ) (d : PoolEnd) → k < users → slice_index_or es k d ≡ new_pass pool k

-- these are all passes of one pool, in order
pub record AreAllPasses (es : List PoolEnd) : Type 0 where
  pub pool : Pool
  pub of : All (λ e. e.pool ≡ pool) es
  pub some : 1 ≤ length es
  pub all : length es ≡ pool.users
  pub numbers : (k : ℕ) (d : PoolEnd) → k < length es → (slice_index_or es k d).number ≡ k

-- the pass has given back as many as it took, of each class
abbrev pub IsEven : PoolEnd → Type 0
IsEven e = (e.small.taken ≡ e.small.given) × (e.large.taken ≡ e.large.given)

-- the view of the pass with this number, of a pool with so many passes and so many buffers of the class: the last pass has
-- the parts that no other has
pub record IsUser (users count number : ℕ) (v : PoolView) : Type 0 where
  pub knows : v.count ≡ count
  pub last : number + 1 ≡ users → v.parts + users ≡ most_users + 1
  pub other : number + 1 < users → v.parts ≡ 1

abbrev pub tally : PoolView → Tally
tally v = record { taken = v.taken; given = v.given }

-- a pass that others were joined to: its pool, and what it knows of each class
pub record Joined : Type 0 where
  pub pool : Pool
  pub small : PoolView
  pub large : PoolView

-- it stands for so many parts of each class, and nothing is out with it
pub record IsHome (parts : ℕ) (w : Joined) : Type 0 where
  pub small_parts : w.small.parts ≡ parts
  pub large_parts : w.large.parts ≡ parts
  pub small_even : w.small.taken ≡ w.small.given
  pub large_even : w.large.taken ≡ w.large.given
