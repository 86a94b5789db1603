-- The two classes of buffers, and the limits of a pool.
use Rattle.std.specs.Prelude.{ℕ}
use Rattle.lw_pool.specs.declared.class.Class.{Class}
use Rattle.lw_pool.specs.declared.class.Class.TheVariants.{Small, Large}

-- how many bytes a buffer of a class has
abbrev pub size_of : Class → ℕ
size_of Small = 8192
size_of Large = 135168

-- how many passes a pool has at most, and how many buffers of a class
abbrev pub most_users : ℕ
most_users = 127

abbrev pub most_buffers : ℕ
most_buffers = 1024
