-- What a loan of a buffer's bytes leaves.
use Rattle.std.specs.Prelude.{ℕ, ◌++◌, List, length, take, drop}
use Rattle.std.specs.Borrow.{Lends, MutBor, Fml, Array, u8}
use Rattle.lw_pool.specs.contracts.buffer.Buffer.{the_row}
use Rattle.lw_pool.specs.PoolEnds.{BufferEnd}

-- so many bytes with others written over them from the first on: where those are as many, they are those
abbrev pub overwritten : List ℕ → List ℕ → List ℕ
overwritten bytes new = take (length bytes) (new ++ drop (length new) bytes)

-- once the borrow r ends, as many bytes are filled as it showed, and they are those that it shows last
abbrev pub LendsFilled : MutBor BufferEnd → MutBor (List ℕ) → Fml
LendsFilled s r = Lends the_row (Array u8 0) s r
    (λ w. record { queue = s.now.queue; class = s.now.class; bytes = overwritten s.now.bytes w; filled = length r.now })
