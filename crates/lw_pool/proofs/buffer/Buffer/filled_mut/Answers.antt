use Rattle.std.proofs.Common.{rules, ◌≡◌, ℕ, List, take, length, refl, sym, ap, ◌∙◌, arith, length-take-le}
use Rattle.lw_pool.specs.PoolEnds.{BufferEnd, filled_bytes}
use Rattle.lw_pool.specs.Lending.{overwritten}
use Rattle.lw_pool.proofs.Overwriting.{lent_bytes}
use Rattle.lw_pool.proofs.buffer.Buffer.filled_mut.Goals as goal

pub returns : goal.returns
returns c =
    let inside = c.self.inside in
    let bytes : List ℕ = inside.bytes.items in
    let queue = ap (λ (b : BufferEnd). b.queue) c.self.view_is in
    let class = ap (λ (b : BufferEnd). b.class) c.self.view_is in
    let all = ap (λ (b : BufferEnd). b.bytes) c.self.view_is in
    let filled = ap (λ (b : BufferEnd). b.filled) c.self.view_is in
    let lent : c.slice_mut.result.now ≡ take inside.filled bytes = c.slice_mut.ensures.value ∙ (search rules) in
    let long = c.self.invariant.0 in
    let fits = c.self.invariant.1 in
    let count : length c.slice_mut.result.now ≡ inside.filled = ap length lent ∙ length-take-le inside.filled bytes (omega arith) in (
      (
        refl,
        λ w i. record {
          queue = queue i;
          class = class i;
          bytes = (lent_bytes inside.bytes.len bytes w inside.bytes.ok.0 ∙ ap (λ l. overwritten l w) all) i;
          filled = sym count i;
        },
      ),
      record { writes_back = tt; value = lent ∙ ap filled_bytes c.self.view_is; length = count ∙ filled },
    )
