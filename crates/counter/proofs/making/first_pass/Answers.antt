use Rattle.std.proofs.Common.{rules, ◌≡◌, subst, slice_index_or}
use Rattle.lw_load.specs.LoadEnds.{LoadEnd, new_pass}
use Rattle.counter.proofs.OnePass.{new_first}
use Rattle.counter.proofs.making.first_pass.Goals as goal

pub returns : goal.returns
returns c =
    let last : slice_index_or c.in_ok-passes.passes.items 0 c.unwrap.result ≡ c.unwrap.result = search rules in
    subst (λ (e : LoadEnd). e ≡ new_pass e.cell 0) last (new_first c.in_ok-passes.passes.items _ c.unwrap.result c.in_ok-passes.ensures)
