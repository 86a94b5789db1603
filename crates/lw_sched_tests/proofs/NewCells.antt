-- New passes have published nothing.
use Rattle.std.proofs.Common.{◌≡◌, ◌<◌, ℕ, List, ap, ◌∙◌}
use Rattle.std.specs.Prelude.{slice_index_or}
use Rattle.lw_load.specs.LoadEnds.{LoadEnd, Known, AreNew, not_read}

pub new_pass_of : (n k : ℕ) (ps : List LoadEnd) (rs : List Known) (p : LoadEnd) → AreNew n ps rs → k < n → p ≡ slice_index_or ps k p
    → (p.thread ≡ k) × (p.busy ≡ 0) × (p.idle ≡ 0)
new_pass_of n k ps rs p new below is =
    let e = is ∙ new.unpublished k p (not_read p.cell) below in (
      ap (λ (x : LoadEnd). x.thread) e,
      ap (λ (x : LoadEnd). x.busy) e,
      ap (λ (x : LoadEnd). x.idle) e,
    )
