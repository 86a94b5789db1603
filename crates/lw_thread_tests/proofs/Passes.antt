-- What the load passes of a new run are.
use Rattle.std.proofs.Common.{◌≡◌, ℕ, ◌<◌, List, sym, ap, ◌∙◌, subst, slice_index_or}
use Rattle.lw_load.specs.LoadEnds.{LoadEnd, Known, AreNew, new_pass, not_read}

pub new_at : (n k : ℕ) (ps : List LoadEnd) (rs : List Known) (p : LoadEnd) → AreNew n ps rs → k < n → slice_index_or ps k p ≡ p → p ≡ new_pass p.cell k
new_at n k ps rs p new within is =
    let at = new.unpublished k p (not_read p.cell) within in
    subst (λ (e : LoadEnd). e ≡ new_pass e.cell k) is (at ∙ ap (λ c. new_pass c k) (sym (ap (λ (e : LoadEnd). e.cell) at)))
