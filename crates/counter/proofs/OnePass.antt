-- What the load pass of a run's first thread is.
use Rattle.std.proofs.Common.{◌≡◌, ◌<◌, List, sym, ap, ◌∙◌, arith, slice_index_or}
use Rattle.lw_load.specs.LoadEnds.{LoadEnd, Known, AreNew, new_pass, not_read}

pub new_first : (ps : List LoadEnd) (rs : List Known) (p : LoadEnd) → AreNew 1 ps rs → slice_index_or ps 0 p ≡ new_pass (slice_index_or ps 0 p).cell 0
new_first ps rs p new =
    let within : 0 < 1 = omega arith in
    let at = new.unpublished 0 p (not_read p.cell) within in
    at ∙ ap (λ c. new_pass c 0) (sym (ap (λ (e : LoadEnd). e.cell) at))
