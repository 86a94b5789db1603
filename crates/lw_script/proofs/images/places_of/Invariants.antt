use Rattle.std.proofs.Common.{◌≡◌, ℕ, List, take, position, bytes_eq}
use Rattle.std.specs.HashMap.{get_by_text}
use Rattle.lw_script.proofs.images.places_of.Given as goal

abbrev pub invariant-loop-place : goal.invariant-loop-place
invariant-loop-place l = (name : List ℕ) → get_by_text l.places name ≡ position (λ i. bytes_eq name i.name) (take l.place l.list)
