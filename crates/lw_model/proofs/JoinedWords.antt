-- Words with a space between each two.
use Rattle.std.proofs.Common.{◌≡◌, ℕ, List, [], ◌∷◌, ◌++◌, flat_map, sym, ap, append-nil}
use Rattle.std.specs.List.{join_with_byte}

-- words behind a first one
pub join-cons : (a : List ℕ) (ws : List (List ℕ)) → join_with_byte 32 (a ∷ ws) ≡ a ++ flat_map (λ w. 32 ∷ w) ws
join-cons a [] = sym (append-nil a)
join-cons a (w ∷ ws) = ap (λ t. a ++ 32 ∷ t) (join-cons w ws)
