-- What was read at a place of a list is what stands there.
use Rattle.std.proofs.Common.{◌≡◌, ℕ, ◌<◌, List, length, get_or, slice_get, Some, refl, ap, subst, arith}
use Rattle.std.proofs.lemmas.Option.{slice_get_read}

-- of a list that is equal
pub is_in : {X : Type 0} (xs ys : List X) (i : ℕ) (x : X) → xs ≡ ys → i < length ys → x ≡ get_or xs i x → slice_get ys i ≡ Some x
is_in xs ys i x same below is = subst (λ l. slice_get l i ≡ Some x) same (slice_get_read xs (length xs) i x refl (omega (arith, below, ap length same)) is)
