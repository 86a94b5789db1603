-- The sum of the weights of marked ops, where one is marked or unmarked.
use Rattle.std.proofs.Common.{◌≡◌, ℕ, zero, suc, ◌+◌, ◌<◌, ◌≤◌, Bool, true, false, cond, List, [], ◌∷◌, length, refl, ap, arith}
use Rattle.std.specs.Prelude.{slice_index_or, slice_set}
use Rattle.lw_client.specs.Clients.{weigh}

at_zero : (w : ℕ → ℕ) (k : ℕ) → w (k + 1) ≡ w (suc k)
at_zero w k = ap w (omega arith)

pub weigh_mark : (w : ℕ → ℕ) (xs : List Bool) (k : ℕ) → k < length xs → slice_index_or xs k false ≡ false → weigh w (slice_set xs k true) ≡ weigh w xs + w k
weigh_mark w [] k l e = absurd (omega (arith, l))
weigh_mark w (x ∷ xs) zero l e =
    let off : cond x (w 0) 0 ≡ 0 = ap (λ b. cond b (w 0) 0) e in
    omega (arith, off)
weigh_mark w (x ∷ xs) (suc k) l e =
    let rest = weigh_mark (λ j. w (j + 1)) xs k (omega (arith, l)) e in
    let same = at_zero w k in
    omega (arith, rest, same)

pub weigh_unmark : (w : ℕ → ℕ) (xs : List Bool) (k : ℕ) → k < length xs → slice_index_or xs k false ≡ true → weigh w (slice_set xs k false) + w k ≡ weigh w xs
weigh_unmark w [] k l e = absurd (omega (arith, l))
weigh_unmark w (x ∷ xs) zero l e =
    let on : cond x (w 0) 0 ≡ w 0 = ap (λ b. cond b (w 0) 0) e in
    omega (arith, on)
weigh_unmark w (x ∷ xs) (suc k) l e =
    let rest = weigh_unmark (λ j. w (j + 1)) xs k (omega (arith, l)) e in
    let same = at_zero w k in
    omega (arith, rest, same)

-- where each op weighs at most 1, all weigh at most as many as there are
pub weigh_few : (w : ℕ → ℕ) (xs : List Bool) → ((k : ℕ) → w k ≤ 1) → weigh w xs ≤ length xs
weigh_few w [] one = omega arith
weigh_few w (true ∷ xs) one =
    let rest = weigh_few (λ k. w (k + 1)) xs (λ k. one (k + 1)) in
    let first = one 0 in
    omega (arith, rest, first)
weigh_few w (false ∷ xs) one =
    let rest = weigh_few (λ k. w (k + 1)) xs (λ k. one (k + 1)) in
    omega (arith, rest)

-- where none is marked, they weigh nothing
pub weigh_none : (w : ℕ → ℕ) (xs : List Bool) → ((k : ℕ) → slice_index_or xs k false ≡ false) → weigh w xs ≡ 0
weigh_none w [] none = refl
weigh_none w (x ∷ xs) none =
    let off : cond x (w 0) 0 ≡ 0 = ap (λ b. cond b (w 0) 0) (none 0) in
    let rest = weigh_none (λ k. w (k + 1)) xs (λ k. none (suc k)) in
    omega (arith, off, rest)

-- a marked op weighs at most what all do
pub weigh_one : (w : ℕ → ℕ) (xs : List Bool) (k : ℕ) → k < length xs → slice_index_or xs k false ≡ true → w k ≤ weigh w xs
weigh_one w xs k l e = let r = weigh_unmark w xs k l e in omega (arith, r)

-- lighter ops weigh no more
pub weigh_below : (w v : ℕ → ℕ) (xs : List Bool) → ((k : ℕ) → w k ≤ v k) → weigh w xs ≤ weigh v xs
weigh_below w v [] le = omega arith
weigh_below w v (true ∷ xs) le =
    let rest = weigh_below (λ k. w (k + 1)) (λ k. v (k + 1)) xs (λ k. le (k + 1)) in
    let first = le 0 in
    omega (arith, rest, first)
weigh_below w v (false ∷ xs) le =
    let rest = weigh_below (λ k. w (k + 1)) (λ k. v (k + 1)) xs (λ k. le (k + 1)) in
    omega (arith, rest)
