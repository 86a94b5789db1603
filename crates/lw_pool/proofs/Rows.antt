-- Passes in a row: one more of a new pool, and the last of all.
use Rattle.std.proofs.Common.{◌≡◌, ℕ, ◌+◌, ◌<◌, List, [], ◌∷◌, ◌++◌, length, refl, sym, ap, subst, ◌∙◌, arith, All, length-append}
use Rattle.std.specs.Prelude.{slice_index_or}
use Rattle.std.proofs.lemmas.List.{get_or_push, get_or_append_left}
use mathlib.Core.Logic.{dite}
use native.Mathlib.Decide.{ℕ_discrete}
use Rattle.lw_pool.specs.PoolEnds.{Pool, PoolEnd, AreAllPasses, IsEven, new_pass}

-- one more pass is made
pub one_more : (p : Pool) (es fs : List PoolEnd) (n : ℕ) (e : PoolEnd) → fs ≡ es ++ e ∷ [] → length es ≡ n
    → ((k : ℕ) (d : PoolEnd) → k < n → slice_index_or es k d ≡ new_pass p k) → e ≡ new_pass p n
    → (k : ℕ) (d : PoolEnd) → k < n + 1 → slice_index_or fs k d ≡ new_pass p k
one_more p es fs n e is long before last k d l = ap (λ (l : List PoolEnd). slice_index_or l k d) is ∙ dite (ℕ_discrete k n)
    (λ same. get_or_push es e d k (long ∙ sym same) ∙ last ∙ ap (new_pass p) (sym same))
    (λ differ. get_or_append_left es (e ∷ []) d k (omega arith) ∙ before k d (omega arith))

-- a pass that is not the last of its pool, and has nothing out
abbrev pub IsOther : Pool → PoolEnd → Type 0
IsOther p e = (e.pool ≡ p) × (e.number + 1 < e.pool.users) × IsEven e

-- of all passes, the last one has the last number, and the others have not
pub record Ends (others : List PoolEnd) (last : PoolEnd) : Type 0 where
  pub users : length others + 1 ≡ last.pool.users
  pub number : last.number + 1 ≡ last.pool.users
  pub even : IsEven last
  pub before : All (IsOther last.pool) others

pub ends : (es others : List PoolEnd) (last : PoolEnd) → es ≡ others ++ last ∷ [] → AreAllPasses es → All IsEven es → Ends others last
ends es others last is a even =
    let n : ℕ = length others in
    let long : length es ≡ n + 1 = ap length is ∙ length-append others (last ∷ []) in
    let here : slice_index_or es n last ≡ last = ap (λ (l : List PoolEnd). slice_index_or l n last) is ∙ get_or_push others last last n refl in
    let pool : last.pool ≡ a.pool = subst (λ (e : PoolEnd). e.pool ≡ a.pool) here (a.of n last (omega arith)) in
    let number : last.number ≡ n = subst (λ (e : PoolEnd). e.number ≡ n) here (a.numbers n last (omega arith)) in
    let all = a.all in
    let users = ap (λ (p : Pool). p.users) pool in
    record {
      users = omega arith;
      number = omega arith;
      even = subst IsEven here (even n last (omega arith));
      before = λ k d l.
          (let at : slice_index_or es k d ≡ slice_index_or others k d = ap (λ (l : List PoolEnd). slice_index_or l k d) is ∙ get_or_append_left others (last ∷ []) d k l in
          let its = a.of k d (omega arith) in
          let its_number = a.numbers k d (omega arith) in
          let its_users = ap (λ (p : Pool). p.users) its in
          subst (IsOther last.pool) at (its ∙ sym pool, omega arith, even k d (omega arith)));
    }
