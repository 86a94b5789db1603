-- The answer under a request is that of its place in the journal.
use Rattle.std.proofs.Common.{◌≡◌, ℕ, zero, suc, ◌<◌, ◌==◌, Bool, true, false, cond, ◌&&◌, List, [], ◌∷◌, zip, slice_get, Option, Some, None, option_and_then, refl, sym, ap, subst, ◌∙◌, arith}
use Rattle.std.proofs.lemmas.Bool.{and_from, eq-eqb, true≢false}
use Rattle.lw_model.specs.declared.script.Op.{Op}
use Rattle.lw_model.specs.declared.record.Replied.{Replied}
use Rattle.lw_model.specs.Replay.{replay, answer_after}
use Rattle.lw_model.specs.Journal.{look_up}

-- whether an entry of the journal is op k of client c
abbrev pub is_request : ℕ → ℕ → (ℕ × ℕ) → Bool
is_request c k e = e.0 == c && e.1 == k

-- where the request of place i stands nowhere before, what is found is the answer of place i
pub look_up_at : (c k i : ℕ) (journal : List (ℕ × ℕ)) (answers : List (Option Replied)) (a : Option Replied)
    → slice_get journal i ≡ Some (c, k) → ((j : ℕ) → j < i → (e : ℕ × ℕ) → slice_get journal j ≡ Some e → is_request c k e ≡ false) → slice_get answers i ≡ Some a → look_up c k (zip journal answers) ≡ a
look_up_at c k i [] answers a at none found = cc
look_up_at c k zero (e ∷ journal) [] a at none found = cc
look_up_at c k zero (e ∷ journal) (b ∷ answers) a at none found = first (is_request c k e) (subst (λ q. is_request c k q ≡ true) (sym entry) (and_from (c == c) (k == k) (eq-eqb c c refl) (eq-eqb k k refl))) ∙ answer
  where
    entry : e ≡ (c, k)
    entry = ap (λ (o : Option (ℕ × ℕ)). elim o [ Some q ↦ q | None ↦ e ]) at

    answer : b ≡ a
    answer = ap (λ (o : Option (Option Replied)). elim o [ Some q ↦ q | None ↦ b ]) found

    first : (t : Bool) → t ≡ true → cond t b (look_up c k (zip journal answers)) ≡ b
    first true is = refl
    first false is = absurd (true≢false (sym is))
look_up_at c k (suc i) (e ∷ journal) [] a at none found = cc
look_up_at c k (suc i) (e ∷ journal) (b ∷ answers) a at none found =
    skip (is_request c k e) (none 0 (omega arith) e refl) ∙ look_up_at c k i journal answers a at (λ j less q is. none (suc j) (omega (arith, less)) q is) found
  where
    skip : (t : Bool) → t ≡ false → cond t b (look_up c k (zip journal answers)) ≡ look_up c k (zip journal answers)
    skip true is = absurd (true≢false is)
    skip false is = refl

-- the items before place i, the latest first, behind those of `past`
abbrev pub before : {X : Type 0} → ℕ → List X → List X → List X
before zero past rest = past
before (suc i) past [] = past
before (suc i) past (x ∷ rest) = before i (x ∷ past) rest

-- the answer of place i is that of its op after those before it
pub replay_at : (block i : ℕ) (past rest : List (Option Op)) (o : Op) → slice_get rest i ≡ Some (Some o) → slice_get (replay block past rest) i ≡ Some (answer_after block (before i past rest) o)
replay_at block i past [] o at = cc
replay_at block zero past (x ∷ rest) o at = ap (λ q. Some (option_and_then (answer_after block past) q)) (ap (λ (w : Option (Option Op)). elim w [ Some q ↦ q | None ↦ x ]) at)
replay_at block (suc i) past (x ∷ rest) o at = replay_at block i (x ∷ past) rest o at
