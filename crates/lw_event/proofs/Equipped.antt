-- A sleeper gets the rights to wake all.
use Rattle.std.proofs.Common.{◌≡◌, ◌≢◌, ℕ, ◌+◌, ◌<◌, ◌≤◌, List, [], length, map, set, get_or, refl, ap, sym, subst, ◌∙◌, arith}
use mathlib.Core.Logic.{dite}
use native.Mathlib.Decide.{ℕ_discrete}
use Rattle.atomic_table.specs.Seated.{TableId}
use Rattle.std.proofs.lemmas.List.{get_or-set_same, get_or-set_other, length-set}
use Rattle.std.proofs.lemmas.Simd.{map-map}
use Rattle.std.proofs.Math.Seq.{map-set_same}
use Rattle.lw_event.specs.Sleepers.{SleeperEnd, WakerEnd, new_sleeper, new_waker}

abbrev pub parker_of : SleeperEnd → TableId
parker_of s = s.parker

-- the first so many can wake each, and the others nobody
pub record AreEquipped (was now : List SleeperEnd) (at : ℕ) : Type 0 where
  pub parkers : map parker_of now ≡ map parker_of was
  pub done : (k : ℕ) (s : SleeperEnd) → k < at → get_or now k s ≡ new_sleeper (get_or now k s).parker k (map new_waker (map parker_of was))
  pub rest : (k : ℕ) (s : SleeperEnd) → at ≤ k → k < length now → get_or now k s ≡ new_sleeper (get_or now k s).parker k []

pub equipped : (was now : List SleeperEnd) (at : ℕ) (s t : SleeperEnd) (ws : List WakerEnd) → at < length now → s ≡ get_or now at s → t ≡ record s { wakers = ws }
    → ws ≡ map (λ (s : SleeperEnd). new_waker s.parker) now → AreEquipped was now at → AreEquipped was (set now at t) (at + 1)
equipped was now at s t ws within is made rights h =
    let same_parker : t.parker ≡ (get_or now at s).parker = ap parker_of made ∙ ap parker_of is in
    let all : ws ≡ map new_waker (map parker_of was) = rights ∙ sym (map-map new_waker parker_of now) ∙ ap (map new_waker) h.parkers in
    let old : s ≡ new_sleeper s.parker at [] = is ∙ subst (λ (u : SleeperEnd). u ≡ new_sleeper u.parker at []) refl (h.rest at s (omega arith) within) ∙ ap (λ (u : SleeperEnd). new_sleeper u.parker at []) (sym is) in
    let new : t ≡ new_sleeper t.parker at (map new_waker (map parker_of was)) =
    made ∙ (λ i. record (old i) { wakers = all i }) ∙ ap (λ p. new_sleeper p at (map new_waker (map parker_of was))) (sym (ap parker_of made)) in
    record {
      parkers = map-set_same parker_of now at t s same_parker ∙ h.parkers;
      done = λ k d low. dite (ℕ_discrete k at)
          (λ e. subst (λ j. get_or (set now at t) j d ≡ new_sleeper (get_or (set now at t) j d).parker j (map new_waker (map parker_of was))) (sym e)
          (subst (λ (u : SleeperEnd). u ≡ new_sleeper u.parker at (map new_waker (map parker_of was))) (sym (get_or-set_same now at t d within)) new))
          (λ ne. subst (λ (u : SleeperEnd). u ≡ new_sleeper u.parker k (map new_waker (map parker_of was))) (sym (get_or-set_other now at k t d ne)) (h.done k d (omega arith)));
      rest = λ k d above low.
          (let n = length-set now at t in
          let ne : k ≢ at = λ e. absurd (omega arith) in
          subst (λ (u : SleeperEnd). u ≡ new_sleeper u.parker k []) (sym (get_or-set_other now at k t d ne)) (h.rest k d (omega arith) (omega arith)));
    }
