-- Threads stay in ascending order as a token passes the next.
use Rattle.std.proofs.Common.{◌≡◌, ℕ, ◌+◌, ◌<◌, List, [], ◌∷◌, ◌++◌, length, get_or, map, ap, sym, subst, ◌∙◌, arith, length-append}
use Rattle.std.proofs.lemmas.List.{get_or_push, get_or_append_left, map-append}
use Rattle.std.proofs.lemmas.List.Elements.{All-push}
use mathlib.Core.Logic.{dite}
use native.Mathlib.Decide.{ℕ_discrete}
use Rattle.lw_base.specs.declared.message.Mark.{Mark}
use Rattle.lw_visit.specs.Tokens.{AscendBelow, thread_of}

-- no thread as yet
pub ascend_none : (bound : ℕ) → AscendBelow bound []
ascend_none bound = record { ascending = λ k l. absurd (omega arith); below = λ k d l. absurd (omega arith) }

-- the thread at the bound adds nothing
pub ascend_past : (bound : ℕ) (ts : List ℕ) → AscendBelow bound ts → AscendBelow (bound + 1) ts
ascend_past bound ts a = record { ascending = a.ascending; below = λ k d l. omega (arith, a.below k d l) }

-- the thread at the bound goes last
pub ascend_push : (bound : ℕ) (ts : List ℕ) → AscendBelow bound ts → AscendBelow (bound + 1) (ts ++ bound ∷ [])
ascend_push bound ts a = record {
  ascending = λ k l.
      let size = length-append ts (bound ∷ []) in
      let here : get_or (ts ++ bound ∷ []) k 0 ≡ get_or ts k 0 = get_or_append_left ts (bound ∷ []) 0 k (omega arith) in
      dite (ℕ_discrete (length ts) (k + 1))
      (λ last. let next : get_or (ts ++ bound ∷ []) (k + 1) 0 ≡ bound = get_or_push ts bound 0 (k + 1) last in omega (arith, here, next, a.below k 0 (omega arith)))
      (λ within. let next : get_or (ts ++ bound ∷ []) (k + 1) 0 ≡ get_or ts (k + 1) 0 = get_or_append_left ts (bound ∷ []) 0 (k + 1) (omega arith) in omega (arith, here, next, a.ascending k (omega arith)));
  below = All-push (λ (t : ℕ). t < bound + 1) ts bound (λ k d l. omega (arith, a.below k d l)) (omega arith);
}

-- the same of the threads of marks
pub marks_push : (bound : ℕ) (ms : List Mark) (m : Mark) → m.thread ≡ bound → AscendBelow bound (map thread_of ms) → AscendBelow (bound + 1) (map thread_of (ms ++ m ∷ []))
marks_push bound ms m is a = let last : m.thread ∷ [] ≡ bound ∷ [] = ap (λ (t : ℕ). t ∷ []) is in
    subst (AscendBelow (bound + 1)) (sym (map-append thread_of ms (m ∷ []) ∙ ap (λ (l : List ℕ). map thread_of ms ++ l) last)) (ascend_push bound (map thread_of ms) a)
