-- The first of the sends that are still to be made is made.
use Rattle.std.proofs.Common.{◌≡◌, ℕ, zero, suc, ◌+◌, ◌<◌, ◌==◌, Bool, true, false, List, [], ◌∷◌, ◌++◌, length, slice_set, refl, sym, ap, subst, ◌∙◌, arith, append_assoc, length-set}
use Rattle.std.proofs.lemmas.Bool.{eqb-true, eqb-false}
use Rattle.std.proofs.lemmas.List.{append-nil}
use Rattle.lw_base.specs.Letters.{list_at}
use Rattle.lw_model.specs.Sent.{to_thread}
use Rattle.lw_whole.specs.Letters.{Letter}
use Rattle.lw_whole.specs.Unsent.{named, named_from}
use Rattle.lw_whole.proofs.Unsent.{to_append, named_push}
use Rattle.lw_history.specs.Made.{AreMade}

pub length_named : (s n : ℕ) (xs : List Letter) → length (named_from s n xs) ≡ length xs
length_named s n [] = refl
length_named s n (x ∷ xs) = omega (arith, length_named s (n + 1) xs)

list_at_set : {L : Type 0} (s : List (List L)) (k : ℕ) (y : List L) → k < length s → list_at (slice_set s k y) k ≡ y
list_at_set [] k y l = absurd (omega arith)
list_at_set (x ∷ xs) zero y l = refl
list_at_set (x ∷ xs) (suc k) y l = list_at_set xs k y (omega arith)

list_at_other : {L : Type 0} (s : List (List L)) (k j : ℕ) (y : List L) → (k ≡ j → ⊥) → list_at (slice_set s k y) j ≡ list_at s j
list_at_other [] k j y n = refl
list_at_other (x ∷ xs) zero zero y n = absurd (n refl)
list_at_other (x ∷ xs) zero (suc j) y n = refl
list_at_other (x ∷ xs) (suc k) zero y n = refl
list_at_other (x ∷ xs) (suc k) (suc j) y n = list_at_other xs k j y (λ e. n (ap suc e))

-- what a send goes to, and what it does not go to
pub to_this : (t : ℕ) (p : ℕ × Letter) → (p.0 == t) ≡ true → to_thread t (p ∷ []) ≡ p.1 ∷ []
to_this t p e = rw e refl

pub to_another : (t : ℕ) (p : ℕ × Letter) → (p.0 == t) ≡ false → to_thread t (p ∷ []) ≡ []
to_another t p e = rw e refl

pub sends_are_made : (s : ℕ) (sent : List (List Letter)) (to : ℕ) (x : Letter) (rest all : List (ℕ × Letter)) → to < length sent → AreMade s sent ((to, x) ∷ rest) all
    → AreMade s (slice_set sent to (list_at sent to ++ named x s (length (list_at sent to)) ∷ [])) rest all
sends_are_made s sent to x rest all in_range h = record {
  made = h.made ++ (to, x) ∷ [];
  parts = h.parts ∙ sym (append_assoc h.made ((to, x) ∷ []) rest);
  each = λ t within. at t (subst (λ n. t < n) (length-set sent to y) within) (to == t) refl;
}
  where
    y : List Letter
    y = list_at sent to ++ named x s (length (list_at sent to)) ∷ []

    at : (t : ℕ) → t < length sent → (b : Bool) → (to == t) ≡ b → list_at (slice_set sent to y) t ≡ named_from s 0 (to_thread t (h.made ++ (to, x) ∷ []))
    at t within true e =
        let is : to ≡ t = eqb-true to t e in
        let here = h.each to in_range in
        let count : length (list_at sent to) ≡ 0 + length (to_thread to h.made) = ap length here ∙ length_named s 0 (to_thread to h.made) ∙ omega arith in
        let more : to_thread to (h.made ++ (to, x) ∷ []) ≡ to_thread to h.made ++ x ∷ [] = to_append to h.made ((to, x) ∷ []) ∙ ap (λ l. to_thread to h.made ++ l) (to_this to (to, x) (ap (λ k. to == k) is ∙ e)) in
        let there : list_at (slice_set sent to y) to ≡ named_from s 0 (to_thread to (h.made ++ (to, x) ∷ [])) =
        list_at_set sent to y in_range
        ∙ ap (λ l. l ++ named x s (length (list_at sent to)) ∷ []) here
        ∙ ap (λ n. named_from s 0 (to_thread to h.made) ++ named x s n ∷ []) count
        ∙ sym (named_push s 0 (to_thread to h.made) x)
        ∙ ap (named_from s 0) (sym more)
        in
        subst (λ k. list_at (slice_set sent to y) k ≡ named_from s 0 (to_thread k (h.made ++ (to, x) ∷ []))) is there
    at t within false e =
        list_at_other sent to t y (eqb-false to t e)
        ∙ h.each t within
        ∙ ap (named_from s 0) (sym (to_append t h.made ((to, x) ∷ []) ∙ ap (λ l. to_thread t h.made ++ l) (to_another t (to, x) e) ∙ append-nil (to_thread t h.made)))

pub none_are_made : (s : ℕ) (sent : List (List Letter)) → ((t : ℕ) → t < length sent → list_at sent t ≡ []) → AreMade s sent [] []
none_are_made s sent none = record { made = []; parts = refl; each = none }

pub sends_are_asked : (s : ℕ) (sent : List (List Letter)) (unsent all now : List (ℕ × Letter)) → AreMade s sent unsent all → AreMade s sent (unsent ++ now) (all ++ now)
sends_are_asked s sent unsent all now h = record { made = h.made; parts = ap (λ l. l ++ now) h.parts ∙ append_assoc h.made unsent now; each = h.each }

pub sends_are_replaced : (s : ℕ) (sent : List (List Letter)) (p : ℕ × Letter) (rest all now all2 : List (ℕ × Letter)) → (k : AreMade s sent (p ∷ rest) all) → all2 ≡ k.made ++ now ++ rest → AreMade s sent (now ++ rest) all2
sends_are_replaced s sent p rest all now all2 k e = record { made = k.made; parts = e ∙ append_assoc k.made now rest; each = k.each }
