-- A send is asked for behind the others, and the first one is made.
use Rattle.std.proofs.Common.{◌≡◌, ℕ, zero, suc, ◌+◌, ◌<◌, ◌==◌, Bool, true, false, cond, List, [], ◌∷◌, ◌++◌, map, filter, length, All, slice_set, refl, sym, ap, subst, ◌∙◌, arith, append_assoc, length-set}
use Rattle.std.proofs.lemmas.Bool.{eqb-true, eqb-false}
use Rattle.std.proofs.lemmas.List.{append-nil, length-append}
use Rattle.std.proofs.lemmas.List.Elements.{All-head, All-tail}
use Rattle.lw_base.specs.Letters.{list_at}
use Rattle.lw_model.specs.Sent.{to_thread}
use Rattle.lw_whole.specs.Letters.{Letter}
use Rattle.lw_whole.specs.Unsent.{named, named_from, AreSent}

to_at : (t : ℕ) (p : ℕ × Letter) (ps : List (ℕ × Letter)) (b : Bool) → (p.0 == t) ≡ b → to_thread t (p ∷ ps) ≡ map (λ (q : ℕ × Letter). q.1) (cond b (p ∷ filter (λ q. q.0 == t) ps) (filter (λ q. q.0 == t) ps))
to_at t p ps b e = ap (λ c. map (λ (q : ℕ × Letter). q.1) (cond c (p ∷ filter (λ q. q.0 == t) ps) (filter (λ q. q.0 == t) ps))) e

-- what goes to a thread, of two lists
pub to_append : (t : ℕ) (ps qs : List (ℕ × Letter)) → to_thread t (ps ++ qs) ≡ to_thread t ps ++ to_thread t qs
to_append t [] qs = refl
to_append t (p ∷ ps) qs = at (p.0 == t) refl (to_append t ps qs)
  where
    at : (b : Bool) → (p.0 == t) ≡ b → to_thread t (ps ++ qs) ≡ to_thread t ps ++ to_thread t qs → to_thread t (p ∷ (ps ++ qs)) ≡ to_thread t (p ∷ ps) ++ to_thread t qs
    at true e go = to_at t p (ps ++ qs) true e ∙ ap (λ l. p.1 ∷ l) go ∙ ap (λ l. l ++ to_thread t qs) (sym (to_at t p ps true e))
    at false e go = to_at t p (ps ++ qs) false e ∙ go ∙ ap (λ l. l ++ to_thread t qs) (sym (to_at t p ps false e))

pub named_push : (s n : ℕ) (xs : List Letter) (x : Letter) → named_from s n (xs ++ x ∷ []) ≡ named_from s n xs ++ named x s (n + length xs) ∷ []
named_push s n [] x = ap (λ k. named x s k ∷ []) (omega arith)
named_push s n (y ∷ ys) x = ap (λ l. named y s n ∷ l) (named_push s (n + 1) ys x ∙ ap (λ k. named_from s (n + 1) ys ++ named x s k ∷ []) (omega arith))

list_at_set : {L : Type 0} (s : List (List L)) (k : ℕ) (y : List L) → k < length s → list_at (slice_set s k y) k ≡ y
list_at_set [] k y l = absurd (omega arith)
list_at_set (x ∷ xs) zero y l = refl
list_at_set (x ∷ xs) (suc k) y l = list_at_set xs k y (omega arith)

list_at_other : {L : Type 0} (s : List (List L)) (k j : ℕ) (y : List L) → (k ≡ j → ⊥) → list_at (slice_set s k y) j ≡ list_at s j
list_at_other [] k j y n = refl
list_at_other (x ∷ xs) zero zero y n = absurd (n refl)
list_at_other (x ∷ xs) zero (suc j) y n = refl
list_at_other (x ∷ xs) (suc k) zero y n = refl
list_at_other (x ∷ xs) (suc k) (suc j) y n = list_at_other xs k j y (λ e. n (ap suc e))

-- the letter of a send that is asked for behind those, with the number that it gets
abbrev pub as_sent : ℕ → List (List Letter) → List (ℕ × Letter) → ℕ → Letter → Letter
as_sent s sent unsent to x = named x s (length (list_at sent to) + length (to_thread to unsent))

-- one more is asked for
pub and_asked : (s : ℕ) (sent : List (List Letter)) (unsent all : List (ℕ × Letter)) (to : ℕ) (x : Letter) → AreSent s sent unsent all
    → AreSent s sent (unsent ++ (to, x) ∷ []) (all ++ (to, as_sent s sent unsent to x) ∷ [])
and_asked s sent unsent all to x h t within = at (to == t) refl
  where
    y : Letter
    y = as_sent s sent unsent to x

    n : ℕ
    n = length (list_at sent t)

    at : (b : Bool) → (to == t) ≡ b → to_thread t (all ++ (to, y) ∷ []) ≡ list_at sent t ++ named_from s n (to_thread t (unsent ++ (to, x) ∷ []))
    at true e =
        let is : to ≡ t = eqb-true to t e in
        to_append t all ((to, y) ∷ [])
        ∙ ap (λ l. l ++ to_thread t ((to, y) ∷ [])) (h t within)
        ∙ ap (λ l. (list_at sent t ++ named_from s n (to_thread t unsent)) ++ l) (to_at t (to, y) [] true e)
        ∙ append_assoc (list_at sent t) (named_from s n (to_thread t unsent)) (y ∷ [])
        ∙ ap (λ l. list_at sent t ++ l) (
        ap (λ k. named_from s n (to_thread t unsent) ++ named x s (length (list_at sent k) + length (to_thread k unsent)) ∷ []) is
        ∙ sym (named_push s n (to_thread t unsent) x)
        ∙ ap (named_from s n) (sym (to_append t unsent ((to, x) ∷ []) ∙ ap (λ l. to_thread t unsent ++ l) (to_at t (to, x) [] true e)))
        )
    at false e =
        to_append t all ((to, y) ∷ [])
        ∙ ap (λ l. to_thread t all ++ l) (to_at t (to, y) [] false e)
        ∙ append-nil (to_thread t all)
        ∙ h t within
        ∙ ap (λ l. list_at sent t ++ named_from s n l) (sym (to_append t unsent ((to, x) ∷ []) ∙ ap (λ l. to_thread t unsent ++ l) (to_at t (to, x) [] false e) ∙ append-nil (to_thread t unsent)))

-- the first is made
pub first_made : (s : ℕ) (sent : List (List Letter)) (to : ℕ) (x : Letter) (rest all : List (ℕ × Letter)) → to < length sent → AreSent s sent ((to, x) ∷ rest) all
    → AreSent s (slice_set sent to (list_at sent to ++ named x s (length (list_at sent to)) ∷ [])) rest all
first_made s sent to x rest all in_range h t within = at (to == t) refl
  where
    y : List Letter
    y = list_at sent to ++ named x s (length (list_at sent to)) ∷ []

    was : t < length sent
    was = subst (λ n. t < n) (length-set sent to y) within

    at : (b : Bool) → (to == t) ≡ b → to_thread t all ≡ list_at (slice_set sent to y) t ++ named_from s (length (list_at (slice_set sent to y) t)) (to_thread t rest)
    at true e =
        let is : to ≡ t = eqb-true to t e in
        let now : list_at (slice_set sent to y) t ≡ y = ap (list_at (slice_set sent to y)) (sym is) ∙ list_at_set sent to y in_range in
        let count : length y ≡ length (list_at sent to) + 1 = length-append (list_at sent to) (named x s (length (list_at sent to)) ∷ []) in
        h t was
        ∙ ap (λ l. list_at sent t ++ named_from s (length (list_at sent t)) l) (to_at t (to, x) rest true e)
        ∙ ap (λ k. list_at sent k ++ named x s (length (list_at sent k)) ∷ named_from s (length (list_at sent k) + 1) (to_thread t rest)) (sym is)
        ∙ sym (append_assoc (list_at sent to) (named x s (length (list_at sent to)) ∷ []) (named_from s (length (list_at sent to) + 1) (to_thread t rest)))
        ∙ ap (λ k. y ++ named_from s k (to_thread t rest)) (sym count)
        ∙ ap (λ l. l ++ named_from s (length l) (to_thread t rest)) (sym now)
    at false e =
        let now : list_at (slice_set sent to y) t ≡ list_at sent t = list_at_other sent to t y (eqb-false to t e) in
        h t was
        ∙ ap (λ l. list_at sent t ++ named_from s (length (list_at sent t)) l) (to_at t (to, x) rest false e)
        ∙ ap (λ l. l ++ named_from s (length l) (to_thread t rest)) (sym now)

-- nothing was sent and asked for
pub none_asked : (s : ℕ) (sent : List (List Letter)) → All (λ ls. ls ≡ []) sent → AreSent s sent [] []
none_asked s sent h t within = sym (ap (λ l. l ++ []) (empty sent t h))
  where
    empty : (ls : List (List Letter)) (k : ℕ) → All (λ l. l ≡ []) ls → list_at ls k ≡ []
    empty [] k h = refl
    empty (l ∷ ls) zero h = All-head (λ l. l ≡ []) l ls h
    empty (l ∷ ls) (suc k) h = empty ls k (All-tail (λ l. l ≡ []) l ls h)

-- where nothing is still to be sent, what was sent to a thread is what of all goes to it
pub all_made : (s : ℕ) (sent : List (List Letter)) (all : List (ℕ × Letter)) → AreSent s sent [] all → (t : ℕ) → t < length sent → list_at sent t ≡ to_thread t all
all_made s sent all h t within = sym (h t within ∙ append-nil (list_at sent t))
