-- Threads and their words.
use Rattle.std.proofs.Common.{◌≡◌, ◌≢◌, ℕ, suc, ◌+◌, ◌<◌, ◌≤◌, if◌then◌else◌, List, [], ◌∷◌, ◌++◌, length, set, refl, ap, ◌∙◌, arith, eq-eqb, ne_eqb, All, Contains, get_or-set_other}
use Rattle.std.proofs.lemmas.List.Elements.{All-nil, All-cons, All-head, All-tail, All-weaker}
use mathlib.Core.Logic.{dite}
use native.Mathlib.Decide.{ℕ_discrete}
use Rattle.lw_place.specs.declared.place.Place.{Place}
use Rattle.lw_place.specs.declared.table.Stand.{Stand}
use Rattle.lw_place.specs.PlaceWord.{first_word}
use Rattle.lw_place.specs.PlaceTable.{times, moved_to, firsts, others, IsStanding}

pub times_append : (t : ℕ) (xs ys : List Stand) → times t (xs ++ ys) ≡ times t xs + times t ys
times_append t [] ys = omega arith
times_append t (x ∷ xs) ys = let r = times_append t xs ys in omega arith

pub times_first : (t : ℕ) (xs : List Stand) → times t (others xs) + times t (firsts xs) ≡ times t xs
times_first t [] = refl
times_first t (x ∷ xs) = omega arith

pub length_first : (xs : List Stand) → length (others xs) + length (firsts xs) ≡ length xs
length_first [] = refl
length_first (x ∷ xs) = omega arith

pub times_moved : (t : ℕ) (p : Place) (xs : List Stand) → times t (moved_to p xs) ≡ times t xs
times_moved t p [] = refl
times_moved t p (x ∷ xs) = refl

pub length_moved : (p : Place) (xs : List Stand) → length (moved_to p xs) ≡ length xs
length_moved p [] = refl
length_moved p (x ∷ xs) = refl

pub times_here : (t : ℕ) (x : Stand) (xs : List Stand) → x.thread ≡ t → times t (x ∷ xs) ≡ 1 + times t xs
times_here t x xs e = ap (λ b. (if b then 1 else 0) + times t xs) (eq-eqb x.thread t e)

pub times_not_here : (t : ℕ) (x : Stand) (xs : List Stand) → x.thread ≢ t → times t (x ∷ xs) ≡ times t xs
times_not_here t x xs e = ap (λ b. (if b then 1 else 0) + times t xs) (ne_eqb x.thread t e) ∙ omega arith

-- of threads of which t is none, no word changes with t's
pub kept_apart : (n r : ℕ) (ws : List ℕ) (t w : ℕ) (xs : List Stand) → All (IsStanding n r ws) xs → times t xs ≡ 0 → All (IsStanding n r (set ws (t + first_word) w)) xs
kept_apart n r ws t w [] h z = All-nil (IsStanding n r (set ws (t + first_word) w))
kept_apart n r ws t w (x ∷ xs) h z =
    let P = IsStanding n r ws in
    let Q = IsStanding n r (set ws (t + first_word) w) in
    let here = All-head P x xs h in
    dite (ℕ_discrete x.thread t)
    (λ same. absurd (let c = times_here t x xs same in omega arith))
    (λ differ.
    (let c = times_not_here t x xs differ in
    All-cons Q x xs
    (record { number = here.number; below = here.below; word = get_or-set_other ws (t + first_word) (x.thread + first_word) w 0 (λ e. differ (omega arith)) ∙ here.word })
    (kept_apart n r ws t w xs (All-tail P x xs h) (omega arith))))

-- no thread's word is one of the first two
pub kept_low : (n r : ℕ) (ws : List ℕ) (i w : ℕ) (xs : List Stand) → i < first_word → All (IsStanding n r ws) xs → All (IsStanding n r (set ws i w)) xs
kept_low n r ws i w xs low = All-weaker (IsStanding n r ws) (IsStanding n r (set ws i w))
    (λ x here. record { number = here.number; below = here.below; word = get_or-set_other ws i (x.thread + first_word) w 0 (λ e. omega arith) ∙ here.word }) xs

-- a thread among these
pub some_stand : (P : Stand → Type 0) (t : ℕ) (xs : List Stand) → 1 ≤ times t xs → All P xs → (x : Stand) × (x.thread ≡ t) × P x × Contains xs x
some_stand P t [] h all = absurd (omega arith)
some_stand P t (x ∷ xs) h all = dite (ℕ_discrete x.thread t)
    (λ same. (x, same, All-head P x xs all, (0, omega arith, refl)))
    (λ differ.
    (let c = times_not_here t x xs differ in
    let r = some_stand P t xs (omega arith) (All-tail P x xs all) in
    let k = r.3 in
    (r.0, r.1, r.2, (suc k.0, (let l = k.1 in omega arith), k.2))))
