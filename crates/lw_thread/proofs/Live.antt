-- The numbers of the live pollers stay what they are while a poll goes through them.
use Rattle.std.proofs.Common.{◌≡◌, ℕ, ◌<◌, List, [], ◌∷◌, length, refl, ap, ◌∙◌, arith}
use Rattle.std.specs.Prelude.{slice_index_or}
use Rattle.std.specs.List.{sum_by, remove}
use Rattle.std.proofs.lemmas.List.Sums.{sum_by-remove, sum_by-insert}
use Rattle.lw_poller.specs.declared.poller.Timed.{Timed}
use Rattle.lw_poller.specs.Pollers.{Pollers, active_number, timed_number, resting_number, live_count, same, times}
use Rattle.lw_poller.specs.LocalDue.{begun, due_at}
use Rattle.lw_poller.specs.Changes.{GivesActive, GivesTimed}

-- how many live pollers have each number
abbrev pub counts : Pollers → ℕ → ℕ
counts s = λ n. times n s

pub live_begun : (now : ℕ) (s : Pollers) → counts (begun now s) ≡ counts s
live_begun now s = refl

pub live_active : (place number : ℕ) (s t : Pollers) → GivesActive place number s t → counts t ≡ counts s
live_active place number s t gives = ap counts gives.1

-- a timed poller that is put in elsewhere is counted as before
timed_count : (place : ℕ) (s t : Pollers) (number n : ℕ) → place < length s.timed → GivesTimed place number s t → times n t ≡ times n s
timed_count place s t number n within gives =
    let none : Timed = record { number = 0; period = 0; due = 0 } in
    let p : Timed = slice_index_or s.timed place none in
    let again : Timed = record p { due = due_at s.began p.period } in
    let q = gives.queued none in
    let count : Timed → ℕ = λ x. same n (timed_number x) in
    let inserted = ap (sum_by count) q.inserted ∙ sum_by-insert count (remove s.timed place) q.place again in
    let removed = sum_by-remove count s.timed place none within in
    let now = ap (λ (x : Pollers). times n x) gives.others in
    omega arith

pub live_timed : (place number : ℕ) (s t : Pollers) → place < length s.timed → GivesTimed place number s t → counts t ≡ counts s
live_timed place number s t within gives = λ i n. timed_count place s t number n within gives i

none_in : {X : Type 0} (f : X → ℕ) (xs : List X) → length xs ≡ 0 → sum_by f xs ≡ 0
none_in f [] e = refl
none_in f (x ∷ xs) e = absurd (omega arith)

-- where no poller is live, none has a number
pub none_live : (s : Pollers) → live_count s ≡ 0 → counts s ≡ (λ _. 0)
none_live s e = λ i n. each n i
  where
    each : (n : ℕ) → times n s ≡ 0
    each n =
        let a = none_in (λ p. same n (active_number p)) s.active (omega arith) in
        let t = none_in (λ p. same n (timed_number p)) s.timed (omega arith) in
        let r = none_in (λ p. same n (resting_number p)) s.resting (omega arith) in
        omega arith
