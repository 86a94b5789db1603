-- A place and its word are each other's.
use Rattle.std.proofs.Common.{◌≡◌, ℕ, ◌+◌, ◌-◌, ◌*◌, ◌/◌, ◌%◌, ◌<◌, ◌≤◌, nat_lt, if◌then◌else◌, refl, ◌∙◌, arith, eq-eqb, ne_eqb}
use Rattle.std.proofs.lemmas.Bool.{lt-ltb, ltb-true, false_from_ne_true}
use Rattle.lw_place.specs.declared.place.Place.{Place}
use Rattle.lw_place.specs.declared.place.Place.TheVariants as place
use Rattle.lw_place.specs.PlaceWord.{most_reactors, ended_word, held_word, word_of, listed_place, place_of, IsBelow, IsWord}

-- a word below that of a held thread
below_held : (w : ℕ) → w < held_word → place_of w ≡ listed_place w
below_held w h =
    let some_reactor = ne_eqb w ended_word (λ e. omega arith) in
    let low = lt-ltb w held_word h in
    λ i. if some_reactor i then place.Ended else if low i then listed_place w else place.Held (w - held_word)

list_word : (c : ℕ) → c < most_reactors → place_of (2 * c) ≡ place.List c
list_word c h =
    let even = eq-eqb (2 * c % 2) 0 (omega arith) in
    let half : 2 * c / 2 ≡ c = omega arith in
    below_held (2 * c) (omega arith) ∙ (λ i. if even i then place.List (half i) else place.Event (2 * c / 2))

event_word : (c : ℕ) → c < most_reactors → place_of (2 * c + 1) ≡ place.Event c
event_word c h =
    let odd = ne_eqb ((2 * c + 1) % 2) 0 (λ e. omega arith) in
    let half : (2 * c + 1) / 2 ≡ c = omega arith in
    below_held (2 * c + 1) (omega arith) ∙ (λ i. if odd i then place.List ((2 * c + 1) / 2) else place.Event (half i))

held_of_word : (c : ℕ) → c < most_reactors → place_of (held_word + c) ≡ place.Held c
held_of_word c h =
    let some_reactor = ne_eqb (held_word + c) ended_word (λ e. omega arith) in
    let high = false_from_ne_true (nat_lt (held_word + c) held_word) (λ e. (let l = ltb-true (held_word + c) held_word e in omega arith)) in
    let same : held_word + c - held_word ≡ c = omega arith in
    λ i. if some_reactor i then place.Ended else if high i then listed_place (held_word + c) else place.Held (same i)

pub place_in_word : (reactors : ℕ) (p : Place) → reactors ≤ most_reactors → IsBelow reactors p → place_of (word_of p) ≡ p
place_in_word reactors (place.List c) few h = list_word c (omega arith)
place_in_word reactors (place.Event c) few h = event_word c (omega arith)
place_in_word reactors (place.Held c) few h = held_of_word c (omega arith)
place_in_word reactors place.Ended few h = refl

pub is_word : (reactors : ℕ) (p : Place) → reactors ≤ most_reactors → IsBelow reactors p → IsWord (word_of p)
is_word reactors (place.List c) few h = λ _. omega arith
is_word reactors (place.Event c) few h = λ _. omega arith
is_word reactors (place.Held c) few h = λ _. omega arith
is_word reactors place.Ended few h = λ ne. absurd (ne refl)
