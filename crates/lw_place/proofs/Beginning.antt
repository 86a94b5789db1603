-- A new table meets the rule.
use Rattle.std.proofs.Common.{◌≡◌, ℕ, zero, suc, ◌+◌, ◌<◌, ◌≤◌, List, [], ◌∷◌, ◌++◌, length, map, refl, sym, ap, subst, ◌∙◌, ⊎_elim, arith, All, slice_index}
use Rattle.std.specs.Prelude.{slice_index_or}
use Rattle.std.proofs.lemmas.List.{length-map, get_or_push, get_or_append_left}
use Rattle.std.proofs.lemmas.List.Elements.{All-nil, All-cons, All-head, All-tail}
use mathlib.Core.Option.{some, some-ne-none}
use lib.ListN.{get_elem?}
use mathlib.Core.Logic.{dite}
use native.Mathlib.Decide.{ℕ_discrete}
use Rattle.atomic_table.specs.Table.{opening}
use Rattle.atomic_table.proofs.Lists.{at_snoc}
use Rattle.lw_place.specs.declared.place.Place.{Place}
use Rattle.lw_place.specs.declared.table.Stand.{Stand}
use Rattle.lw_place.specs.declared.table.Homes.{Homes}
use Rattle.lw_place.specs.declared.table.PlaceView.{PlaceView}
use Rattle.lw_place.specs.PlaceWord.{most_reactors, first_word, word_of, IsBelow}
use Rattle.lw_place.specs.PlaceSeats.{Places, ThreadEnd}
use Rattle.lw_place.specs.PlaceTable.{times, stands_from, words_of, first_view, IsStanding, Fits, Placed}
use Rattle.lw_place.proofs.Standing.{times_here, times_not_here}

pub length_from : (b : ℕ) (hs : List Place) → length (stands_from b hs) ≡ length hs
length_from b [] = refl
length_from b (h ∷ hs) = let r = length_from (b + 1) hs in omega arith

times_before : (t b : ℕ) (hs : List Place) → t < b → times t (stands_from b hs) ≡ 0
times_before t b [] l = refl
times_before t b (h ∷ hs) l = let r = times_before t (b + 1) hs (omega arith) in times_not_here t (record { thread = b; place = h }) (stands_from (b + 1) hs) (λ e. omega arith) ∙ r

times_from : (t b : ℕ) (hs : List Place) → b ≤ t → t < b + length hs → times t (stands_from b hs) ≡ 1
times_from t b [] l m = absurd (omega arith)
times_from t b (h ∷ hs) l m =
    let x : Stand = record { thread = b; place = h } in
    dite (ℕ_discrete b t)
    (λ same. (let c = times_here t x (stands_from (b + 1) hs) same in let z = times_before t (b + 1) hs (omega arith) in omega arith))
    (λ differ. (let c = times_not_here t x (stands_from (b + 1) hs) differ in let r = times_from t (b + 1) hs (omega arith) (omega arith) in omega arith))

-- the word of the k-th of these
map_at : (hs : List Place) (k : ℕ) (d : Place) → k < length hs → slice_index (map word_of hs) k ≡ word_of (slice_index_or hs k d)
map_at [] k d l = absurd (omega arith)
map_at (h ∷ hs) zero d l = refl
map_at (h ∷ hs) (suc k) d l = map_at hs k d (omega arith)

standing_from : (n r b : ℕ) (ws : List ℕ) (hs : List Place) → ((k : ℕ) (d : Place) → k < length hs → slice_index ws (b + k + first_word) ≡ word_of (slice_index_or hs k d)) → b + length hs ≤ n → All (IsBelow r) hs → All (IsStanding n r ws) (stands_from b hs)
standing_from n r b ws [] at long below = All-nil (IsStanding n r ws)
standing_from n r b ws (h ∷ hs) at long below =
    let P = IsStanding n r ws in
    let x : Stand = record { thread = b; place = h } in
    let first : b + 0 + first_word ≡ b + first_word = omega arith in
    All-cons P x (stands_from (b + 1) hs)
    (record { number = omega arith; below = All-head (IsBelow r) h hs below; word = subst (λ k. slice_index ws k ≡ word_of h) first (at 0 h (omega arith)) })
    (standing_from n r (b + 1) ws hs (λ k d l. (let next : b + suc k + first_word ≡ b + 1 + k + first_word = omega arith in subst (λ i. slice_index ws i ≡ word_of (slice_index_or hs k d)) next (at (suc k) d (omega arith)))) (omega arith) (All-tail (IsBelow r) h hs below))

pub begins : (homes : Homes) (ws : List ℕ) → ws ≡ words_of homes.of.items → homes.reactors ≤ most_reactors → All (IsBelow homes.reactors) homes.of.items → Placed homes (opening ws [] (first_view homes))
begins homes ws is few below = subst (λ l. Placed homes (opening l [] (first_view homes))) (sym is) (
    let hs = homes.of.items in
    let n : ℕ = length hs in
    let ws' : List ℕ = words_of hs in
    let long = length-map hs word_of in
    let lf = length_from 0 hs in
    record {
      few = few;
      words = omega arith;
      done = refl;
      halt = refl;
      all_desks = omega arith;
      all_threads_stand = omega arith;
      stands_once = λ t b. (let c = times_from t 0 hs (omega arith) (omega arith) in omega arith);
      each = λ j u e. ⊎_elim (λ (x : get_elem? {A = PlaceView} [] j ≡ some u). absurd (some-ne-none u (sym x)))
          (λ (x : first_view homes ≡ u). subst (λ y. Fits n homes.reactors ws' 0 0 y) x
          (record {
            of_table = λ _. (refl, refl);
            standing = standing_from n homes.reactors 0 ws' hs (λ k d l. (let at : suc (suc k) ≡ 0 + k + first_word = omega arith in subst (λ i. slice_index ws' i ≡ word_of (slice_index_or hs k d)) at (map_at hs k d l))) (omega arith) below;
            retired_desks = omega arith;
            halted_desks = omega arith;
            done_seen = omega arith;
            halt_seen = omega arith;
          }))
          (at_snoc [] (first_view homes) u j e);
    })

-- the seat of a thread that starts at its place among these
abbrev pub seat_at : Places → List Place → Place → ℕ → ThreadEnd
seat_at p starts d t = record { places = p; thread = t; place = slice_index_or starts t d }

-- one more thread has its seat
pub one_more_thread : (p : Places) (starts : List Place) (ts us : List ThreadEnd) (n : ℕ) (t : ThreadEnd) → us ≡ ts ++ t ∷ [] → length ts ≡ n
    → ((k : ℕ) (d : ThreadEnd) (q : Place) → k < n → slice_index_or ts k d ≡ seat_at p starts q k) → ((q : Place) → t ≡ seat_at p starts q n)
    → (k : ℕ) (d : ThreadEnd) (q : Place) → k < n + 1 → slice_index_or us k d ≡ seat_at p starts q k
one_more_thread p starts ts us n t is long before last k d q l = ap (λ (l : List ThreadEnd). slice_index_or l k d) is ∙ dite (ℕ_discrete k n)
    (λ same. get_or_push ts t d k (long ∙ sym same) ∙ last q ∙ ap (seat_at p starts q) (sym same))
    (λ differ. get_or_append_left ts (t ∷ []) d k (omega arith) ∙ before k d q (omega arith))
