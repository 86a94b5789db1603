-- Seats gathered into one.
use Rattle.std.proofs.Common.{◌≡◌, ℕ, zero, suc, ◌+◌, ◌<◌, ◌≤◌, max, List, [], ◌∷◌, ◌++◌, length, map, sym, ap, subst, ◌∙◌, ⊎_elim, arith, All, Any, Contains}
use Rattle.std.specs.Prelude.{slice_index_or}
use Rattle.std.proofs.lemmas.List.{length-map, get_or_push, get_or_append_left}
use Rattle.std.proofs.lemmas.List.Elements.{All-map, All-contains}
use Rattle.lw_place.specs.declared.place.Place.TheVariants as place
use mathlib.Core.Logic.{dite}
use native.Mathlib.Decide.{ℕ_discrete}
use Rattle.lw_place.specs.PlaceTable.{StandsAt, times}
use Rattle.lw_place.proofs.Standing.{times_here}
use Rattle.lw_place.specs.declared.place.Place.{Place}
use Rattle.lw_place.specs.declared.table.Stand.{Stand}
use Rattle.lw_place.specs.PlaceSeats.{Places, ThreadEnd, DeskEnd, BundleEnd, places_of, stand, all_retired, all_halted, most, most_seen, most_halt_seen, AreEnded, AreAllSeats, Holds}

-- what a desk has is at most the greatest
seen_most : (number : DeskEnd → ℕ) (n k : ℕ) (x : DeskEnd) (ds : List DeskEnd) → k < length ds → slice_index_or ds k x ≡ x → n ≤ number x → n ≤ most number ds
seen_most number n k x [] l is e = absurd (omega arith)
seen_most number n zero x (d ∷ ds) l is e = let same = ap number is in omega arith
seen_most number n (suc k) x (d ∷ ds) l is e = let r = seen_most number n k x ds (omega arith) is e in omega arith

any_seen : (n : ℕ) (ds : List DeskEnd) → Any (λ d. n ≤ d.done_seen) ds → n ≤ most_seen ds
any_seen n ds a = seen_most (λ d. d.done_seen) n a.0 a.1 ds a.2 a.3 a.4

-- each has at most the greatest
pub each_most : (number : DeskEnd → ℕ) (ds : List DeskEnd) → All (λ d. number d ≤ most number ds) ds
each_most number [] k d l = elim l [ ]
each_most number (x ∷ ds) zero d l = omega arith
each_most number (x ∷ ds) (suc k) d l = let r = each_most number ds k d (omega arith) in omega arith

pub most_snoc : (number : DeskEnd → ℕ) (ds : List DeskEnd) (d : DeskEnd) → most number (ds ++ d ∷ []) ≡ max (most number ds) (number d)
most_snoc number [] d = omega arith
most_snoc number (x ∷ ds) d = let r = most_snoc number ds d in omega arith

-- all desks are of one table's places
pub same_places : (p q : Places) (ds : List DeskEnd) → 1 ≤ length ds → All (λ d. d.places ≡ p) ds → All (λ d. d.places ≡ q) ds → p ≡ q
same_places p q [] some_desk h g = absurd (omega arith)
same_places p q (d ∷ ds) some_desk h g = sym (h 0 d (omega arith)) ∙ g 0 d (omega arith)

-- what the seat knows into which all were gathered
pub record Gathered (p : Places) (ts : List ThreadEnd) (ds : List DeskEnd) (b : BundleEnd) : Type 0 where
  pub of : p ≡ places_of b.table b.view
  pub desks : b.view.desks ≡ b.view.reactors
  pub retired : b.view.retired ≡ all_retired ds
  pub halted : b.view.halted ≡ all_halted ds
  pub seen : b.view.done_seen ≡ most_seen ds
  pub halt_seen : b.view.halt_seen ≡ most_halt_seen ds
  pub stands : b.view.stands ≡ map stand ts

pub gathers : (ts : List ThreadEnd) (ds : List DeskEnd) (j w : BundleEnd) (a : AreAllSeats ts ds)
    → All (λ d. d.places ≡ places_of j.table j.view) ds
    → Holds (places_of j.table j.view) (length ds) (all_retired ds) (all_halted ds) (most_seen ds) (most_halt_seen ds) [] j
    → Holds (places_of j.table j.view) j.view.desks j.view.retired j.view.halted j.view.done_seen j.view.halt_seen (j.view.stands ++ map stand ts) w
    → Gathered a.places ts ds w
gathers ts ds j w a of h g =
    let same = same_places a.places (places_of j.table j.view) ds a.some_desk a.its_desks of in
    let now : a.places ≡ places_of w.table w.view = same ∙ sym g.of in
    record {
      of = now;
      desks = (let r = ap (λ (p : Places). p.reactors) now in let d = h.desks in let e = g.desks in let all = a.all_desks in omega arith);
      retired = g.retired ∙ h.retired;
      halted = g.halted ∙ h.halted;
      seen = g.seen ∙ h.seen;
      halt_seen = g.halt_seen ∙ h.halt_seen;
      stands = g.stands ∙ ap (λ (xs : List Stand). xs ++ map stand ts) h.stands;
    }

-- all threads are there: by their count, or since a desk saw as many retired as there are
pub all_stand : (ts : List ThreadEnd) (ds : List DeskEnd) (w : BundleEnd) (done : ℕ) (a : AreAllSeats ts ds) → Gathered a.places ts ds w
    → (w.view.desks ≡ w.view.reactors → done ≡ w.view.retired) → w.view.done_seen ≤ done → length w.view.stands ≤ w.view.threads → length w.view.stands ≡ w.view.threads
all_stand ts ds w done a g is seen few =
    let n = ap (λ (p : Places). p.threads) g.of in
    let long : length w.view.stands ≡ length ts = ap length g.stands ∙ length-map ts stand in
    ⊎_elim (λ (all : length ts ≡ a.places.threads). omega arith)
    (λ (e : AreEnded a.places ts ds).
    (let most = any_seen a.places.threads ds e.seen in
    let r = e.retired in
    let count = is g.desks in
    let x = g.retired in
    let y = g.seen in
    omega arith))
    a.all_threads

-- one more thread's place is known
pub one_more_place : (xs : List Stand) (ps qs : List Place) (n : ℕ) (p : Place) → qs ≡ ps ++ p ∷ [] → length ps ≡ n
    → ((t : ℕ) (d : Place) → t < n → StandsAt xs t (slice_index_or ps t d))
    → StandsAt xs n p
    → (t : ℕ) (d : Place) → t < n + 1 → StandsAt xs t (slice_index_or qs t d)
one_more_place xs ps qs n p is long before last t d l = dite (ℕ_discrete t n)
    (λ same. (let at : slice_index_or qs t d ≡ p = ap (λ (l : List Place). slice_index_or l t d) is ∙ get_or_push ps p d t (long ∙ sym same) in
    subst (λ (y : Stand). StandsAt xs y.thread y.place) (λ i. record { thread = sym same i; place = sym at i }) last))
    (λ differ. (let at : slice_index_or qs t d ≡ slice_index_or ps t d = ap (λ (l : List Place). slice_index_or l t d) is ∙ get_or_append_left ps (p ∷ []) d t (omega arith) in
    subst (λ (q : Place). StandsAt xs t q) (sym at) (before t d (omega arith))))

-- where all of these have ended, each has
pub ends_there : (ts : List ThreadEnd) (k : ℕ) (p : Place) → All (λ t. t.place ≡ place.Ended) ts → StandsAt (map stand ts) k p → p ≡ place.Ended
ends_there ts k p ended at = All-contains (λ (x : Stand). x.place ≡ place.Ended) (map stand ts) (record { thread = k; place = p }) (All-map (λ (x : Stand). x.place ≡ place.Ended) stand ts ended) at.among

-- a thread that stands among these is there
pub times_among : (t : ℕ) (p : Place) (xs : List Stand) → Contains xs (record { thread = t; place = p }) → 1 ≤ times t xs
times_among t p xs among = go xs among.0 among.1 among.2
  where
    go : (xs : List Stand) (k : ℕ) → k < length xs → slice_index_or xs k (record { thread = t; place = p }) ≡ record { thread = t; place = p } → 1 ≤ times t xs
    go [] k l e = absurd (omega arith)
    go (x ∷ xs) zero l e = let here = times_here t x xs (ap (λ (y : Stand). y.thread) e) in omega arith
    go (x ∷ xs) (suc k) l e = let r = go xs k (omega arith) e in omega arith
