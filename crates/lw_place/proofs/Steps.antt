-- Each kind of step keeps the rule of the places.
use Rattle.std.proofs.Common.{◌≡◌, ℕ, suc, ◌+◌, ◌++◌, ◌-◌, ◌*◌, ◌%◌, ◌<◌, ◌≤◌, min, List, [], ◌∷◌, length, set, refl, sym, ap, subst, ◌∙◌, arith, All, Contains, slice_index, Some, length-set, get_or-set_same, get_or-set_other}
use Rattle.std.proofs.lemmas.List.Elements.{All-nil, All-cons, All-head, All-weaker}
use mathlib.Core.Option.{none, some}
use lib.ListN.{get_elem?}
use Rattle.atomic_table.specs.Table.{keeps, step, Allows}
use Rattle.lw_place.specs.declared.place.Place.{Place}
use Rattle.lw_place.specs.declared.place.Place.TheVariants as place
use Rattle.lw_place.specs.declared.table.Stand.{Stand}
use Rattle.lw_place.specs.declared.table.Homes.{Homes}
use Rattle.lw_place.specs.declared.table.PlaceView.{PlaceView}
use Rattle.lw_base.specs.Totals.{total}
use Rattle.lw_base.specs.Words.{above_u64}
use Rattle.lw_place.specs.PlaceWord.{most_threads, most_reactors, done_word, halt_word, first_word, word_of, place_of, IsBelow, IsWord}
use Rattle.lw_place.specs.PlaceTable.{desks, retired, halted, thread_count, count_of, times, moved_to, IsStanding, Placed, Sat, with_view, begun, begins_first, Moves, Begins, Retires, Halts, LooksAtDone, LooksAtHalt, Looks, LearnsDone, LearnsHalt, Learns}
use Rattle.lw_base.proofs.Totals.{total_set, at_le, others_none, total_only, some_view}
use Rattle.lw_place.proofs.Words.{place_in_word, is_word}
use Rattle.lw_place.proofs.Standing.{times_moved, length_moved, times_here, kept_apart, kept_low, some_stand}
use Rattle.lw_place.proofs.Rule.{St, Follows, Makes, changed, read}

-- what stays where the views stay but for what was seen
seeing : (homes : Homes) (s : St) (id : ℕ) (v w : PlaceView) → Placed homes s → get_elem? s.views id ≡ some v
    → w.stands ≡ v.stands → w.desks ≡ v.desks → w.retired ≡ v.retired → w.halted ≡ v.halted
    → w.done_seen ≤ slice_index s.words done_word → w.halt_seen ≤ total halted s.views
    → Makes homes s id v w s.words
seeing homes s id v w h at st d r hl done halts =
    let th = total_set halted s.views id v w at in
    let g = h.each id v at in
    record {
      words = refl;
      done = omega arith;
      halt = h.halt ∙ ap (λ k. min 1 k) (omega arith);
      apart = λ j u _ e. (h.each j u e).standing;
      own = subst (λ xs. All (IsStanding (length homes.of.items) homes.reactors s.words) xs) (sym st) g.standing;
      retired_desks = (let a = g.retired_desks in omega arith);
      halted_desks = (let a = g.halted_desks in omega arith);
      done_seen = done;
      halt_seen = omega arith;
    }

unmoved : (v w : PlaceView) → w.threads ≡ v.threads → w.reactors ≡ v.reactors → w.stands ≡ v.stands → w.desks ≡ v.desks → v.retired ≤ w.retired → v.halted ≤ w.halted → Follows v w
unmoved v w t r st d re hl = record { threads = t; reactors = r; desks = d; count = ap length st; times = λ k. ap (times k) st; retired = re; halted = hl }

pub moves : (homes : Homes) (slots id : ℕ) (me : Sat) (x : Stand) (p : Place) → me.0.stands ≡ x ∷ [] → me.0.reactors ≤ most_reactors → 1 ≤ me.0.threads → IsBelow me.0.reactors p
    → Allows (Placed homes) slots id me (x.thread + first_word) (λ _. word_of p) (λ _. Moves (step slots (x.thread + first_word) (word_of p) 0 none) me (word_of p))
moves homes slots id me x p is few some_threads below s h _ at small =
    let v = me.0 in
    let n : ℕ = length homes.of.items in
    let g = h.each id v at in
    let o = g.of_table some_threads in
    let P = IsStanding n homes.reactors s.words in
    let here = All-head P x [] (subst (λ xs. All P xs) is g.standing) in
    let w : PlaceView = record v { stands = moved_to (place_of (word_of p)) v.stands } in
    let t : ℕ = x.thread in
    let ws : List ℕ = set s.words (t + first_word) (word_of p) in
    let Q = IsStanding n homes.reactors ws in
    let b = here.number in
    let long = h.words in
    let same = place_in_word v.reactors p few below in
    let y : Stand = record x { place = p } in
    let stands_now : w.stands ≡ y ∷ [] = ap (λ (q : Place). moved_to q v.stands) same ∙ ap (λ xs. moved_to p xs) is in
    let once : count_of t v ≡ 1 = ap (λ xs. times t xs) is ∙ times_here t x [] refl in
    let all_here : total (count_of t) s.views ≡ count_of t v = h.stands_once t b ∙ sym once in
    let th = total_set halted s.views id v w at in
    let own : All Q (y ∷ []) = All-cons Q y [] (record { number = b; below = subst (λ r. IsBelow r p) o.1 below; word = get_or-set_same s.words (t + first_word) (word_of p) 0 (omega arith) }) (All-nil Q) in (
      w,
      keeps,
      tt,
      changed homes s id v w ws h at
          (record { threads = refl; reactors = refl; desks = refl; count = length_moved (place_of (word_of p)) v.stands; times = λ k. times_moved k (place_of (word_of p)) v.stands; retired = omega arith; halted = omega arith })
          (record {
            words = length-set s.words (t + first_word) (word_of p);
            done = ap (λ k. k + v.retired) (get_or-set_other s.words (t + first_word) done_word (word_of p) 0 (λ e. omega arith));
            halt = get_or-set_other s.words (t + first_word) halt_word (word_of p) 0 (λ e. omega arith) ∙ h.halt ∙ ap (λ k. min 1 k) (omega arith);
            apart = λ j u apart e. kept_apart n homes.reactors s.words t (word_of p) u.stands (h.each j u e).standing (others_none (count_of t) s.views id v at all_here j u apart e);
            own = subst (λ xs. All Q xs) (sym stands_now) own;
            retired_desks = g.retired_desks;
            halted_desks = g.halted_desks;
            done_seen = (let a = g.done_seen in let d = h.done in let e = get_or-set_other s.words (t + first_word) done_word (word_of p) 0 (λ e. omega arith) in omega arith);
            halt_seen = (let a = g.halt_seen in omega arith);
          }),
      refl,
    )

pub moves_to : (homes : Homes) (slots id : ℕ) (me : Sat) (x : Stand) (p : Place) (word : ℕ) → word ≡ word_of p → me.0.stands ≡ x ∷ [] → me.0.reactors ≤ most_reactors → 1 ≤ me.0.threads → IsBelow me.0.reactors p
    → Allows (Placed homes) slots id me (x.thread + first_word) (λ _. word) (λ _. Moves (step slots (x.thread + first_word) word 0 none) me word)
moves_to homes slots id me x p word e is few some_threads below =
    subst (λ k. Allows (Placed homes) slots id me (x.thread + first_word) (λ _. k) (λ _. Moves (step slots (x.thread + first_word) k 0 none) me k)) (sym e) (moves homes slots id me x p is few some_threads below)

-- to start is to move from where the thread is held to that reactor's list
pub begins_to : (homes : Homes) (slots id : ℕ) (me : Sat) (x : Stand) (c : ℕ) (word : ℕ) → word ≡ word_of (place.List c) → me.0.stands ≡ x ∷ [] → x.place ≡ place.Held c → me.0.reactors ≤ most_reactors → 1 ≤ me.0.threads → c < me.0.reactors
    → Allows (Placed homes) slots id me (x.thread + first_word) (λ _. word) (λ _. Begins (step slots (x.thread + first_word) word 0 none) me word)
begins_to homes slots id me x c word e is held few some_threads below s h long at small =
    let moved = moves_to homes slots id me x (place.List c) word e is few some_threads below s h long at small in
    let v = me.0 in
    let there : place_of word ≡ place.List c = ap place_of e ∙ place_in_word v.reactors (place.List c) few below in
    let by_move : moved_to (place_of word) v.stands ≡ record x { place = place.List c } ∷ [] = ap (λ (q : Place). moved_to q v.stands) there ∙ ap (λ xs. moved_to (place.List c) xs) is in
    let by_start : begins_first v.stands ≡ record x { place = place.List c } ∷ [] = ap begins_first is ∙ ap (λ (q : Place). record x { place = begun q } ∷ []) held in
    (moved.0, moved.1, moved.2, moved.3, moved.4 ∙ ap (λ (xs : List Stand). with_view me (record v { stands = xs })) (by_move ∙ sym by_start))

pub retires : (homes : Homes) (slots id : ℕ) (me : Sat) → me.0.desks ≡ 1 → me.0.retired < most_threads
    → Allows (Placed homes) slots id me done_word (λ n. (n + 1) % above_u64) (Retires (step slots done_word 1 0 none) me)
retires homes slots id me one_desk room s h _ at small =
    let v = me.0 in
    let n : ℕ = slice_index s.words done_word in
    let g = h.each id v at in
    let w : PlaceView = record v { retired = v.retired + 1 } in
    let ws : List ℕ = set s.words done_word ((n + 1) % above_u64) in
    let long = h.words in
    let is_done = h.done in
    let few = h.few in
    let all = h.all_desks in
    let few_done : total retired s.views ≤ most_threads * total desks s.views = bounded s.views (λ j u e. (h.each j u e).retired_desks) in
    let is : slice_index ws done_word ≡ n + 1 = get_or-set_same s.words done_word ((n + 1) % above_u64) 0 (omega arith) ∙ omega arith in
    let th = total_set halted s.views id v w at in (
      w,
      keeps,
      tt,
      changed homes s id v w ws h at (unmoved v w refl refl refl refl (omega arith) (omega arith))
          (record {
            words = length-set s.words done_word ((n + 1) % above_u64);
            done = omega arith;
            halt = get_or-set_other s.words done_word halt_word ((n + 1) % above_u64) 0 (λ e. omega arith) ∙ h.halt ∙ ap (λ k. min 1 k) (omega arith);
            apart = λ j u _ e. kept_low (length homes.of.items) homes.reactors s.words done_word ((n + 1) % above_u64) u.stands (omega arith) (h.each j u e).standing;
            own = kept_low (length homes.of.items) homes.reactors s.words done_word ((n + 1) % above_u64) v.stands (omega arith) g.standing;
            retired_desks = (let a = g.retired_desks in omega arith);
            halted_desks = g.halted_desks;
            done_seen = (let a = g.done_seen in omega arith);
            halt_seen = (let a = g.halt_seen in omega arith);
          }),
      refl,
    )
  where
    bounded : (vs : List PlaceView) → ((j : ℕ) (u : PlaceView) → get_elem? vs j ≡ some u → u.retired ≤ most_threads * u.desks) → total retired vs ≤ most_threads * total desks vs
    bounded [] each = omega arith
    bounded (u ∷ us) each = let one = each 0 u refl in let r = bounded us (λ j x e. each (suc j) x e) in omega arith

pub halts : (homes : Homes) (slots id : ℕ) (me : Sat) → me.0.desks ≡ 1 → me.0.halted ≤ 1
    → Allows (Placed homes) slots id me halt_word (λ _. 1) (λ _. Halts (step slots halt_word 1 0 none) me 1)
halts homes slots id me one_desk once s h _ at small =
    let v = me.0 in
    let g = h.each id v at in
    let w : PlaceView = record v { halted = 1 } in
    let ws : List ℕ = set s.words halt_word 1 in
    let long = h.words in
    let th = total_set halted s.views id v w at in
    let there = at_le halted s.views id v at in
    let e0 = get_or-set_other s.words halt_word done_word 1 0 (λ e. omega arith) in (
      w,
      keeps,
      tt,
      changed homes s id v w ws h at (unmoved v w refl refl refl refl (omega arith) once)
          (record {
            words = length-set s.words halt_word 1;
            done = omega arith;
            halt = get_or-set_same s.words halt_word 1 0 (omega arith) ∙ omega arith;
            apart = λ j u _ e. kept_low (length homes.of.items) homes.reactors s.words halt_word 1 u.stands (omega arith) (h.each j u e).standing;
            own = kept_low (length homes.of.items) homes.reactors s.words halt_word 1 v.stands (omega arith) g.standing;
            retired_desks = g.retired_desks;
            halted_desks = omega arith;
            done_seen = (let a = g.done_seen in let d = h.done in omega arith);
            halt_seen = (let a = g.halt_seen in omega arith);
          }),
      refl,
    )

pub looks_at_done : (homes : Homes) (slots id : ℕ) (me : Sat) → Allows (Placed homes) slots id me done_word (λ n. n) (LooksAtDone (step slots done_word 0 0 none) me)
looks_at_done homes slots id me s h _ at small =
    let v = me.0 in
    let n : ℕ = slice_index s.words done_word in
    let g = h.each id v at in
    let d = h.done in
    let there = at_le retired s.views id v at in
    let w : PlaceView = record v { looks = v.looks + 1; done_seen = n } in (
      w,
      keeps,
      tt,
      read homes s id done_word v w h at (unmoved v w refl refl refl refl (omega arith) (omega arith)) (seeing homes s id v w h at refl refl refl refl (omega arith) g.halt_seen),
      record { sees = refl; no_less = (let a = g.done_seen in omega arith); own = omega arith },
    )

pub looks_at_halt : (homes : Homes) (slots id : ℕ) (me : Sat) → Allows (Placed homes) slots id me halt_word (λ n. n) (LooksAtHalt (step slots halt_word 0 0 none) me)
looks_at_halt homes slots id me s h _ at small =
    let v = me.0 in
    let n : ℕ = slice_index s.words halt_word in
    let g = h.each id v at in
    let d = h.done in
    let is = h.halt in
    let there = at_le halted s.views id v at in
    let seen = g.halt_seen in
    let w : PlaceView = record v { looks = v.looks + 1; halt_seen = n } in (
      w,
      keeps,
      tt,
      read homes s id halt_word v w h at (unmoved v w refl refl refl refl (omega arith) (omega arith)) (seeing homes s id v w h at refl refl refl refl (let a = g.done_seen in omega arith) (omega arith)),
      record { sees = refl; bit = omega arith; stays = λ some_halt. omega arith },
    )

-- the word of a thread holds a place
stands_there : (homes : Homes) (s : St) (t : ℕ) → Placed homes s → t < length homes.of.items → (x : Stand) × (x.thread ≡ t) × IsStanding (length homes.of.items) homes.reactors s.words x
stands_there homes s t h b =
    let one = h.stands_once t b in
    let v = some_view (count_of t) s.views (omega arith) in
    let x = some_stand (IsStanding (length homes.of.items) homes.reactors s.words) t v.1.stands v.3 (h.each v.0 v.1 v.2).standing in
    (x.0, x.1, x.2)

word_at : (ws : List ℕ) (x : Stand) (t : ℕ) → x.thread ≡ t → slice_index ws (x.thread + first_word) ≡ word_of x.place → slice_index ws (t + first_word) ≡ word_of x.place
word_at ws x t e is = subst (λ k. slice_index ws (k + first_word) ≡ word_of x.place) e is

pub looks : (homes : Homes) (slots id : ℕ) (me : Sat) (t : ℕ) → 1 ≤ me.0.threads → t < me.0.threads
    → Allows (Placed homes) slots id me (t + first_word) (λ n. n) (Looks (step slots (t + first_word) 0 0 none) me)
looks homes slots id me t some_threads below s h _ at small =
    let v = me.0 in
    let n : ℕ = slice_index s.words (t + first_word) in
    let g = h.each id v at in
    let o = g.of_table some_threads in
    let o0 = o.0 in
    let d = h.done in
    let there = stands_there homes s t h (omega arith) in
    let x = there.0 in
    let f = there.2 in
    let is : word_of x.place ≡ n = sym (word_at s.words x t there.1 f.word) in
    let place_is : x.place ≡ place_of n = sym (place_in_word homes.reactors x.place h.few f.below) ∙ ap place_of is in
    let w : PlaceView = record v { looks = v.looks + 1; found = v.found ++ record { thread = t + first_word - first_word; place = place_of n } ∷ [] } in (
      w,
      keeps,
      tt,
      read homes s id (t + first_word) v w h at (unmoved v w refl refl refl refl (omega arith) (omega arith)) (seeing homes s id v w h at refl refl refl refl (let a = g.done_seen in omega arith) g.halt_seen),
      record {
        sees = refl;
        below = subst (λ r. IsBelow r (place_of n)) (sym o.1) (subst (λ (p : Place). IsBelow homes.reactors p) place_is f.below);
        fits = subst IsWord is (is_word homes.reactors x.place h.few f.below);
      },
    )

same : (homes : Homes) (s : St) (id i : ℕ) (v : PlaceView) → Placed homes s → get_elem? s.views id ≡ some v → Placed homes (record { words = set s.words i (slice_index s.words i); homes = s.homes; views = set s.views id v })
same homes s id i v h at =
    let g = h.each id v at in
    let d = h.done in
    read homes s id i v v h at (unmoved v v refl refl refl refl (omega arith) (omega arith)) (seeing homes s id v v h at refl refl refl refl (let a = g.done_seen in omega arith) g.halt_seen)

pub learns_done : (homes : Homes) (slots id : ℕ) (me : Sat) → 1 ≤ me.0.threads → Allows (Placed homes) slots id me done_word (λ n. n) (LearnsDone (step slots done_word 0 0 none) me)
learns_done homes slots id me some_threads s h _ at small =
    let v = me.0 in
    let g = h.each id v at in
    let o = g.of_table some_threads in
    let o0 = o.0 in
    let o1 = o.1 in
    let d = h.done in
    let all = h.all_desks in
    let all_threads_stand = h.all_threads_stand in
    let mine = at_le thread_count s.views id v at in (
      v,
      keeps,
      tt,
      same homes s id done_word v h at,
      record {
        same = refl;
        all = λ has_all. (let none_else = others_none desks s.views id v at (omega arith) in
            let only = total_only retired s.views id v at (λ j u apart e. (let z = none_else j u apart e in let k = (h.each j u e).retired_desks in omega arith)) in
            omega arith);
        seen = (let a = g.done_seen in omega arith);
        few = omega arith;
        once = λ t below. (let one = h.stands_once t (omega arith) in let here = at_le (count_of t) s.views id v at in omega arith);
      },
    )

pub learns_halt : (homes : Homes) (slots id : ℕ) (me : Sat) → 1 ≤ me.0.threads → Allows (Placed homes) slots id me halt_word (λ n. n) (LearnsHalt (step slots halt_word 0 0 none) me)
learns_halt homes slots id me some_threads s h _ at small =
    let v = me.0 in
    let o1 = ((h.each id v at).of_table some_threads).1 in
    let all = h.all_desks in (
      v,
      keeps,
      tt,
      same homes s id halt_word v h at,
      record {
        same = refl;
        all = λ has_all. (let none_else = others_none desks s.views id v at (omega arith) in
            let only = total_only halted s.views id v at (λ j u apart e. (let z = none_else j u apart e in let k = (h.each j u e).halted_desks in omega arith)) in
            h.halt ∙ ap (λ k. min 1 k) only);
        seen = λ was. (let a = (h.each id v at).halt_seen in let z = h.halt in omega arith);
      },
    )

-- where a seat that stands for all threads knows that this one stands, and the word says so
own_stand : (homes : Homes) (s : St) (id : ℕ) (v : PlaceView) (t : ℕ) → Placed homes s → get_elem? s.views id ≡ some v → t < length homes.of.items → length v.stands ≡ length homes.of.items
    → (x : Stand) × (x.thread ≡ t) × IsStanding (length homes.of.items) homes.reactors s.words x × Contains v.stands x
own_stand homes s id v t h at below has_all =
    let all = h.all_threads_stand in
    let none_else = others_none thread_count s.views id v at (omega arith) in
    let only = total_only (count_of t) s.views id v at (λ j u apart e. no_times t u.stands (none_else j u apart e)) in
    let one = h.stands_once t below in
    some_stand (IsStanding (length homes.of.items) homes.reactors s.words) t v.stands (omega arith) (h.each id v at).standing
  where
    no_times : (t : ℕ) (xs : List Stand) → length xs ≡ 0 → times t xs ≡ 0
    no_times t [] e = refl
    no_times t (x ∷ xs) e = absurd (omega arith)

pub learns : (homes : Homes) (slots id : ℕ) (me : Sat) (t : ℕ) → 1 ≤ me.0.threads → t < me.0.threads
    → Allows (Placed homes) slots id me (t + first_word) (λ n. n) (Learns (step slots (t + first_word) 0 0 none) me)
learns homes slots id me t some_threads below s h _ at small =
    let v = me.0 in
    let n : ℕ = slice_index s.words (t + first_word) in
    let g = h.each id v at in
    let o = g.of_table some_threads in
    let o0 = o.0 in
    let P = IsStanding (length homes.of.items) homes.reactors s.words in (
      v,
      keeps,
      tt,
      same homes s id (t + first_word) v h at,
      record {
        same = refl;
        fits = λ has_all.
            (let there = own_stand homes s id v t h at (omega arith) (omega arith) in
            let x = there.0 in
            let f = there.2 in
            subst IsWord (sym (word_at s.words x t there.1 f.word)) (is_word homes.reactors x.place h.few f.below));
        there = λ has_all.
            (let there = own_stand homes s id v t h at (omega arith) (omega arith) in
            let x = there.0 in
            let f = there.2 in
            let place_is : x.place ≡ place_of n = sym (place_in_word homes.reactors x.place h.few f.below) ∙ ap place_of (sym (word_at s.words x t there.1 f.word)) in
            let number : x.thread ≡ t + first_word - first_word = there.1 ∙ omega arith in
            record {
              among = subst (λ (y : Stand). Contains v.stands y) (λ i. record { thread = number i; place = place_is i }) there.3;
              alone = All-weaker P (λ y. y.thread ≡ t + first_word - first_word → y.place ≡ place_of n)
                  (λ y here it. (let this : y.thread ≡ t = it ∙ omega arith in sym (place_in_word homes.reactors y.place h.few here.below) ∙ ap place_of (sym (word_at s.words y t this here.word)))) v.stands g.standing;
            });
      },
    )
