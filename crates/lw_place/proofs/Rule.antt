-- One seat's view changes, and the rule is kept.
use Rattle.std.proofs.Common.{◌≡◌, ◌≢◌, ℕ, ◌+◌, ◌*◌, ◌≤◌, min, List, length, set, sym, subst, ◌∙◌, ⊎_elim, arith, All, slice_index}
use Rattle.std.proofs.lemmas.List.{set-get_or}
use mathlib.Core.Option.{some}
use lib.ListN.{get_elem?}
use Rattle.atomic_table.specs.Table.{State}
use Rattle.atomic_table.proofs.Lists.{at_set}
use Rattle.lw_place.specs.PlaceWord.{most_threads, done_word, halt_word}
use Rattle.lw_place.specs.declared.table.Homes.{Homes}
use Rattle.lw_place.specs.declared.table.PlaceView.{PlaceView}
use Rattle.lw_base.specs.Totals.{total}
use Rattle.lw_place.specs.PlaceTable.{desks, retired, halted, thread_count, count_of, times, IsStanding, Fits, Placed}
use Rattle.lw_base.proofs.Totals.{total_set}

abbrev pub St : Type 0
St = State (Unit {0}) PlaceView

-- the view w stands for what v stands for, and counts no less
pub record Follows (v w : PlaceView) : Type 0 where
  pub threads : w.threads ≡ v.threads
  pub reactors : w.reactors ≡ v.reactors
  pub desks : w.desks ≡ v.desks
  pub count : length w.stands ≡ length v.stands
  pub times : (t : ℕ) → times t w.stands ≡ times t v.stands
  pub retired : v.retired ≤ w.retired
  pub halted : v.halted ≤ w.halted

-- the words ws are those that the changed view makes
pub record Makes (homes : Homes) (s : St) (id : ℕ) (v w : PlaceView) (ws : List ℕ) : Type 0 where
  pub words : length ws ≡ length s.words
  pub done : slice_index ws done_word + v.retired ≡ slice_index s.words done_word + w.retired
  pub halt : slice_index ws halt_word ≡ min 1 (total halted (set s.views id w))
  pub apart : (j : ℕ) (u : PlaceView) → j ≢ id → get_elem? s.views j ≡ some u → All (IsStanding (length homes.of.items) homes.reactors ws) u.stands
  pub own : All (IsStanding (length homes.of.items) homes.reactors ws) w.stands
  pub retired_desks : w.retired ≤ most_threads * w.desks
  pub halted_desks : w.halted ≤ w.desks
  pub done_seen : w.done_seen ≤ slice_index ws done_word
  pub halt_seen : w.halt_seen ≤ total halted (set s.views id w)

pub changed : (homes : Homes) (s : St) (id : ℕ) (v w : PlaceView) (ws : List ℕ) → Placed homes s → get_elem? s.views id ≡ some v → Follows v w → Makes homes s id v w ws
    → Placed homes (record { words = ws; homes = s.homes; views = set s.views id w })
changed homes s id v w ws h at f m =
    let n : ℕ = length homes.of.items in
    let vs : List PlaceView = set s.views id w in
    let td = total_set desks s.views id v w at in
    let tr = total_set retired s.views id v w at in
    let th = total_set halted s.views id v w at in
    let ts = total_set thread_count s.views id v w at in
    let fd = f.desks in
    let fs = f.count in
    let fr = f.retired in
    let fh = f.halted in
    let md = m.done in
    let hd = h.done in
    let now : slice_index ws done_word ≡ total retired vs = omega arith in
    let more : total retired s.views ≤ total retired vs = omega arith in
    let more_halts : total halted s.views ≤ total halted vs = omega arith in
    record {
      few = h.few;
      words = m.words ∙ h.words;
      done = now;
      halt = m.halt;
      all_desks = (let a = h.all_desks in omega arith);
      all_threads_stand = (let a = h.all_threads_stand in omega arith);
      stands_once = λ t b. (let tt = total_set (count_of t) s.views id v w at in let same = f.times t in let a = h.stands_once t b in omega arith);
      each = λ j u e. ⊎_elim
          (λ (x : (j ≡ id) × (w ≡ u)). subst (λ y. Fits n homes.reactors ws (total retired vs) (total halted vs) y) x.1
          (record {
            of_table = λ some_threads. (let o = (h.each id v at).of_table (let a = f.threads in omega arith) in (f.threads ∙ o.0, f.reactors ∙ o.1));
            standing = m.own;
            retired_desks = m.retired_desks;
            halted_desks = m.halted_desks;
            done_seen = (let a = m.done_seen in omega arith);
            halt_seen = m.halt_seen;
          }))
          (λ (x : (j ≢ id) × (get_elem? s.views j ≡ some u)).
          (let g = h.each j u x.1 in
          record {
            of_table = g.of_table;
            standing = m.apart j u x.0 x.1;
            retired_desks = g.retired_desks;
            halted_desks = g.halted_desks;
            done_seen = (let a = g.done_seen in omega arith);
            halt_seen = (let a = g.halt_seen in omega arith);
          }))
          (at_set s.views id j w u e);
    }

-- the same where no word changes
pub read : (homes : Homes) (s : St) (id i : ℕ) (v w : PlaceView) → Placed homes s → get_elem? s.views id ≡ some v → Follows v w → Makes homes s id v w s.words
    → Placed homes (record { words = set s.words i (slice_index s.words i); homes = s.homes; views = set s.views id w })
read homes s id i v w h at f m = subst (λ ws. Placed homes (record { words = ws; homes = s.homes; views = set s.views id w })) (sym (set-get_or s.words i 0)) (changed homes s id v w s.words h at f m)
