-- A round follows the rounds before it.
use Rattle.std.proofs.Common.{◌≡◌, ℕ, zero, suc, ◌+◌, ◌-◌, ◌<◌, ◌≤◌, List, [], ◌∷◌, ◌++◌, length, map, get_or, slice_get, filter_map, Option, None, Some, unwrap_or, All, Bool, true, false, nat_le, nat_lt, inl, inr, refl, sym, ap, subst, ◌∙◌, arith, ⊎_elim, le_refl}
use Rattle.std.specs.Prelude.{IfSome}
use Rattle.std.specs.List.{range_with_len, cons_option}
use Rattle.std.proofs.lemmas.Bool.{cases_lt, cases_Bool, leb-true, ltb-true, le-leb, lt-ltb}
use Rattle.std.proofs.lemmas.List.{append-nil, append_assoc, length-map, length_push}
use Rattle.std.proofs.lemmas.List.Elements.{All-nil, All-cons, All-head, All-tail, All-weaker}
use Rattle.lw_base.proofs.Lists.{heads, tails, some_same}
use Rattle.lw_base.specs.declared.moves.Row.{Row}
use Rattle.lw_base.specs.declared.moves.Round.{Round}
use Rattle.lw_place.specs.declared.place.Place.{Place}
use Rattle.lw_place.specs.declared.place.Place.TheVariants as place
use Rattle.lw_place.specs.PlaceWord.{IsBelow}
use Rattle.lw_place.specs.PlaceSeats.{DeskEnd}
use Rattle.lw_load.specs.declared.figures.Figures.{Figures}
use Rattle.lw_rounds.specs.Measures.{Look, MeterEnd, measured_of, row_in, row_of, Measures, MeasuresRows}
use Rattle.lw_rounds.specs.Rounds.{BalancerEnd, last_time, last_rows, most_rounds, IsNotBefore, IsDue, Ascend, IsRound, AreAfter, AreRounds, AreNoted, KeepsRounds, round_of}

-- ---- the last round

pub last_time_push : (time : ℕ) (xs : List Round) (x : Round) → last_time time (xs ++ x ∷ []) ≡ x.time
last_time_push time [] x = refl
last_time_push time (y ∷ ys) x = last_time_push y.time ys x

pub last_rows_push : (xs : List Round) (x : Round) → last_rows (xs ++ x ∷ []) ≡ x.rows
last_rows_push [] x = refl
last_rows_push (y ∷ []) x = refl
last_rows_push (y ∷ z ∷ zs) x = last_rows_push (z ∷ zs) x

-- the last of two and more is the last of those behind the first
last_behind : (y z : Round) (zs : List Round) → slice_get (y ∷ z ∷ zs) (length (y ∷ z ∷ zs) - 1) ≡ slice_get (z ∷ zs) (length (z ∷ zs) - 1)
last_behind y z zs =
    let at : length (y ∷ z ∷ zs) - 1 ≡ suc (length (z ∷ zs) - 1) = omega arith in
    ap (slice_get (y ∷ z ∷ zs)) at

pub last_time_at : (time : ℕ) (xs : List Round) (x : Round) → slice_get xs (length xs - 1) ≡ Some x → last_time time xs ≡ x.time
last_time_at time [] x e = cc
last_time_at time (y ∷ []) x e = ap (λ (r : Round). r.time) (some_same e)
last_time_at time (y ∷ z ∷ zs) x e = last_time_at y.time (z ∷ zs) x (sym (last_behind y z zs) ∙ e)

pub none_last : (time : ℕ) (xs : List Round) → slice_get xs (length xs - 1) ≡ None → last_time time xs ≡ time
none_last time [] e = refl
none_last time (y ∷ []) e = cc
none_last time (y ∷ z ∷ zs) e = absurd (never (z ∷ zs) (omega arith) (sym (last_behind y z zs) ∙ e))
  where
    never : (ys : List Round) → 1 ≤ length ys → slice_get ys (length ys - 1) ≡ None → ⊥
    never [] l e = omega arith
    never (y ∷ []) l e = cc
    never (y ∷ z ∷ zs) l e = never (z ∷ zs) (omega arith) (sym (last_behind y z zs) ∙ e)

-- where no round is due, though more may be made, less than a period has passed since the last
pub not_overdue : (now first : ℕ) (b : BalancerEnd) → b.first ≡ Some first → length b.rounds < most_rounds → (IsDue now b → ⊥)
    → now < last_time first b.rounds + b.period
not_overdue now first b noted few not_due = ⊎_elim (λ (l : now < last_time first b.rounds + b.period). l)
    (λ (m : last_time first b.rounds + b.period ≤ now). absurd (not_due (record { first = first; noted = noted; past = m; few = few })))
    (cases_lt now (last_time first b.rounds + b.period))

-- ---- rows that ascend

pub ascend_less : (n m : ℕ) (rows : List Row) → n ≤ m → Ascend m rows → Ascend n rows
ascend_less n m [] l a = tt
ascend_less n m (w ∷ ws) l a = (let h = a.0 in omega arith, a.1)

ascend_from : (n j : ℕ) (w : Row) (rows : List Row) → Ascend n rows → j < length rows → n ≤ (get_or rows j w).thread
ascend_from n j w [] a l = absurd (omega arith)
ascend_from n zero w (v ∷ vs) a l = a.0
ascend_from n (suc j) w (v ∷ vs) a l = let h = a.0 in let r = ascend_from (v.thread + 1) j w vs a.1 (omega arith) in omega arith

-- of two rows that ascend the thread of the later one is greater: no thread has two
pub rows_apart : (n i j : ℕ) (v w : Row) (rows : List Row) → Ascend n rows → i < j → j < length rows → (get_or rows i v).thread < (get_or rows j w).thread
rows_apart n i j v w [] a l m = absurd (omega arith)
rows_apart n i zero v w (x ∷ xs) a l m = absurd (omega arith)
rows_apart n zero (suc j) v w (x ∷ xs) a l m = let r = ascend_from (x.thread + 1) j w xs a.1 (omega arith) in omega arith
rows_apart n (suc i) (suc j) v w (x ∷ xs) a l m = rows_apart (x.thread + 1) i j v w xs a.1 (omega arith) (omega arith)

-- ---- the rows of looks

row_thread : (t : ℕ) (p : Place) (before after : Figures) (w : Row) → row_in t p before after ≡ Some w → w.thread ≡ t
row_thread t (place.List reactor) before after w e = sym (ap (λ (r : Row). r.thread) (some_same e))
row_thread t (place.Event reactor) before after w e = cc
row_thread t (place.Held reactor) before after w e = cc
row_thread t place.Ended before after w e = cc

row_reactor : (reactors t : ℕ) (p : Place) (before after : Figures) (w : Row) → IsBelow reactors p → row_in t p before after ≡ Some w → w.reactor < reactors
row_reactor reactors t (place.List reactor) before after w l e = subst (λ c. c < reactors) (ap (λ (r : Row). r.reactor) (some_same e)) l
row_reactor reactors t (place.Event reactor) before after w l e = cc
row_reactor reactors t (place.Held reactor) before after w l e = cc
row_reactor reactors t place.Ended before after w l e = cc

in_front : (n : ℕ) (o : Option Row) (rows : List Row) → ((w : Row) → o ≡ Some w → w.thread ≡ n) → Ascend (n + 1) rows → Ascend n (cons_option o rows)
in_front n None rows is a = ascend_less n (n + 1) rows (omega arith) a
in_front n (Some w) rows is a = let same = is w refl in (omega arith, subst (λ m. Ascend (m + 1) rows) (sym same) a)

rows_ascend : (n m : ℕ) (looks : List Look) → map (λ (l : Look). l.thread) looks ≡ range_with_len n m → Ascend n (filter_map row_of looks)
rows_ascend n m [] e = tt
rows_ascend n zero (l ∷ ls) e = cc
rows_ascend n (suc m) (l ∷ ls) e = in_front n (row_of l) (filter_map row_of ls)
    (λ w is. row_thread l.thread l.place l.last (measured_of l) w is ∙ heads e)
    (rows_ascend (n + 1) m ls (tails e))

kept : (P : Row → Type 0) (o : Option Row) (rows : List Row) → ((w : Row) → o ≡ Some w → P w) → All P rows → All P (cons_option o rows)
kept P None rows is all = all
kept P (Some w) rows is all = All-cons P w rows (is w refl) all

rows_all : (P : Row → Type 0) (looks : List Look) → All (λ (l : Look). (w : Row) → row_of l ≡ Some w → P w) looks → All P (filter_map row_of looks)
rows_all P [] h = All-nil P
rows_all P (l ∷ ls) h = kept P (row_of l) (filter_map row_of ls)
    (All-head (λ (l : Look). (w : Row) → row_of l ≡ Some w → P w) l ls h)
    (rows_all P ls (All-tail (λ (l : Look). (w : Row) → row_of l ≡ Some w → P w) l ls h))

threads_below : (n m : ℕ) (looks : List Look) → map (λ (l : Look). l.thread) looks ≡ range_with_len n m → All (λ (l : Look). l.thread < n + m) looks
threads_below n m [] e = All-nil (λ (l : Look). l.thread < n + m)
threads_below n zero (l ∷ ls) e = cc
threads_below n (suc m) (l ∷ ls) e =
    let here : l.thread ≡ n = heads e in
    All-cons (λ (x : Look). x.thread < n + suc m) l ls (omega arith)
    (All-weaker (λ (x : Look). x.thread < n + 1 + m) (λ (x : Look). x.thread < n + suc m) (λ x less. omega arith) ls (threads_below (n + 1) m ls (tails e)))

one_or_none : (o : Option Row) (rows : List Row) → length (cons_option o rows) ≤ length rows + 1
one_or_none None rows = omega arith
one_or_none (Some w) rows = omega arith

rows_few : (looks : List Look) → length (filter_map row_of looks) ≤ length looks
rows_few [] = omega arith
rows_few (l ∷ ls) = let a = one_or_none (row_of l) (filter_map row_of ls) in let r = rows_few ls in omega arith

-- what holds of the rows of the looks at all threads
pub record AreRows (threads reactors : ℕ) (rows : List Row) : Type 0 where
  pub few : length rows ≤ threads
  pub ascend : Ascend 0 rows
  pub threads_below : All (λ (w : Row). w.thread < threads) rows
  pub reactors_below : All (λ (w : Row). w.reactor < reactors) rows

pub measured_rows : (old new : MeterEnd) (desk desk_after : DeskEnd) (looks : List Look) → Measures old new desk desk_after looks
    → AreRows (length old.cells) desk.places.reactors (filter_map row_of looks)
measured_rows old new desk desk_after looks m =
    let n = length old.cells in
    record {
      few = (let a = rows_few looks in let b = length-map looks (λ (l : Look). l.before) in let c = ap length m.before in omega arith);
      ascend = rows_ascend 0 n looks m.threads;
      threads_below = rows_all (λ (w : Row). w.thread < n) looks
          (All-weaker (λ (l : Look). l.thread < 0 + n) (λ (l : Look). (w : Row) → row_of l ≡ Some w → w.thread < n)
          (λ l less w is. (let same = row_thread l.thread l.place l.last (measured_of l) w is in omega arith)) looks (threads_below 0 n looks m.threads));
      reactors_below = rows_all (λ (w : Row). w.reactor < desk.places.reactors) looks
          (All-weaker (λ (l : Look). IsBelow desk.places.reactors l.place) (λ (l : Look). (w : Row) → row_of l ≡ Some w → w.reactor < desk.places.reactors)
          (λ l below w is. row_reactor desk.places.reactors l.thread l.place l.last (measured_of l) w below is) looks m.below);
    }

-- ---- one round more

-- a balancer of the same run, in which other rounds were made
abbrev pub later_on : BalancerEnd → MeterEnd → Option ℕ → List Round → BalancerEnd
later_on b meter first rounds = record b { meter = meter; first = first; rounds = rounds }

after_later : (b : BalancerEnd) (meter : MeterEnd) (noted : Option ℕ) (rounds : List Round) (first : ℕ) (past xs : List Round)
    → AreAfter b first past xs → AreAfter (later_on b meter noted rounds) first past xs
after_later b meter noted rounds first past [] a = tt
after_later b meter noted rounds first past (x ∷ xs) a =
    let r = a.0 in (
      record { number = r.number; time = r.time; ascend = r.ascend; threads = r.threads; reactors = r.reactors; orders = r.orders },
      after_later b meter noted rounds first (past ++ x ∷ []) xs a.1,
    )

after_push : (b : BalancerEnd) (first : ℕ) (past xs : List Round) (x : Round) → AreAfter b first past xs → IsRound b first (past ++ xs) x
    → AreAfter b first past (xs ++ x ∷ [])
after_push b first past [] x a r = (subst (λ (p : List Round). IsRound b first p x) (append-nil past) r, tt)
after_push b first past (y ∷ ys) x a r = (a.0, after_push b first (past ++ y ∷ []) ys x a.1 (subst (λ (p : List Round). IsRound b first p x) (sym (append_assoc past (y ∷ []) ys)) r))

-- ---- when a round is due

-- the last round, or the first reading, isn't past a reading that isn't before it
pub not_before : (now : ℕ) (b : BalancerEnd) → AreRounds b → IsNotBefore now b → last_time (unwrap_or b.first now) b.rounds ≤ now
not_before now b h n = go b.first b.rounds (λ some_round. (let x = h.1 some_round in (x.0, x.1))) n
  where
    go : (o : Option ℕ) (rounds : List Round) → (1 ≤ length rounds → (first : ℕ) × (o ≡ Some first)) → IfSome o (λ first. last_time first rounds ≤ now)
        → last_time (unwrap_or o now) rounds ≤ now
    go None [] some n = le_refl now
    go None (x ∷ xs) some n = let e = (some (omega arith)).1 in cc
    go (Some first) rounds some n = n

pub due_iff : (now first last : ℕ) (b : BalancerEnd) (due answer : Bool) → b.first ≡ Some first → last ≡ last_time first b.rounds → last ≤ now
    → due ≡ nat_le b.period (now - last)
    → (due ≡ true → answer ≡ nat_lt (length b.rounds) most_rounds)
    → (due ≡ false → answer ≡ false)
    → (answer ≡ true → IsDue now b) × (IsDue now b → answer ≡ true)
due_iff now first last b due answer noted last_is past due_is then_is else_is = (
  λ yes. elim (cases_Bool due) [
    | inl d ↦
        let long = leb-true b.period (now - last) (sym due_is ∙ d) in
        record { first = first; noted = noted; past = omega arith; few = ltb-true (length b.rounds) most_rounds (sym (then_is d) ∙ yes) }
    | inr d ↦ (let wrong : false ≡ true = sym (else_is d) ∙ yes in cc)
  ],
  λ d.
      (let same : d.first ≡ first = some_same (sym d.noted ∙ noted) in
      let time = ap (λ t. last_time t b.rounds) same in
      let p = d.past in
      then_is (due_is ∙ le-leb b.period (now - last) (omega arith)) ∙ lt-ltb (length b.rounds) most_rounds d.few),
)

-- ---- what a balancer keeps

are_rounds_later : (b : BalancerEnd) (meter : MeterEnd) → AreRounds b → AreRounds (record b { meter = meter })
are_rounds_later b meter h = (
  h.0,
  λ some_round. (let x = h.1 some_round in (x.0, x.1, after_later b meter b.first b.rounds x.0 [] b.rounds x.2)),
)

-- it keeps it where figures were read
pub keeps_read : (stands : List ℕ) (b : BalancerEnd) (meter : MeterEnd) → length meter.cells ≡ length b.meter.cells → KeepsRounds stands b → KeepsRounds stands (record b { meter = meter })
keeps_read stands b meter same k = record {
  some_reactors = k.some_reactors;
  few_reactors = k.few_reactors;
  count = k.count ∙ sym same;
  few = k.few;
  period = k.period;
  rounds = are_rounds_later b meter k.rounds;
  places = k.places;
  noted = k.noted;
}

-- the rows of a round, of so many threads and reactors
pub rows_of : (old new : MeterEnd) (desk desk_after : DeskEnd) (rows : List Row) (threads reactors : ℕ) → threads ≡ length old.cells → reactors ≡ desk.places.reactors
    → MeasuresRows old new desk desk_after rows → AreRows threads reactors rows
rows_of old new desk desk_after rows threads reactors n r m =
    subst (λ (ws : List Row). AreRows threads reactors ws) (sym m.rows_are)
    (subst (λ t. AreRows t reactors (filter_map row_of m.looks)) (sym n)
    (subst (λ c. AreRows (length old.cells) c (filter_map row_of m.looks)) (sym r) (measured_rows old new desk desk_after m.looks m.measured)))

-- the round of such rows follows those before it
pub is_round : (now : ℕ) (b : BalancerEnd) (rows : List Row) (due : IsDue now b) → AreRows (length b.masks) b.reactors rows
    → IsRound b due.first b.rounds (round_of now b rows)
is_round now b rows due r = record {
  number = refl;
  time = due.past;
  ascend = r.ascend;
  threads = r.threads_below;
  reactors = r.reactors_below;
  orders = refl;
}

-- all rounds with this one more
pub are_rounds_push : (now : ℕ) (b : BalancerEnd) (rows : List Row) (meter : MeterEnd) → IsDue now b → AreRows (length b.masks) b.reactors rows → AreRounds b
    → AreRounds (record b { meter = meter; rounds = b.rounds ++ round_of now b rows ∷ [] })
are_rounds_push now b rows meter due r h =
    let x = round_of now b rows in
    let all = b.rounds ++ x ∷ [] in
    let many = length_push b.rounds x in
    let few = due.few in (
      omega arith,
      λ _. (
        due.first,
        due.noted,
        after_later b meter b.first all due.first [] all
            (after_push b due.first [] b.rounds x (before b h due.first due.noted) (is_round now b rows due r)),
      ),
    )
  where
    before : (b : BalancerEnd) → AreRounds b → (first : ℕ) → b.first ≡ Some first → AreAfter b first [] b.rounds
    before b h first noted = go b.rounds (h.1)
      where
        go : (xs : List Round) → (1 ≤ length xs → (f : ℕ) × (b.first ≡ Some f) × AreAfter b f [] xs) → AreAfter b first [] xs
        go [] all = tt
        go (x ∷ xs) all = (let a = all (omega arith) in subst (λ f. AreAfter b f [] (x ∷ xs)) (some_same (sym a.1 ∙ noted)) a.2)

-- a balancer keeps it once this round was made, and its threads were noted
pub keeps_made : (now : ℕ) (stands stands_after : List ℕ) (b : BalancerEnd) (rows : List Row) (meter : MeterEnd) → IsDue now b → AreRows (length b.masks) b.reactors rows
    → length meter.cells ≡ length b.meter.cells → length stands_after ≡ length stands → AreNoted stands_after rows → KeepsRounds stands b
    → KeepsRounds stands_after (record b { meter = meter; rounds = b.rounds ++ round_of now b rows ∷ [] })
keeps_made now stands stands_after b rows meter due r same places noted k = record {
  some_reactors = k.some_reactors;
  few_reactors = k.few_reactors;
  count = k.count ∙ sym same;
  few = k.few;
  period = k.period;
  rounds = are_rounds_push now b rows meter due r k.rounds;
  places = places ∙ k.places;
  noted = subst (AreNoted stands_after) (sym (last_rows_push b.rounds (round_of now b rows))) noted;
}

-- ---- the round that was pushed

last_push : (xs : List Round) (x : Round) → slice_get (xs ++ x ∷ []) (length (xs ++ x ∷ []) - 1) ≡ Some x
last_push [] x = refl
last_push (y ∷ ys) x =
    let long = length_push ys x in
    let at : length (y ∷ (ys ++ x ∷ [])) - 1 ≡ suc (length (ys ++ x ∷ []) - 1) = omega arith in
    ap (slice_get (y ∷ (ys ++ x ∷ []))) at ∙ last_push ys x

-- the last of these rounds is the one that was pushed
pub pushed_last : (rounds all : List Round) (x y : Round) → all ≡ rounds ++ x ∷ [] → slice_get all (length all - 1) ≡ Some y → y ≡ x
pushed_last rounds all x y e at = some_same (sym at ∙ ap (λ (l : List Round). slice_get l (length l - 1)) e ∙ last_push rounds x)
