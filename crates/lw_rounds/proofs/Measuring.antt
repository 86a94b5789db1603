-- What is measured of the threads, and what is found of them, thread by thread.
use Rattle.std.proofs.Common.{◌≡◌, ◌⊎◌, inl, inr, ℕ, zero, suc, ◌+◌, ◌-◌, ◌<◌, ◌≤◌, List, [], ◌∷◌, ◌++◌, length, map, drop, set, get_or, replicate, filter_map, option_to_list, Option, None, Some, All, unwrap_or, refl, sym, ap, subst, ◌∙◌, arith, le_refl}
use Rattle.std.specs.List.{range_with_len, cons_option}
use Rattle.std.proofs.lemmas.List.{append-nil, append_assoc, length-map, length_push, drop_more, drop_all, map_push, get_or-append-add, set-append_right}
use Rattle.std.proofs.lemmas.List.Elements.{All-nil, All-push, filter_map-append}
use Rattle.std.proofs.lemmas.Option.{get_or_from_slice_get}
use Rattle.lw_base.proofs.Lists.{get_within, range_push}
use Rattle.lw_base.specs.declared.moves.Row.{Row}
use Rattle.lw_place.specs.declared.place.Place.{Place}
use Rattle.lw_place.specs.declared.place.Place.TheVariants as place
use Rattle.lw_place.specs.declared.table.Stand.{Stand}
use Rattle.lw_place.specs.PlaceWord.{IsBelow}
use Rattle.lw_place.specs.PlaceSeats.{DeskEnd}
use Rattle.lw_load.specs.declared.figures.Figures.{Figures}
use Rattle.lw_load.specs.LoadEnds.{Known, once_more}
use Rattle.lw_rounds.specs.Measures.{Look, MeterEnd, measured_of, stand_of, row_in, row_of, IsRead, HasRead, HasOnlyLooked, MeasuresRows, LooksAt}

-- ---- one thread

-- what is known of a thread
abbrev pub known_at : (cells : List Known) (t : ℕ) → t < length cells → Known
known_at cells t l = (get_within cells t l).0

pub known_is : (cells : List Known) (t : ℕ) (l : t < length cells) (k : Known) → get_or cells t k ≡ known_at cells t l
known_is cells t l k = get_or_from_slice_get cells t (known_at cells t l) k (get_within cells t l).1

-- an entry that is there is found whatever stands for one that isn't
pub same_at : {X : Type 0} (xs : List X) (t : ℕ) (d e x : X) → t < length xs → x ≡ get_or xs t e → get_or xs t d ≡ x
same_at xs t d e x l is =
    let w = get_within xs t l in
    get_or_from_slice_get xs t w.0 d w.1 ∙ sym (get_or_from_slice_get xs t w.0 e w.1) ∙ sym is

-- what holds of no other entry holds of none
pub only_none : {X : Type 0} (P : Option X → Type 0) → ((x : X) → P (Some x) → ⊥) → (o : Option X) → P o → o ≡ None
only_none P not None h = refl
only_none P not (Some x) h = absurd (not x h)

-- so many of one thing, by a list of as many others
pub alike : {X Y : Type 0} (x : X) (ys : List Y) → replicate (length ys) x ≡ map (λ y. x) ys
alike x [] = refl
alike x (y ∷ ys) = ap (λ xs. x ∷ xs) (alike x ys)

-- a thread that isn't in a list has no row
pub no_row : (t : ℕ) (p : Place) (last now : Figures) → ((reactor : ℕ) → p ≡ place.List reactor → ⊥) → None ≡ row_in t p last now
no_row t (place.List reactor) last now not = absurd (not reactor refl)
no_row t (place.Event reactor) last now not = refl
no_row t (place.Held reactor) last now not = refl
no_row t place.Ended last now not = refl

pub looks_at : (m : MeterEnd) (new : List Known) (t : ℕ) (f last : Figures) (told : Option Figures) (desk desk_after : DeskEnd) (p : Place) (row : Option Row)
    → t < length m.cells
    → ((k : Known) → new ≡ set m.cells t (once_more (get_or m.cells t k) f.busy f.idle))
    → ((k : Known) → ((get_or m.cells t k).busy ≤ f.busy) × ((get_or m.cells t k).idle ≤ f.idle))
    → ((d : Figures) → get_or m.measured t d ≡ last)
    → ((o : Option Figures) → get_or m.told t o ≡ told)
    → desk_after ≡ record desk { looks = desk.looks + 1; found = desk.found ++ record { thread = t; place = p } ∷ [] }
    → IsBelow desk.places.reactors p
    → row ≡ row_in t p last (unwrap_or told f)
    → LooksAt t m (record { cells = new; measured = set m.measured t (unwrap_or told f); told = set m.told t None }) desk desk_after row
looks_at m new t f last told desk desk_after p row l found least last_is told_is seen below is =
    let k = known_at m.cells t l in
    let same = known_is m.cells t l k in
    let least_k = subst (λ (x : Known). (x.busy ≤ f.busy) × (x.idle ≤ f.idle)) same (least k) in
    record {
      look = record { thread = t; place = p; before = k; after = once_more k f.busy f.idle; last = last; told = told };
      its = refl;
      before = known_is m.cells t l;
      last = last_is;
      told = told_is;
      read = record { once = refl; busy = least_k.0; idle = least_k.1 };
      below = below;
      meter = λ i. record {
        cells = (found k ∙ ap (λ (x : Known). set m.cells t (once_more x f.busy f.idle)) same) i;
        measured = set m.measured t (unwrap_or told f);
        told = set m.told t None;
      };
      found = seen;
      row_is = is;
    }

-- ---- a list with an entry a thread, of which those of the first threads were told or set

at_middle : {X : Type 0} (xs ys : List X) (x d : X) (n : ℕ) → length xs ≡ n → get_or (xs ++ x ∷ ys) n d ≡ x
at_middle xs ys x d n e =
    let at : n ≡ length xs + 0 = omega arith in
    ap (λ m. get_or (xs ++ x ∷ ys) m d) at ∙ get_or-append-add xs (x ∷ ys) 0 d

set_middle : {X : Type 0} (xs ys : List X) (x y : X) (n : ℕ) → length xs ≡ n → set (xs ++ x ∷ ys) n y ≡ xs ++ y ∷ ys
set_middle xs ys x y n e =
    let none : n - n ≡ 0 = omega arith in
    set-append_right xs (x ∷ ys) n n y e (le_refl n) ∙ ap (λ m. xs ++ set (x ∷ ys) m y) none

-- the entry of the next thread is one of the first list, and joins those that were told of the second
told_more : {X : Type 0} (old new : Look → X) (looks : List Look) (x : Look) (xs ys : List X) (n : ℕ) → length looks ≡ n → n < length xs
    → map old looks ++ drop n xs ≡ xs → map new looks ++ drop n xs ≡ ys → ((d : X) → get_or ys n d ≡ old x)
    → map old (looks ++ x ∷ []) ++ drop (n + 1) xs ≡ xs
told_more old new looks x xs ys n count less told changed here =
    let d = old x in
    let h = get_or xs n d in
    let rest = drop (n + 1) xs in
    let one : drop n xs ≡ h ∷ rest = drop_more xs n d less in
    let long : length (map new looks) ≡ n = length-map looks new ∙ count in
    let now : ys ≡ map new looks ++ h ∷ rest = sym changed ∙ ap (λ zs. map new looks ++ zs) one in
    let same : old x ≡ h = sym (here d) ∙ ap (λ zs. get_or zs n d) now ∙ at_middle (map new looks) rest h d n long in
    ap (λ zs. zs ++ rest) (map_push old looks x)
    ∙ append_assoc (map old looks) (old x ∷ []) rest
    ∙ ap (λ k. map old looks ++ k ∷ rest) same
    ∙ ap (λ zs. map old looks ++ zs) (sym one)
    ∙ told

-- the entry of the next thread was set
set_more : {X : Type 0} (new : Look → X) (looks : List Look) (x : Look) (xs ys zs : List X) (n : ℕ) → length looks ≡ n → n < length xs
    → map new looks ++ drop n xs ≡ ys → zs ≡ set ys n (new x)
    → map new (looks ++ x ∷ []) ++ drop (n + 1) xs ≡ zs
set_more new looks x xs ys zs n count less changed is =
    let d = new x in
    let h = get_or xs n d in
    let rest = drop (n + 1) xs in
    let one : drop n xs ≡ h ∷ rest = drop_more xs n d less in
    let long : length (map new looks) ≡ n = length-map looks new ∙ count in
    let now : ys ≡ map new looks ++ h ∷ rest = sym changed ∙ ap (λ ks. map new looks ++ ks) one in
    ap (λ ks. ks ++ rest) (map_push new looks x)
    ∙ append_assoc (map new looks) (new x ∷ []) rest
    ∙ sym (set_middle (map new looks) rest h (new x) n long)
    ∙ ap (λ ks. set ks n (new x)) (sym now)
    ∙ sym is

-- all threads' entries were
all_of : {X : Type 0} (f : Look → X) (looks : List Look) (xs ys : List X) (n : ℕ) → length xs ≤ n → map f looks ++ drop n xs ≡ ys → map f looks ≡ ys
all_of f looks xs ys n all e = sym (ap (λ zs. map f looks ++ zs) (drop_all n xs all) ∙ append-nil (map f looks)) ∙ e

-- ---- one thread after the other

-- as many entries of each kind as there are threads
pub record IsWhole (m : MeterEnd) : Type 0 where
  pub measured : length m.measured ≡ length m.cells
  pub told : length m.told ≡ length m.cells

-- the first n threads were looked at, each once
pub record MeasuredSoFar (n : ℕ) (old new : MeterEnd) (desk desk_after : DeskEnd) (rows : List Row) : Type 0 where
  pub looks : List Look
  pub threads : map (λ (l : Look). l.thread) looks ≡ range_with_len 0 n
  pub count : length looks ≡ n
  pub before : map (λ (l : Look). l.before) looks ++ drop n old.cells ≡ old.cells
  pub after : map (λ (l : Look). l.after) looks ++ drop n old.cells ≡ new.cells
  pub last : map (λ (l : Look). l.last) looks ++ drop n old.measured ≡ old.measured
  pub now : map measured_of looks ++ drop n old.measured ≡ new.measured
  pub told : map (λ (l : Look). l.told) looks ++ drop n old.told ≡ old.told
  pub none_told : map (λ (l : Look). None) looks ++ drop n old.told ≡ new.told
  pub read : All (λ (l : Look). IsRead l.before l.after) looks
  pub below : All (λ (l : Look). IsBelow desk.places.reactors l.place) looks
  pub found : desk_after ≡ record desk { looks = desk.looks + length looks; found = desk.found ++ map stand_of looks }
  pub rows_are : rows ≡ filter_map row_of looks

pub measured_first : (old : MeterEnd) (desk : DeskEnd) → MeasuredSoFar 0 old old desk desk []
measured_first old desk =
    let looks : desk.looks ≡ desk.looks + 0 = omega arith in
    record {
      looks = [];
      threads = refl;
      count = refl;
      before = refl;
      after = refl;
      last = refl;
      now = refl;
      told = refl;
      none_told = refl;
      read = All-nil (λ (l : Look). IsRead l.before l.after);
      below = All-nil (λ (l : Look). IsBelow desk.places.reactors l.place);
      found = λ i. record desk { looks = looks i; found = sym (append-nil desk.found) i };
      rows_are = refl;
    }

as_option : {X : Type 0} (o : Option X) → option_to_list o ≡ cons_option o []
as_option None = refl
as_option (Some x) = refl

pub measured_more : (n : ℕ) (old new newer : MeterEnd) (desk desk_before desk_after : DeskEnd) (rows : List Row) (row : Option Row)
    → IsWhole old
    → n < length old.cells
    → MeasuredSoFar n old new desk desk_before rows
    → LooksAt n new newer desk_before desk_after row
    → MeasuredSoFar (n + 1) old newer desk desk_after (rows ++ option_to_list row)
measured_more n old new newer desk desk_before desk_after rows row whole less s a =
    let x = a.look in
    let from_0 : 0 + n ≡ n = omega arith in
    let many : length (s.looks ++ x ∷ []) ≡ length s.looks + 1 = length_push s.looks x in
    let looks : desk.looks + length s.looks + 1 ≡ desk.looks + length (s.looks ++ x ∷ []) = omega arith in
    let measured : n < length old.measured = (let w = whole.measured in omega arith) in
    let told : n < length old.told = (let w = whole.told in omega arith) in
    record {
      looks = s.looks ++ x ∷ [];
      threads = map_push (λ (l : Look). l.thread) s.looks x ∙ (λ i. s.threads i ++ (a.its ∙ sym from_0) i ∷ []) ∙ sym (range_push 0 n);
      count = (let c = s.count in omega arith);
      before = told_more (λ (l : Look). l.before) (λ (l : Look). l.after) s.looks x old.cells new.cells n s.count less s.before s.after a.before;
      after = set_more (λ (l : Look). l.after) s.looks x old.cells new.cells newer.cells n s.count less s.after (ap (λ (m : MeterEnd). m.cells) a.meter);
      last = told_more (λ (l : Look). l.last) measured_of s.looks x old.measured new.measured n s.count measured s.last s.now a.last;
      now = set_more measured_of s.looks x old.measured new.measured newer.measured n s.count measured s.now (ap (λ (m : MeterEnd). m.measured) a.meter);
      told = told_more (λ (l : Look). l.told) (λ (l : Look). None) s.looks x old.told new.told n s.count told s.told s.none_told a.told;
      none_told = set_more (λ (l : Look). None) s.looks x old.told new.told newer.told n s.count told s.none_told (ap (λ (m : MeterEnd). m.told) a.meter);
      read = All-push (λ (l : Look). IsRead l.before l.after) s.looks x s.read a.read;
      below = All-push (λ (l : Look). IsBelow desk.places.reactors l.place) s.looks x s.below
          (subst (λ (d : DeskEnd). IsBelow d.places.reactors x.place) s.found a.below);
      found =
          a.found
          ∙ ap (λ (d : DeskEnd). record d { looks = d.looks + 1; found = d.found ++ stand_of x ∷ [] }) s.found
          ∙ (λ i. record desk { looks = looks i; found = (append_assoc desk.found (map stand_of s.looks) (stand_of x ∷ []) ∙ ap (λ (xs : List Stand). desk.found ++ xs) (sym (map_push stand_of s.looks x))) i });
      rows_are =
          (λ i. s.rows_are i ++ (ap option_to_list a.row_is ∙ as_option (row_of x)) i)
          ∙ sym (filter_map-append row_of s.looks (x ∷ []));
    }

-- a desk has only looked
pub only_looked : (n : ℕ) (old new : MeterEnd) (desk desk_after : DeskEnd) (rows : List Row) → MeasuredSoFar n old new desk desk_after rows → HasOnlyLooked desk desk_after
only_looked n old new desk desk_after rows s =
    let long = sym (length-map s.looks stand_of) in
    record {
      found = map stand_of s.looks;
      desk = s.found ∙ (λ i. record desk { looks = desk.looks + long i; found = desk.found ++ map stand_of s.looks });
    }

-- each cell was read at most once more
read_each : (looks : List Look) (rest : List Known) → All (λ (l : Look). IsRead l.before l.after) looks
    → HasRead (map (λ (l : Look). l.before) looks ++ rest) (map (λ (l : Look). l.after) looks ++ rest)
read_each [] rest h = record { count = refl; each = λ k d l. inl refl }
read_each (x ∷ xs) rest h =
    let here = h 0 x (omega arith) in
    let more = read_each xs rest (λ j d l. h (suc j) d (omega arith)) in
    let befores = map (λ (l : Look). l.before) xs ++ rest in
    let afters = map (λ (l : Look). l.after) xs ++ rest in
    record {
      count = ap suc more.count;
      each = go befores afters here more.each;
    }
  where
    go : (bs cs : List Known) → IsRead x.before x.after
        → ((k : ℕ) (d : Known) → k < length bs → (get_or cs k d ≡ get_or bs k d) ⊎ IsRead (get_or bs k d) (get_or cs k d))
        → (k : ℕ) (d : Known) → k < length (x.before ∷ bs) → (get_or (x.after ∷ cs) k d ≡ get_or (x.before ∷ bs) k d) ⊎ IsRead (get_or (x.before ∷ bs) k d) (get_or (x.after ∷ cs) k d)
    go bs cs here more zero d l = inr here
    go bs cs here more (suc k) d l = more k d (omega arith)

pub has_read : (n : ℕ) (old new : MeterEnd) (desk desk_after : DeskEnd) (rows : List Row) → MeasuredSoFar n old new desk desk_after rows → HasRead old.cells new.cells
has_read n old new desk desk_after rows s =
    subst (λ ks. HasRead ks new.cells) s.before
    (subst (λ ks. HasRead (map (λ (l : Look). l.before) s.looks ++ drop n old.cells) ks) s.after (read_each s.looks (drop n old.cells) s.read))

-- all threads were looked at
pub measured_all : (n : ℕ) (old new : MeterEnd) (desk desk_after : DeskEnd) (rows : List Row) → IsWhole old → n ≡ length old.cells
    → MeasuredSoFar n old new desk desk_after rows → MeasuresRows old new desk desk_after rows
measured_all n old new desk desk_after rows whole all s =
    let cells : length old.cells ≤ n = omega arith in
    let measured : length old.measured ≤ n = (let w = whole.measured in omega arith) in
    let told : length old.told ≤ n = (let w = whole.told in omega arith) in
    record {
      looks = s.looks;
      measured = record {
        threads = s.threads ∙ ap (range_with_len 0) all;
        before = all_of (λ (l : Look). l.before) s.looks old.cells old.cells n cells s.before;
        after = all_of (λ (l : Look). l.after) s.looks old.cells new.cells n cells s.after;
        last = all_of (λ (l : Look). l.last) s.looks old.measured old.measured n measured s.last;
        now = all_of measured_of s.looks old.measured new.measured n measured s.now;
        told = all_of (λ (l : Look). l.told) s.looks old.told old.told n told s.told;
        none_told = all_of (λ (l : Look). None) s.looks old.told new.told n told s.none_told;
        read = s.read;
        below = s.below;
        found = s.found;
      };
      rows_are = s.rows_are;
    }

-- there is a row, or none
pub none_of : {X : Type 0} (o : Option X) → ((x : X) → o ≡ Some x → ⊥) → o ≡ None
none_of None not = refl
none_of (Some x) not = absurd (not x refl)
