-- A thread's ends and what it has run stay tied through a take, a run and a send.
use Rattle.std.proofs.Common.{◌≡◌, ◌≢◌, ℕ, ◌+◌, ◌<◌, ◌≤◌, Bool, true, List, [], ◌∷◌, ◌++◌, length, map, take, reverse, refl, sym, ap, subst, ◌∙◌, arith, append_assoc, length-append, length-set, get_or-set_same, get_or-set_other, All}
use Rattle.std.specs.Prelude.{slice_index_or, slice_set, vec_capacity}
use Rattle.std.specs.declared.alloc.Global.{Global}
use Rattle.std.specs.declared.vec.Vec.{Vec}
use Rattle.lw_thread.proofs.Counting.{set_same}
use Rattle.std.proofs.lemmas.List.{get_or_default, take-append-le, append-nil, map-append, length-map, reverse-append, length-reverse, length_push, nil_from_length}
use Rattle.std.proofs.lemmas.List.Elements.{All-head, All-tail}
use Rattle.std.proofs.Math.Seq.{take-append_seam, get_or-append_seam}
use Rattle.std.proofs.Math.Logic.{dite}
use native.Mathlib.Decide.{ℕ_discrete}
use Rattle.lw_base.specs.declared.message.Tag.{Tag}
use Rattle.lw_base.specs.Letters.{FitsRing}
use Rattle.lw_latch.specs.RingWord.{most_senders}
use Rattle.lw_ring.specs.Ends.{Sender, Receiver}
use Rattle.lw_ring.specs.Queue.{AllFit as AllFitRing}
use Rattle.lw_ring.specs.Settling.{all_sent}
use Rattle.lw_thread.specs.Acts.{and_run}
use Rattle.lw_thread.specs.Calls.{IsToRun}
use Rattle.lw_thread.specs.Threads.{AreItsEnds, WasRun}
use Rattle.lw_thread.specs.Runs.{IsRow, IsRowEnd}
use Rattle.lw_thread.specs.Links.{Tied, AreTied, AreGone, known_tied}
use Rattle.lw_ring.specs.Calls.{InTurn, EmptyAt}
use Rattle.lw_thread.specs.Polls.{most_taken, Takes}

pub reverse_twice : {X : Type 0} (xs : List X) → reverse (reverse xs) ≡ xs
reverse_twice [] = refl
reverse_twice (x ∷ xs) = ap reverse (reverse-append (x ∷ []) xs) ∙ reverse-append (reverse xs) (x ∷ []) ∙ ap (λ l. x ∷ l) (reverse_twice xs)

-- where no letter is left, the batch is empty
pub none_left : {T L : Type 0} (letter : T → L) (xs : List T) → map letter (reverse xs) ≡ [] → xs ≡ []
none_left letter xs e = nil_from_length xs (let a = ap length e in let b = length-map (reverse xs) letter in let d = length-reverse xs in omega arith)

-- the last of a batch that lies in reverse is the first of it
pub batch_first : {X : Type 0} (xs ys : List X) (x : X) → xs ≡ ys ++ x ∷ [] → reverse xs ≡ x ∷ reverse ys
batch_first xs ys x e = ap reverse e ∙ reverse-append ys (x ∷ [])

-- what stands at the last place of a list is its last
pub last_is : {X : Type 0} (xs ys : List X) (x m : X) (n : ℕ) → xs ≡ ys ++ x ∷ [] → n + 1 ≡ length xs → m ≡ slice_index_or xs n m → m ≡ x
last_is xs ys x m n e long at =
    let size : n ≡ length ys = (let a = ap length e ∙ length_push ys x in omega arith) in
    at ∙ (λ i. slice_index_or (e i) (size i) m) ∙ get_or-append_seam ys x [] m

module _ {T L F : Type 0} (letter : T → L) (tag_of : L → Tag) (fits : ℕ → F → T → Type 0) where
  -- what the ring says of a take is one
  pub takes_given : (r q : Receiver L F) (given back : List T) → back ≡ reverse given → q ≡ record r { taken = r.taken ++ map letter given; hand = q.hand } → InTurn r.hand (map letter given) q.hand → length given ≤ most_taken
      → (length given < most_taken → (q.hand ≡ []) × EmptyAt letter tag_of fits q) → (most_taken ≤ length r.hand → r.hand ≡ map letter given ++ q.hand)
      → Takes letter tag_of fits (map letter (reverse back)) r q
  takes_given r q given back is taken order few fewer in_hand =
      let size = length-map given letter in
      subst (λ xs. Takes letter tag_of fits (map letter xs) r q) (sym (ap reverse is ∙ reverse_twice given))
      (record { few = omega arith; taken = taken; order = order; fewer = λ l. fewer (omega arith); in_hand = in_hand })

  -- a batch is taken
  pub fill_tied : (s : Tied L F) (ran ran2 : Vec Tag Global) (batch batch2 : Vec T Global) (gone : List Bool) (r : Receiver L F) (given : List T)
      → AreTied letter tag_of fits s ran batch gone → s.left ≡ []
      → r ≡ record s.recv { taken = s.recv.taken ++ map letter given; hand = r.hand }
      → AllFitRing letter tag_of fits s.recv.number s.recv.family s.recv.senders given → length given ≤ most_taken
      → ran2.items ≡ s.ran → length s.ran + most_taken ≤ vec_capacity ran2 → batch2.items ≡ reverse given → most_taken ≤ vec_capacity batch2
      → AreTied letter tag_of fits (record { thread = s.thread; recv = r; ends = s.ends; ran = ran2.items; left = map letter (reverse batch2.items) }) ran2 batch2 gone
  fill_tied s ran ran2 batch batch2 gone r given i none took fit few log room back space =
      let h = i.its_ends in
      let w = i.taken in
      let given_is : reverse batch2.items ≡ given = ap reverse back ∙ reverse_twice given in
      let size : length batch2.items ≡ length given = ap length back ∙ length-reverse given in
      let long = ap length log in
      record {
        its_ends = subst (λ (q : Receiver L F). AreItsEnds s.thread q s.ends) (sym took) (record { number = h.number; latch = h.latch; not_closed = h.not_closed; senders = h.senders; few = h.few; own = h.own; row = h.row });
        taken = record {
          run = w.run;
          parts = ap (λ (q : Receiver L F). q.taken) took ∙ ap (λ l. l ++ map letter given) (w.parts ∙ ap (λ l. w.run ++ l) none ∙ append-nil w.run) ∙ ap (λ xs. w.run ++ map letter xs) (sym given_is);
          tags = log ∙ w.tags;
        };
        batch_fits = subst (λ (q : Receiver L F). AllFitRing letter tag_of fits q.number q.family q.senders (reverse batch2.items)) (sym took)
            (subst (λ xs. AllFitRing letter tag_of fits s.recv.number s.recv.family s.recv.senders xs) (sym given_is) fit);
        log_room = omega arith;
        batch_room = space;
        gone_count = i.gone_count;
        gone_found = i.gone_found;
      }

  -- the next message is taken out of the batch, and noted
  pub next_tied : (s : Tied L F) (ran ran2 : Vec Tag Global) (batch batch2 : Vec T Global) (gone : List Bool) (m : T) (tag : Tag)
      → AreTied letter tag_of fits s ran batch gone → s.left ≡ map letter (reverse batch.items) → s.ran ≡ ran.items
      → batch.items ≡ batch2.items ++ m ∷ [] → vec_capacity batch ≤ vec_capacity batch2
      → tag ≡ tag_of (letter m) → ran2.items ≡ s.ran ++ tag ∷ [] → vec_capacity ran ≤ vec_capacity ran2
      → AreTied letter tag_of fits (record { thread = s.thread; recv = s.recv; ends = s.ends; ran = ran2.items; left = map letter (reverse batch2.items) }) ran2 batch2 gone
  next_tied s ran ran2 batch batch2 gone m tag i left log popped space is noted room =
      let w = i.taken in
      let P = λ (x : T). FitsRing fits s.recv.number s.recv.family x × ((tag_of (letter x)).sender < s.recv.senders) in
      let first = batch_first batch.items batch2.items m popped in
      let size = ap length popped ∙ length_push batch2.items m in
      let long = ap length noted ∙ length_push s.ran tag in
      let same = ap length log in
      let had = i.log_room in
      let space0 = i.batch_room in
      record {
        its_ends = i.its_ends;
        taken = record {
          run = w.run ++ letter m ∷ [];
          parts = w.parts ∙ ap (λ l. w.run ++ l) (left ∙ ap (map letter) first) ∙ sym (append_assoc w.run (letter m ∷ []) (map letter (reverse batch2.items)));
          tags = noted ∙ (λ k. w.tags k ++ is k ∷ []) ∙ sym (map-append tag_of w.run (letter m ∷ []));
        };
        batch_fits = All-tail P m (reverse batch2.items) (subst (λ xs. All P xs) first i.batch_fits);
        log_room = omega arith;
        batch_room = omega arith;
        gone_count = i.gone_count;
        gone_found = i.gone_found;
      }

  -- it fits the ring, and one of the threads sent it
  pub next_fits : (s : Tied L F) (ran : Vec Tag Global) (batch batch2 : Vec T Global) (gone : List Bool) (m : T)
      → AreTied letter tag_of fits s ran batch gone → batch.items ≡ batch2.items ++ m ∷ [] → IsToRun letter tag_of fits (known_tied s) m
  next_fits s ran batch batch2 gone m i popped =
      let P = λ (x : T). FitsRing fits s.recv.number s.recv.family x × ((tag_of (letter x)).sender < s.recv.senders) in
      let here = All-head P m (reverse batch2.items) (subst (λ xs. All P xs) (batch_first batch.items batch2.items m popped) i.batch_fits) in
      let h = i.its_ends in
      record {
        its_ring = subst (λ n. FitsRing fits n s.recv.family m) h.number here.0;
        sender = subst (λ n. (tag_of (letter m)).sender < n) (h.senders ∙ sym (length-map s.ends (λ (e : Sender L F). e.sent))) here.1;
      }

-- what is known of the thread once one message more is noted
pub known_next : {L F : Type 0} (tag_of : L → Tag) (s t : Tied L F) (x : L) → WasRun tag_of s.recv.taken s.ran s.left → s.left ≡ x ∷ t.left → t ≡ record s { ran = s.ran ++ tag_of x ∷ []; left = t.left } → known_tied t ≡ and_run (known_tied s) x
known_next {L} {F} tag_of s t x w first is =
    let count : length s.ran ≡ length w.run = ap length w.tags ∙ length-map w.run tag_of in
    let parts : s.recv.taken ≡ w.run ++ x ∷ t.left = w.parts ∙ ap (λ l. w.run ++ l) first in
    let before : take (length s.ran) s.recv.taken ≡ w.run = (λ k. take (count k) (parts k)) ∙ take-append_seam w.run (x ∷ t.left) in
    let more : length (s.ran ++ tag_of x ∷ []) ≡ length (w.run ++ x ∷ []) = length_push s.ran (tag_of x) ∙ ap (λ n. n + 1) count ∙ sym (length_push w.run x) in
    let after : take (length (s.ran ++ tag_of x ∷ [])) s.recv.taken ≡ w.run ++ x ∷ [] = (λ k. take (more k) ((parts ∙ sym (append_assoc w.run (x ∷ []) t.left)) k)) ∙ take-append_seam (w.run ++ x ∷ []) t.left in
    ap known_tied is ∙ (λ k. record { thread = s.thread; family = s.recv.family; ran = (after ∙ ap (λ l. l ++ x ∷ []) (sym before)) k; sent = all_sent s.ends })

-- what was run is no more than what was taken
pub ran_below : {L : Type 0} (tag_of : L → Tag) (taken : List L) (ran : List Tag) (left : List L) → WasRun tag_of taken ran left → length ran ≤ length taken
ran_below tag_of taken ran left w =
    let a = ap length w.tags ∙ length-map w.run tag_of in
    let b = ap length w.parts ∙ length-append w.run left in
    omega arith

-- the end at a place
pub end_at : {X : Type 0} (es : List X) (to : ℕ) (e : X) → to < length es → e ≡ slice_index_or es to e → (d : X) → slice_index_or es to d ≡ e
end_at es to e within at d = get_or_default es to d e within ∙ sym at

pub end_unset : {X : Type 0} (es : List X) (to : ℕ) (e e2 : X) → to < length es → e ≡ slice_index_or es to e → e2 ≡ e → slice_set es to e2 ≡ es
end_unset es to e e2 within at same = ap (λ x. slice_set es to x) same ∙ set_same es to e (end_at es to e within at)

-- a try to close the ring, which didn't close
pub tried_tied : {T L F : Type 0} (letter : T → L) (tag_of : L → Tag) (fits : ℕ → F → T → Type 0) (s : Tied L F) (ran : Vec Tag Global) (batch : Vec T Global) (gone : List Bool) (r : Receiver L F) (tries seen : ℕ)
    → AreTied letter tag_of fits s ran batch gone → r ≡ record s.recv { tries = tries; seen = seen } → AreTied letter tag_of fits (record s { recv = r }) ran batch gone
tried_tied {T} {L} {F} letter tag_of fits s ran batch gone r tries seen i e =
    let h = i.its_ends in
    subst (λ (q : Receiver L F). AreTied letter tag_of fits (record s { recv = q }) ran batch gone) (sym e)
    (record {
      its_ends = record { number = h.number; latch = h.latch; not_closed = h.not_closed; senders = h.senders; few = h.few; own = h.own; row = h.row };
      taken = i.taken;
      batch_fits = i.batch_fits;
      log_room = i.log_room;
      batch_room = i.batch_room;
      gone_count = i.gone_count;
      gone_found = i.gone_found;
    })

-- a take changes nothing of what is known
pub known_filled : {L F : Type 0} (tag_of : L → Tag) (s t : Tied L F) (more : List L) → WasRun tag_of s.recv.taken s.ran s.left → t ≡ record s { recv = t.recv; left = t.left } → t.recv ≡ record s.recv { taken = s.recv.taken ++ more; hand = t.recv.hand } → known_tied t ≡ known_tied s
known_filled {L} {F} tag_of s t more w rest took =
    let few = ran_below tag_of s.recv.taken s.ran s.left w in
    let ran : take (length t.ran) t.recv.taken ≡ take (length s.ran) s.recv.taken =
    (λ i. take (length (rest i).ran) (took i).taken) ∙ take-append-le (length s.ran) s.recv.taken more few in
    λ i. record { thread = (rest i).thread; family = (took i).family; ran = ran i; sent = all_sent (rest i).ends }

-- an end found its ring closed, which is noted
pub found_tied : {T L F : Type 0} (letter : T → L) (tag_of : L → Tag) (fits : ℕ → F → T → Type 0) (s : Tied L F) (ran : Vec Tag Global) (batch : Vec T Global) (gone : List Bool) (to : ℕ) (e e2 : Sender L F)
    → AreTied letter tag_of fits s ran batch gone → to < length s.ends → e ≡ slice_index_or s.ends to e → e2 ≡ record e { sent = e2.sent; found = e2.found } → 1 ≤ e2.found
    → AreTied letter tag_of fits (record s { ends = slice_set s.ends to e2 }) ran batch (slice_set gone to true)
found_tied {T} {L} {F} letter tag_of fits s ran batch gone to e e2 i within at same some =
    let h = i.its_ends in
    let count = length-set s.ends to e2 in
    record {
      its_ends = record {
        number = h.number;
        latch = h.latch;
        not_closed = h.not_closed;
        senders = h.senders ∙ sym count;
        few = subst (λ n. n ≤ most_senders) (sym count) h.few;
        own = subst (λ n. s.thread < n) (sym count) h.own;
        row = row;
      };
      taken = i.taken;
      batch_fits = i.batch_fits;
      log_room = i.log_room;
      batch_room = i.batch_room;
      gone_count = length-set gone to true ∙ i.gone_count ∙ sym count;
      gone_found = found;
    }
  where
    here : IsRowEnd s.recv.family s.thread to e2
    here =
        let r = subst (λ (x : Sender L F). IsRowEnd s.recv.family s.thread to x) (sym at) (i.its_ends.row to e within) in
        record {
          from = ap (λ (x : Sender L F). x.sender) same ∙ r.from;
          number = ap (λ (x : Sender L F). x.number) same ∙ r.number;
          of_family = ap (λ (x : Sender L F). x.family) same ∙ r.of_family;
        }

    row : IsRow s.recv.family s.thread (slice_set s.ends to e2)
    row k d l = dite (ℕ_discrete k to)
        (λ (is : k ≡ to). subst (λ n. IsRowEnd s.recv.family s.thread n (slice_index_or (slice_set s.ends to e2) n d)) (sym is)
        (subst (λ (x : Sender L F). IsRowEnd s.recv.family s.thread to x) (sym (get_or-set_same s.ends to e2 d within)) here))
        (λ (other : k ≢ to). subst (λ (x : Sender L F). IsRowEnd s.recv.family s.thread k x) (sym (get_or-set_other s.ends to k e2 d other))
        (i.its_ends.row k d (subst (λ n. k < n) (length-set s.ends to e2) l)))

    found : AreGone (slice_set gone to true) (slice_set s.ends to e2)
    found k b d l is = dite (ℕ_discrete k to)
        (λ (same_place : k ≡ to). subst (λ n. 1 ≤ (slice_index_or (slice_set s.ends to e2) n d).found) (sym same_place)
        (subst (λ (x : Sender L F). 1 ≤ x.found) (sym (get_or-set_same s.ends to e2 d within)) some))
        (λ (other : k ≢ to). subst (λ (x : Sender L F). 1 ≤ x.found) (sym (get_or-set_other s.ends to k e2 d other))
        (i.gone_found k b d (subst (λ n. k < n) (length-set s.ends to e2) l) (sym (get_or-set_other gone to k true b other) ∙ is)))
