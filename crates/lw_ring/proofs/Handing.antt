-- What is handed out of a run, and what stays in hand.
use Rattle.std.proofs.Common.{◌≡◌, ℕ, zero, suc, ◌+◌, ◌<◌, ◌≤◌, List, [], ◌∷◌, ◌++◌, map, take, drop, get_or, length, All, true, false, sym, ap, ◌∙◌, subst, inl, inr, arith, append_assoc, length-append}
use Rattle.std.proofs.lemmas.List.{map-append, length-map, take-append-drop, length-take}
use Rattle.std.proofs.Math.Seq.{drop-append_seam, take-append_seam}
use Rattle.lw_base.specs.declared.message.Tag.{Tag}
use Rattle.std.proofs.Math.Nat.{eq-or-lt_of_le}
use Rattle.std.proofs.lemmas.List.{append-nil}
use Rattle.std.proofs.lemmas.List.Elements.{All-nil, All-append}
use Rattle.lw_base.specs.Letters.{Names, Numbered, list_at, FitsRing}
use Rattle.lw_ring.specs.declared.parcel.Parcel.{Parcel}
use Rattle.lw_latch.specs.RingWord.{above_all_sent}
use Rattle.lw_ring.specs.Queue.{contents, AllFit, Takes, TakenOff}
use Rattle.lw_ring.specs.declared.queue.PassView.{PassView}
use Rattle.lw_ring.specs.Calls.{NamedFrom, InTurn}
use Rattle.lw_ring.specs.Ends.{ReceiverView}
use Rattle.lw_ring.proofs.Counts.{All-front, All-back}
use Rattle.lw_ring.proofs.Posts.{at_last, at_front}
use mathlib.Core.Logic.{dite}
use native.Mathlib.Decide.{ℕ_discrete}

module _ {L : Type 0} where
  take_front : (xs ys : List L) (n : ℕ) → n ≡ length xs → take n (xs ++ ys) ≡ xs
  take_front xs ys n e = ap (λ k. take k (xs ++ ys)) e ∙ take-append_seam xs ys

  drop_front : (xs ys : List L) (n : ℕ) → n ≡ length xs → drop n (xs ++ ys) ≡ ys
  drop_front xs ys n e = ap (λ k. drop k (xs ++ ys)) e ∙ drop-append_seam xs ys

-- of what came off the queue, n were handed out before, and `given` are handed out now
pub handed : {T L : Type 0} (letter : T → L) (n : ℕ) (got now : List L) (before given after more : List T) → n ≤ length got → drop n got ≡ map letter before
    → now ≡ got ++ map letter more → given ++ after ≡ before ++ more
    → (take (n + length given) now ≡ take n got ++ map letter given) × (drop (n + length given) now ≡ map letter after) × (length now ≡ n + length given + length after) × (now ≡ (take n got ++ map letter given) ++ map letter after)
handed letter n got now before given after more most was is parts =
    let front = take n got in
    let whole : now ≡ (front ++ map letter given) ++ map letter after =
    is ∙ ap (λ l. l ++ map letter more) (sym (take-append-drop n got) ∙ ap (λ l. front ++ l) was) ∙ append_assoc front (map letter before) (map letter more)
    ∙ ap (λ l. front ++ l) (sym (map-append letter before more) ∙ ap (map letter) (sym parts) ∙ map-append letter given after) ∙ sym (append_assoc front (map letter given) (map letter after)) in
    let a = length-take n got in
    let b = length-append front (map letter given) in
    let c = length-map given letter in
    let d = length-map after letter in
    let e = ap length whole ∙ length-append (front ++ map letter given) (map letter after) in
    let size : n + length given ≡ length (front ++ map letter given) = omega arith in (
      ap (take (n + length given)) whole ∙ take_front (front ++ map letter given) (map letter after) (n + length given) size,
      ap (drop (n + length given)) whole ∙ drop_front (front ++ map letter given) (map letter after) (n + length given) size,
      omega arith,
      whole,
    )

pub received : {L F : Type 0} (v w : PassView L F) (more : List L) (senders got now : ℕ) → ReceiverView v senders got → w ≡ record v { got = v.got ++ more } → length w.got ≡ now → ReceiverView w senders now
received {L} {F} v w more senders got now r is size =
    subst (λ (x : PassView L F). length x.got ≡ now → ReceiverView x senders now) (sym is)
    (λ long. record { not_fresh = r.not_fresh; gets = r.gets; made = r.made; size = long; sends_not = r.sends_not; from = r.from; put = r.put }) size

-- where as many messages are in hand as are wanted, they are handed out
pub enough_in_hand : {T : Type 0} (batch hand before : List T) (max : ℕ) → batch ++ hand ≡ before → length batch ≤ max → (length batch < max → hand ≡ []) → max ≤ length before → max ≤ length batch
enough_in_hand {T} batch hand before max is most rest enough = elim (eq-or-lt_of_le most) [
  | inl same ↦ omega arith
  | inr less ↦ (let none = ap (λ (l : List T). length (batch ++ l)) (rest less) in let size = ap length is in let nil = ap length (append-nil batch) in omega arith)
]

-- the letters of a run are numbered on
each_letter : {T L : Type 0} (letter : T → L) (P : ℕ → L → Type 0) (xs : List T) → ((k : ℕ) (d : T) → k < length xs → P k (letter (get_or xs k d))) → (k : ℕ) (d : L) → k < length xs → P k (get_or (map letter xs) k d)
each_letter letter P [] h k d l = absurd (omega arith)
each_letter letter P (x ∷ xs) h zero d l = h 0 x (omega arith)
each_letter letter P (x ∷ xs) h (suc k) d l = each_letter letter (λ j. P (suc j)) xs (λ j e m. h (suc j) e (omega arith)) k d (omega arith)

both_parts : {L : Type 0} (P : ℕ → L → Type 0) (ls ms : List L) → ((k : ℕ) (d : L) → k < length ls → P k (get_or ls k d)) → ((k : ℕ) (d : L) → k < length ms → P (length ls + k) (get_or ms k d)) → (k : ℕ) (d : L) → k < length (ls ++ ms) → P k (get_or (ls ++ ms) k d)
both_parts P [] ms old new k d l = subst (λ j. P j (get_or ms k d)) (omega arith) (new k d l)
both_parts P (y ∷ ys) ms old new zero d l = old 0 d (omega arith)
both_parts P (y ∷ ys) ms old new (suc k) d l = both_parts (λ j. P (suc j)) ys ms (λ j e m. old (suc j) e (omega arith)) (λ j e m. subst (λ i. P i (get_or ms j e)) (omega arith) (new j e m)) k d (omega arith)

pub numbered_on : {T L : Type 0} (letter : T → L) (tag_of : L → Tag) (sender : ℕ) (ls : List L) (xs : List T) → Numbered tag_of sender ls → NamedFrom letter tag_of sender (length ls) xs → Numbered tag_of sender (ls ++ map letter xs)
numbered_on letter tag_of sender ls xs old named =
    both_parts (λ k y. Names (tag_of y) sender k) ls (map letter xs) old
    (λ k d l. each_letter letter (λ j y. Names (tag_of y) sender (length ls + j)) xs named k d (let e = length-map xs letter in omega arith))

-- one more sender's letters are numbered
pub numbered_last : {L : Type 0} (tag_of : L → Tag) (xs ys : List (List L)) (y : List L) → ys ≡ xs ++ y ∷ [] → ((k : ℕ) → k < length xs → Numbered tag_of k (list_at xs k)) → Numbered tag_of (length xs) y → (k : ℕ) → k < length ys → Numbered tag_of k (list_at ys k)
numbered_last tag_of xs ys y is old new k l =
    let long = ap length is ∙ length-append xs (y ∷ []) in
    subst (λ zs. Numbered tag_of k (list_at zs k)) (sym is) (dite (ℕ_discrete k (length xs))
    (λ e. subst (λ z. Numbered tag_of k z) (sym (at_last xs y k e)) (subst (λ j. Numbered tag_of j y) (sym e) new))
    (λ n. let before : k < length xs = omega arith in subst (λ z. Numbered tag_of k z) (sym (at_front xs y k before)) (old k before)))

module _ {T L F : Type 0} (letter : T → L) (tag_of : L → Tag) (fits : ℕ → F → T → Type 0) where
  -- nothing came off the queue yet
  pub none_off : (v : PassView L F) (xs : List T) → length v.got < above_all_sent → TakenOff letter tag_of fits v v xs xs
  none_off v xs short = record { more = []; view = λ k. record v { got = sym (append-nil v.got) k }; behind = sym (append-nil xs); fitting = All-nil (λ x. FitsRing fits v.number v.family x × ((tag_of (letter x)).sender < v.made)); short = short }

  -- one more parcel came off the queue
  pub one_off : (v w u : PassView L F) (x : Parcel T) (before after last : List T) → TakenOff letter tag_of fits v w before after → Takes letter tag_of fits w x u → last ≡ after ++ contents x → TakenOff letter tag_of fits v u before last
  one_off v w u x before after last t s is =
      let more : List T = t.more ++ contents x in
      let got : w.got ++ map letter (contents x) ≡ v.got ++ map letter more = ap (λ (y : PassView L F). y.got ++ map letter (contents x)) t.view ∙ append_assoc v.got (map letter t.more) (map letter (contents x)) ∙ ap (λ l. v.got ++ l) (sym (map-append letter t.more (contents x))) in
      let fit : AllFit letter tag_of fits v.number v.family v.made (contents x) = subst (λ (y : PassView L F). AllFit letter tag_of fits y.number y.family y.made (contents x)) t.view s.fitting in
      record {
        more = more;
        view = s.view ∙ ap (λ (y : PassView L F). record y { got = w.got ++ map letter (contents x) }) t.view ∙ (λ k. record v { got = got k });
        behind = is ∙ ap (λ l. l ++ contents x) t.behind ∙ append_assoc before t.more (contents x);
        fitting = All-append (λ y. FitsRing fits v.number v.family y × ((tag_of (letter y)).sender < v.made)) t.more (contents x) t.fitting fit;
        short = s.short;
      }

  -- what is off the queue has the receiver's view
  pub still_gets : (v w : PassView L F) (before after : List T) → TakenOff letter tag_of fits v w before after → v.fresh ≡ false → v.gets ≡ true → (w.fresh ≡ false) × (w.gets ≡ true)
  still_gets v w before after t old gets = (ap (λ (y : PassView L F). y.fresh) t.view ∙ old, ap (λ (y : PassView L F). y.gets) t.view ∙ gets)

  -- what follows where `given` are handed out behind n others, and `after` stay in hand
  pub record HandsOut (v w : PassView L F) (n senders : ℕ) (given after : List T) : Type 0 where
    pub view : w ≡ record v { got = w.got }
    pub gets : ReceiverView w senders (n + length given + length after)
    pub taken : take (n + length given) w.got ≡ take n v.got ++ map letter given
    pub hand : drop (n + length given) w.got ≡ map letter after
    pub size : length w.got ≡ n + length given + length after
    pub whole : w.got ≡ (take n v.got ++ map letter given) ++ map letter after
    pub short : length w.got < above_all_sent
    pub order : InTurn (drop n v.got) (map letter given) (map letter after)
    pub given_fit : AllFit letter tag_of fits v.number v.family senders given
    pub after_fit : AllFit letter tag_of fits w.number w.family senders after

  pub hands_out : (v w : PassView L F) (n senders size : ℕ) (before start given after : List T) → ReceiverView v senders size → n ≤ size → drop n v.got ≡ map letter before → AllFit letter tag_of fits v.number v.family senders before
      → start ≡ before → TakenOff letter tag_of fits v w start (given ++ after) → HandsOut v w n senders given after
  hands_out v w n senders size before start given after r most was fit is off =
      let got = ap (λ (y : PassView L F). y.got) off.view in
      let parts : given ++ after ≡ before ++ off.more = off.behind ∙ ap (λ l. l ++ off.more) is in
      let long = r.size in
      let h = handed letter n v.got w.got before given after off.more (omega arith) was got parts in
      let P : T → Type 0 = λ x. FitsRing fits v.number v.family x × ((tag_of (letter x)).sender < senders) in
      let more_fit : All P off.more = subst (λ k. AllFit letter tag_of fits v.number v.family k off.more) r.made off.fitting in
      let all : All P (given ++ after) = subst (All P) (sym parts) (All-append P before off.more fit more_fit) in
      record {
        view = off.view ∙ (λ k. record v { got = sym got k });
        gets = received v w (map letter off.more) senders size (n + length given + length after) r off.view h.2;
        taken = h.0;
        hand = h.1;
        size = h.2;
        whole = h.3;
        short = off.short;
        order = record { more = map letter off.more; parts = ap (λ l. l ++ map letter off.more) was ∙ sym (map-append letter before off.more) ∙ ap (map letter) (sym parts) ∙ map-append letter given after };
        given_fit = All-front P given after all;
        after_fit = subst (λ (y : PassView L F). AllFit letter tag_of fits y.number y.family senders after) (sym off.view) (All-back P given after all);
      }
