-- The numbers of the messages to one thread, as messages come and are run.
use Rattle.std.proofs.Common.{ℕ, ◌≡◌, ◌+◌, ◌<◌, ◌≤◌, Bool, true, false, cond, List, [], ◌∷◌, ◌++◌, map, reverse, length, get_or, arith, refl, sym, ◌∙◌, ap, subst, append_assoc, length-append, drop}
use Rattle.std.specs.Prelude.{◌==◌, count_by, slice_index, slice_set, map}
use Rattle.std.specs.List.{list_all}
use Rattle.std.proofs.lemmas.Bool.{eq-eqb, eqb-true, and_parts, and_from}
use Rattle.std.proofs.lemmas.List.{map-append, length-map, append-nil, get_or-set_same, get_or-set_other, length-set, reverse-append}
use Rattle.std.proofs.lemmas.List.Folds.{list_all-append}
use Rattle.std.proofs.lemmas.List.Sums.{sum_by-append, sum_by-cons, count_by-le-length}
use Rattle.lw_base.specs.declared.message.Tag.{Tag}
use Rattle.lw_model.specs.OwnOrder.{with_past}
use Rattle.lw_model.specs.Moves.{number_fits}
use Rattle.lw_model.proofs.Growth.{with_past_push}
use Rattle.lw_target.specs.declared.mail.Mail.{Mail}
use Rattle.lw_target.specs.WholeRun.{are_numbered}
use Rattle.lw_target.specs.Numbering.{came, IsNumbered}

pub count_append : {X : Type 0} (p : X → Bool) (xs ys : List X) → count_by p (xs ++ ys) ≡ count_by p xs + count_by p ys
count_append p xs ys = sum_by-append (λ x. cond (p x) 1 0) xs ys

pub count_cons : {X : Type 0} (p : X → Bool) (x : X) (xs : List X) → count_by p (x ∷ xs) ≡ cond (p x) 1 0 + count_by p xs
count_cons p x xs = sum_by-cons (λ x. cond (p x) 1 0) x xs

pub count_one : {X : Type 0} (p : X → Bool) (x : X) → count_by p (x ∷ []) ≡ cond (p x) 1 0
count_one p x = count_cons p x [] ∙ omega arith

count_reverse : {X : Type 0} (p : X → Bool) (xs : List X) → count_by p (reverse xs) ≡ count_by p xs
count_reverse p [] = refl
count_reverse p (x ∷ xs) =
    ap (count_by p) (reverse-append (x ∷ []) xs)
    ∙ omega (arith, count_append p (reverse xs) (x ∷ []), count_one p x, count_cons p x xs, count_reverse p xs)

-- a message with the number of its sender's earlier ones, behind those
pub numbered_push : (ms : List Tag) (m : Tag) → are_numbered ms ≡ true → m.number ≡ count_by (λ x. x.sender == m.sender) ms → are_numbered (ms ++ m ∷ []) ≡ true
numbered_push ms m all is =
    ap (list_all (λ (p : List Tag × Tag). number_fits p.0 p.1)) (with_past_push [] ms m)
    ∙ list_all-append (λ (p : List Tag × Tag). number_fits p.0 p.1) (with_past [] ms) ((reverse ms ++ [], m) ∷ [])
    ∙ and_from (are_numbered ms) _ all
    (and_from (number_fits (reverse ms ++ []) m) true
    (eq-eqb m.number _ (is ∙ sym (ap (count_by (λ (x : Tag). x.sender == m.sender)) (append-nil (reverse ms)) ∙ count_reverse (λ (x : Tag). x.sender == m.sender) ms))) refl)

with_past_append : {X : Type 0} (past xs ys : List X) → with_past past (xs ++ ys) ≡ with_past past xs ++ with_past (reverse xs ++ past) ys
with_past_append past [] ys = refl
with_past_append past (x ∷ xs) ys =
    ap (λ ps. (past, x) ∷ ps) (with_past_append (x ∷ past) xs ys
    ∙ ap (λ q. with_past (x ∷ past) xs ++ with_past q ys) (sym (ap (λ w. w ++ past) (reverse-append (x ∷ []) xs) ∙ append_assoc (reverse xs) (x ∷ []) past)))

-- those that came first are numbered by themselves
pub numbered_front : (ms rest : List Tag) → are_numbered (ms ++ rest) ≡ true → are_numbered ms ≡ true
numbered_front ms rest all =
    (and_parts (are_numbered ms) (list_all (λ (p : List Tag × Tag). number_fits p.0 p.1) (with_past (reverse ms ++ []) rest))
    (sym (list_all-append (λ (p : List Tag × Tag). number_fits p.0 p.1) (with_past [] ms) (with_past (reverse ms ++ []) rest))
    ∙ sym (ap (list_all (λ (p : List Tag × Tag). number_fits p.0 p.1)) (with_past_append [] ms rest)) ∙ all)).0

-- a message that waits last came last
pub came_push : (ran : List Tag) (waiting : List Mail) (m : Mail) → came ran (waiting ++ m ∷ []) ≡ came ran waiting ++ m.tag ∷ []
came_push ran waiting m =
    ap (λ q. ran ++ q) (map-append (λ (x : Mail). x.tag) waiting (m ∷ [])) ∙ sym (append_assoc ran (map (λ (x : Mail). x.tag) waiting) (m.tag ∷ []))

-- a message that is run stays where it came
pub came_take : (ran : List Tag) (waiting : List Mail) (m : Mail) → came (ran ++ m.tag ∷ []) waiting ≡ came ran (m ∷ waiting)
came_take ran waiting m = append_assoc ran (m.tag ∷ []) (map (λ (x : Mail). x.tag) waiting)

pub push_numbered : (ran : List Tag) (old new : List Mail) (sent : List ℕ) (m : Mail) (count : ℕ) → IsNumbered ran old sent
    → m.tag.sender < length sent → m.tag.number ≡ slice_index sent m.tag.sender → count ≡ slice_index sent m.tag.sender + 1
    → new ≡ old ++ m ∷ [] → IsNumbered ran new (slice_set sent m.tag.sender count)
push_numbered ran old new sent m count n within number counts is = record {
  numbered = ap are_numbered now ∙ numbered_push (came ran old) m.tag n.numbered (number ∙ n.counted m.tag.sender within);
  counted = λ s below.
      let inside : s < length sent = omega (arith, below, length-set sent m.tag.sender count) in
      let more : count_by (λ (x : Tag). x.sender == s) (came ran new) ≡ count_by (λ (x : Tag). x.sender == s) (came ran old) + cond (m.tag.sender == s) 1 0 =
      ap (count_by (λ (x : Tag). x.sender == s)) now ∙ count_append (λ (x : Tag). x.sender == s) (came ran old) (m.tag ∷ [])
      ∙ ap (λ k. count_by (λ (x : Tag). x.sender == s) (came ran old) + k) (count_one (λ (x : Tag). x.sender == s) m.tag) in
      at s (m.tag.sender == s) refl (n.counted s inside) more;
}
  where
    now : came ran new ≡ came ran old ++ m.tag ∷ []
    now = ap (came ran) is ∙ came_push ran old m

    at : (s : ℕ) (b : Bool) → (m.tag.sender == s) ≡ b → slice_index sent s ≡ count_by (λ (x : Tag). x.sender == s) (came ran old)
        → count_by (λ (x : Tag). x.sender == s) (came ran new) ≡ count_by (λ (x : Tag). x.sender == s) (came ran old) + cond b 1 0
        → slice_index (slice_set sent m.tag.sender count) s ≡ count_by (λ (x : Tag). x.sender == s) (came ran new)
    at s true e had more =
        let same : m.tag.sender ≡ s = eqb-true m.tag.sender s e in
        let one : slice_index (slice_set sent m.tag.sender count) m.tag.sender ≡ count = get_or-set_same sent m.tag.sender count 0 within in
        subst (λ k. slice_index (slice_set sent m.tag.sender count) k ≡ slice_index sent k + 1) same (one ∙ counts) ∙ omega (arith, had, more)
    at s false e had more = get_or-set_other sent m.tag.sender s count 0 (λ q. absurd (true_false (sym (eq-eqb m.tag.sender s (sym q)) ∙ e))) ∙ omega (arith, had, more)
      where
        true_false : true ≡ false → ⊥
        true_false w = cc

pub take_numbered : (ran after : List Tag) (old new : List Mail) (sent : List ℕ) (m : Mail) → IsNumbered ran old sent → old ≡ m ∷ new → after ≡ ran ++ m.tag ∷ [] → IsNumbered after new sent
take_numbered ran after old new sent m n first last =
    let same : came after new ≡ came ran old = ap (λ q. came q new) last ∙ came_take ran new m ∙ sym (ap (came ran) first) in
    record {
      numbered = ap are_numbered same ∙ n.numbered;
      counted = λ s below. n.counted s below ∙ sym (ap (count_by (λ (x : Tag). x.sender == s)) same);
    }

-- no count reaches its type's end
pub count_small : (ran : List Tag) (waiting : List Mail) (sent : List ℕ) (s r w : ℕ) → IsNumbered ran waiting sent → s < length sent
    → length ran ≤ r → length waiting ≤ w → slice_index sent s ≤ r + w
count_small ran waiting sent s r w n within few less =
    omega (arith, n.counted s within, count_by-le-length (λ (x : Tag). x.sender == s) (came ran waiting), few, less, long)
  where
    long : length (came ran waiting) ≡ length ran + length waiting
    long = grind (arith, length-append, length-map)

-- the first of a list and what is left behind it
pub first_is : {X : Type 0} (xs rest : List X) (x : X) → 0 < length xs → x ≡ get_or xs 0 x → rest ≡ drop 1 xs → xs ≡ x ∷ rest
first_is [] rest x some e f = absurd (omega (arith, some))
first_is (y ∷ xs) rest x some e f = rw (f, e) refl
