-- Pieces of a source and of a sink, one behind the other.
use Rattle.std.proofs.Common.{◌≡◌, ◌+◌, ◌-◌, ◌≤◌, ◌++◌, ℕ, List, [], length, take, drop, Option, Some, None, IfSome, arith, refl, ap, subst, sym, ◌∙◌, append_assoc, append-nil, length-append, take-add}
use Rattle.std.proofs.lemmas.List.{take_all, drop_all, length-drop, length-take, nil_from_length}
use Rattle.std.proofs.Math.Seq.{take-append_seam, drop-append_seam, take-length}
use Rattle.lw_base.specs.Outside.{HasGiven, HasTaken}
use Rattle.lw_program.specs.Bytes.{IsReadUpTo, IsReadToEnd, bytes_read, GivesAtMost, GivesMore, HasTakenPart}

-- ---- a source

pub given-none : (o : Option (List ℕ)) → HasGiven o [] o
given-none None = tt
given-none (Some left) = (left, refl, refl)

pub given-more : (a b c : Option (List ℕ)) (xs ys : List ℕ) → HasGiven a xs b → HasGiven b ys c → HasGiven a (xs ++ ys) c
given-more None b c xs ys first second = tt
given-more (Some left) b c xs ys first second =
    let next = subst (λ o. HasGiven o ys c) first.1 second in
    (next.0, next.1, first.2 ∙ ap (λ r. xs ++ r) next.2 ∙ sym (append_assoc xs ys next.0))

pub gives_limit : (a b : Option (List ℕ)) (xs : List ℕ) (limit : ℕ) → HasGiven a xs b → length xs ≡ limit + 1 → IsReadUpTo limit a xs b
gives_limit None b xs limit given full = omega arith
gives_limit (Some left) b xs limit given full =
    let P : List ℕ → ℕ → Type 0 = λ was n. (xs ≡ take n was) × (b ≡ Some (drop n was)) in
    let here : P (xs ++ given.0) (length xs) = (sym (take-append_seam xs given.0), given.1 ∙ ap (λ r. Some r) (sym (drop-append_seam xs given.0))) in
    subst (λ n. P left n) full (subst (λ was. P was (length xs)) (sym given.2) here)

-- a last read that gave nothing found the end
pub gives_all : (a b c : Option (List ℕ)) (xs : List ℕ) (limit : ℕ) → HasGiven a xs b → HasGiven b [] c → IfSome b (λ rest. rest ≡ []) → length xs ≤ limit + 1 → IsReadUpTo limit a xs c
gives_all None b c xs limit given last ended few = few
gives_all (Some left) b c xs limit given last ended few =
    let next = subst (λ o. HasGiven o [] c) given.1 last in
    let none = subst (λ o. IfSome o (λ rest. rest ≡ [])) given.1 ended in
    let whole : left ≡ xs = given.2 ∙ ap (λ r. xs ++ r) none ∙ append-nil xs in
    let fits : length left ≤ limit + 1 = subst (λ l. length l ≤ limit + 1) (sym whole) few in
    (sym whole ∙ sym (take_all (limit + 1) left fits), next.1 ∙ ap (λ r. Some r) (sym next.2 ∙ none ∙ sym (drop_all (limit + 1) left fits)))

-- the same, where that read added nothing
pub gives_all-next : (a b c : Option (List ℕ)) (old new : List ℕ) (limit : ℕ) → HasGiven a old b → GivesMore b old new c → length new ≡ length old → IfSome b (λ rest. rest ≡ []) → length old ≤ limit + 1
    → IsReadUpTo limit a new c
gives_all-next a b c old new limit first next same ended few =
    let none : next.0 ≡ [] = nil_from_length next.0 (omega (arith, same, ap length next.1, length-append old next.0)) in
    let is : new ≡ old = next.1 ∙ ap (λ r. old ++ r) none ∙ append-nil old in
    subst (λ xs. IsReadUpTo limit a xs c) (sym is) (gives_all a b c old limit first (subst (λ r. HasGiven b r c) none next.2) ended few)

pub given-next : (a b c : Option (List ℕ)) (xs ys : List ℕ) → HasGiven a xs b → GivesMore b xs ys c → HasGiven a ys c
given-next a b c xs ys first next = subst (λ zs. HasGiven a zs c) (sym next.1) (given-more a b c xs next.0 first next.2)

pub at_most-none : (most : ℕ) (a b : Option (List ℕ)) → b ≡ a → GivesAtMost most a b
at_most-none most a b same = ([], omega arith, subst (λ o. HasGiven a [] o) (sym same) (given-none a))

pub at_most-front : (a b : Option (List ℕ)) (n : ℕ) (xs : List ℕ) → HasGiven a (take n xs) b → GivesAtMost (length xs) a b
at_most-front a b n xs given = (take n xs, omega (arith, length-take n xs), given)

pub at_most-wider : (a b : Option (List ℕ)) (few most : ℕ) → GivesAtMost few a b → few ≤ most → GivesAtMost most a b
at_most-wider a b few most given fits = (given.0, omega (arith, given.1, fits), given.2)

pub at_most-more : (a b c : Option (List ℕ)) (xs : List ℕ) (room most : ℕ) → HasGiven a xs b → GivesAtMost room b c → length xs + room ≤ most → GivesAtMost most a c
at_most-more a b c xs room most first next fits = (xs ++ next.0, omega (arith, length-append xs next.0, next.1, fits), given-more a b c xs next.0 first next.2)

-- bytes within the limit are all
pub to_end : (limit : ℕ) (a : Option (List ℕ)) (xs : List ℕ) (b : Option (List ℕ)) → IsReadUpTo limit a xs b → length xs ≤ limit → IsReadToEnd a xs b
to_end limit None xs b read few = tt
to_end limit (Some left) xs b read few =
    let short : length (take (limit + 1) left) ≤ limit = subst (λ bs. length bs ≤ limit) read.0 few in
    let fits : length left ≤ limit + 1 = omega (arith, short, length-take (limit + 1) left) in
    (read.0 ∙ take_all (limit + 1) left fits, read.1 ∙ ap (λ r. Some r) (drop_all (limit + 1) left fits))

-- bytes that are all, and within the limit, are the bytes read
pub to_end-read : (limit : ℕ) (left xs : List ℕ) (b : Option (List ℕ)) → IsReadToEnd (Some left) xs b → length xs ≤ limit → xs ≡ bytes_read limit left
to_end-read limit left xs b read few =
    let fits : length left ≤ limit + 1 = omega (arith, subst (λ bs. length bs ≤ limit) read.0 few) in
    read.0 ∙ sym (take_all (limit + 1) left fits)

-- ---- a sink

pub taken-none : (o : Option (List ℕ)) → HasTaken o [] o
taken-none None = tt
taken-none (Some held) = ap (λ r. Some r) (sym (append-nil held))

pub taken-more : (a b c : Option (List ℕ)) (xs ys : List ℕ) → HasTaken a xs b → HasTaken b ys c → HasTaken a (xs ++ ys) c
taken-more None b c xs ys first second = tt
taken-more (Some held) b c xs ys first second =
    let next = subst (λ o. HasTaken o ys c) first second in
    next ∙ ap (λ r. Some r) (append_assoc held xs ys)

-- a slice to the end is what stands behind its first place
behind : (k : ℕ) (xs : List ℕ) → take (length xs - k) (drop k xs) ≡ drop k xs
behind k xs = ap (λ n. take n (drop k xs)) (sym (length-drop k xs)) ∙ take-length (drop k xs)

pub taken-next : (a b c : Option (List ℕ)) (text : List ℕ) (k n : ℕ) → HasTaken a (take k text) b → HasTaken b (take n (take (length text - k) (drop k text))) c → HasTaken a (take (k + n) text) c
taken-next a b c text k n first second =
    let pieces : take k text ++ take n (take (length text - k) (drop k text)) ≡ take (k + n) text = ap (λ r. take k text ++ take n r) (behind k text) ∙ sym (take-add k n text) in
    subst (λ xs. HasTaken a xs c) pieces (taken-more a b c (take k text) (take n (take (length text - k) (drop k text))) first second)

pub taken-part : (a b c : Option (List ℕ)) (text : List ℕ) (n : ℕ) → HasTaken a (take n text) b → c ≡ b → HasTakenPart a text c
taken-part None b c text n taken same = tt
taken-part (Some held) b c text n taken same = (n, same ∙ taken)
