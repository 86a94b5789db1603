-- The letters of each sender, and how many they are together.
use Rattle.std.proofs.Common.{◌≡◌, ◌≢◌, ℕ, zero, suc, ◌+◌, ◌*◌, ◌<◌, ◌≤◌, Bool, eqb, eq-eqb, ne_eqb, List, [], ◌∷◌, ◌++◌, map, length, All, if◌then◌else◌, refl, sym, ap, ◌∙◌, subst, arith}
use Rattle.std.proofs.lemmas.List.Elements.{All-nil, All-cons, All-head, All-tail}
use mathlib.Core.Logic.{dite}
use native.Mathlib.Decide.{ℕ_discrete, dec_le}
use Rattle.lw_latch.specs.RingWord.{most_sent}
use Rattle.lw_base.specs.declared.message.Tag.{Tag}
use Rattle.lw_base.specs.Letters.{sent_by}

pub choose_yes : {X : Type 0} (a b : ℕ) (x y : X) → a ≡ b → (if eqb a b then x else y) ≡ x
choose_yes {X} a b x y e = ap (λ (c : Bool). if c then x else y) (eq-eqb a b e)

pub choose_no : {X : Type 0} (a b : ℕ) (x y : X) → a ≢ b → (if eqb a b then x else y) ≡ y
choose_no {X} a b x y n = ap (λ (c : Bool). if c then x else y) (ne_eqb a b n)

module _ {L : Type 0} (tag_of : L → Tag) where
  pub sent_by-yes : (p : ℕ) (l : L) (ls : List L) → (tag_of l).sender ≡ p → sent_by tag_of p (l ∷ ls) ≡ l ∷ sent_by tag_of p ls
  sent_by-yes p l ls e = choose_yes ((tag_of l).sender) p (l ∷ sent_by tag_of p ls) (sent_by tag_of p ls) e

  pub sent_by-no : (p : ℕ) (l : L) (ls : List L) → (tag_of l).sender ≢ p → sent_by tag_of p (l ∷ ls) ≡ sent_by tag_of p ls
  sent_by-no p l ls n = choose_no ((tag_of l).sender) p (l ∷ sent_by tag_of p ls) (sent_by tag_of p ls) n

  pub sent_by-append : (p : ℕ) (xs ys : List L) → sent_by tag_of p (xs ++ ys) ≡ sent_by tag_of p xs ++ sent_by tag_of p ys
  sent_by-append p [] ys = refl
  sent_by-append p (x ∷ xs) ys = dite (ℕ_discrete ((tag_of x).sender) p)
      (λ e. sent_by-yes p x (xs ++ ys) e ∙ ap (λ l. x ∷ l) (sent_by-append p xs ys) ∙ ap (λ l. l ++ sent_by tag_of p ys) (sym (sent_by-yes p x xs e)))
      (λ n. sent_by-no p x (xs ++ ys) n ∙ sent_by-append p xs ys ∙ ap (λ l. l ++ sent_by tag_of p ys) (sym (sent_by-no p x xs n)))

-- P holds of the elements of each part of a list
pub All-front : {X : Type 0} (P : X → Type 0) (xs ys : List X) → All P (xs ++ ys) → All P xs
All-front P [] ys h = All-nil P
All-front P (x ∷ xs) ys h = All-cons P x xs (All-head P x (xs ++ ys) h) (All-front P xs ys (All-tail P x (xs ++ ys) h))

pub All-back : {X : Type 0} (P : X → Type 0) (xs ys : List X) → All P (xs ++ ys) → All P ys
All-back P [] ys h = h
All-back P (x ∷ xs) ys h = All-back P xs ys (All-tail P x (xs ++ ys) h)

module _ {T L : Type 0} (letter : T → L) (tag_of : L → Tag) where
  -- the letters of messages that are all of one sender, as that sender's and as another's
  pub sent_by-mine : (p : ℕ) (xs : List T) → All (λ x. (tag_of (letter x)).sender ≡ p) xs → sent_by tag_of p (map letter xs) ≡ map letter xs
  sent_by-mine p [] h = refl
  sent_by-mine p (x ∷ xs) h = sent_by-yes tag_of p (letter x) (map letter xs) (All-head (λ y. (tag_of (letter y)).sender ≡ p) x xs h) ∙ ap (λ l. letter x ∷ l) (sent_by-mine p xs (All-tail (λ y. (tag_of (letter y)).sender ≡ p) x xs h))

  pub sent_by-others : (p k : ℕ) (xs : List T) → p ≢ k → All (λ x. (tag_of (letter x)).sender ≡ k) xs → sent_by tag_of p (map letter xs) ≡ []
  sent_by-others p k [] n h = refl
  sent_by-others p k (x ∷ xs) n h = sent_by-no tag_of p (letter x) (map letter xs) (λ e. n (sym e ∙ All-head (λ y. (tag_of (letter y)).sender ≡ k) x xs h)) ∙ sent_by-others p k xs n (All-tail (λ y. (tag_of (letter y)).sender ≡ k) x xs h)

  -- where no sender from n on has any of them, all are of senders below n
  pub senders_below : (n : ℕ) (xs : List T) → ((p : ℕ) → n ≤ p → sent_by tag_of p (map letter xs) ≡ []) → All (λ x. (tag_of (letter x)).sender < n) xs
  senders_below n [] h = All-nil (λ x. (tag_of (letter x)).sender < n)
  senders_below n (x ∷ xs) h =
      let q : ℕ = (tag_of (letter x)).sender in
      let known : q < n = dite (dec_le n q) (λ le. absurd (let e = sym (sent_by-yes tag_of q (letter x) (map letter xs) refl) ∙ h q le in cc)) (λ nle. omega arith) in
      All-cons (λ y. (tag_of (letter y)).sender < n) x xs known (senders_below n xs (λ p le. sym (sent_by-no tag_of p (letter x) (map letter xs) (λ e. omega arith)) ∙ h p le))

-- f 0 + .. + f (n - 1)
pub below : ℕ → (ℕ → ℕ) → ℕ
below zero f = 0
below (suc n) f = below n f + f n

pub below_same : (n : ℕ) (f g : ℕ → ℕ) → ((p : ℕ) → p < n → g p ≡ f p) → below n g ≡ below n f
unfolding below
below_same zero f g h = refl
below_same (suc n) f g h = let r = below_same n f g (λ p l. h p (omega arith)) in let one = h n (omega arith) in omega arith

pub below_bump : (n q : ℕ) (f g : ℕ → ℕ) → q < n → ((p : ℕ) → p ≢ q → g p ≡ f p) → g q ≡ suc (f q) → below n g ≡ suc (below n f)
unfolding below
below_bump zero q f g l h here = absurd (omega arith)
below_bump (suc n) q f g l h here = dite (ℕ_discrete q n)
    (λ e. let r = below_same n f g (λ p k. h p (λ same. omega arith)) in let last = subst (λ (k : ℕ). g k ≡ suc (f k)) e here in omega arith)
    (λ apart. let r = below_bump n q f g (omega arith) h here in let last = h n (λ same. apart (sym same)) in omega arith)

pub below_at_most : (n : ℕ) (f : ℕ → ℕ) → ((p : ℕ) → f p ≤ most_sent) → below n f ≤ most_sent * n
unfolding below
below_at_most zero f h = omega arith
below_at_most (suc n) f h = let r = below_at_most n f h in let one = h n in omega arith

pub below_none : (n : ℕ) (f : ℕ → ℕ) → ((p : ℕ) → f p ≡ 0) → below n f ≡ 0
unfolding below
below_none zero f h = refl
below_none (suc n) f h = let r = below_none n f h in let one = h n in omega arith

-- what all senders below n sent is all there is
pub counted : {L : Type 0} (tag_of : L → Tag) (n : ℕ) (ls : List L) → ((p : ℕ) → n ≤ p → sent_by tag_of p ls ≡ []) → length ls ≡ below n (λ p. length (sent_by tag_of p ls))
counted tag_of n [] h = sym (below_none n (λ p. 0) (λ p. refl))
counted tag_of n (l ∷ ls) h =
    let q : ℕ = (tag_of l).sender in
    let known : q < n = dite (dec_le n q) (λ le. absurd (let e = sym (sent_by-yes tag_of q l ls refl) ∙ h q le in cc)) (λ nle. omega arith) in
    let rest : (p : ℕ) → n ≤ p → sent_by tag_of p ls ≡ [] = λ p le. sym (sent_by-no tag_of p l ls (λ e. omega arith)) ∙ h p le in
    let r = counted tag_of n ls rest in
    let more = below_bump n q (λ p. length (sent_by tag_of p ls)) (λ p. length (sent_by tag_of p (l ∷ ls))) known (λ p apart. ap length (sent_by-no tag_of p l ls (λ e. apart (sym e)))) (ap length (sent_by-yes tag_of q l ls refl)) in
    omega arith

pub below_first : (n : ℕ) (f : ℕ → ℕ) → below (suc n) f ≡ f 0 + below n (λ p. f (suc p))
unfolding below
below_first zero f = omega arith
below_first (suc n) f = let r = below_first n f in omega arith
