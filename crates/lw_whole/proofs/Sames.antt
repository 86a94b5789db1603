-- Tests of whether two parts of logs are the same.
use Rattle.std.proofs.Common.{◌≡◌, ℕ, ◌==◌, Bool, true, false, ◌&&◌, List, [], ◌∷◌, Option, Some, None, refl, ap, ap₂}
use Rattle.std.proofs.lemmas.Bool.{and_parts, eqb-true, false≢true}
use Rattle.lw_base.specs.declared.message.Tag.{Tag}
use Rattle.lw_base.specs.declared.message.What.{What}
use Rattle.lw_model.specs.declared.record.Replied.{Replied}
use Rattle.lw_model.specs.Same.{is_same_what, is_same_replied, is_same_mark}
use Rattle.lw_model.proofs.Sameness.{Tells-what, Tells-replied, Tells-mark}
use Rattle.lw_whole.specs.Letters.{Note, Load, nothing, asked, answered, marked, reached, row, Letter}

-- the test tells what is the same
abbrev pub Tells : {X : Type 0} → (X → X → Bool) → Type 0
Tells {X} same = (x y : X) → same x y ≡ true → x ≡ y

abbrev pub same_list : {X : Type 0} → (X → X → Bool) → List X → List X → Bool
same_list same [] [] = true
same_list same (x ∷ xs) (y ∷ ys) = same x y && same_list same xs ys
same_list same _ _ = false

pub tells_list : {X : Type 0} (same : X → X → Bool) → Tells same → Tells (same_list same)
tells_list same tells [] [] e = refl
tells_list same tells [] (y ∷ ys) e = absurd (false≢true e)
tells_list same tells (x ∷ xs) [] e = absurd (false≢true e)
tells_list same tells (x ∷ xs) (y ∷ ys) e = let h = and_parts (same x y) (same_list same xs ys) e in ap₂ (λ a b. a ∷ b) (tells x y h.0) (tells_list same tells xs ys h.1)

abbrev pub same_numbers : List ℕ → List ℕ → Bool
same_numbers = same_list ◌==◌

pub tells_numbers : Tells same_numbers
tells_numbers xs ys e = tells_list ◌==◌ (λ m n f. eqb-true m n f) xs ys e

abbrev pub same_option : {X : Type 0} → (X → X → Bool) → Option X → Option X → Bool
same_option same None None = true
same_option same (Some x) (Some y) = same x y
same_option same _ _ = false

pub tells_option : {X : Type 0} (same : X → X → Bool) → Tells same → Tells (same_option same)
tells_option same tells None None e = refl
tells_option same tells None (Some y) e = absurd (false≢true e)
tells_option same tells (Some x) None e = absurd (false≢true e)
tells_option same tells (Some x) (Some y) e = ap Some (tells x y e)

abbrev pub same_tag : Tag → Tag → Bool
same_tag x y = x.sender == y.sender && x.number == y.number && is_same_what x.what y.what

pub tells_tag : Tells same_tag
tells_tag x y e =
    let a = and_parts (x.sender == y.sender && x.number == y.number) (is_same_what x.what y.what) e in
    let b = and_parts (x.sender == y.sender) (x.number == y.number) a.0 in
    λ i. record { sender = eqb-true x.sender y.sender b.0 i; number = eqb-true x.number y.number b.1 i; what = (Tells-what x.what y.what).0 a.1 i }

abbrev pub same_note : Note → Note → Bool
same_note n m = same_numbers n.ordinals m.ordinals && n.found == m.found && n.begun == m.begun && n.count == m.count && n.began_by == m.began_by && n.fired == m.fired

pub tells_note : Tells same_note
tells_note n m e =
    let a = and_parts (same_numbers n.ordinals m.ordinals && n.found == m.found && n.begun == m.begun && n.count == m.count && n.began_by == m.began_by) (n.fired == m.fired) e in
    let b = and_parts (same_numbers n.ordinals m.ordinals && n.found == m.found && n.begun == m.begun && n.count == m.count) (n.began_by == m.began_by) a.0 in
    let c = and_parts (same_numbers n.ordinals m.ordinals && n.found == m.found && n.begun == m.begun) (n.count == m.count) b.0 in
    let d = and_parts (same_numbers n.ordinals m.ordinals && n.found == m.found) (n.begun == m.begun) c.0 in
    let f = and_parts (same_numbers n.ordinals m.ordinals) (n.found == m.found) d.0 in
    λ i. record {
      ordinals = tells_numbers n.ordinals m.ordinals f.0 i;
      found = eqb-true n.found m.found f.1 i;
      begun = eqb-true n.begun m.begun d.1 i;
      count = eqb-true n.count m.count c.1 i;
      began_by = eqb-true n.began_by m.began_by b.1 i;
      fired = eqb-true n.fired m.fired a.1 i;
    }

abbrev pub same_row : List Note → List Note → Bool
same_row = same_list same_note

pub tells_row : Tells same_row
tells_row ns ms e = tells_list same_note tells_note ns ms e

abbrev pub same_load : Load → Load → Bool
same_load nothing nothing = true
same_load (asked a) (asked b) = a == b
same_load (answered a) (answered b) = is_same_replied a b
same_load (marked xs) (marked ys) = same_list is_same_mark xs ys
same_load (reached xs) (reached ys) = same_numbers xs ys
same_load (row ns) (row ms) = same_row ns ms
same_load _ _ = false

pub tells_load : Tells same_load
tells_load nothing nothing e = refl
tells_load nothing y e = absurd (false≢true e)
tells_load (asked a) (asked b) e = ap asked (eqb-true a b e)
tells_load (asked a) y e = absurd (false≢true e)
tells_load (answered a) (answered b) e = ap answered ((Tells-replied a b).0 e)
tells_load (answered a) y e = absurd (false≢true e)
tells_load (marked xs) (marked ys) e = ap marked (tells_list is_same_mark (λ x y f. (Tells-mark x y).0 f) xs ys e)
tells_load (marked xs) y e = absurd (false≢true e)
tells_load (reached xs) (reached ys) e = ap reached (tells_numbers xs ys e)
tells_load (reached xs) y e = absurd (false≢true e)
tells_load (row ns) (row ms) e = ap row (tells_row ns ms e)
tells_load (row ns) y e = absurd (false≢true e)

abbrev pub same_letter : Letter → Letter → Bool
same_letter x y = same_tag x.tag y.tag && same_load x.load y.load

pub tells_letter : Tells same_letter
tells_letter x y e =
    let a = and_parts (same_tag x.tag y.tag) (same_load x.load y.load) e in
    λ i. record { tag = tells_tag x.tag y.tag a.0 i; load = tells_load x.load y.load a.1 i }

-- what is sent, with its receiver
abbrev pub same_sends : List (ℕ × What) → List (ℕ × What) → Bool
same_sends = same_list (λ p q. p.0 == q.0 && is_same_what p.1 q.1)

pub tells_sends : Tells same_sends
tells_sends ps qs e = tells_list (λ (p q : ℕ × What). p.0 == q.0 && is_same_what p.1 q.1) (λ p q f. let h = and_parts (p.0 == q.0) (is_same_what p.1 q.1) f in ap₂ (λ (a : ℕ) (b : What). (a, b)) (eqb-true p.0 q.0 h.0) ((Tells-what p.1 q.1).0 h.1)) ps qs e

abbrev pub same_answers : List (Option Replied) → List (Option Replied) → Bool
same_answers = same_list (same_option is_same_replied)

pub tells_answers : Tells same_answers
tells_answers xs ys e = tells_list (same_option is_same_replied) (λ x y f. tells_option is_same_replied (λ a b g. (Tells-replied a b).0 g) x y f) xs ys e
