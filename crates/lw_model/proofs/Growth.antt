-- How own order grows as a thread runs: a step that is made now comes last.
use Rattle.std.proofs.Common.{◌≡◌, ℕ, ◌+◌, ◌<◌, ◌≤◌, nat_le, Bool, true, false, cond, List, [], ◌∷◌, ◌++◌, map, reverse, length, append_assoc, refl, sym, ap, ◌∙◌, arith}
use Rattle.std.specs.List.{enumerate_from, AllByRecursion}
use Rattle.std.proofs.lemmas.Bool.{le-leb, lt-leb}
use Rattle.std.proofs.lemmas.List.{map-append, reverse-append}
use Rattle.lw_base.specs.declared.message.Tag.{Tag}
use Rattle.lw_model.specs.declared.step.Step.{Step}
use Rattle.lw_model.specs.declared.step.Step.TheVariants as step
use Rattle.lw_model.specs.declared.record.ThreadRecord.{ThreadRecord}
use Rattle.lw_model.specs.declared.record.Did.{Did}
use Rattle.lw_model.specs.declared.record.Called.{Called}
use Rattle.lw_model.specs.OwnOrder.{at_of, put_in, in_order, steps_of, own_order, with_past}

-- one more item comes with all before it as its past
pub with_past_push : {X : Type 0} (past xs : List X) (y : X) → with_past past (xs ++ y ∷ []) ≡ with_past past xs ++ ((reverse xs ++ past, y) ∷ [])
with_past_push past [] y = refl
with_past_push past (x ∷ xs) y = ap (λ ps. (past, x) ∷ ps) (with_past_push (x ∷ past) xs y ∙ ap (λ q. with_past (x ∷ past) xs ++ ((q, y) ∷ [])) past_is)
  where
    past_is : reverse xs ++ (x ∷ past) ≡ reverse (x ∷ xs) ++ past
    past_is = sym (ap (λ w. w ++ past) (reverse-append (x ∷ []) xs) ∙ append_assoc (reverse xs) (x ∷ []) past)

pub enumerate_push : {X : Type 0} (n : ℕ) (xs : List X) (y : X) → enumerate_from n (xs ++ y ∷ []) ≡ enumerate_from n xs ++ ((n + length xs, y) ∷ [])
enumerate_push n [] y = ap (λ k. (k, y) ∷ []) (omega arith)
enumerate_push n (x ∷ xs) y = ap (λ ps. (n, x) ∷ ps) (enumerate_push (n + 1) xs y ∙ ap (λ k. enumerate_from (n + 1) xs ++ ((k, y) ∷ [])) (omega arith))

-- each step was made before more than `most` messages had been run
abbrev pub AllAtMost : ℕ → List Step → Type 0
AllAtMost most ss = AllByRecursion (λ s. at_of s ≤ most) ss

abbrev pub AllBelow : ℕ → List Step → Type 0
AllBelow most ss = AllByRecursion (λ s. at_of s < most) ss

pub all-append : {X : Type 0} (P : X → Type 0) (xs ys : List X) → AllByRecursion P xs → AllByRecursion P ys → AllByRecursion P (xs ++ ys)
all-append P [] ys h k = k
all-append P (x ∷ xs) ys h k = (h.0, all-append P xs ys h.1 k)

-- what holds of a step and of others, holds of all when it is put in
pub all-put_in : (P : Step → Type 0) (s : Step) (xs : List Step) → P s → AllByRecursion P xs → AllByRecursion P (put_in s xs)
all-put_in P s [] own h = (own, tt)
all-put_in P s (x ∷ xs) own h = at (nat_le (at_of s) (at_of x)) (all-put_in P s xs own h.1)
  where
    at : (b : Bool) → AllByRecursion P (put_in s xs) → AllByRecursion P (cond b (s ∷ x ∷ xs) (x ∷ put_in s xs))
    at true rest = (own, h)
    at false rest = (h.0, rest)

pub all-in_order : (P : Step → Type 0) (ss : List Step) → AllByRecursion P ss → AllByRecursion P (in_order ss)
all-in_order P [] h = tt
all-in_order P (s ∷ ss) h = all-put_in P s (in_order ss) h.0 (all-in_order P ss h.1)

-- a step goes before a last one that isn't earlier
put_before : (s y : Step) (xs : List Step) → at_of s ≤ at_of y → put_in s (xs ++ y ∷ []) ≡ put_in s xs ++ y ∷ []
put_before s y [] h = ap (λ b. cond b (s ∷ y ∷ []) (y ∷ s ∷ [])) (le-leb (at_of s) (at_of y) h)
put_before s y (x ∷ xs) h = at (nat_le (at_of s) (at_of x)) (put_before s y xs h)
  where
    at : (b : Bool) → put_in s (xs ++ y ∷ []) ≡ put_in s xs ++ y ∷ [] → cond b (s ∷ x ∷ (xs ++ y ∷ [])) (x ∷ put_in s (xs ++ y ∷ [])) ≡ cond b (s ∷ x ∷ xs) (x ∷ put_in s xs) ++ y ∷ []
    at true e = refl
    at false e = ap (λ q. x ∷ q) e

-- a step goes behind all that are earlier
put_last : (s : Step) (xs : List Step) → AllBelow (at_of s) xs → put_in s xs ≡ xs ++ s ∷ []
put_last s [] h = refl
put_last s (x ∷ xs) h = ap (λ b. cond b (s ∷ x ∷ xs) (x ∷ put_in s xs)) (lt-leb (at_of s) (at_of x) h.0) ∙ ap (λ q. x ∷ q) (put_last s xs h.1)

-- a step stays last where none is later
order_last : (xs : List Step) (y : Step) → AllAtMost (at_of y) xs → in_order (xs ++ y ∷ []) ≡ in_order xs ++ y ∷ []
order_last [] y h = refl
order_last (x ∷ xs) y h = ap (put_in x) (order_last xs y h.1) ∙ put_before x y (in_order xs) h.0

-- a step goes last where those behind it are earlier, and none before it is later
order_behind : (xs : List Step) (y : Step) (ys : List Step) → AllAtMost (at_of y) xs → AllBelow (at_of y) ys → in_order (xs ++ y ∷ ys) ≡ in_order (xs ++ ys) ++ y ∷ []
order_behind [] y ys h below = put_last y (in_order ys) (all-in_order (λ s. at_of s < at_of y) ys below)
order_behind (x ∷ xs) y ys h below = ap (put_in x) (order_behind xs y ys h.1 below) ∙ put_before x y (in_order (xs ++ ys)) h.0

-- no line says that more than `most` messages had been run
pub record AtMost (t : ThreadRecord) (most : ℕ) : Type 0 where
  pub did : AllByRecursion (λ x. x.at ≤ most) t.did
  pub called : AllByRecursion (λ x. x.at ≤ most) t.called

-- of each kind of line
abbrev pub dids : ThreadRecord → List Step
dids t = map (λ p. step.Did p.0 p.1) (enumerate_from 0 t.did)

abbrev pub calleds : ThreadRecord → List Step
calleds t = map (λ p. step.Called p.0 p.1) (enumerate_from 0 t.called)

abbrev pub rans : ThreadRecord → List Step
rans t = map (λ p. step.Ran p.0 p.1) (enumerate_from 0 t.ran)

pub all_dids : (P : ℕ → Type 0) (n : ℕ) (xs : List Did) → AllByRecursion (λ x. P x.at) xs → AllByRecursion (λ s. P (at_of s)) (map (λ p. step.Did p.0 p.1) (enumerate_from n xs))
all_dids P n [] h = tt
all_dids P n (x ∷ xs) h = (h.0, all_dids P (n + 1) xs h.1)

pub all_calleds : (P : ℕ → Type 0) (n : ℕ) (xs : List Called) → AllByRecursion (λ x. P x.at) xs → AllByRecursion (λ s. P (at_of s)) (map (λ p. step.Called p.0 p.1) (enumerate_from n xs))
all_calleds P n [] h = tt
all_calleds P n (x ∷ xs) h = (h.0, all_calleds P (n + 1) xs h.1)

pub rans_below : (n most : ℕ) (ms : List Tag) → n + length ms ≤ most → AllBelow most (map (λ p. step.Ran p.0 p.1) (enumerate_from n ms))
rans_below n most [] h = tt
rans_below n most (m ∷ ms) h = (omega (arith, h), rans_below (n + 1) most ms (omega (arith, h)))

below_at_most : (most : ℕ) (ss : List Step) → AllBelow most ss → AllAtMost most ss
below_at_most most [] h = tt
below_at_most most (s ∷ ss) h = (omega (arith, h.0), below_at_most most ss h.1)

-- a message that is run comes last in own order
pub own_order-run : (t : ThreadRecord) (m : Tag) → AtMost t (length t.ran) → own_order (record t { ran = t.ran ++ m ∷ [] }) ≡ own_order t ++ step.Ran (length t.ran) m ∷ []
own_order-run t m h =
    ap (λ ps. in_order (dids t ++ calleds t ++ map (λ (p : ℕ × Tag). step.Ran p.0 p.1) ps)) (enumerate_push 0 t.ran m)
    ∙ ap (λ q. in_order (dids t ++ calleds t ++ q)) (map-append (λ (p : ℕ × Tag). step.Ran p.0 p.1) (enumerate_from 0 t.ran) ((0 + length t.ran, m) ∷ []))
    ∙ ap in_order (sym (append_assoc (dids t ++ calleds t) (rans t) (step.Ran (0 + length t.ran) m ∷ [])))
    ∙ ap (λ k. in_order (steps_of t ++ step.Ran k m ∷ [])) (omega arith)
    ∙ order_last (steps_of t) (step.Ran (length t.ran) m)
    (all-append (λ s. at_of s ≤ length t.ran) (dids t ++ calleds t) (rans t)
    (all-append (λ s. at_of s ≤ length t.ran) (dids t) (calleds t) (all_dids (λ n. n ≤ length t.ran) 0 t.did h.did) (all_calleds (λ n. n ≤ length t.ran) 0 t.called h.called))
    (below_at_most (length t.ran) (rans t) (rans_below 0 (length t.ran) t.ran (omega arith))))

-- a `did` line that is listed when all so far has been run comes last in own order, where no callback was listed since the last message
pub own_order-list : (t : ThreadRecord) (x : Did) → x.at ≡ length t.ran → AllByRecursion (λ (y : Did). y.at ≤ x.at) t.did → AllByRecursion (λ (y : Called). y.at < x.at) t.called
    → own_order (record t { did = t.did ++ x ∷ [] }) ≡ own_order t ++ step.Did (length t.did) x ∷ []
own_order-list t x e early before =
    ap (λ ps. in_order (map (λ (p : ℕ × Did). step.Did p.0 p.1) ps ++ calleds t ++ rans t)) (enumerate_push 0 t.did x)
    ∙ ap (λ q. in_order (q ++ calleds t ++ rans t)) (map-append (λ (p : ℕ × Did). step.Did p.0 p.1) (enumerate_from 0 t.did) ((0 + length t.did, x) ∷ []))
    ∙ ap (λ k. in_order ((dids t ++ step.Did k x ∷ []) ++ calleds t ++ rans t)) (omega arith)
    ∙ ap (λ q. in_order (q ++ rans t)) (append_assoc (dids t) (step.Did (length t.did) x ∷ []) (calleds t))
    ∙ ap in_order (append_assoc (dids t) (step.Did (length t.did) x ∷ calleds t) (rans t))
    ∙ order_behind (dids t) (step.Did (length t.did) x) (calleds t ++ rans t) (all_dids (λ n. n ≤ x.at) 0 t.did early)
    (all-append (λ s. at_of s < x.at) (calleds t) (rans t) (all_calleds (λ n. n < x.at) 0 t.called before) (rans_below 0 x.at t.ran (omega (arith, e))))
    ∙ ap (λ q. in_order q ++ step.Did (length t.did) x ∷ []) (sym (append_assoc (dids t) (calleds t) (rans t)))
