-- Own order is sorted by number and, within a number, by kind.
use Rattle.std.proofs.Common.{◌≡◌, ℕ, ◌+◌, ◌*◌, ◌≤◌, nat_le, Bool, true, false, cond, List, [], ◌∷◌, ◌++◌, map, append_assoc, refl, sym, subst, arith}
use Rattle.std.specs.List.{enumerate_from, AllByRecursion}
use Rattle.std.proofs.lemmas.Bool.{leb-true, leb-false}
use Rattle.lw_base.specs.declared.message.Tag.{Tag}
use Rattle.lw_model.specs.declared.record.ThreadRecord.{ThreadRecord}
use Rattle.lw_model.specs.declared.record.Did.{Did}
use Rattle.lw_model.specs.declared.record.Called.{Called}
use Rattle.lw_model.specs.declared.step.Step.{Step}
use Rattle.lw_model.specs.declared.step.Step.TheVariants as step
use Rattle.lw_model.specs.OwnOrder.{at_of, put_in, in_order, own_order}
use Rattle.lw_model.proofs.Growth.{all-put_in, all-in_order, dids, calleds, rans}

abbrev pub kind : Step → ℕ
kind (step.Did i x) = 0
kind (step.Called i x) = 1
kind (step.Ran i m) = 2

kind_most : (x : Step) → kind x ≤ 2
kind_most (step.Did i x) = omega arith
kind_most (step.Called i x) = omega arith
kind_most (step.Ran i m) = omega arith

abbrev pub key : Step → ℕ
key x = 3 * at_of x + kind x

abbrev pub Sorted : List Step → Type 0
Sorted [] = Unit {0}
Sorted (x ∷ xs) = AllByRecursion (λ y. key x ≤ key y) xs × Sorted xs

abbrev Kinds : List Step → Type 0
Kinds [] = Unit {0}
Kinds (x ∷ xs) = AllByRecursion (λ y. kind x ≤ kind y) xs × Kinds xs

all_later : (a b : ℕ) (xs : List Step) → a ≤ b → AllByRecursion (λ y. b ≤ key y) xs → AllByRecursion (λ y. a ≤ key y) xs
all_later a b [] le h = tt
all_later a b (x ∷ xs) le h = (omega (arith, le, h.0), all_later a b xs le h.1)

sorted-put_in : (x : Step) (xs : List Step) → AllByRecursion (λ y. kind x ≤ kind y) xs → Sorted xs → Sorted (put_in x xs)
sorted-put_in x [] kinds h = (tt, tt)
sorted-put_in x (y ∷ xs) kinds h = at (nat_le (at_of x) (at_of y)) refl (sorted-put_in x xs kinds.1 h.1)
  where
    at : (b : Bool) → nat_le (at_of x) (at_of y) ≡ b → Sorted (put_in x xs) → Sorted (cond b (x ∷ y ∷ xs) (y ∷ put_in x xs))
    at true e rest =
        let le : key x ≤ key y = omega (arith, leb-true (at_of x) (at_of y) e, kinds.0) in
        ((le, all_later (key x) (key y) xs le h.0), h)
    at false e rest = (all-put_in (λ z. key y ≤ key z) x xs (omega (arith, leb-false (at_of x) (at_of y) e, kind_most y)) h.0, rest)

sorted-in_order : (xs : List Step) → Kinds xs → Sorted (in_order xs)
sorted-in_order [] kinds = tt
sorted-in_order (x ∷ xs) kinds = sorted-put_in x (in_order xs) (all-in_order (λ y. kind x ≤ kind y) xs kinds.0) (sorted-in_order xs kinds.1)

any_kind : (xs : List Step) → AllByRecursion (λ y. 0 ≤ kind y) xs
any_kind [] = tt
any_kind (x ∷ xs) = (omega arith, any_kind xs)

kinds_dids : (n : ℕ) (ds : List Did) (ys : List Step) → Kinds ys → Kinds (map (λ p. step.Did p.0 p.1) (enumerate_from n ds) ++ ys)
kinds_dids n [] ys h = h
kinds_dids n (d ∷ ds) ys h = (any_kind (map (λ p. step.Did p.0 p.1) (enumerate_from (n + 1) ds) ++ ys), kinds_dids (n + 1) ds ys h)

later_rans : (k : ℕ) (ms : List Tag) → AllByRecursion (λ y. 2 ≤ kind y) (map (λ p. step.Ran p.0 p.1) (enumerate_from k ms))
later_rans k [] = tt
later_rans k (m ∷ ms) = (omega arith, later_rans (k + 1) ms)

kinds_rans : (k : ℕ) (ms : List Tag) → Kinds (map (λ p. step.Ran p.0 p.1) (enumerate_from k ms))
kinds_rans k [] = tt
kinds_rans k (m ∷ ms) = (later_rans (k + 1) ms, kinds_rans (k + 1) ms)

later_calleds : (n : ℕ) (cs : List Called) (ys : List Step) → AllByRecursion (λ y. 1 ≤ kind y) ys → AllByRecursion (λ y. 1 ≤ kind y) (map (λ p. step.Called p.0 p.1) (enumerate_from n cs) ++ ys)
later_calleds n [] ys h = h
later_calleds n (c ∷ cs) ys h = (omega arith, later_calleds (n + 1) cs ys h)

weaker : (xs : List Step) → AllByRecursion (λ y. 2 ≤ kind y) xs → AllByRecursion (λ y. 1 ≤ kind y) xs
weaker [] h = tt
weaker (x ∷ xs) h = (omega (arith, h.0), weaker xs h.1)

kinds_calleds : (n : ℕ) (cs : List Called) (k : ℕ) (ms : List Tag) → Kinds (map (λ p. step.Called p.0 p.1) (enumerate_from n cs) ++ map (λ p. step.Ran p.0 p.1) (enumerate_from k ms))
kinds_calleds n [] k ms = kinds_rans k ms
kinds_calleds n (c ∷ cs) k ms =
    (later_calleds (n + 1) cs (map (λ p. step.Ran p.0 p.1) (enumerate_from k ms)) (weaker (map (λ p. step.Ran p.0 p.1) (enumerate_from k ms)) (later_rans k ms)), kinds_calleds (n + 1) cs k ms)

pub own_sorted : (x : ThreadRecord) → Sorted (own_order x)
own_sorted x = subst (λ ss. Sorted (in_order ss)) (sym (append_assoc (dids x) (calleds x) (rans x))) (sorted-in_order (dids x ++ (calleds x ++ rans x)) (kinds_dids 0 x.did (calleds x ++ rans x) (kinds_calleds 0 x.called 0 x.ran)))
