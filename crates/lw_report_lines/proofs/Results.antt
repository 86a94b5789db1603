-- A list of results that is read one by one.
use Rattle.std.proofs.Common.{◌≡◌, ℕ, suc, ◌+◌, ◌-◌, ◌<◌, List, [], ◌∷◌, ◌++◌, Option, Some, None, option_map, if◌then◌else◌, Bool, true, false, append_assoc, append-nil, refl, sym, ap, ◌∙◌, arith}
use Rattle.lw_report_lines.specs.LineParts.{is_end}
use Rattle.lw_report_lines.specs.LineKinds.{ended, results}

-- the results so far, before those that are still to be read
abbrev pub prefixed : {X : Type 0} → List X → Option (List X) → Option (List X)
prefixed xs o = option_map (λ ys. xs ++ ys) o

pub one_less : (n i : ℕ) → i < n → n - i ≡ suc (n - (i + 1))
one_less n i h = omega (arith, h)

pub results_step : {X : Type 0} (one : List ℕ → Option (X × List ℕ)) (n i : ℕ) (l behind : List ℕ) (x : X) (xs : List X) → i < n → one l ≡ Some (x, behind)
    → prefixed xs (results one (n - i) l) ≡ prefixed (xs ++ x ∷ []) (results one (n - (i + 1)) behind)
results_step {X = X} one n i l behind x xs h e =
    ap (λ k. prefixed xs (results one k l)) (one_less n i h) ∙ ap (λ o. prefixed xs (next o)) e ∙ at (results one (n - (i + 1)) behind)
  where
    next : Option (X × List ℕ) → Option (List X)
    next None = None
    next (Some p) = elim (results one (n - (i + 1)) p.1) [ Some ys ↦ Some (p.0 ∷ ys) | None ↦ None ]

    at : (o : Option (List X)) → prefixed xs (elim o [ Some ys ↦ Some (x ∷ ys) | None ↦ None ]) ≡ prefixed (xs ++ x ∷ []) o
    at None = refl
    at (Some ys) = ap Some (sym (append_assoc xs (x ∷ []) ys))

pub results_stop : {X : Type 0} (one : List ℕ → Option (X × List ℕ)) (n i : ℕ) (l : List ℕ) (xs : List X) → i < n → one l ≡ None → prefixed xs (results one (n - i) l) ≡ None
results_stop {X = X} one n i l xs h e = ap (λ k. prefixed xs (results one k l)) (one_less n i h) ∙ ap (λ o. prefixed xs (next o)) e
  where
    next : Option (X × List ℕ) → Option (List X)
    next None = None
    next (Some p) = elim (results one (n - (i + 1)) p.1) [ Some ys ↦ Some (p.0 ∷ ys) | None ↦ None ]

pub results_end : {X : Type 0} (one : List ℕ → Option (X × List ℕ)) (k : ℕ) (l : List ℕ) (xs : List X) → k ≡ 0 → prefixed xs (results one k l) ≡ ended l xs
results_end one k l xs e = ap (λ k. prefixed xs (results one k l)) e ∙ at (is_end l)
  where
    at : (b : Bool) → prefixed xs (if b then Some [] else None) ≡ (if b then Some xs else None)
    at true = ap Some (append-nil xs)
    at false = refl
