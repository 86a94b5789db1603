-- How many messages of a sender came before, one message more.
use Rattle.std.proofs.Common.{◌≡◌, ℕ, zero, suc, ◌+◌, ◌<◌, ◌==◌, Bool, true, false, cond, List, [], ◌∷◌, length, take, drop, reverse, get_or, Option, Some, unwrap_or, refl, sym, ap, ◌∙◌, arith}
use Rattle.std.proofs.lemmas.Bool.{eqb-true}
use Rattle.std.proofs.lemmas.List.{take_more, reverse-append}
use Rattle.lw_base.specs.declared.message.Tag.{Tag}
use Rattle.lw_model.proofs.ExactSent.{from, from-cons}
use Rattle.lw_judge_threads.specs.Firsts.{first_unfit}

pub past_more : {X : Type 0} (xs : List X) (i : ℕ) (d : X) → i < length xs → reverse (take (i + 1) xs) ≡ get_or xs i d ∷ reverse (take i xs)
past_more xs i d h = ap reverse (take_more xs i d h) ∙ reverse-append (take i xs) (get_or xs i d ∷ [])

pub counts_more : (f g : ℕ → Option ℕ) (m : Tag) (past : List Tag) → ((s : ℕ) → g s ≡ cond (m.sender == s) (Some (from m.sender past + 1)) (f s)) → ((s : ℕ) → unwrap_or (f s) 0 ≡ from s past) → (s : ℕ) → unwrap_or (g s) 0 ≡ from s (m ∷ past)
counts_more f g m past writes counts s = ap (λ o. unwrap_or o 0) (writes s) ∙ at (m.sender == s) refl ∙ sym (from-cons s m past)
  where
    at : (b : Bool) → m.sender == s ≡ b → unwrap_or (cond b (Some (from m.sender past + 1)) (f s)) 0 ≡ cond b (suc (from s past)) (from s past)
    at true e = ap (λ q. from q past + 1) (eqb-true m.sender s e) ∙ omega arith
    at false e = counts s

drop_at : {X : Type 0} (xs : List X) (i : ℕ) (d : X) → i < length xs → drop i xs ≡ get_or xs i d ∷ drop (i + 1) xs
drop_at [] i d h = absurd (omega (arith, h))
drop_at (x ∷ xs) zero d h = refl
drop_at (x ∷ xs) (suc i) d h = drop_at xs i d (omega (arith, h)) ∙ ap (λ k. get_or xs i d ∷ drop k (x ∷ xs)) next
  where
    next : suc (i + 1) ≡ suc i + 1
    next = omega arith

-- the next item fits: what is left begins behind it
pub unfit_more : {X : Type 0} (fits : List X → X → Bool) (xs : List X) (i : ℕ) (d : X) → i < length xs → fits (reverse (take i xs)) (get_or xs i d) ≡ true
    → first_unfit fits i (reverse (take i xs)) (drop i xs) ≡ first_unfit fits (i + 1) (reverse (take (i + 1) xs)) (drop (i + 1) xs)
unfit_more fits xs i d less fit =
    ap (first_unfit fits i (reverse (take i xs))) (drop_at xs i d less)
    ∙ ap (λ b. cond b (first_unfit fits (i + 1) (get_or xs i d ∷ reverse (take i xs)) (drop (i + 1) xs)) (Some i)) fit
    ∙ ap (λ past. first_unfit fits (i + 1) past (drop (i + 1) xs)) (sym (past_more xs i d less))

-- the next item is the first that doesn't
pub unfit_here : {X : Type 0} (fits : List X → X → Bool) (xs : List X) (i : ℕ) (d : X) → i < length xs → fits (reverse (take i xs)) (get_or xs i d) ≡ false
    → first_unfit fits i (reverse (take i xs)) (drop i xs) ≡ Some i
unfit_here fits xs i d less fit =
    ap (first_unfit fits i (reverse (take i xs))) (drop_at xs i d less)
    ∙ ap (λ b. cond b (first_unfit fits (i + 1) (get_or xs i d ∷ reverse (take i xs)) (drop (i + 1) xs)) (Some i)) fit
