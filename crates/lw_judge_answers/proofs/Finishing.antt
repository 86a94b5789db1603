-- Which clients' `done` was run, when one more is.
use Rattle.std.proofs.Common.{◌≡◌, ℕ, zero, suc, ◌+◌, ◌-◌, ◌<◌, ◌≤◌, ◌==◌, Bool, true, false, not, cond, ◌&&◌, ◌||◌, List, [], ◌∷◌, map, replicate, length, count_by, set, get_or, refl, sym, ap, ap₂, ◌∙◌, inl, inr, arith}
use Rattle.std.specs.List.{list_all, list_any, range_with_len}
use Rattle.std.proofs.lemmas.Bool.{eq-eqb, ne_eqb, cases_eq, true≢false}
use Rattle.std.proofs.lemmas.List.Sums.{sum_by-cons, sum_by-set}
use Rattle.lw_model.specs.declared.script.Script.{Script}
use Rattle.lw_model.specs.declared.step.Step.{Step}
use Rattle.lw_model.specs.Threads.{clients}
use Rattle.lw_model.specs.Answers.{is_done_of}

-- as many are left as aren't
abbrev left : List Bool → ℕ
left ds = count_by not ds

left-cons : (b : Bool) (ds : List Bool) → left (b ∷ ds) ≡ cond b 0 1 + left ds
left-cons b ds = sum_by-cons (λ x. cond (not x) 1 0) b ds ∙ ap (λ n. n + left ds) (at b)
  where
    at : (b : Bool) → ◌≡◌ {A = ℕ} (cond (not b) 1 0) (cond b 0 1)
    at true = refl
    at false = refl

-- none is left where each is done
pub none_left : (p : ℕ → Bool) (cs : List ℕ) → (count_by not (map p cs) == 0) ≡ list_all p cs
none_left p [] = refl
none_left p (c ∷ cs) = ap (λ n. n == 0) (left-cons (p c) (map p cs)) ∙ at (p c) (none_left p cs)
  where
    at : (b : Bool) → (left (map p cs) == 0) ≡ list_all p cs → (cond b 0 1 + left (map p cs) == 0) ≡ (b && list_all p cs)
    at true h = ap (λ n. n == 0) same ∙ h
      where
        same : 0 + left (map p cs) ≡ left (map p cs)
        same = omega arith
    at false h = ne_eqb (1 + left (map p cs)) 0 (omega arith)

-- before all steps none is done
pub none_done : (a n : ℕ) → replicate n false ≡ map (λ c. false) (range_with_len a n)
none_done a zero = refl
none_done a (suc n) = ap (λ l. false ∷ l) (none_done (a + 1) n)

pub all_left : (n : ℕ) → n ≡ count_by not (replicate n false)
all_left zero = refl
all_left (suc n) = omega (arith, left-cons false (replicate n false), all_left n)

-- ---- One more

-- a number below a range isn't in it
others_stay : (p : ℕ → Bool) (k a n : ℕ) → k < a → map (λ c. (k == c) || p c) (range_with_len a n) ≡ map p (range_with_len a n)
others_stay p k a zero less = refl
others_stay p k a (suc n) less = ap₂ (λ b l. (b || p a) ∷ l) (ne_eqb k a (omega (arith, less))) (others_stay p k (a + 1) n (omega (arith, less)))

-- one that isn't is marked at its place
one_more : (p : ℕ → Bool) (k a n : ℕ) → a ≤ k → map (λ c. (k == c) || p c) (range_with_len a n) ≡ set (map p (range_with_len a n)) (k - a) true
one_more p k a zero low = refl
one_more p k a (suc n) low = elim (cases_eq k a) [ inl same ↦ here same | inr other ↦ there other (one_more p k (a + 1) n (omega (arith, low, other))) ]
  where
    here : k ≡ a → (((k == a) || p a) ∷ map (λ c. (k == c) || p c) (range_with_len (a + 1) n)) ≡ set (p a ∷ map p (range_with_len (a + 1) n)) (k - a) true
    here same =
        ap₂ (λ b l. (b || p a) ∷ l) (eq-eqb k a same) (others_stay p k (a + 1) n (omega (arith, same)))
        ∙ ap (λ i. set (p a ∷ map p (range_with_len (a + 1) n)) i true) (sym none)
      where
        none : k - a ≡ 0
        none = omega (arith, same)

    there : (k ≡ a → ⊥) → map (λ c. (k == c) || p c) (range_with_len (a + 1) n) ≡ set (map p (range_with_len (a + 1) n)) (k - (a + 1)) true
        → (((k == a) || p a) ∷ map (λ c. (k == c) || p c) (range_with_len (a + 1) n)) ≡ set (p a ∷ map p (range_with_len (a + 1) n)) (k - a) true
    there other rest = ap₂ (λ b l. (b || p a) ∷ l) (ne_eqb k a other) rest ∙ ap (λ i. set (p a ∷ map p (range_with_len (a + 1) n)) i true) (sym next)
      where
        next : k - a ≡ suc (k - (a + 1))
        next = omega (arith, low, other)

map_same : (p q : ℕ → Bool) → ((c : ℕ) → p c ≡ q c) → (cs : List ℕ) → map p cs ≡ map q cs
map_same p q same [] = refl
map_same p q same (c ∷ cs) = ap₂ (λ b l. b ∷ l) (same c) (map_same p q same cs)

-- whether each client's was, behind a step that is the `done` of thread k
with_now : (s : Script) (past : List Step) (now : Step) (k : ℕ) → ((c : ℕ) → is_done_of c now ≡ (k == c)) → map (λ c. list_any (is_done_of c) (now ∷ past)) (clients s) ≡ map (λ c. (k == c) || list_any (is_done_of c) past) (clients s)
with_now s past now k is = map_same (λ c. list_any (is_done_of c) (now ∷ past)) (λ c. (k == c) || list_any (is_done_of c) past) (λ c. ap (λ b. b || list_any (is_done_of c) past) (is c)) (clients s)

pub done_marked : (s : Script) (past : List Step) (now : Step) (k : ℕ) → ((c : ℕ) → is_done_of c now ≡ (k == c)) → 1 ≤ k → set (map (λ c. list_any (is_done_of c) past) (clients s)) (k - 1) true ≡ map (λ c. list_any (is_done_of c) (now ∷ past)) (clients s)
done_marked s past now k is low = sym (with_now s past now k is ∙ one_more (λ c. list_any (is_done_of c) past) k 1 (length s.clients) low)

-- the `done` of a thread that is no client
pub app_unmarked : (s : Script) (past : List Step) (now : Step) (k : ℕ) → ((c : ℕ) → is_done_of c now ≡ (k == c)) → k ≡ 0 → map (λ c. list_any (is_done_of c) past) (clients s) ≡ map (λ c. list_any (is_done_of c) (now ∷ past)) (clients s)
app_unmarked s past now k is none = sym (with_now s past now k is ∙ others_stay (λ c. list_any (is_done_of c) past) k 1 (length s.clients) (omega (arith, none)))

-- a client that wasn't marked
pub one_less : (ds : List Bool) (i : ℕ) → get_or ds i true ≡ false → count_by not (set ds i true) ≡ count_by not ds - 1
one_less ds i is = omega (arith, sum_by-set (λ d. cond (not d) 1 0) ds i true true (within ds i is), waits is)
  where
    waits : get_or ds i true ≡ false → ◌≡◌ {A = ℕ} (cond (not (get_or ds i true)) 1 0) 1
    waits is = ap (λ d. cond (not d) 1 0) is

    within : (ds : List Bool) (i : ℕ) → get_or ds i true ≡ false → i < length ds
    within [] i is = absurd (true≢false is)
    within (d ∷ ds) zero is = omega arith
    within (d ∷ ds) (suc i) is = omega (arith, within ds i is)

-- a client that is marked already, or a place that isn't there
pub set_same : (ds : List Bool) (i : ℕ) → get_or ds i true ≡ true → set ds i true ≡ ds
set_same [] i is = refl
set_same (d ∷ ds) zero is = ap (λ e. e ∷ ds) (sym is)
set_same (d ∷ ds) (suc i) is = ap (λ l. d ∷ l) (set_same ds i is)
