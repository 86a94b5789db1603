-- What stands in the record under a thread is what its log says.
use Rattle.std.proofs.Common.{◌≡◌, ℕ, zero, suc, ◌+◌, ◌<◌, ◌≤◌, ◌==◌, nat_lt, nat_le, Bool, true, false, List, [], ◌∷◌, map, length, Option, Some, slice_get, unwrap_or, option_map, refl, sym, ap, subst, ◌∙◌, arith, inl, inr}
use Rattle.std.specs.List.{AllByRecursion, enumerate_from, range_with_len}
use Rattle.std.proofs.lemmas.Bool.{and_parts, cases_eq, eqb-true, leb-true, false≢true}
use Rattle.std.proofs.lemmas.Option.{slice_get_past}
use Rattle.lw_base.proofs.Lists.{get_within}
use Rattle.lw_model.specs.declared.script.Script.{Script}
use Rattle.lw_model.specs.declared.record.Record.{Record}
use Rattle.lw_model.specs.declared.record.ThreadRecord.{ThreadRecord}
use Rattle.lw_model.specs.Threads.{thread_count, of_thread}
use Rattle.lw_model.proofs.Printed.{parts}
use Rattle.lw_whole.specs.Logs.{Log}
use Rattle.lw_model.specs.Threads.{is_client}
use Rattle.lw_whole.specs.Threads.{Ended, AppEnded, ClientEnded, OwnerEnded}
use Rattle.lw_whole.specs.WholeRun.{IsWholeRun}

-- what holds of each item holds of the one at a place
pub at_place : {X : Type 0} (P : X → Type 0) (xs : List X) (k : ℕ) (x : X) → AllByRecursion P xs → slice_get xs k ≡ Some x → P x
at_place P [] k x h e = cc
at_place P (y ∷ xs) zero x h e = subst P (same e) h.0
  where
    same : Some y ≡ Some x → y ≡ x
    same e = cc
at_place P (y ∷ xs) (suc k) x h e = at_place P xs k x h.1 e

-- the same with the place
pub at_number : {X : Type 0} (P : ℕ → X → Type 0) (n : ℕ) (xs : List X) (k : ℕ) (x : X) → AllByRecursion (λ p. P p.0 p.1) (enumerate_from n xs) → slice_get xs k ≡ Some x → P (n + k) x
at_number P n [] k x h e = cc
at_number P n (y ∷ xs) zero x h e = subst (λ m. P m x) (omega arith) (subst (P n) (same e) h.0)
  where
    same : Some y ≡ Some x → y ≡ x
    same e = cc
at_number P n (y ∷ xs) (suc k) x h e = subst (λ m. P m x) (omega arith) (at_number P (n + 1) xs k x h.1 e)

-- what holds of each number of a range holds of one
pub in_range : (P : ℕ → Type 0) (a n k : ℕ) → AllByRecursion P (range_with_len a n) → a ≤ k → k < a + n → P k
in_range P a zero k h low high = absurd (omega (arith, low, high))
in_range P a (suc n) k h low high = elim (cases_eq a k) [
  | inl same ↦ subst P same h.0
  | inr other ↦ in_range P (a + 1) n k h.1 (omega (arith, low, other)) (omega (arith, high))
]

pub get_map : {X Y : Type 0} (f : X → Y) (xs : List X) (k : ℕ) → slice_get (map f xs) k ≡ option_map f (slice_get xs k)
get_map f [] k = refl
get_map f (x ∷ xs) zero = refl
get_map f (x ∷ xs) (suc k) = get_map f xs k

pub client_within : (s : Script) (t : ℕ) → is_client s t ≡ true → t < thread_count s
client_within s t c = omega (arith, leb-true t (length s.clients) (and_parts (nat_lt 0 t) (nat_le t (length s.clients)) c).1)

-- the role of a log by whether its thread is the app, and whether it is a client
abbrev pub RoleOf : Script → ℕ → Log → Bool → Bool → Type 0
RoleOf s t l a b = elim a [ true ↦ AppEnded s l | false ↦ elim b [ true ↦ ClientEnded s t l | false ↦ OwnerEnded l ] ]

module _ (r : Record) (logs : List Log) (w : IsWholeRun r logs) where
  pub under : (t : ℕ) → slice_get r.threads t ≡ option_map (λ l. l.lines) (slice_get logs t)
  under t = ap (λ ts. slice_get ts t) w.threads ∙ get_map (λ (l : Log). l.lines) logs t

  pub of_log : {X : Type 0} (f : ThreadRecord → List X) (t : ℕ) (l : Log) → slice_get logs t ≡ Some l → of_thread f r t ≡ f l.lines
  of_log f t l e = ap (λ (o : Option ThreadRecord). unwrap_or (option_map f o) []) (under t ∙ ap (λ (o : Option Log). option_map (λ (l : Log). l.lines) o) e)

  pub of_none : {X : Type 0} (f : ThreadRecord → List X) (t : ℕ) → length logs ≤ t → of_thread f r t ≡ []
  of_none f t h = ap (λ (o : Option ThreadRecord). unwrap_or (option_map f o) []) (under t ∙ ap (λ (o : Option Log). option_map (λ (l : Log). l.lines) o) (slice_get_past logs t h))

  pub log_count : length logs ≡ thread_count r.script
  log_count = sym (len logs) ∙ ap length (sym w.threads) ∙ (parts r).threads
    where
      len : (ls : List Log) → length (map (λ (l : Log). l.lines) ls) ≡ length ls
      len [] = refl
      len (l ∷ ls) = omega (arith, len ls)

  pub log_of : (t : ℕ) → t < thread_count r.script → (l : Log) × (slice_get logs t ≡ Some l)
  log_of t less = get_within logs t (omega (arith, less, log_count))

  pub ended : (t : ℕ) (l : Log) → slice_get logs t ≡ Some l → Ended r.script t l
  ended t l e = subst (λ n. Ended r.script n l) (omega arith) (at_number (Ended r.script) 0 logs t l w.each e)

  pub app_ended : (l : Log) → slice_get logs 0 ≡ Some l → AppEnded r.script l
  app_ended l e = (ended 0 l e).role

  pub client_ended : (t : ℕ) (l : Log) → slice_get logs t ≡ Some l → is_client r.script t ≡ true → ClientEnded r.script t l
  client_ended t l e c = at (t == 0) refl (is_client r.script t) c (ended t l e).role
    where
      at : (a : Bool) → (t == 0) ≡ a → (b : Bool) → b ≡ true → RoleOf r.script t l a b → ClientEnded r.script t l
      at true z b is h = absurd (false≢true (subst (λ n. is_client r.script n ≡ true) (eqb-true t 0 z) c))
      at false z true is h = h
      at false z false is h = absurd (false≢true is)

  pub owner_ended : (t : ℕ) (l : Log) → slice_get logs t ≡ Some l → (t == 0) ≡ false → is_client r.script t ≡ false → OwnerEnded l
  owner_ended t l e z c = at (t == 0) z (is_client r.script t) c (ended t l e).role
    where
      at : (a : Bool) → a ≡ false → (b : Bool) → b ≡ false → RoleOf r.script t l a b → OwnerEnded l
      at true is b is' h = absurd (false≢true (sym is))
      at false is true is' h = absurd (false≢true (sym is'))
      at false is false is' h = h
