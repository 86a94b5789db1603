-- The tests of an event, by the sums and counts that a world keeps.
use Rattle.std.proofs.Common.{◌≡◌, ◌≤◌, ℕ, zero, suc, ◌+◌, Bool, false, ◌||◌, nat_lt, List, [], ◌∷◌, refl, sym, ap, ◌∙◌, arith, inl, inr, ◌==◌}
use Rattle.std.specs.List.{list_any}
use Rattle.std.proofs.lemmas.Bool.{lt-ltb, le-ltb, cases_lt}
use Rattle.std.proofs.lemmas.Bool.Decides.{eqb_tells}
use Rattle.lw_world.specs.declared.world_state.Standing.{Standing}
use Rattle.lw_world.specs.declared.world_state.Standing.TheVariants.{List as InList, Event, Ended}
use Rattle.lw_world.specs.declared.world_state.Stage.{Stage}
use Rattle.lw_world.specs.declared.world_state.Stage.TheVariants.{Open, Shut, Fired}
use Rattle.lw_world.specs.Keys.{list_key, shut_key}
use Rattle.lw_world.specs.Sums.{sum_below}
use Rattle.lw_world.specs.World.{any_below, is_list_of, is_shut_by}
use Rattle.lw_world.specs.Register.{keyed, one_at}
use Rattle.lw_world.proofs.Sums.{sum-zero}
use Rattle.lw_world.proofs.Registers.{keyed-cons, one_same, one_other}

sum-≤ : (n : ℕ) (g f : ℕ → ℕ) → ((i : ℕ) → g i ≤ f i) → sum_below n g ≤ sum_below n f
sum-≤ zero g f below = omega arith
sum-≤ (suc n) g f below =
    let before = sum-≤ n g f below in
    let last = below n in
    omega (arith, before, last)

either_less : (a b c d : ℕ) → a ≤ b → c ≤ d → (nat_lt a b || nat_lt c d) ≡ nat_lt (a + c) (b + d)
either_less a b c d ab cd = elim (cases_lt a b) [
  | inl h ↦ ap (λ x. x || nat_lt c d) (lt-ltb a b h) ∙ sym (lt-ltb (a + c) (b + d) (omega (arith, h, cd)))
  | inr h ↦ ap (λ x. x || nat_lt c d) (le-ltb a b h) ∙ elim (cases_lt c d) [
    | inl k ↦ lt-ltb c d k ∙ sym (lt-ltb (a + c) (b + d) (omega (arith, ab, k)))
    | inr k ↦ le-ltb c d k ∙ sym (le-ltb (a + c) (b + d) (omega (arith, h, k)))
  ]
]

pub any_less : (n : ℕ) (g f : ℕ → ℕ) → ((i : ℕ) → g i ≤ f i) → any_below n (λ i. nat_lt (g i) (f i)) ≡ nat_lt (sum_below n g) (sum_below n f)
any_less zero g f below = refl
any_less (suc n) g f below =
    ap (λ b. b || nat_lt (g n) (f n)) (any_less n g f below)
    ∙ either_less (sum_below n g) (sum_below n f) (g n) (f n) (sum-≤ n g f below) (below n)

pub any_some : (n : ℕ) (f : ℕ → ℕ) → any_below n (λ i. nat_lt 0 (f i)) ≡ nat_lt 0 (sum_below n f)
any_some n f = any_less n (λ i. 0) f (λ i. omega arith) ∙ ap (λ k. nat_lt k (sum_below n f)) (sum-zero n)

pub any_keyed : {S : Type 0} (key : S → ℕ) (k : ℕ) (test : S → Bool) → ((s : S) → test s ≡ nat_lt 0 (one_at k (key s))) → (states : List S) → list_any test states ≡ nat_lt 0 (keyed key k states)
any_keyed key k test is [] = refl
any_keyed key k test is (s ∷ states) =
    ap (λ b. b || list_any test states) (is s)
    ∙ ap (λ b. nat_lt 0 (one_at k (key s)) || b) (any_keyed key k test is states)
    ∙ either_less 0 (one_at k (key s)) 0 (keyed key k states) (omega arith) (omega arith)
    ∙ ap (nat_lt 0) (sym (keyed-cons key k s states))

one_more_key : (c k : ℕ) → (c == k) ≡ nat_lt 0 (one_at (k + 1) (c + 1))
one_more_key c k = elim (eqb_tells c k) [
  | inl p ↦ p.0 ∙ ap (nat_lt 0) (sym (one_same (k + 1) (c + 1) (ap (λ n. n + 1) p.1)))
  | inr p ↦ p.0 ∙ ap (nat_lt 0) (sym (one_other (k + 1) (c + 1) (λ e. p.1 (omega (arith, e)))))
]

no_key : (k : ℕ) → false ≡ nat_lt 0 (one_at (k + 1) 0)
no_key k = ap (nat_lt 0) (sym (one_other (k + 1) 0 (λ e. omega (arith, e))))

pub list_test : (c : ℕ) (s : Standing) → is_list_of c s ≡ nat_lt 0 (one_at (c + 1) (list_key s))
list_test c (InList r) = one_more_key r c
list_test c (Event r) = no_key c
list_test c Ended = no_key c

pub shut_test : (t : ℕ) (s : Stage) → is_shut_by t s ≡ nat_lt 0 (one_at (t + 1) (shut_key s))
shut_test t Open = no_key t
shut_test t (Shut by) = one_more_key by t
shut_test t Fired = no_key t
