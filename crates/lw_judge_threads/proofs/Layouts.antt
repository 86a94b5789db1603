-- Where each thread's lines stand, one thread behind another.
use Rattle.std.proofs.Common.{◌≡◌, ℕ, zero, suc, ◌+◌, ◌<◌, ◌^◌, List, [], ◌∷◌, ◌++◌, length, take, get_or, Some, unwrap_or, option_map, slice_get, sym, ap, subst, ◌∙◌, arith}
use Rattle.std.specs.List.{sum_by}
use Rattle.std.proofs.lemmas.List.{take_more}
use Rattle.std.proofs.lemmas.List.Sums.{sum_by_push}
use Rattle.lw_model.specs.declared.record.Record.{Record}
use Rattle.lw_model.specs.declared.record.ThreadRecord.{ThreadRecord}
use Rattle.lw_model.specs.Lines.{head_size, thread_size, thread_line, size_of}
use Rattle.lw_judge_threads.specs.declared.lines.ThreadLines.{ThreadLines}
use Rattle.lw_judge_threads.specs.LinesOf.{AreLines, StandsAt}

-- the line behind a thread's is the next thread's first
pub thread_next : (r : Record) (i : ℕ) (x : ThreadRecord) → i < length r.threads → get_or r.threads i x ≡ x → thread_line r (i + 1) ≡ thread_line r i + thread_size x
thread_next r i x less is =
    ap (λ l. head_size r.script + sum_by thread_size l + 1) (take_more r.threads i x less)
    ∙ ap (λ n. head_size r.script + n + 1) (sum_by_push thread_size (take i r.threads) (get_or r.threads i x))
    ∙ ap (λ y. head_size r.script + (sum_by thread_size (take i r.threads) + thread_size y) + 1) is
    ∙ omega arith

size_is : {X : Type 0} (f : ThreadRecord → List X) (r : Record) (i : ℕ) (x : ThreadRecord) → slice_get r.threads i ≡ Some x → size_of f r i ≡ length (f x)
size_is {X} f r i x at = ap (λ o. length (unwrap_or (option_map f o) [])) at

-- a thread's lines stand where they should
pub stands : (r : Record) (i : ℕ) (x : ThreadRecord) (l : ThreadLines) → slice_get r.threads i ≡ Some x → thread_line r (i + 1) ≡ thread_line r i + thread_size x
    → AreLines x (thread_line r i) l → l.behind < 2 ^ 64 → StandsAt r i l
stands r i x l at next are few =
    let hops = size_is (λ x. x.hops) r i x at in
    let ran = size_is (λ x. x.ran) r i x at in
    let did = size_is (λ x. x.did) r i x at in
    let called = size_is (λ x. x.called) r i x at in
    let replies = size_is (λ x. x.replies) r i x at in
    record {
      thread = are.thread;
      hops = omega (arith, are.hops);
      ran = omega (arith, are.ran, hops);
      did = omega (arith, are.did, are.ran, hops, ran);
      called = omega (arith, are.called, are.did, are.ran, hops, ran, did);
      replies = omega (arith, are.replies, are.called, are.did, are.ran, hops, ran, did, called);
      seen = omega (arith, are.seen, are.replies, are.called, are.did, are.ran, hops, ran, did, called, replies);
      behind = behind;
      follow = omega (arith, next, size_is (λ x. x.seen) r i x at, hops, ran, did, called, replies);
      few = subst (λ n. n < 2 ^ 64) behind few;
    }
  where
    behind : l.behind ≡ thread_line r (i + 1)
    behind = omega (arith, next, are.behind, are.seen, are.replies, are.called, are.did, are.ran)

-- what stands in a list with one more item
pub got_pushed : {X : Type 0} (P : ℕ → X → Type 0) (xs : List X) (y : X) → ((t : ℕ) (x : X) → slice_get xs t ≡ Some x → P t x) → P (length xs) y
    → (t : ℕ) (x : X) → slice_get (xs ++ y ∷ []) t ≡ Some x → P t x
got_pushed P [] y all last zero x e = subst (P 0) (some_same e) last
  where
    some_same : {X : Type 0} {a b : X} → Some a ≡ Some b → a ≡ b
    some_same e = cc
got_pushed P [] y all last (suc t) x e = cc
got_pushed P (z ∷ xs) y all last zero x e = all 0 x e
got_pushed P (z ∷ xs) y all last (suc t) x e = got_pushed (λ k w. P (suc k) w) xs y (λ k w g. all (suc k) w g) last t x e

-- one thread more
pub threads_more : (r : Record) (i : ℕ) (x : ThreadRecord) (l : ThreadLines) (ls ms : List ThreadLines) → ms ≡ ls ++ l ∷ [] → length ls ≡ i → slice_get r.threads i ≡ Some x → thread_line r (i + 1) ≡ thread_line r i + thread_size x
    → AreLines x (thread_line r i) l → l.behind < 2 ^ 64 → ((t : ℕ) (y : ThreadLines) → slice_get ls t ≡ Some y → StandsAt r t y)
    → (t : ℕ) (y : ThreadLines) → slice_get ms t ≡ Some y → StandsAt r t y
threads_more r i x l ls ms pushed count at next are few all = subst (λ ns. (t : ℕ) (y : ThreadLines) → slice_get ns t ≡ Some y → StandsAt r t y) (sym pushed)
    (got_pushed (StandsAt r) ls l all (subst (λ k. StandsAt r k l) (sym count) (stands r i x l at next are few)))
