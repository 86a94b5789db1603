-- A rule that is judged thread by thread.
use Rattle.std.proofs.Common.{◌≡◌, ℕ, suc, ◌+◌, ◌<◌, ◌≤◌, ◌^◌, ◌==◌, nat_le, Bool, true, false, cond, List, [], ◌∷◌, length, get_or, flat_map, Option, Some, None, unwrap_or, option_map, slice_get, IfSome, sym, ap, ap₂, subst, ◌∙◌, arith}
use Rattle.std.specs.List.{range_with_len}
use Rattle.std.proofs.lemmas.Bool.{and_parts, leb-true}
use Rattle.std.proofs.lemmas.Option.{slice_get-get_or}
use Rattle.lw_model.specs.declared.record.Record.{Record}
use Rattle.lw_model.specs.declared.record.ThreadRecord.{ThreadRecord}
use Rattle.lw_model.specs.Threads.{of_thread, ran_of, threads, thread_count}
use Rattle.lw_model.specs.Lines.{thread_line, hop_line, ran_line}
use Rattle.lw_model.specs.Moves.{home_of, first_reactor, hops_of, hop_fits, number_fits}
use Rattle.lw_model.specs.Verdict.{Test, least_failing, each_line}
use Rattle.lw_judge_threads.specs.declared.lines.ThreadLines.{ThreadLines}
use Rattle.lw_judge_threads.specs.Firsts.{first_unfit, at_line, lesser}
use Rattle.lw_judge_threads.specs.LinesOf.{StandsAt, AreThreadLines}
use Rattle.lw_model.proofs.Printed.{parts}
use Rattle.lw_judge_threads.proofs.Leasts.{least-each_line, least_push}

-- the tests of the threads below n, and those of thread n
pub least_threads : (f : ℕ → List Test) (n : ℕ) → least_failing (flat_map f (range_with_len 0 (n + 1))) ≡ lesser (least_failing (flat_map f (range_with_len 0 n))) (least_failing (f n))
least_threads f n = least_push f 0 n ∙ ap (λ k. lesser (least_failing (flat_map f (range_with_len 0 n))) (least_failing (f k))) here
  where
    here : 0 + n ≡ n
    here = omega arith

-- all threads
pub all_threads : (r : Record) (f : ℕ → List Test) (n : ℕ) (o : Option ℕ) → n ≡ thread_count r.script → o ≡ least_failing (flat_map f (range_with_len 0 n)) → o ≡ least_failing (flat_map f (threads r.script))
all_threads r f n o all is = is ∙ ap (λ k. least_failing (flat_map f (range_with_len 0 k))) all

-- the place of the first that doesn't fit is that of an item
pub unfit_within : {X : Type 0} (fits : List X → X → Bool) (n : ℕ) (past xs : List X) → IfSome (first_unfit fits n past xs) (λ p. p < n + length xs)
unfit_within fits n past [] = tt
unfit_within fits n past (x ∷ xs) = at (fits past x) (first_unfit fits (n + 1) (x ∷ past) xs) (unfit_within fits (n + 1) (x ∷ past) xs)
  where
    at : (b : Bool) (o : Option ℕ) → IfSome o (λ p. p < n + 1 + length xs) → IfSome (cond b o (Some n)) (λ p. p < n + suc (length xs))
    at true None h = tt
    at true (Some p) h = omega (arith, h)
    at false o h = omega arith

-- what a thread lists
pub listed : {X : Type 0} (f : ThreadRecord → List X) (r : Record) (t : ℕ) (x : ThreadRecord) → slice_get r.threads t ≡ Some x → of_thread f r t ≡ f x
listed f r t x at = ap (λ o. unwrap_or (option_map f o) []) at

pub listed_at : {X : Type 0} (f : ThreadRecord → List X) (r : Record) (t : ℕ) (d : ThreadRecord) → t < length r.threads → of_thread f r t ≡ f (get_or r.threads t d)
listed_at f r t d less = listed f r t (get_or r.threads t d) (slice_get-get_or r.threads t d less)

-- the line of an item of a list whose lines end before a number
pub line_below : (base n bound : ℕ) (o : Option ℕ) → base + n ≤ bound → bound < 2 ^ 64 → IfSome o (λ p. p < n) → IfSome o (λ p. base + p < 2 ^ 64)
line_below base n bound None low few h = tt
line_below base n bound (Some p) low few h = omega (arith, low, few, h)

-- ---- Numbers

pub numbers_of : (r : Record) (t : ℕ) (x : ThreadRecord) (l : ThreadLines) → slice_get r.threads t ≡ Some x → StandsAt r t l
    → at_line l.ran (first_unfit number_fits 0 [] x.ran) ≡ least_failing (each_line (ran_line r t) number_fits (ran_of r t))
numbers_of r t x l at stands =
    ap₂ (λ base xs. at_line base (first_unfit number_fits 0 [] xs)) stands.ran (sym (listed (λ x. x.ran) r t x at))
    ∙ sym (least-each_line (ran_line r t) (ran_line r t 0) (λ i. omega arith) number_fits (ran_of r t))

pub ran_fits : (r : Record) (t : ℕ) (x : ThreadRecord) (l : ThreadLines) → slice_get r.threads t ≡ Some x → StandsAt r t l → l.ran + length x.ran ≤ thread_line r (t + 1)
ran_fits r t x l at stands = omega (arith, stands.ran, stands.follow, ran)
  where
    ran : length (ran_of r t) ≡ length x.ran
    ran = ap length (listed (λ x. x.ran) r t x at)

-- ---- What is read

-- what stands where there is no thread
abbrev pub no_lines : ThreadLines
no_lines = record { thread = 0; hops = 0; ran = 0; did = 0; called = 0; replies = 0; seen = 0; behind = 0 }

-- what is read of a thread and of its lines
pub record Read (r : Record) (t : ℕ) (x : ThreadRecord) (l : ThreadLines) : Type 0 where
  pub here : slice_get r.threads t ≡ Some x
  pub stands : StandsAt r t l

pub read_at : (r : Record) (ls : List ThreadLines) (t : ℕ) (xs : List ThreadRecord) (x : ThreadRecord) (e : ThreadLines) → AreThreadLines r ls → t < length ls → xs ≡ r.threads → x ≡ get_or xs t x → Read r t x (get_or ls t e)
read_at r ls t xs x e are less same is = record {
  here = slice_get-get_or r.threads t x (omega (arith, less, are.count)) ∙ ap Some (ap (λ l. get_or l t x) (sym same) ∙ sym is);
  stands = are.each t (get_or ls t e) (slice_get-get_or ls t e less);
}

-- the loop went over all threads
pub all_gone : (r : Record) (ls : List ThreadLines) (n : ℕ) → AreThreadLines r ls → length ls ≤ n → n ≤ length ls → n ≡ thread_count r.script
all_gone r ls n are low high = omega (arith, low, high, are.count, (parts r).threads)

-- ---- One thread more

pub numbers_more : (r : Record) (t : ℕ) (x : ThreadRecord) (l : ThreadLines) (least next found : Option ℕ) → Read r t x l
    → least ≡ least_failing (flat_map (λ u. each_line (ran_line r u) number_fits (ran_of r u)) (range_with_len 0 t))
    → found ≡ at_line l.ran (first_unfit number_fits 0 [] x.ran) → next ≡ lesser least found
    → next ≡ least_failing (flat_map (λ u. each_line (ran_line r u) number_fits (ran_of r u)) (range_with_len 0 (t + 1)))
numbers_more r t x l least next found is so_far here more =
    more ∙ ap₂ lesser so_far (here ∙ numbers_of r t x l is.here is.stands) ∙ sym (least_threads (λ u. each_line (ran_line r u) number_fits (ran_of r u)) t)

pub numbers_within : (r : Record) (t : ℕ) (x : ThreadRecord) (l : ThreadLines) (o : Option ℕ) → Read r t x l → o ≡ first_unfit number_fits 0 [] x.ran → IfSome o (λ i. l.ran + i < 2 ^ 64)
numbers_within r t x l o is found = subst (λ q. IfSome q (λ i. l.ran + i < 2 ^ 64)) (sym found)
    (line_below l.ran (length x.ran) (thread_line r (t + 1)) (first_unfit number_fits 0 [] x.ran) (ran_fits r t x l is.here is.stands) is.stands.few
    (subst (λ n. IfSome (first_unfit number_fits 0 [] x.ran) (λ p. p < n)) zero_more (unfit_within number_fits 0 [] x.ran)))
  where
    zero_more : 0 + length x.ran ≡ length x.ran
    zero_more = omega arith

-- the tests of homes and hops that a thread has
abbrev pub home_tests : Record → ℕ → List Test
home_tests r t = (thread_line r t, home_of r t == first_reactor r t) ∷ each_line (hop_line r t) (hop_fits r t) (hops_of r t)

-- there is a reactor
pub some_reactor : (r : Record) → 0 < r.reactors
some_reactor r = omega (arith, leb-true 1 r.reactors (and_parts (nat_le 1 r.reactors) (nat_le r.reactors 16) (parts r).reactors).0)
