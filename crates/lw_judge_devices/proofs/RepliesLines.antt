-- The first line at which a client's replies fail.
use Rattle.std.proofs.Common.{◌≡◌, ℕ, zero, suc, ◌+◌, ◌<◌, ◌≤◌, ◌^◌, nat_lt, nat_le, Bool, true, false, cond, ◌&&◌, List, [], ◌∷◌, length, drop, map, flat_map, slice_get, Option, Some, None, IfSome, IsTrue, refl, sym, ap, ap₂, ◌∙◌, arith, inl, inr}
use Rattle.std.specs.List.{range_with_len}
use Rattle.std.specs.Prelude.{filter_map}
use Rattle.std.proofs.lemmas.Bool.{cases_lt, lt-ltb, le-ltb, le-leb, and_from}
use Rattle.std.proofs.lemmas.List.{drop_all}
use Rattle.lw_model.specs.declared.record.Record.{Record}
use Rattle.lw_model.specs.declared.record.ThreadRecord.{ThreadRecord}
use Rattle.lw_model.specs.Threads.{is_client, clients}
use Rattle.lw_model.specs.Lines.{thread_line, reply_line}
use Rattle.lw_model.specs.Lawful.{reply_op, replied_ops, replies_of, owed}
use Rattle.lw_model.specs.Same.{both, is_same_reply}
use Rattle.lw_model.specs.Verdict.{Test, against, least_failing}
use Rattle.lw_judge_threads.specs.declared.lines.ThreadLines.{ThreadLines}
use Rattle.lw_judge_devices.specs.declared.table.Owed.{Owed}
use Rattle.lw_judge_threads.specs.Firsts.{first_unlike, at_line, lesser}
use Rattle.lw_judge_threads.specs.LinesOf.{StandsAt}
use Rattle.lw_judge_devices.specs.Owed.{reply_in, IsOwed}
use Rattle.lw_judge_devices.specs.OwedLines.{reply_to, replies_in, first_line}
use Rattle.lw_judge_threads.proofs.Leasts.{least_push, least-against}
use Rattle.lw_judge_threads.proofs.Threads.{listed}

-- where no more are wanted, one more isn't
pub none_wanted : {X : Type 0} (same : X → X → Bool) (n : ℕ) (found : List X) → first_unlike same n [] (drop n found) ≡ cond (nat_lt n (length found)) (Some n) None
none_wanted {X} same n found = elim (cases_lt n (length found)) [
  | inl less ↦ one (drop n found) (some n found less) ∙ ap (λ (b : Bool). cond b (Some n) None) (sym (lt-ltb n (length found) less))
  | inr past_it ↦ ap (first_unlike same n []) (drop_all n found past_it) ∙ ap (λ (b : Bool). cond b (Some n) None) (sym (le-ltb n (length found) past_it))
]
  where
    one : (xs : List X) → 0 < length xs → first_unlike same n [] xs ≡ Some n
    one [] h = absurd (omega (arith, h))
    one (x ∷ xs) h = refl

    some : (n : ℕ) (xs : List X) → n < length xs → 0 < length (drop n xs)
    some zero xs h = h
    some (suc n) [] h = absurd (omega (arith, h))
    some (suc n) (x ∷ xs) h = some n xs (omega (arith, h))

-- the first that isn't wanted stands in the list
pub unlike_within : {X : Type 0} (same : X → X → Bool) (n : ℕ) (wanted : List (Option X)) (found : List X) → IfSome (first_unlike same n wanted found) (λ p. p < n + length found)
unlike_within same n [] [] = tt
unlike_within same n (w ∷ wanted) [] = tt
unlike_within same n [] (x ∷ found) = omega arith
unlike_within same n (w ∷ wanted) (x ∷ found) = at (both same w (Some x)) (first_unlike same (n + 1) wanted found) (unlike_within same (n + 1) wanted found)
  where
    at : (b : Bool) (o : Option ℕ) → IfSome o (λ p. p < n + 1 + length found) → IfSome (cond b o (Some n)) (λ p. p < n + suc (length found))
    at true None h = tt
    at true (Some p) h = omega (arith, h)
    at false o h = omega arith

-- the tests of a client
abbrev pub reply_tests : Record → ℕ → List Test
reply_tests r t = against is_same_reply (thread_line r t) (reply_line r t 0) (map (owed r t) (replied_ops r t)) (replies_of r t)

-- a client's lines end before the next thread's
pub replies_below : (r : Record) (t : ℕ) (x : ThreadRecord) (l : ThreadLines) → slice_get r.threads t ≡ Some x → StandsAt r t l → l.replies + length x.replies < 2 ^ 64
replies_below r t x l at stands = omega (arith, stands.replies, stands.follow, stands.few, ap length (listed (λ y. y.replies) r t x at))

-- a client's first line
pub client_line : (r : Record) (t : ℕ) (x : ThreadRecord) (l : ThreadLines) (w : Owed) → IsOwed r w → IsTrue (is_client r.script t) → slice_get r.threads t ≡ Some x → StandsAt r t l
    → first_line x l (replies_in w t x.ran) ≡ least_failing (reply_tests r t)
client_line r t x l w owes client at stands =
    ap₂ (λ wanted found. cond (nat_lt (length found) (length wanted)) (Some l.thread) (at_line l.replies (first_unlike is_same_reply 0 wanted found))) wanted (sym (listed (λ y. y.replies) r t x at))
    ∙ ap₂ (λ last line. cond (nat_lt (length (replies_of r t)) (length (map (owed r t) (replied_ops r t)))) (Some last) (at_line line (first_unlike is_same_reply 0 (map (owed r t) (replied_ops r t)) (replies_of r t)))) stands.thread stands.replies
    ∙ sym (least-against is_same_reply (thread_line r t) (reply_line r t 0) (map (owed r t) (replied_ops r t)) (replies_of r t) (omega arith))
  where
    line : (k : ℕ) → reply_to k (reply_in w t k) ≡ owed r t k
    line k = ap (reply_to k) (owes.replies t k client)

    each : (ks : List ℕ) → map (λ k. reply_to k (reply_in w t k)) ks ≡ map (owed r t) ks
    each [] = refl
    each (k ∷ ks) = ap₂ (λ a b. a ∷ b) (line k) (each ks)

    wanted : replies_in w t x.ran ≡ map (owed r t) (replied_ops r t)
    wanted = each (filter_map reply_op x.ran) ∙ ap (λ ran. map (owed r t) (filter_map reply_op ran)) (sym (listed (λ y. y.ran) r t x at))

-- the clients below a number, and one more
pub clients_more : (r : Record) (n : ℕ) (least line : Option ℕ) → least ≡ least_failing (flat_map (reply_tests r) (range_with_len 1 n)) → line ≡ least_failing (reply_tests r (n + 1))
    → lesser least line ≡ least_failing (flat_map (reply_tests r) (range_with_len 1 (n + 1)))
clients_more r n least line before here = ap₂ lesser before (here ∙ ap (λ t. least_failing (reply_tests r t)) (omega arith)) ∙ sym (least_push (reply_tests r) 1 n)

pub client_there : (clients t : ℕ) → 0 < t → t ≤ clients → (nat_lt 0 t && nat_le t clients) ≡ true
client_there clients t some below = and_from (nat_lt 0 t) (nat_le t clients) (lt-ltb 0 t some) (le-leb t clients below)
