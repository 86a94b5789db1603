-- Facts of a whole run from tests that compute.
use Rattle.std.proofs.Common.{◌≡◌, ℕ, zero, suc, ◌+◌, ◌<◌, ◌≤◌, ◌==◌, nat_lt, nat_le, Bool, true, false, ◌&&◌, ◌||◌, not, List, [], ◌∷◌, map, filter_map, length, count_by, refl, sym, subst, ap, ◌∙◌, arith, inl, inr}
use Rattle.std.specs.Prelude.{slice_index_or, Any, if◌then◌else◌}
use Rattle.std.specs.List.{list_all, list_any, range_with_len}
use Rattle.std.proofs.lemmas.Bool.{cases_eq, eqb-true, and_parts, false≢true, ltb-true, ltb-false, leb-true, ne_eqb}
use Rattle.lw_base.specs.Letters.{sent_by, Names, Numbered}
use Rattle.lw_base.specs.Totals.{total, times}
use Rattle.lw_model.specs.declared.script.Script.{Script}
use Rattle.lw_base.specs.declared.ends.DeviceEnd.{DeviceEnd}
use Rattle.lw_base.proofs.Lists.{heads, tails}
use Rattle.lw_model.specs.Threads.{is_on}
use Rattle.lw_model.specs.Holding.{says, ordinal_given}
use Rattle.lw_model.specs.Devices.{is_refusal}
use Rattle.lw_model.specs.Sent.{to_thread}
use Rattle.lw_whole.specs.Letters.{Letter, Note}
use Rattle.lw_whole.specs.Logs.{Log, steps, run_by, sent_by_thread}
use Rattle.lw_whole.specs.Rings.{RingsSettled}
use Rattle.lw_whole.specs.Notes.{NoteFits, count_begun, begun_in, DeviceSettled}

-- two functions agree on a range where their lists do
pub each_in_range : {X : Type 0} (f g : ℕ → X) (a n k : ℕ) → map f (range_with_len a n) ≡ map g (range_with_len a n) → a ≤ k → k < a + n → f k ≡ g k
each_in_range f g a zero k e low high = absurd (omega (arith, low, high))
each_in_range f g a (suc n) k e low high = elim (cases_eq a k) [
  | inl same ↦ subst (λ j. f j ≡ g j) same (heads e)
  | inr ne ↦ each_in_range f g (a + 1) n k (tails e) (above ne) (omega (arith, high))
]
  where
    above : (a ≡ k → ⊥) → a + 1 ≤ k
    above ne = elim (cases_eq a k) [
      | inl same ↦ absurd (ne same)
      | inr other ↦ omega (arith, low, other)
    ]

-- ---- rings

-- what each thread ran of each sender, by thread and then by sender
abbrev pub runs_of : List Log → List (List (List Letter))
runs_of logs = map (λ t. map (λ s. sent_by (λ l. l.tag) s (run_by logs t)) (range_with_len 0 (length logs))) (range_with_len 0 (length logs))

-- what was sent, likewise
abbrev pub sends_to : List Log → List (List (List Letter))
sends_to logs = map (λ t. map (λ s. to_thread t (sent_by_thread logs s)) (range_with_len 0 (length logs))) (range_with_len 0 (length logs))

-- all senders are threads
abbrev pub senders_are_threads : List Log → Bool
senders_are_threads logs = list_all (λ l. list_all (λ x. nat_lt x.tag.sender (length logs)) l.ran) logs

-- letters of sender s, numbered from k on
abbrev pub is_numbered : ℕ → ℕ → List Letter → Bool
is_numbered s k [] = true
is_numbered s k (l ∷ ls) = l.tag.sender == s && l.tag.number == k && is_numbered s (k + 1) ls

abbrev pub all_numbered : List Log → List (List Bool)
all_numbered logs = map (λ t. map (λ s. is_numbered s 0 (to_thread t (sent_by_thread logs s))) (range_with_len 0 (length logs))) (range_with_len 0 (length logs))

abbrev pub all_true : ℕ → List (List Bool)
all_true n = map (λ t. map (λ s. true) (range_with_len 0 n)) (range_with_len 0 n)

numbered_from : (s n : ℕ) (ls : List Letter) → is_numbered s n ls ≡ true → (k : ℕ) (d : Letter) → k < length ls → Names (slice_index_or ls k d).tag s (n + k)
numbered_from s n [] e k d less = absurd (omega (arith, less))
numbered_from s n (l ∷ ls) e zero d less =
    let a = and_parts (l.tag.sender == s && l.tag.number == n) (is_numbered s (n + 1) ls) e in
    let b = and_parts (l.tag.sender == s) (l.tag.number == n) a.0 in
    (eqb-true l.tag.sender s b.0, omega (arith, eqb-true l.tag.number n b.1))
numbered_from s n (l ∷ ls) e (suc k) d less =
    let a = and_parts (l.tag.sender == s && l.tag.number == n) (is_numbered s (n + 1) ls) e in
    let b = and_parts (l.tag.sender == s) (l.tag.number == n) a.0 in
    let rest = numbered_from s (n + 1) ls a.1 k d (omega (arith, less)) in
    (rest.0, omega (arith, rest.1))

-- nothing is of a sender that none of the letters names
none_of : (s n : ℕ) → n ≤ s → (ls : List Letter) → list_all (λ x. nat_lt x.tag.sender n) ls ≡ true → sent_by (λ l. l.tag) s ls ≡ []
none_of s n out [] e = refl
none_of s n out (l ∷ ls) e =
    let a = and_parts (nat_lt l.tag.sender n) (list_all (λ x. nat_lt x.tag.sender n) ls) e in
    at (l.tag.sender == s) (ne_eqb l.tag.sender s (λ h. omega (arith, h, out, ltb-true l.tag.sender n a.0))) (none_of s n out ls a.1)
  where
    at : (b : Bool) → b ≡ false → sent_by (λ l. l.tag) s ls ≡ [] → (if b then l ∷ sent_by (λ l. l.tag) s ls else sent_by (λ l. l.tag) s ls) ≡ []
    at true f g = absurd (false≢true (sym f))
    at false f g = g

run_below : (n t : ℕ) (logs : List Log) → list_all (λ l. list_all (λ x. nat_lt x.tag.sender n) l.ran) logs ≡ true → list_all (λ x. nat_lt x.tag.sender n) (run_by logs t) ≡ true
run_below n t [] e = refl
run_below n zero (l ∷ logs) e = (and_parts (list_all (λ x. nat_lt x.tag.sender n) l.ran) _ e).0
run_below n (suc t) (l ∷ logs) e = run_below n t logs (and_parts (list_all (λ x. nat_lt x.tag.sender n) l.ran) _ e).1

nothing_sent : (s : ℕ) (logs : List Log) → length logs ≤ s → sent_by_thread logs s ≡ []
nothing_sent s [] h = refl
nothing_sent zero (l ∷ logs) h = absurd (omega (arith, h))
nothing_sent (suc s) (l ∷ logs) h = nothing_sent s logs (omega (arith, h))

pub run_from : (logs : List Log) → runs_of logs ≡ sends_to logs → senders_are_threads logs ≡ true → (t s : ℕ) → t < length logs → sent_by (λ l. l.tag) s (run_by logs t) ≡ to_thread t (sent_by_thread logs s)
run_from logs e f t s within = at (nat_lt s (length logs)) refl
  where
    at : (b : Bool) → nat_lt s (length logs) ≡ b → sent_by (λ l. l.tag) s (run_by logs t) ≡ to_thread t (sent_by_thread logs s)
    at true is = each_in_range _ _ 0 (length logs) s (each_in_range _ _ 0 (length logs) t e (omega arith) (omega (arith, within))) (omega arith) (omega (arith, ltb-true s (length logs) is))
    at false is = none_of s (length logs) (ltb-false s (length logs) is) (run_by logs t) (run_below (length logs) t logs f) ∙ sym (ap (to_thread t) (nothing_sent s logs (ltb-false s (length logs) is)))

pub all_numbered_from : (logs : List Log) → all_numbered logs ≡ all_true (length logs) → (t s : ℕ) → t < length logs → s < length logs → Numbered (λ l. l.tag) s (to_thread t (sent_by_thread logs s))
all_numbered_from logs g t s within below k d less =
    let tests = each_in_range _ _ 0 (length logs) s (each_in_range _ _ 0 (length logs) t g (omega arith) (omega (arith, within))) (omega arith) (omega (arith, below)) in
    let named = numbered_from s 0 (to_thread t (sent_by_thread logs s)) tests k d less in
    (named.0, omega (arith, named.1))

pub rings_from : (logs : List Log) → runs_of logs ≡ sends_to logs → senders_are_threads logs ≡ true → all_numbered logs ≡ all_true (length logs) → RingsSettled logs
rings_from logs e f g = record { run_is_sent = run_from logs e f; numbered = all_numbered_from logs g }

-- ---- rows

-- a note of a row that found nothing shut and began nothing
abbrev pub is_sound : Note → ℕ → Bool → Bool
is_sound n t refused = (not refused || nat_le 1 n.found) && (n.begun == 0 || n.began_by == t)

pub note_from : (s : Script) (t d : ℕ) (l : Log) (n : Note) → n.ordinals ≡ filter_map (ordinal_given (is_on s t d)) (steps l) → filter_map (count_begun (is_on s t d)) (steps l) ≡ begun_in n
    → count_by (λ x. x.device == d) l.lines.called ≡ n.fired → is_sound n t (list_any (says (is_on s t d) is_refusal) (steps l)) ≡ true → NoteFits s t d l n
note_from s t d l n e f g h =
    let c = and_parts (not (list_any (says (is_on s t d) is_refusal) (steps l)) || nat_le 1 n.found) (n.begun == 0 || n.began_by == t) h in
    record {
      ordinals = e;
      found = λ is. leb-true 1 n.found (if_true (list_any (says (is_on s t d) is_refusal) (steps l)) (nat_le 1 n.found) is c.0);
      begun = f;
      began_by = λ some. eqb-true n.began_by t (if_false (n.begun == 0) (n.began_by == t) (ne_eqb n.begun 0 (λ is. omega (arith, some, is))) c.1);
      fired = g;
    }
  where
    if_true : (p q : Bool) → p ≡ true → (not p || q) ≡ true → q ≡ true
    if_true true q is e = e
    if_true false q is e = absurd (false≢true is)

    if_false : (p q : Bool) → p ≡ false → (p || q) ≡ true → q ≡ true
    if_false true q is e = absurd (false≢true (sym is))
    if_false false q is e = e

pub settled_from : (ns : List Note) (e : DeviceEnd) → map (λ k. total (λ n. times k n.ordinals) ns) (range_with_len 0 e.given) ≡ map (λ k. 1) (range_with_len 0 e.given)
    → total (λ n. length n.ordinals) ns ≡ e.given → Any (λ n. (n.begun ≡ 1) × (n.count ≡ e.given) × (n.began_by ≡ e.thread)) ns
    → total (λ n. n.fired) ns ≡ e.callbacks → e.callbacks ≡ 1 → DeviceSettled ns e
settled_from ns e once count began fired one = record {
  once = λ k less. each_in_range _ _ 0 e.given k once (omega arith) (omega (arith, less));
  count = count;
  began = began;
  fired = fired;
  one_callback = one;
}
