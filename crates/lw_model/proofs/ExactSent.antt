-- The tests of what was run against what was sent hold exactly where that rule does.
use Rattle.std.proofs.Common.{◌≡◌, ℕ, zero, suc, ◌+◌, ◌<◌, ◌≤◌, ◌==◌, nat_lt, nat_le, Bool, true, false, cond, not, ◌&&◌, ◌||◌, List, [], ◌∷◌, ◌++◌, map, filter, length, take, drop, take_all, Option, Some, None, slice_get, unwrap_or, option_map, refl, sym, ap, subst, inl, inr, ◌∙◌, arith, count_by, Decides, IsTrue}
use Rattle.std.specs.List.{list_all, flat_map}
use Rattle.std.proofs.lemmas.Option.{slice_get_past}
use Rattle.std.proofs.lemmas.List.Sums.{sum_by-cons}
use Rattle.std.proofs.lemmas.Bool.{and_parts, and_from, eqb-true, eq-eqb, ne_eqb, cases_lt, leb-true, le-leb, lt-leb, and_right, false≢true}
use Rattle.lw_model.specs.declared.script.Script.{Script}
use Rattle.lw_base.specs.declared.message.Tag.{Tag}
use Rattle.lw_base.specs.declared.message.What.{What}
use Rattle.lw_model.specs.declared.record.Record.{Record}
use Rattle.lw_model.specs.declared.record.ThreadRecord.{ThreadRecord}
use Rattle.lw_model.specs.Threads.{thread_count, threads, ran_of}
use Rattle.lw_model.specs.OwnOrder.{own_order, own_order_of, with_past}
use Rattle.lw_model.specs.Sent.{sent, sent_by, sent_last, run_of, tokens, must_run}
use Rattle.lw_model.specs.Lines.{thread_line, ran_line}
use Rattle.lw_model.specs.Same.{both, is_same_what}
use Rattle.lw_model.specs.Moves.{Numbers, number_fits}
use Rattle.lw_model.specs.Lawful.{RanIsSent, has_run, is_first_run}
use Rattle.lw_model.specs.Verdict.{Test, each_line, is_sent_to, lacks_none, ran_is_sent}
use Rattle.lw_model.proofs.Passing.{passes, passes-each_line, list_all-flat_map, all_in_range}
use Rattle.lw_model.proofs.Printed.{parts}
use Rattle.lw_model.proofs.Sameness.{Tells-what}
use Rattle.lw_model.proofs.Exact.{Decides-itself}

-- a rest of a list that begins with x
drop_get : {X : Type 0} (xs : List X) (n : ℕ) (x : X) (ys : List X) → drop n xs ≡ x ∷ ys → (slice_get xs n ≡ Some x) × (drop (suc n) xs ≡ ys)
drop_get [] zero x ys e = cc
drop_get [] (suc n) x ys e = cc
drop_get (a ∷ xs) zero x ys e = (cc, cc)
drop_get (a ∷ xs) (suc n) x ys e = drop_get xs n x ys e

get_drop : {X : Type 0} (xs : List X) (n : ℕ) (x : X) → slice_get xs n ≡ Some x → drop n xs ≡ x ∷ drop (suc n) xs
get_drop [] zero x e = cc
get_drop [] (suc n) x e = cc
get_drop (a ∷ xs) zero x e = ap (λ b. b ∷ xs) (some_same e)
  where
    some_same : Some a ≡ Some x → a ≡ x
    some_same e = cc
get_drop (a ∷ xs) (suc n) x e = get_drop xs n x e

abbrev pub from : ℕ → List Tag → ℕ
from s past = count_by (λ m. m.sender == s) past

abbrev runs_of : ℕ → List Tag → List What
runs_of s ms = map (λ m. m.what) (filter (λ m. m.sender == s) ms)

-- a message more from s, or from another
from_one : (b : Bool) (k n : ℕ) → n ≡ cond b 1 0 + k → n ≡ cond b (suc k) k
from_one true k n e = omega (arith, e)
from_one false k n e = omega (arith, e)

pub from-cons : (s : ℕ) (m : Tag) (past : List Tag) → from s (m ∷ past) ≡ cond (m.sender == s) (suc (from s past)) (from s past)
from-cons s m past = from_one (m.sender == s) (from s past) (from s (m ∷ past)) (sum_by-cons (λ (x : Tag). cond (x.sender == s) 1 0) m past)

module _ (S : ℕ → List What) where
  -- the WHAT of a message is the element of its sender's list at its number
  abbrev is_listed : Tag → Bool
  is_listed m = both is_same_what (slice_get (S m.sender) m.number) (Some m.what)

  both_some : (o : Option What) (w : What) → both is_same_what o (Some w) ≡ true → o ≡ Some w
  both_some None w e = absurd (false≢true e)
  both_some (Some v) w e = ap Some ((Tells-what v w).0 e)

  both_from : (o : Option What) (w : What) → o ≡ Some w → both is_same_what o (Some w) ≡ true
  both_from None w e = cc
  both_from (Some v) w e = (Tells-what v w).1 (some_same e)
    where
      some_same : Some v ≡ Some w → v ≡ w
      some_same e = cc

  -- where each is listed, what was run of s is the list's part from where it stands on
  step_forward : (b : Bool) (k n : ℕ) (xs rest : List What) (w : What) → n ≡ cond b (suc k) k → (b ≡ true → slice_get xs k ≡ Some w)
      → rest ≡ take (length rest) (drop n xs) → cond b (w ∷ rest) rest ≡ take (length (cond b (w ∷ rest) rest)) (drop k xs)
  step_forward true k n xs rest w en get e =
      ap (λ ys. w ∷ ys) (e ∙ ap (λ j. take (length rest) (drop j xs)) en) ∙ ap (take (suc (length rest))) (sym (get_drop xs k w (get refl)))
  step_forward false k n xs rest w en get e = e ∙ ap (λ j. take (length rest) (drop j xs)) en

  runs-cons : (s : ℕ) (m : Tag) (rest : List Tag) → runs_of s (m ∷ rest) ≡ cond (m.sender == s) (m.what ∷ runs_of s rest) (runs_of s rest)
  runs-cons s m rest = cond-map (m.sender == s)
    where
      cond-map : (b : Bool) → map (λ (x : Tag). x.what) (cond b (m ∷ filter (λ x. x.sender == s) rest) (filter (λ x. x.sender == s) rest)) ≡ cond b (m.what ∷ runs_of s rest) (runs_of s rest)
      cond-map true = refl
      cond-map false = refl

  forward : (past rest : List Tag) → list_all (λ p. number_fits p.0 p.1) (with_past past rest) ≡ true → list_all is_listed rest ≡ true
      → (s : ℕ) → runs_of s rest ≡ take (length (runs_of s rest)) (drop (from s past) (S s))
  forward past [] numbers listed s = refl
  forward past (m ∷ rest) numbers listed s =
      let n = and_parts (number_fits past m) (list_all (λ p. number_fits p.0 p.1) (with_past (m ∷ past) rest)) numbers in
      let l = and_parts (is_listed m) (list_all is_listed rest) listed in
      let number : m.number ≡ from m.sender past = eqb-true m.number (from m.sender past) n.0 in
      let at : slice_get (S m.sender) m.number ≡ Some m.what = both_some (slice_get (S m.sender) m.number) m.what l.0 in
      let whole = step_forward (m.sender == s) (from s past) (from s (m ∷ past)) (S s) (runs_of s rest) m.what (from-cons s m past)
      (λ is. subst (λ q. slice_get (S q) (from q past) ≡ Some m.what) (eqb-true m.sender s is) (subst (λ k. slice_get (S m.sender) k ≡ Some m.what) number at))
      (forward (m ∷ past) rest n.1 l.1 s) in
      runs-cons s m rest ∙ whole ∙ ap (λ ys. take (length ys) (drop (from s past) (S s))) (sym (runs-cons s m rest))

  -- where what was run of each is the list's rest, each is listed
  step_back : (b : Bool) (k n : ℕ) (xs rest : List What) (w : What) → n ≡ cond b (suc k) k → cond b (w ∷ rest) rest ≡ drop k xs → rest ≡ drop n xs
  step_back true k n xs rest w en e = sym (drop_get xs k w rest (sym e)).1 ∙ ap (λ j. drop j xs) (sym en)
  step_back false k n xs rest w en e = e ∙ ap (λ j. drop j xs) (sym en)

  back : (past rest : List Tag) → list_all (λ p. number_fits p.0 p.1) (with_past past rest) ≡ true → ((s : ℕ) → runs_of s rest ≡ drop (from s past) (S s)) → list_all is_listed rest ≡ true
  back past [] numbers same = refl
  back past (m ∷ rest) numbers same =
      let n = and_parts (number_fits past m) (list_all (λ p. number_fits p.0 p.1) (with_past (m ∷ past) rest)) numbers in
      let number : m.number ≡ from m.sender past = eqb-true m.number (from m.sender past) n.0 in
      let own : m.what ∷ runs_of m.sender rest ≡ drop (from m.sender past) (S m.sender) =
      sym (subst (λ b. runs_of m.sender (m ∷ rest) ≡ cond b (m.what ∷ runs_of m.sender rest) (runs_of m.sender rest)) (eq-eqb m.sender m.sender refl) (runs-cons m.sender m rest)) ∙ same m.sender in
      let at : slice_get (S m.sender) (from m.sender past) ≡ Some m.what = (drop_get (S m.sender) (from m.sender past) m.what (runs_of m.sender rest) (sym own)).0 in
      and_from (is_listed m) (list_all is_listed rest)
      (both_from (slice_get (S m.sender) m.number) m.what (subst (λ k. slice_get (S m.sender) k ≡ Some m.what) (sym number) at))
      (back (m ∷ past) rest n.1 (λ s. step_back (m.sender == s) (from s past) (from s (m ∷ past)) (S s) (runs_of s rest) m.what (from-cons s m past) (sym (runs-cons s m rest) ∙ same s)))

-- a thread that is not there sends nothing
pub of_none : {X : Type 0} (f : ThreadRecord → List X) (o : Option ThreadRecord) → o ≡ None → unwrap_or (option_map f o) [] ≡ []
of_none f None e = refl
of_none f (Some x) e = cc

pub last_none : (s : Script) (t : ℕ) → thread_count s ≤ t → sent_last s t ≡ []
last_none s t past =
    let no_client : (nat_lt 0 t && nat_le t (length s.clients)) ≡ false = and_right (nat_lt 0 t) (nat_le t (length s.clients)) (lt-leb t (length s.clients) (omega arith)) in
    let no_app : (t == 0) ≡ false = ne_eqb t 0 (omega arith) in
    rw no_client (rw no_app refl)

pub sent-none : (r : Record) (s t : ℕ) → thread_count r.script ≤ s → sent r s t ≡ []
sent-none r s t past =
    let absent : slice_get r.threads s ≡ None = slice_get_past r.threads s (omega (arith, (parts r).threads)) in
    let nothing : own_order_of r s ≡ [] = of_none own_order (slice_get r.threads s) absent in
    let last : sent_last r.script s ≡ [] = last_none r.script s past in
    ap (λ w. map (λ (p : ℕ × What). p.1) (filter (λ p. p.0 == t) (flat_map (λ p. sent_by r s p.0 p.1) (with_past [] w) ++ sent_last r.script s))) nothing
    ∙ ap (λ w. map (λ (p : ℕ × What). p.1) (filter (λ p. p.0 == t) w)) last

-- two tests of each item, the one without its past
split_tests : {X : Type 0} (a : X → Bool) (b : List X → X → Bool) (past xs : List X)
    → list_all (λ p. a p.1 && b p.0 p.1) (with_past past xs) ≡ (list_all a xs && list_all (λ p. b p.0 p.1) (with_past past xs))
split_tests a b past [] = refl
split_tests a b past (x ∷ xs) = ap (λ q. (a x && b past x) && q) (split_tests a b (x ∷ past) xs) ∙ four (a x) (b past x) (list_all a xs) (list_all (λ p. b p.0 p.1) (with_past (x ∷ past) xs))
  where
    four : (p q u v : Bool) → ((p && q) && (u && v)) ≡ ((p && u) && (q && v))
    four true true u v = refl
    four true false true v = refl
    four true false false v = refl
    four false q u v = refl

-- of each sender, known or not, no more was sent than was run
lengths : (r : Record) (t : ℕ) → list_all (λ s. nat_le (length (sent r s t)) (length (run_of r s t))) (threads r.script) ≡ true → (s : ℕ) → length (sent r s t) ≤ length (run_of r s t)
lengths r t e s = elim (cases_lt s (thread_count r.script)) [
  | inl known ↦ (all_in_range (λ q. nat_le (length (sent r q t)) (length (run_of r q t))) (λ q. length (sent r q t) ≤ length (run_of r q t)) 0 (thread_count r.script) (λ q. (leb-true (length (sent r q t)) (length (run_of r q t)), le-leb (length (sent r q t)) (length (run_of r q t))))).0 e s (omega arith) (omega arith)
  | inr unknown ↦ omega (arith, ap length (sent-none r s t unknown))
]

pub record SentHolds (r : Record) (t : ℕ) : Type 0 where
  pub all : (s : ℕ) → run_of r s t ≡ sent r s t
  pub once : IsTrue (list_all (λ p. is_first_run p.0 p.1) (with_past [] (ran_of r t)))
  pub everywhere : IsTrue (list_all (λ w. not (must_run r.script w t) || has_run r w t) (tokens r))

abbrev SentTests : Record → ℕ → List Test
SentTests r t = (thread_line r t, lacks_none r t) ∷ each_line (ran_line r t) (λ past m. is_sent_to r t m && is_first_run past m) (ran_of r t)

module _ (r : Record) (t : ℕ) (numbers : IsTrue (list_all (λ p. number_fits p.0 p.1) (with_past [] (ran_of r t)))) where
  abbrev lens : Bool
  lens = list_all (λ s. nat_le (length (sent r s t)) (length (run_of r s t))) (threads r.script)

  abbrev every : Bool
  every = list_all (λ w. not (must_run r.script w t) || has_run r w t) (tokens r)

  abbrev listed : Bool
  listed = list_all (is_listed (λ s. sent r s t)) (ran_of r t)

  abbrev first : Bool
  first = list_all (λ p. is_first_run p.0 p.1) (with_past [] (ran_of r t))

  tests-are : passes (SentTests r t) ≡ ((lens && every) && (listed && first))
  tests-are = ap (λ b. (lens && every) && b)
      (passes-each_line (ran_line r t) (λ past m. is_sent_to r t m && is_first_run past m) (ran_of r t) ∙ split_tests (is_sent_to r t) is_first_run [] (ran_of r t))

  to_rule : passes (SentTests r t) ≡ true → SentHolds r t
  to_rule e =
      let h = and_parts (lens && every) (listed && first) (sym tests-are ∙ e) in
      let a = and_parts lens every h.0 in
      let b = and_parts listed first h.1 in
      record {
        all = λ s. forward (λ q. sent r q t) [] (ran_of r t) numbers b.0 s ∙ take_all (length (run_of r s t)) (sent r s t) (lengths r t a.0 s);
        once = b.1;
        everywhere = a.1;
      }

  from_rule : SentHolds r t → passes (SentTests r t) ≡ true
  from_rule h = tests-are ∙ and_from (lens && every) (listed && first)
      (and_from lens every ((all_in_range (λ q. nat_le (length (sent r q t)) (length (run_of r q t))) (λ q. length (sent r q t) ≤ length (run_of r q t)) 0 (thread_count r.script) (λ q. (leb-true (length (sent r q t)) (length (run_of r q t)), le-leb (length (sent r q t)) (length (run_of r q t))))).1 (λ s low high. omega (arith, ap length (h.all s)))) h.everywhere)
      (and_from listed first (back (λ q. sent r q t) [] (ran_of r t) numbers h.all) h.once)

pub ran_is_sent-exact : (r : Record) → Numbers r → Decides (passes (ran_is_sent r)) (RanIsSent r)
ran_is_sent-exact r numbers = (
  λ e. let h = (all_in_range (λ t. passes (SentTests r t)) (λ t. passes (SentTests r t) ≡ true) 0 (thread_count r.script) (λ t. Decides-itself (passes (SentTests r t)))).0 (sym tests ∙ e) in
      record {
        all = λ t b. (to_rule r t (numbers t b) (h t (omega arith) (omega arith))).all;
        once = λ t b. (to_rule r t (numbers t b) (h t (omega arith) (omega arith))).once;
        everywhere = λ t b. (to_rule r t (numbers t b) (h t (omega arith) (omega arith))).everywhere;
      },
  λ h. tests ∙ (all_in_range (λ t. passes (SentTests r t)) (λ t. passes (SentTests r t) ≡ true) 0 (thread_count r.script) (λ t. Decides-itself (passes (SentTests r t)))).1
      (λ t low high. let b : t < thread_count r.script = omega arith in from_rule r t (numbers t b) (record { all = h.all t b; once = h.once t b; everywhere = h.everywhere t b })),
)
  where
    tests : passes (ran_is_sent r) ≡ list_all (λ t. passes (SentTests r t)) (threads r.script)
    tests = list_all-flat_map (λ (e : Test). e.1) (SentTests r) (threads r.script)
