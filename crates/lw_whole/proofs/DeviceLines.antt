-- What all threads list of a device, from what their own rows keep.
use Rattle.lw_whole.proofs.CallbacksFit.{zip_get, both_parts, any_first}
use Rattle.lw_whole.specs.Lines.{made_before, made_behind, callback_stood}
use Rattle.lw_model.proofs.Passing.{item_passes}
use Rattle.lw_model.specs.declared.script.Script.{Script}
use Rattle.std.proofs.Common.{◌≡◌, ◌≤◌, suc, ℕ, ◌+◌, ◌<◌, ◌==◌, Bool, true, false, cond, List, [], ◌∷◌, ◌++◌, map, filter_map, length, Option, Some, None, count_by, refl, sym, ap, ap₂, ◌∙◌, arith, ◌&&◌, ◌||◌, slice_get, take, drop, reverse, zip, inl, inr, subst}
use Rattle.std.specs.Prelude.{if◌then◌else◌, is_none}
use Rattle.std.specs.List.{flat_map, AllByRecursion, cons_option, enumerate_from, range_with_len, list_all, list_any}
use Rattle.std.proofs.lemmas.Bool.{eq-eqb, ne_eqb, and_parts, eqb-true, false≢true, cases_eq}
use Rattle.std.proofs.lemmas.List.Sums.{sum_by-cons}
use Rattle.std.proofs.lemmas.List.{nil_from_length}
use Rattle.lw_base.specs.declared.message.Tag.{Tag}
use Rattle.lw_base.specs.Totals.{times}
use Rattle.lw_base.proofs.Totals.{times_append}
use Rattle.lw_model.specs.declared.record.Record.{Record}
use Rattle.lw_model.specs.declared.record.Did.{Did}
use Rattle.lw_model.specs.declared.record.Called.{Called}
use Rattle.lw_model.specs.declared.record.Answer.{Answer}
use Rattle.lw_model.specs.declared.record.Answer.TheVariants as answer
use Rattle.lw_model.specs.declared.record.ThreadRecord.{ThreadRecord}
use Rattle.lw_model.specs.declared.step.Step.{Step}
use Rattle.lw_model.specs.declared.step.Step.TheVariants as step
use Rattle.lw_model.specs.Threads.{thread_count, is_on}
use Rattle.lw_model.specs.OwnOrder.{own_order, own_order_of}
use Rattle.lw_model.specs.Holding.{ordinal_given, says, held}
use Rattle.lw_model.specs.Devices.{over_steps, ordinal_on, began_on, called_on, is_began}
use Rattle.lw_model.proofs.Callbacks.{without}
use Rattle.lw_model.proofs.Growth.{dids, calleds, rans}
use Rattle.lw_whole.specs.Letters.{Note}
use Rattle.lw_whole.specs.Logs.{Log, steps}
use Rattle.lw_whole.specs.Notes.{count_begun, begun_in}
use Rattle.lw_whole.specs.WholeRun.{IsWholeRun}
use Rattle.lw_whole.proofs.Access.{of_log, log_of, ended}
use Rattle.lw_whole.proofs.Steps.{steps_are}
use Rattle.lw_whole.proofs.Flow.{sum_below, sum_same, sum_has}
use Rattle.lw_whole.proofs.TokenRuns.{length_append, count_of, count_in_order, count_of-append}
use Rattle.lw_whole.proofs.TokenFlow.{sum_only}
use Rattle.lw_whole.proofs.Ranges.{flat_same, flat_sum, flat_only}
use Rattle.lw_whole.proofs.NoteSums.{Adds, own_at, rows_are_own}
use Rattle.lw_whole.proofs.WhoBegan.{WhoBegan, began, end, others, own_fits, settled, thread_is}

-- what is found in steps is found in those but the callbacks
found_without : {Y : Type 0} (f : Step → Option Y) → ((i : ℕ) (x : Called) → f (step.Called i x) ≡ None) → (ss : List Step) → filter_map f ss ≡ filter_map f (without ss)
found_without f none [] = refl
found_without f none (step.Did i x ∷ ss) = ap (cons_option (f (step.Did i x))) (found_without f none ss)
found_without f none (step.Called i x ∷ ss) = ap (λ o. cons_option o (filter_map f ss)) (none i x) ∙ found_without f none ss
found_without f none (step.Ran i m ∷ ss) = ap (cons_option (f (step.Ran i m))) (found_without f none ss)

given_same : (r : Record) (t d : ℕ) (ss : List Step) → filter_map (ordinal_on r d t) ss ≡ filter_map (ordinal_given (is_on r.script t d)) ss
given_same r t d [] = refl
given_same r t d (step.Did i x ∷ ss) = ap (cons_option (ordinal_on r d t (step.Did i x))) (given_same r t d ss)
given_same r t d (step.Called i x ∷ ss) = given_same r t d ss
given_same r t d (step.Ran i m ∷ ss) = given_same r t d ss

-- a thread and a count
abbrev with_thread : ℕ → List ℕ → List (ℕ × ℕ)
with_thread t ns = map (λ n. (t, n)) ns

began_same : (r : Record) (t d : ℕ) (ss : List Step) → filter_map (began_on r d t) ss ≡ with_thread t (filter_map (count_begun (is_on r.script t d)) ss)
began_same r t d [] = refl
began_same r t d (step.Did i x ∷ ss) = of x.at x.op x.answer (began_same r t d ss)
  where
    of : (at k : ℕ) (a : Answer) → filter_map (began_on r d t) ss ≡ with_thread t (filter_map (count_begun (is_on r.script t d)) ss)
        → cons_option (began_on r d t (step.Did i (record { at = at; op = k; answer = a }))) (filter_map (began_on r d t) ss)
        ≡ with_thread t (cons_option (count_begun (is_on r.script t d) (step.Did i (record { at = at; op = k; answer = a }))) (filter_map (count_begun (is_on r.script t d)) ss))
    of at k (answer.Began n) e = here (is_on r.script t d k)
      where
        here : (b : Bool) → cons_option (cond b (Some (t, n)) None) (filter_map (began_on r d t) ss) ≡ with_thread t (cons_option (cond b (Some n) None) (filter_map (count_begun (is_on r.script t d)) ss))
        here true = ap (λ q. (t, n) ∷ q) e
        here false = e
    of at k _ e = e
began_same r t d (step.Called i x ∷ ss) = began_same r t d ss
began_same r t d (step.Ran i m ∷ ss) = began_same r t d ss

-- ---- callbacks

abbrev is_call : ℕ → Step → Bool
is_call d (step.Called i x) = x.device == d
is_call d _ = false

calls_are : (r : Record) (t d : ℕ) (ss : List Step) → AllByRecursion (λ u. u ≡ t) (filter_map (called_on r d t) ss) × (length (filter_map (called_on r d t) ss) ≡ count_of (is_call d) ss)
calls_are r t d [] = (tt, refl)
calls_are r t d (step.Did i x ∷ ss) = let h = calls_are r t d ss in (h.0, omega (arith, h.1))
calls_are r t d (step.Called i x ∷ ss) = at (x.device == d) (calls_are r t d ss)
  where
    at : (b : Bool) → AllByRecursion (λ u. u ≡ t) (filter_map (called_on r d t) ss) × (length (filter_map (called_on r d t) ss) ≡ count_of (is_call d) ss)
        → AllByRecursion (λ u. u ≡ t) (cons_option (cond b (Some t) None) (filter_map (called_on r d t) ss)) × (length (cons_option (cond b (Some t) None) (filter_map (called_on r d t) ss)) ≡ cond b 1 0 + count_of (is_call d) ss)
    at true h = ((refl, h.0), omega (arith, h.1))
    at false h = (h.0, omega (arith, h.1))
calls_are r t d (step.Ran i m ∷ ss) = let h = calls_are r t d ss in (h.0, omega (arith, h.1))

no_dids : (d n : ℕ) (xs : List Did) → count_of (is_call d) (map (λ p. step.Did p.0 p.1) (enumerate_from n xs)) ≡ 0
no_dids d n [] = refl
no_dids d n (x ∷ xs) = omega (arith, no_dids d (n + 1) xs)

no_rans : (d n : ℕ) (ms : List Tag) → count_of (is_call d) (map (λ p. step.Ran p.0 p.1) (enumerate_from n ms)) ≡ 0
no_rans d n [] = refl
no_rans d n (m ∷ ms) = omega (arith, no_rans d (n + 1) ms)

all_calls : (d n : ℕ) (cs : List Called) → count_of (is_call d) (map (λ p. step.Called p.0 p.1) (enumerate_from n cs)) ≡ count_by (λ x. x.device == d) cs
all_calls d n [] = refl
all_calls d n (c ∷ cs) = omega (arith, all_calls d (n + 1) cs, sum_by-cons (λ (x : Called). cond (x.device == d) 1 0) c cs)

calls_counted : (d : ℕ) (x : ThreadRecord) → count_of (is_call d) (own_order x) ≡ count_by (λ c. c.device == d) x.called
calls_counted d x = omega (
  arith,
  count_in_order (is_call d) (dids x ++ calleds x ++ rans x),
  count_of-append (is_call d) (dids x ++ calleds x) (rans x),
  count_of-append (is_call d) (dids x) (calleds x),
  no_dids d 0 x.did,
  no_rans d 0 x.ran,
  all_calls d 0 x.called,
)

called_one : (d : ℕ) (cs : List Called) → 1 ≤ count_by (λ x. x.device == d) cs → (i : ℕ) × (c : Called) × (slice_get cs i ≡ Some c) × (c.device ≡ d)
called_one d [] some = absurd (omega (arith, some))
called_one d (c ∷ cs) some = at (c.device == d) refl (omega (arith, some, sum_by-cons (λ (x : Called). cond (x.device == d) 1 0) c cs)) (λ more. called_one d cs more)
  where
    at : (b : Bool) → (c.device == d) ≡ b → 1 ≤ cond b 1 0 + count_by (λ x. x.device == d) cs → (1 ≤ count_by (λ x. x.device == d) cs → (i : ℕ) × (x : Called) × (slice_get cs i ≡ Some x) × (x.device ≡ d))
        → (i : ℕ) × (x : Called) × (slice_get (c ∷ cs) i ≡ Some x) × (x.device ≡ d)
    at true e some go = (0, c, refl, eqb-true c.device d e)
    at false e some go = let rest = go (omega (arith, some)) in (suc rest.0, rest.1, rest.2, rest.3)

-- a thread whose callback came had begun
pub stood_began : (s : Script) (t : ℕ) (l : Log) (k : ℕ) (c : Called) → callback_stood s t l k c ≡ true → list_any (says (is_on s t c.device) is_began) (steps l) ≡ true
stood_began s t l k c e =
    let p = and_parts (list_all (made_before c.at) (take k (steps l)) && list_all (made_behind c.at) (drop k (steps l)) && list_any (says (is_on s t c.device) is_began) (take k (steps l))) (is_none (held (is_on s t c.device) c.device (reverse (take k (steps l))))) e in
    let q = and_parts (list_all (made_before c.at) (take k (steps l)) && list_all (made_behind c.at) (drop k (steps l))) (list_any (says (is_on s t c.device) is_began) (take k (steps l))) p.0 in
    ap (list_any (says (is_on s t c.device) is_began)) (sym (both_parts k (steps l))) ∙ any_first (says (is_on s t c.device) is_began) (take k (steps l)) (drop k (steps l)) q.1

began_counted : (on : ℕ → Bool) (ss : List Step) → list_any (says on is_began) ss ≡ true → 1 ≤ length (filter_map (count_begun on) ss)
began_counted on [] e = absurd (false≢true e)
began_counted on (step.Did i x ∷ ss) e = of x.at x.op x.answer e (λ f. began_counted on ss f)
  where
    of : (at k : ℕ) (a : Answer) → ((on k && is_began a) || list_any (says on is_began) ss) ≡ true → (list_any (says on is_began) ss ≡ true → 1 ≤ length (filter_map (count_begun on) ss))
        → 1 ≤ length (cons_option (count_begun on (step.Did i (record { at = at; op = k; answer = a }))) (filter_map (count_begun on) ss))
    of at k (answer.Began n) e go = here (on k) e
      where
        here : (b : Bool) → ((b && true) || list_any (says on is_began) ss) ≡ true → 1 ≤ length (cons_option (cond b (Some n) None) (filter_map (count_begun on) ss))
        here true e = omega arith
        here false e = go e
    of at k _ e go = go (no_right (on k) e)
      where
        no_right : (b : Bool) → ((b && false) || list_any (says on is_began) ss) ≡ true → list_any (says on is_began) ss ≡ true
        no_right true e = e
        no_right false e = e
began_counted on (step.Called i x ∷ ss) e = began_counted on ss e
began_counted on (step.Ran i m ∷ ss) e = began_counted on ss e

none_begun : (m : Note) → m.begun ≡ 0 → begun_in m ≡ []
none_begun m e = ap (λ b. cond b [] (m.count ∷ [])) (eq-eqb m.begun 0 e)

just_one : (t : ℕ) (us : List ℕ) → AllByRecursion (λ u. u ≡ t) us → length us ≡ 1 → us ≡ t ∷ []
just_one t [] h e = absurd (omega (arith, e))
just_one t (u ∷ []) h e = ap (λ k. k ∷ []) h.0
just_one t (u ∷ v ∷ us) h e = absurd (omega (arith, e))

-- ---- counts

counted_times : (k : ℕ) (xs : List ℕ) → count_by (λ m. m == k) xs ≡ times k xs
counted_times k [] = refl
counted_times k (x ∷ xs) = sum_by-cons (λ (m : ℕ). cond (m == k) 1 0) x xs ∙ at (x == k) (counted_times k xs)
  where
    at : (b : Bool) → count_by (λ m. m == k) xs ≡ times k xs → cond b 1 0 + count_by (λ m. m == k) xs ≡ (if b then 1 else 0) + times k xs
    at true e = omega (arith, e)
    at false e = omega (arith, e)

adds_length : Adds (λ n. length n.ordinals)
adds_length = record { none = refl; both = λ n m. length_append n.ordinals m.ordinals }

adds_times : (k : ℕ) → Adds (λ n. times k n.ordinals)
adds_times k = record { none = refl; both = λ n m. times_append k n.ordinals m.ordinals }

adds_fired : Adds (λ n. n.fired)
adds_fired = record { none = refl; both = λ n m. refl }

module _ (r : Record) (logs : List Log) (whole : IsWholeRun r logs) (d : ℕ) (device : d < length r.script.images) where
  abbrev n : ℕ
  n = thread_count r.script

  abbrev own : ℕ → Note
  own = own_at r logs whole d device

  abbrev who : WhoBegan r logs whole d device
  who = began r logs whole d device

  -- ---- ordinals

  ordinals_of : (t : ℕ) → t < n → filter_map (ordinal_on r d t) (own_order_of r t) ≡ (own t).ordinals
  ordinals_of t less =
      let l = log_of r logs whole t less in
      ap (filter_map (ordinal_on r d t)) (of_log r logs whole own_order t l.0 l.1)
      ∙ found_without (ordinal_on r d t) (λ i x. refl) (own_order l.0.lines)
      ∙ ap (filter_map (ordinal_on r d t)) (steps_are l.0)
      ∙ given_same r t d (steps l.0)
      ∙ sym (own_fits r logs whole d device t l.0 l.1).ordinals

  all_ordinals : over_steps r (ordinal_on r d) ≡ flat_map (λ t. (own t).ordinals) (range_with_len 0 n)
  all_ordinals = flat_same (λ t. filter_map (ordinal_on r d t) (own_order_of r t)) (λ t. (own t).ordinals) 0 n (λ t low high. ordinals_of t (omega (arith, high)))

  from_zero : (f : ℕ → ℕ) → sum_below (λ k. f (0 + k)) n ≡ sum_below f n
  from_zero f = sum_same (λ k. f (0 + k)) f n (λ k b. ap f (zero_plus k))
    where
      zero_plus : (k : ℕ) → 0 + k ≡ k
      zero_plus k = omega arith

  pub ordinal_count : length (over_steps r (ordinal_on r d)) ≡ (end r logs whole d device).given
  ordinal_count =
      ap length all_ordinals
      ∙ flat_sum length refl length_append (λ t. (own t).ordinals) 0 n
      ∙ from_zero (λ t. length (own t).ordinals)
      ∙ sym (rows_are_own r logs whole d device (λ m. length m.ordinals) adds_length)
      ∙ (settled r logs whole d device).count

  pub each_ordinal : (k : ℕ) → k < (end r logs whole d device).given → count_by (λ m. m == k) (over_steps r (ordinal_on r d)) ≡ 1
  each_ordinal k less =
      counted_times k (over_steps r (ordinal_on r d))
      ∙ ap (times k) all_ordinals
      ∙ flat_sum (times k) refl (times_append k) (λ t. (own t).ordinals) 0 n
      ∙ from_zero (λ t. times k (own t).ordinals)
      ∙ sym (rows_are_own r logs whole d device (λ m. times k m.ordinals) (adds_times k))
      ∙ (settled r logs whole d device).once k less

  -- ---- who began

  began_of : (t : ℕ) → t < n → filter_map (began_on r d t) (own_order_of r t) ≡ with_thread t (begun_in (own t))
  began_of t less =
      let l = log_of r logs whole t less in
      ap (filter_map (began_on r d t)) (of_log r logs whole own_order t l.0 l.1)
      ∙ found_without (began_on r d t) (λ i x. refl) (own_order l.0.lines)
      ∙ ap (filter_map (began_on r d t)) (steps_are l.0)
      ∙ began_same r t d (steps l.0)
      ∙ ap (with_thread t) (own_fits r logs whole d device t l.0 l.1).begun

  pub began_once : over_steps r (began_on r d) ≡ ((end r logs whole d device).thread, (end r logs whole d device).given) ∷ []
  began_once =
      flat_only (λ t. filter_map (began_on r d t) (own_order_of r t)) 0 n who.thread (omega arith) (omega (arith, who.within))
      (λ t low high other. began_of t (omega (arith, high)) ∙ ap (with_thread t) (none_begun (own t) (others r logs whole d device t (omega (arith, high)) other)))
      ∙ began_of who.thread who.within
      ∙ ap (with_thread who.thread) (one (own who.thread) who.began.0)
      ∙ ap₂ (λ (t : ℕ) (g : ℕ). (t, g) ∷ []) (thread_is r logs whole d device) who.began.1
    where
      one : (m : Note) → m.begun ≡ 1 → begun_in m ≡ m.count ∷ []
      one m e = ap (λ b. cond b [] (m.count ∷ [])) (ne_eqb m.begun 0 (λ k. omega (arith, e, k)))

  -- ---- callbacks

  called_of : (t : ℕ) → t < n → AllByRecursion (λ u. u ≡ t) (filter_map (called_on r d t) (own_order_of r t)) × (length (filter_map (called_on r d t) (own_order_of r t)) ≡ (own t).fired)
  called_of t less =
      let l = log_of r logs whole t less in
      let all = calls_are r t d (own_order_of r t) in
      (all.0, all.1 ∙ ap (count_of (is_call d)) (of_log r logs whole own_order t l.0 l.1) ∙ calls_counted d l.0.lines ∙ (own_fits r logs whole d device t l.0 l.1).fired)

  -- where a callback came, the thread had begun
  none_fired : (t : ℕ) → t < n → (t ≡ who.thread → ⊥) → (own t).fired ≡ 0
  none_fired t less other =
      let l = log_of r logs whole t less in
      let note = own_fits r logs whole d device t l.0 l.1 in
      elim (cases_eq (own t).fired 0) [
        | inl none ↦ none
        | inr some ↦
            let ends = ended r logs whole t l.0 l.1 in
            let call = called_one d l.0.lines.called (omega (arith, some, note.fired)) in
            let at = zip_get l.0.stood l.0.lines.called call.0 call.1 ends.stood call.2 in
            let stood = item_passes (λ p. callback_stood r.script t l.0 p.0 p.1) (zip l.0.stood l.0.lines.called) call.0 (at.0, call.1) ends.callbacks at.1 in
            let some_begun = began_counted (is_on r.script t d) (steps l.0) (subst (λ k. list_any (says (is_on r.script t k) is_began) (steps l.0) ≡ true) call.3 (stood_began r.script t l.0 at.0 call.1 stood)) in
            absurd (omega (arith, some_begun, ap length note.begun, ap length (none_begun (own t) (others r logs whole d device t less other))))
      ]

  one_fired : (own who.thread).fired ≡ 1
  one_fired =
      let s = settled r logs whole d device in
      omega (
        arith,
        sum_has (λ t. (own t).fired) n who.thread who.within,
        s.fired,
        s.one_callback,
        rows_are_own r logs whole d device (λ m. m.fired) adds_fired,
        sum_only (λ t. (own t).fired) who.thread n none_fired,
      )

  pub called_once : over_steps r (called_on r d) ≡ (end r logs whole d device).thread ∷ []
  called_once =
      let here = called_of who.thread who.within in
      flat_only (λ t. filter_map (called_on r d t) (own_order_of r t)) 0 n who.thread (omega arith) (omega (arith, who.within))
      (λ t low high other. let there = called_of t (omega (arith, high)) in nil_from_length (filter_map (called_on r d t) (own_order_of r t)) (omega (arith, there.1, none_fired t (omega (arith, high)) other)))
      ∙ just_one who.thread (filter_map (called_on r d who.thread) (own_order_of r who.thread)) here.0 (omega (arith, here.1, one_fired))
      ∙ ap (λ t. t ∷ []) (thread_is r logs whole d device)
