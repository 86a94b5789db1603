-- How what a row keeps grows with its thread's history.
use Rattle.std.proofs.Common.{◌≡◌, ℕ, zero, suc, ◌+◌, ◌<◌, ◌≤◌, ◌==◌, Bool, true, false, cond, ◌&&◌, ◌||◌, List, [], ◌∷◌, ◌++◌, reverse, length, filter_map, count_by, Option, Some, None, slice_set, refl, sym, ap, ap₂, subst, ◌∙◌, arith, length-set}
use Rattle.std.specs.List.{cons_option, list_any, AllByRecursion}
use Rattle.std.proofs.lemmas.Bool.{eqb-true, eqb-false, false≢true}
use Rattle.std.proofs.lemmas.List.{append-nil}
use Rattle.std.proofs.lemmas.List.Elements.{filter_map-append}
use Rattle.std.proofs.lemmas.List.Sums.{sum_by_push}
use Rattle.lw_base.proofs.Lists.{reverse_cons}
use Rattle.lw_model.specs.declared.script.Script.{Script}
use Rattle.lw_model.specs.declared.step.Step.{Step}
use Rattle.lw_model.specs.declared.step.Step.TheVariants as step
use Rattle.lw_model.specs.declared.record.Answer.{Answer}
use Rattle.lw_model.specs.declared.record.Answer.TheVariants as answer
use Rattle.lw_model.specs.declared.record.Did.{Did}
use Rattle.lw_model.specs.declared.record.Called.{Called}
use Rattle.lw_model.specs.Threads.{image_at, is_on}
use Rattle.lw_model.specs.Holding.{says, ordinal_given}
use Rattle.lw_model.specs.Devices.{is_began, is_refusal}
use Rattle.lw_whole.specs.Letters.{Letter, Note}
use Rattle.lw_whole.specs.Notes.{idle, note_at, count_begun, begun_in}
use Rattle.lw_history.specs.Histories.{Event, ran, did, called, ended, dids_of, past_of, calls_of}
use Rattle.lw_history.specs.Keeping.{KeepsNote, KeepsRow}
use Rattle.lw_history.specs.Noting.{note_fired, note_after, is_noted, with_note}

-- ---- the note of a device in a row in which that of one device was changed

pub at_set : (own : List Note) (d : ℕ) (n : Note) → d < length own → note_at (slice_set own d n) d ≡ n
at_set [] d n l = absurd (omega (arith, l))
at_set (m ∷ own) zero n l = refl
at_set (m ∷ own) (suc d) n l = at_set own d n (omega (arith, l))

pub at_other : (own : List Note) (d e : ℕ) (n : Note) → (d ≡ e → ⊥) → note_at (slice_set own d n) e ≡ note_at own e
at_other [] d e n ne = refl
at_other (m ∷ own) zero zero n ne = absurd (ne refl)
at_other (m ∷ own) zero (suc e) n ne = refl
at_other (m ∷ own) (suc d) zero n ne = refl
at_other (m ∷ own) (suc d) (suc e) n ne = at_other own d e n (λ same. ne (ap suc same))

all_idle : (own : List Note) (d : ℕ) → AllByRecursion (λ n. n ≡ idle) own → note_at own d ≡ idle
all_idle [] d h = refl
all_idle (n ∷ own) zero h = h.0
all_idle (n ∷ own) (suc d) h = all_idle own d h.1

-- ---- one step more

made_more : {X : Type 0} (f : Step → Option X) (y : Step) (past : List Step) → filter_map f (reverse (y ∷ past)) ≡ filter_map f (reverse past) ++ cons_option (f y) []
made_more f y past = ap (filter_map f) (reverse_cons y past) ∙ filter_map-append f (reverse past) (y ∷ [])

-- what the note has to be behind a line
record Follows (t : ℕ) (on : ℕ → Bool) (x : Did) (i : ℕ) (n m : Note) : Type 0 where
  ordinals : m.ordinals ≡ n.ordinals ++ cons_option (ordinal_given on (step.Did i x)) []
  found : says on is_refusal (step.Did i x) ≡ true → 1 ≤ m.found
  still_found : n.found ≤ m.found
  begun : begun_in n ++ cons_option (count_begun on (step.Did i x)) [] ≡ begun_in m
  began_by : (1 ≤ n.begun → n.began_by ≡ t) → 1 ≤ m.begun → m.began_by ≡ t
  fired : m.fired ≡ n.fired

-- an answer of another device, and one that is not noted
follows_not : (t : ℕ) (on : ℕ → Bool) (x : Did) (i : ℕ) (n : Note) → ordinal_given on (step.Did i x) ≡ None → says on is_refusal (step.Did i x) ≡ false → count_begun on (step.Did i x) ≡ None → Follows t on x i n n
follows_not t on x i n none unrefused unbegun = record {
  ordinals = sym (ap (λ o. n.ordinals ++ cons_option o []) none ∙ append-nil n.ordinals);
  found = λ e. absurd (false≢true (sym unrefused ∙ e));
  still_found = omega arith;
  begun = ap (λ o. begun_in n ++ cons_option o []) unbegun ∙ append-nil (begun_in n);
  began_by = λ f. f;
  fired = refl;
}

none_on : (on : ℕ → Bool) (at k i : ℕ) (a : Answer) → on k ≡ false → ordinal_given on (step.Did i (record { at = at; op = k; answer = a })) ≡ None
none_on on at k i (answer.Given n) e = ap (λ b. cond b (Some n) None) e
none_on on at k i _ e = refl

unbegun_on : (on : ℕ → Bool) (at k i : ℕ) (a : Answer) → on k ≡ false → count_begun on (step.Did i (record { at = at; op = k; answer = a })) ≡ None
unbegun_on on at k i (answer.Began n) e = ap (λ b. cond b (Some n) None) e
unbegun_on on at k i _ e = refl

no_right : (b : Bool) → (b && false) ≡ false
no_right true = refl
no_right false = refl

follows_other : (t : ℕ) (on : ℕ → Bool) (x : Did) (i : ℕ) (n : Note) → on x.op ≡ false → Follows t on x i n n
follows_other t on x i n e = follows_not t on x i n (none_on on x.at x.op i x.answer e) (ap (λ b. b && is_refusal x.answer) e) (unbegun_on on x.at x.op i x.answer e)

follows_unnoted : (t : ℕ) (on : ℕ → Bool) (x : Did) (i : ℕ) (n : Note) → is_noted x.answer ≡ false → Follows t on x i n n
follows_unnoted t on x i n e = of x.answer e
  where
    of : (a : Answer) → is_noted a ≡ false → Follows t on (record x { answer = a }) i n n
    of (answer.Given k) f = absurd (false≢true (sym f))
    of (answer.Began k) f = absurd (false≢true (sym f))
    of answer.Shut f = absurd (false≢true (sym f))
    of answer.Already f = absurd (false≢true (sym f))
    of _ f = follows_not t on _ i n refl (no_right (on x.op)) refl

follows_on : (t : ℕ) (on : ℕ → Bool) (x : Did) (i : ℕ) (n : Note) → on x.op ≡ true → (is_began x.answer ≡ true → n.begun ≡ 0) → Follows t on x i n (note_after t x.answer n)
follows_on t on x i n e open' = of x.answer open'
  where
    of : (a : Answer) → (is_began a ≡ true → n.begun ≡ 0) → Follows t on (record x { answer = a }) i n (note_after t a n)
    of (answer.Given k) f = record {
      ordinals = sym (ap (λ b. n.ordinals ++ cons_option (cond b (Some k) None) []) e);
      found = λ g. absurd (false≢true (sym (no_right (on x.op)) ∙ g));
      still_found = omega arith;
      begun = append-nil (begun_in n);
      began_by = λ g. g;
      fired = refl;
    }
    of (answer.Began k) f = record {
      ordinals = sym (append-nil n.ordinals);
      found = λ g. absurd (false≢true (sym (no_right (on x.op)) ∙ g));
      still_found = omega arith;
      begun = ap₂ (λ c b. cond (c == 0) [] (n.count ∷ []) ++ cons_option (cond b (Some k) None) []) (f refl) e;
      began_by = λ g l. refl;
      fired = refl;
    }
    of answer.Shut f = record { ordinals = sym (append-nil n.ordinals); found = λ g. omega arith; still_found = omega arith; begun = append-nil (begun_in n); began_by = λ g. g; fired = refl }
    of answer.Already f = record { ordinals = sym (append-nil n.ordinals); found = λ g. omega arith; still_found = omega arith; begun = append-nil (begun_in n); began_by = λ g. g; fired = refl }
    of _ f = follows_not t on _ i n refl (no_right (on x.op)) refl

module _ (s : Script) (t : ℕ) (h : List Event) where
  note_listed : (d : ℕ) (x : Did) (now : List (ℕ × Letter)) (n m : Note) → Follows t (is_on s t d) x (length (dids_of h)) n m → KeepsNote s t d h n → KeepsNote s t d (did x now ∷ h) m
  note_listed d x now n m f k =
      let y : Step = step.Did (length (dids_of h)) x in
      record {
        ordinals = f.ordinals ∙ ap (λ l. l ++ cons_option (ordinal_given (is_on s t d) y) []) k.ordinals ∙ sym (made_more (ordinal_given (is_on s t d)) y (past_of h));
        found = refused (says (is_on s t d) is_refusal y) (list_any (says (is_on s t d) is_refusal) (past_of h)) f.found (λ e. omega (arith, k.found e, f.still_found));
        begun = made_more (count_begun (is_on s t d)) y (past_of h) ∙ ap (λ l. l ++ cons_option (count_begun (is_on s t d) y) []) k.begun ∙ f.begun;
        began_by = f.began_by k.began_by;
        fired = k.fired ∙ sym f.fired;
      }
    where
      refused : (a b : Bool) → (a ≡ true → 1 ≤ m.found) → (b ≡ true → 1 ≤ m.found) → (a || b) ≡ true → 1 ≤ m.found
      refused true b p q e = p refl
      refused false b p q e = q e

  note_ran : (d : ℕ) (x : Letter) (now : List (ℕ × Letter)) (n : Note) → KeepsNote s t d h n → KeepsNote s t d (ran x now ∷ h) n
  note_ran d x now n k = record {
    ordinals = k.ordinals ∙ sym (made_more (ordinal_given (is_on s t d)) (step.Ran _ x.tag) (past_of h) ∙ append-nil _);
    found = k.found;
    begun = made_more (count_begun (is_on s t d)) (step.Ran _ x.tag) (past_of h) ∙ append-nil _ ∙ k.begun;
    began_by = k.began_by;
    fired = k.fired;
  }

-- ---- the row

pub rows_begin : (s : Script) (t : ℕ) (own : List Note) → length own ≡ length s.images → AllByRecursion (λ n. n ≡ idle) own → KeepsRow s t [] own
rows_begin s t own count none = record { devices = count; notes = λ d l. subst (KeepsNote s t d []) (sym (all_idle own d none)) (record { ordinals = refl; found = λ e. absurd (false≢true e); begun = refl; began_by = λ e. absurd (omega (arith, e)); fired = refl }) }

pub runs_keep_rows : (s : Script) (t : ℕ) (h : List Event) (own : List Note) (x : Letter) (now : List (ℕ × Letter)) → KeepsRow s t h own → KeepsRow s t (ran x now ∷ h) own
runs_keep_rows s t h own x now k = record { devices = k.devices; notes = λ d l. note_ran s t h d x now (note_at own d) (k.notes d l) }

pub ends_keep_rows : (s : Script) (t : ℕ) (h : List Event) (own : List Note) (now : List (ℕ × Letter)) → KeepsRow s t h own → KeepsRow s t (ended now ∷ h) own
ends_keep_rows s t h own now k = record {
  devices = k.devices;
  notes = λ d l. let n = k.notes d l in record { ordinals = n.ordinals; found = n.found; begun = n.begun; began_by = n.began_by; fired = n.fired };
}

pub unnoted_lines_keep_rows : (s : Script) (t : ℕ) (h : List Event) (own : List Note) (x : Did) (now : List (ℕ × Letter)) → is_noted x.answer ≡ false → KeepsRow s t h own → KeepsRow s t (did x now ∷ h) own
unnoted_lines_keep_rows s t h own x now e k = record {
  devices = k.devices;
  notes = λ d l. note_listed s t h d x now (note_at own d) (note_at own d) (follows_unnoted t (is_on s t d) x (length (dids_of h)) (note_at own d) e) (k.notes d l);
}

pub lines_keep_rows : (s : Script) (t : ℕ) (h : List Event) (own : List Note) (x : Did) (now : List (ℕ × Letter)) (d : ℕ) → image_at s t x.op ≡ Some d → (is_began x.answer ≡ true → (note_at own d).begun ≡ 0)
    → KeepsRow s t h own → KeepsRow s t (did x now ∷ h) (with_note own d (note_after t x.answer))
lines_keep_rows s t h own x now d on open' k = record {
  devices = length-set own d m ∙ k.devices;
  notes = λ e l. at e l (d == e) refl;
}
  where
    m : Note
    m = note_after t x.answer (note_at own d)

    on_is : (e : ℕ) → is_on s t e x.op ≡ (d == e)
    on_is e = ap (λ (o : Option ℕ). elim o as (λ q. Bool) [ None ↦ false | Some i ↦ i == e ]) on

    at : (e : ℕ) → e < length s.images → (b : Bool) → (d == e) ≡ b → KeepsNote s t e (did x now ∷ h) (note_at (slice_set own d m) e)
    at e l true f =
        let same : d ≡ e = eqb-true d e f in
        let here : KeepsNote s t d (did x now ∷ h) m = note_listed s t h d x now (note_at own d) m (follows_on t (is_on s t d) x (length (dids_of h)) (note_at own d) (on_is d ∙ ap (λ j. d == j) same ∙ f) open') (k.notes d (omega (arith, l, same))) in
        subst (λ j. KeepsNote s t j (did x now ∷ h) (note_at (slice_set own d m) j)) same (subst (KeepsNote s t d (did x now ∷ h)) (sym (at_set own d m (omega (arith, l, same, k.devices)))) here)
    at e l false f =
        subst (KeepsNote s t e (did x now ∷ h)) (sym (at_other own d e m (eqb-false d e f)))
        (note_listed s t h e x now (note_at own e) (note_at own e) (follows_other t (is_on s t e) x (length (dids_of h)) (note_at own e) (on_is e ∙ f)) (k.notes e l))

count_more : (p : Called → Bool) (xs : List Called) (x : Called) → count_by p (xs ++ x ∷ []) ≡ count_by p xs + cond (p x) 1 0
count_more p xs x = sum_by_push (λ c. cond (p c) 1 0) xs x

pub calls_keep_rows : (s : Script) (t : ℕ) (h : List Event) (own : List Note) (x : Called) → KeepsRow s t h own → KeepsRow s t (called x ∷ h) (with_note own x.device note_fired)
calls_keep_rows s t h own x k = record {
  devices = length-set own x.device m ∙ k.devices;
  notes = λ e l. at e l (x.device == e) refl;
}
  where
    m : Note
    m = note_fired (note_at own x.device)

    counted : (e : ℕ) (n : Note) (b : Bool) (j : Note) → (x.device == e) ≡ b → j ≡ record n { fired = n.fired + cond b 1 0 } → KeepsNote s t e h n → KeepsNote s t e (called x ∷ h) j
    counted e n b j f is note = subst (KeepsNote s t e (called x ∷ h)) (sym is) (record {
      ordinals = note.ordinals;
      found = note.found;
      begun = note.begun;
      began_by = note.began_by;
      fired = count_more (λ c. c.device == e) (calls_of h) x ∙ ap₂ (λ i c. i + cond c 1 0) note.fired f;
    })

    at : (e : ℕ) → e < length s.images → (b : Bool) → (x.device == e) ≡ b → KeepsNote s t e (called x ∷ h) (note_at (slice_set own x.device m) e)
    at e l true f =
        let same : x.device ≡ e = eqb-true x.device e f in
        let now : note_at (slice_set own x.device m) e ≡ note_fired (note_at own e) = ap (note_at (slice_set own x.device m)) (sym same) ∙ at_set own x.device m (omega (arith, l, same, k.devices)) ∙ ap (λ j. note_fired (note_at own j)) same in
        counted e (note_at own e) true (note_at (slice_set own x.device m) e) f now (k.notes e l)
    at e l false f =
        let now : note_at (slice_set own x.device m) e ≡ note_at own e = at_other own x.device e m (eqb-false x.device e f) in
        let none : (note_at own e).fired ≡ (note_at own e).fired + 0 = omega arith in
        counted e (note_at own e) false (note_at (slice_set own x.device m) e) f (now ∙ ap (λ i. record (note_at own e) { fired = i }) none) (k.notes e l)
