-- What a device was told goes past a step where each part of it does, and goes on to the next thread.
use Rattle.std.proofs.Common.{◌≡◌, ℕ, ◌+◌, ◌==◌, Bool, true, false, cond, not, ◌&&◌, ◌||◌, is_none, List, [], ◌∷◌, ◌++◌, reverse, append_assoc, Option, Some, None, filter_map, flat_map, refl, sym, ap, ◌∙◌, arith}
use Rattle.std.proofs.Math.Bool.{and-true, or-false}
use Rattle.std.specs.List.{list_all, list_any, range_with_len, cons_option}
use Rattle.std.proofs.lemmas.List.{append-nil, reverse-reverse}
use Rattle.std.proofs.lemmas.List.Concat.{flat_map-append}
use Rattle.std.proofs.lemmas.List.Elements.{filter_map-append}
use Rattle.std.proofs.lemmas.List.Folds.{list_all-append, list_any-append}
use Rattle.lw_model.specs.declared.record.Record.{Record}
use Rattle.lw_model.specs.declared.record.Did.{Did}
use Rattle.lw_model.specs.declared.record.Called.{Called}
use Rattle.lw_model.specs.declared.record.Answer.{Answer}
use Rattle.lw_model.specs.declared.record.Answer.TheVariants as answer
use Rattle.lw_base.specs.declared.message.Tag.{Tag}
use Rattle.lw_base.proofs.Lists.{range_push, reverse_cons}
use Rattle.lw_base.proofs.Bools.{and_assoc}
use Rattle.lw_model.specs.declared.step.Step.{Step}
use Rattle.lw_model.specs.declared.step.Step.TheVariants as step
use Rattle.lw_model.specs.Threads.{is_client, is_on}
use Rattle.lw_model.specs.OwnOrder.{own_order_of, with_past, history}
use Rattle.lw_model.specs.Holding.{says, held}
use Rattle.lw_model.specs.Devices.{ordinal_on, began_on, called_on, callback_fits, refusal_fits, is_began, tells_shut, needs_open, is_refusal}
use Rattle.lw_model.proofs.Growth.{with_past_push}
use Rattle.lw_judge_devices.specs.declared.device.Device.{Device}
use Rattle.lw_judge_devices.specs.DeviceTold.{times_of, times_with, listed, told, all_fit, is_refused, any_refused, IsDeviceAt, GoesPast}

-- ---- One step more

found_one : {X : Type 0} (f : Step → Option X) (s : Step) → filter_map f (s ∷ []) ≡ listed (f s)
found_one {X} f s = at (f s)
  where
    at : (o : Option X) → cons_option o [] ≡ listed o
    at None = refl
    at (Some x) = refl

pub told_more : {X : Type 0} (r : Record) (f : ℕ → Step → Option X) (t : ℕ) (s : Step) (past : List Step) → told r f t (s ∷ past) ≡ told r f t past ++ listed (f t s)
told_more {X} r f t s past =
    ap (λ ss. before ++ filter_map (f t) ss) (reverse_cons s past)
    ∙ ap (λ l. before ++ l) (filter_map-append (f t) (reverse past) (s ∷ []) ∙ ap (λ l. filter_map (f t) (reverse past) ++ l) (found_one (f t) s))
    ∙ sym (append_assoc before (filter_map (f t) (reverse past)) (listed (f t s)))
  where
    before : List X
    before = flat_map (λ u. filter_map (f u) (own_order_of r u)) (range_with_len 0 t)

times_more : {X : Type 0} (xs : List X) (o : Option X) → times_of (xs ++ listed o) ≡ times_with (times_of xs) o
times_more [] None = refl
times_more [] (Some x) = refl
times_more (x ∷ []) None = refl
times_more (x ∷ []) (Some y) = refl
times_more (x ∷ y ∷ xs) None = refl
times_more (x ∷ y ∷ xs) (Some z) = refl

pub all_fit_more : (r : Record) (fits : ℕ → List Step → Step → Bool) (t : ℕ) (s : Step) (past : List Step) → all_fit r fits t (s ∷ past) ≡ (all_fit r fits t past && fits t past s)
all_fit_more r fits t s past =
    ap (λ b. before && b) (ap (λ ss. list_all (λ (p : List Step × Step). fits t p.0 p.1) (with_past [] ss)) (reverse_cons s past)
    ∙ ap (list_all (λ (p : List Step × Step). fits t p.0 p.1)) (with_past_push [] (reverse past) s)
    ∙ list_all-append (λ (p : List Step × Step). fits t p.0 p.1) (with_past [] (reverse past)) ((reverse (reverse past) ++ [], s) ∷ [])
    ∙ ap (λ b. list_all (λ (p : List Step × Step). fits t p.0 p.1) (with_past [] (reverse past)) && b) (and-true (fits t (reverse (reverse past) ++ []) s) ∙ ap (λ ps. fits t ps s) (append-nil (reverse (reverse past)) ∙ reverse-reverse past)))
    ∙ and_assoc before (list_all (λ (p : List Step × Step). fits t p.0 p.1) (with_past [] (reverse past))) (fits t past s)
  where
    before : Bool
    before = list_all (λ u. list_all (λ (p : List Step × Step). fits u p.0 p.1) (history r u)) (range_with_len 0 t)

pub refused_more : (r : Record) (d t : ℕ) (s : Step) (past : List Step) → any_refused r d t (s ∷ past) ≡ (any_refused r d t past || is_client r.script t && says (is_on r.script t d) is_refusal s)
refused_more r d t s past = at (list_any (λ u. is_refused r d u (own_order_of r u)) (range_with_len 0 t)) (is_client r.script t) (says (is_on r.script t d) is_refusal s) (list_any (says (is_on r.script t d) is_refusal) past)
  where
    at : (before client now rest : Bool) → (before || client && (now || rest)) ≡ ((before || client && rest) || client && now)
    at true client now rest = refl
    at false false now rest = refl
    at false true true true = refl
    at false true true false = refl
    at false true false true = refl
    at false true false false = refl

pub goes_past : (r : Record) (t d : ℕ) (past : List Step) (s : Step) (old new : Device) → GoesPast r t d past s old new → IsDeviceAt r t d past old → IsDeviceAt r t d (s ∷ past) new
goes_past r t d past s old new goes at = record {
  ordinals = goes.ordinals ∙ ap (λ l. l ++ listed (ordinal_on r d t s)) at.ordinals ∙ sym (told_more r (ordinal_on r d) t s past);
  began = goes.began ∙ ap (λ ts. times_with ts (began_on r d t s)) at.began ∙ sym (times_more (told r (began_on r d) t past) (began_on r d t s)) ∙ ap times_of (sym (told_more r (began_on r d) t s past));
  called = goes.called ∙ ap (λ ts. times_with ts (called_on r d t s)) at.called ∙ sym (times_more (told r (called_on r d) t past) (called_on r d t s)) ∙ ap times_of (sym (told_more r (called_on r d) t s past));
  callbacks = goes.callbacks ∙ ap (λ b. b && callback_fits r d t past s) at.callbacks ∙ sym (all_fit_more r (callback_fits r d) t s past);
  refusals = goes.refusals ∙ ap (λ b. b && refusal_fits r d t past s) at.refusals ∙ sym (all_fit_more r (refusal_fits r d) t s past);
  refused = goes.refused ∙ ap (λ b. b || is_client r.script t && says (is_on r.script t d) is_refusal s) at.refused ∙ sym (refused_more r d t s past);
}

-- ---- A step that isn't about the device

-- what no client adds
pub none_refused : (a c : Bool) → (a || c && false) ≡ a
none_refused true c = refl
none_refused false true = refl
none_refused false false = refl

pub did_other : (r : Record) (t d : ℕ) (past : List Step) (i : ℕ) (x : Did) (e : Device) → is_on r.script t d x.op ≡ false → GoesPast r t d past (step.Did i x) e e
did_other r t d past i x e off = record {
  ordinals = sym (append-nil e.ordinals.items) ∙ ap (λ o. e.ordinals.items ++ listed o) (sym (none_given x.answer));
  began = ap (times_with e.began) (sym (none_began x.answer));
  called = refl;
  callbacks = sym (and-true e.callbacks_fit);
  refusals = sym (ap (λ b. e.refusals_fit && (not (b && needs_open x.answer) || not (list_any (says (is_on r.script t d) tells_shut) past))) off ∙ and-true e.refusals_fit);
  refused = sym (ap (λ b. e.refused || is_client r.script t && (b && is_refusal x.answer)) off ∙ none_refused e.refused (is_client r.script t));
}
  where
    none_given : (a : Answer) → ordinal_on r d t (step.Did i (record { at = x.at; op = x.op; answer = a })) ≡ None
    none_given (answer.Given n) = ap (λ b. cond b (Some n) None) off
    none_given _ = refl

    none_began : (a : Answer) → began_on r d t (step.Did i (record { at = x.at; op = x.op; answer = a })) ≡ None
    none_began (answer.Began n) = ap (λ b. cond b (Some (t, n)) None) off
    none_began _ = refl

pub called_other : (r : Record) (t d : ℕ) (past : List Step) (i : ℕ) (x : Called) (e : Device) → (x.device == d) ≡ false → GoesPast r t d past (step.Called i x) e e
called_other r t d past i x e off = record {
  ordinals = sym (append-nil e.ordinals.items);
  began = refl;
  called = ap (λ b. times_with e.called (cond b (Some t) None)) (sym off);
  callbacks = sym (ap (λ (b : Bool). e.callbacks_fit && (is_none (cond b (Some t) None) || list_any (says (is_on r.script t d) is_began) past && is_none (held (is_on r.script t d) d past))) off ∙ and-true e.callbacks_fit);
  refusals = sym (and-true e.refusals_fit);
  refused = sym (none_refused e.refused (is_client r.script t));
}

pub ran_any : (r : Record) (t d : ℕ) (past : List Step) (i : ℕ) (m : Tag) (e : Device) → GoesPast r t d past (step.Ran i m) e e
ran_any r t d past i m e = record {
  ordinals = sym (append-nil e.ordinals.items);
  began = refl;
  called = refl;
  callbacks = sym (and-true e.callbacks_fit);
  refusals = sym (and-true e.refusals_fit);
  refused = sym (none_refused e.refused (is_client r.script t));
}

-- ---- The next thread

-- the threads below the next one are those below this one, and this one
next_range : (t : ℕ) → range_with_len 0 (t + 1) ≡ range_with_len 0 t ++ t ∷ []
next_range t = range_push 0 t ∙ ap (λ k. range_with_len 0 t ++ k ∷ []) (omega arith)

told_next : {X : Type 0} (r : Record) (f : ℕ → Step → Option X) (t : ℕ) → told r f t (reverse (own_order_of r t)) ≡ told r f (t + 1) []
told_next {X} r f t =
    ap (λ ss. before t ++ filter_map (f t) ss) (reverse-reverse (own_order_of r t))
    ∙ sym (append-nil (before (t + 1))
    ∙ ap (flat_map each) (next_range t)
    ∙ flat_map-append each (range_with_len 0 t) (t ∷ [])
    ∙ ap (λ l. before t ++ l) (append-nil (each t)))
  where
    each : ℕ → List X
    each = λ u. filter_map (f u) (own_order_of r u)

    before : ℕ → List X
    before = λ n. flat_map each (range_with_len 0 n)

all_fit_next : (r : Record) (fits : ℕ → List Step → Step → Bool) (t : ℕ) → all_fit r fits t (reverse (own_order_of r t)) ≡ all_fit r fits (t + 1) []
all_fit_next r fits t =
    ap (λ ss. before t && list_all (λ (p : List Step × Step). fits t p.0 p.1) (with_past [] ss)) (reverse-reverse (own_order_of r t))
    ∙ sym (and-true (before (t + 1))
    ∙ ap (list_all each) (next_range t)
    ∙ list_all-append each (range_with_len 0 t) (t ∷ [])
    ∙ ap (λ b. before t && b) (and-true (each t)))
  where
    each : ℕ → Bool
    each = λ u. list_all (λ (p : List Step × Step). fits u p.0 p.1) (history r u)

    before : ℕ → Bool
    before = λ n. list_all each (range_with_len 0 n)

list_any-reverse : {X : Type 0} (p : X → Bool) (xs : List X) → list_any p (reverse xs) ≡ list_any p xs
list_any-reverse p [] = refl
list_any-reverse p (x ∷ xs) = ap (list_any p) (reverse_cons x xs) ∙ list_any-append p (reverse xs) (x ∷ []) ∙ ap (λ b. b || (p x || false)) (list_any-reverse p xs) ∙ turned (p x) (list_any p xs)
  where
    turned : (a b : Bool) → (b || (a || false)) ≡ (a || b)
    turned true true = refl
    turned true false = refl
    turned false true = refl
    turned false false = refl

refused_next : (r : Record) (d t : ℕ) → any_refused r d t (reverse (own_order_of r t)) ≡ any_refused r d (t + 1) []
refused_next r d t =
    ap (λ b. before t || is_client r.script t && b) (list_any-reverse (says (is_on r.script t d) is_refusal) (own_order_of r t))
    ∙ sym (none_refused (before (t + 1)) (is_client r.script (t + 1))
    ∙ ap (list_any each) (next_range t)
    ∙ list_any-append each (range_with_len 0 t) (t ∷ [])
    ∙ ap (λ b. before t || b) (or-false (each t)))
  where
    each : ℕ → Bool
    each = λ u. is_refused r d u (own_order_of r u)

    before : ℕ → Bool
    before = λ n. list_any each (range_with_len 0 n)

pub goes_on : (r : Record) (t d : ℕ) (e : Device) → IsDeviceAt r t d (reverse (own_order_of r t)) e → IsDeviceAt r (t + 1) d [] e
goes_on r t d e at = record {
  ordinals = at.ordinals ∙ told_next r (ordinal_on r d) t;
  began = at.began ∙ ap times_of (told_next r (began_on r d) t);
  called = at.called ∙ ap times_of (told_next r (called_on r d) t);
  callbacks = at.callbacks ∙ all_fit_next r (callback_fits r d) t;
  refusals = at.refusals ∙ all_fit_next r (refusal_fits r d) t;
  refused = at.refused ∙ refused_next r d t;
}
