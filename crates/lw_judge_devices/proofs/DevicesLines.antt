-- The first device line that fails is that of the first device of which something told isn't what its line says.
use Rattle.std.proofs.Common.{◌≡◌, ℕ, zero, suc, ◌+◌, ◌<◌, ◌≤◌, ◌==◌, nat_lt, nat_le, Bool, true, false, cond, not, ◌&&◌, ◌||◌, List, [], ◌∷◌, ◌++◌, length, flat_map, Option, Some, None, slice_get, refl, sym, ap, ap₂, subst, ◌∙◌, min, arith, inl, inr}
use Rattle.std.proofs.Math.Bool.{and-true, and-false, or-false}
use Rattle.std.specs.List.{list_all, list_any, range_with_len, AllByRecursion}
use Rattle.std.proofs.lemmas.Bool.{and_from, and_right, lt-ltb, le-leb, lt-leb, cases_eq}
use Rattle.std.proofs.lemmas.Option.{slice_get_cases, slice_get_within, same_Some}
use Rattle.std.proofs.lemmas.List.{append-nil}
use Rattle.std.proofs.lemmas.List.Folds.{list_all-append, list_any-append}
use lib.Pointwise.{pointwise}
use Rattle.lw_model.specs.declared.record.Record.{Record}
use Rattle.lw_base.specs.declared.ends.DeviceEnd.{DeviceEnd}
use Rattle.lw_model.specs.declared.step.Step.{Step}
use Rattle.lw_model.specs.Threads.{threads, clients, is_client, is_on, thread_count}
use Rattle.lw_model.specs.OwnOrder.{own_order_of, history}
use Rattle.lw_model.specs.Holding.{says}
use Rattle.lw_model.specs.Lines.{device_line}
use Rattle.lw_model.specs.Same.{is_same_numbers, is_same_pair}
use Rattle.lw_model.specs.Devices.{device_at, over_steps, ordinal_on, began_on, called_on, callback_fits, refusal_fits, is_refusal}
use Rattle.lw_model.specs.Verdict.{Test, least_failing, is_numbering, app_refuses_none, device_tests, devices}
use Rattle.lw_model.proofs.Growth.{all-append}
use Rattle.lw_judge_devices.specs.declared.device.Device.{Device}
use Rattle.lw_judge_devices.specs.declared.devices.Devices.{Devices}
use Rattle.lw_judge_threads.specs.Firsts.{lesser}
use Rattle.lw_judge_devices.specs.DeviceTold.{told, times_of, is_once, steps_fit, device_holds, IsDeviceAt}
use Rattle.lw_judge_devices.specs.DevicesTold.{AreDevicesAt}
use Rattle.lw_judge_devices.proofs.DeviceSteps.{none_refused}
use Rattle.lw_judge_threads.proofs.Leasts.{NotBelow, least-append, least_at_one}

-- ---- When all threads were gone through

over_all : {X : Type 0} (r : Record) (f : ℕ → Step → Option X) → told r f (thread_count r.script) [] ≡ over_steps r f
over_all r f = append-nil (over_steps r f)

once_of : {X : Type 0} (same : X → X → Bool) (xs : List X) (x : X) → is_once same (times_of xs) x ≡ pointwise same xs (x ∷ [])
once_of same [] x = refl
once_of same (y ∷ []) x = sym (and-true (same y x))
once_of same (y ∷ z ∷ xs) x = sym (and-false (same y x))

-- ---- The clients among the threads

range_split : (a m n : ℕ) → range_with_len a (m + n) ≡ range_with_len a m ++ range_with_len (a + m) n
range_split a zero n = ap₂ range_with_len none here
  where
    none : a ≡ a + 0
    none = omega arith

    here : 0 + n ≡ n
    here = omega arith
range_split a (suc m) n = ap (range_with_len a) next ∙ ap (λ l. a ∷ l) (range_split (a + 1) m n) ∙ ap (λ k. a ∷ (range_with_len (a + 1) m ++ range_with_len k n)) (omega arith)
  where
    next : suc m + n ≡ suc (m + n)
    next = omega arith

-- two tests that are one on the numbers of a range
same_tests : (p q : ℕ → Bool) (a n : ℕ) → ((k : ℕ) → a ≤ k → k < a + n → p k ≡ q k) → list_any p (range_with_len a n) ≡ list_any q (range_with_len a n)
same_tests p q a zero h = refl
same_tests p q a (suc n) h = ap₂ ◌||◌ (h a (omega arith) (omega arith)) (same_tests p q (a + 1) n (λ k low high. h k (omega (arith, low)) (omega (arith, high))))

never_any : (xs : List ℕ) → list_any (λ k. false) xs ≡ false
never_any [] = refl
never_any (x ∷ xs) = never_any xs

-- a test that only the numbers from 1 to c may pass
between_any : (p q : ℕ → Bool) (c i : ℕ) → p 0 ≡ false → ((k : ℕ) → 1 ≤ k → k < 1 + c → p k ≡ q k) → ((k : ℕ) → c < k → p k ≡ false) → list_any p (range_with_len 0 (1 + c + i)) ≡ list_any q (range_with_len 1 c)
between_any p q c i first same above =
    ap (λ n. list_any p (range_with_len 0 n)) next
    ∙ ap (λ b. b || list_any p (range_with_len 1 (c + i))) first
    ∙ ap (list_any p) (range_split 1 c i)
    ∙ list_any-append p (range_with_len 1 c) (range_with_len (1 + c) i)
    ∙ ap₂ ◌||◌ (same_tests p q 1 c same) (same_tests p (λ k. false) (1 + c) i (λ k low high. above k (omega (arith, low))) ∙ never_any (range_with_len (1 + c) i))
    ∙ or-false (list_any q (range_with_len 1 c))
  where
    next : 1 + c + i ≡ suc (c + i)
    next = omega arith

of_clients : (r : Record) (q : ℕ → Bool) → list_any (λ t. is_client r.script t && q t) (threads r.script) ≡ list_any q (clients r.script)
of_clients r q = between_any (λ t. is_client r.script t && q t) q (length r.script.clients) (length r.script.images) refl
    (λ k low high. ap (λ b. b && q k) (within k (length r.script.clients) low high))
    (λ k past. ap (λ b. b && q k) (beyond k (length r.script.clients) past))
  where
    within : (k c : ℕ) → 1 ≤ k → k < 1 + c → (nat_lt 0 k && nat_le k c) ≡ true
    within k c low high = and_from (nat_lt 0 k) (nat_le k c) (lt-ltb 0 k (omega (arith, low))) (le-leb k c (omega (arith, high)))

    beyond : (k c : ℕ) → c < k → (nat_lt 0 k && nat_le k c) ≡ false
    beyond k c past = and_right (nat_lt 0 k) (nat_le k c) (lt-leb k c past)

-- under a condition, no item passes
unless_any : {X : Type 0} (a : Bool) (q : X → Bool) (xs : List X) → list_all (λ x. not a || not (q x)) xs ≡ not (a && list_any q xs)
unless_any true q [] = refl
unless_any false q [] = refl
unless_any a q (x ∷ xs) = ap (λ b. (not a || not (q x)) && b) (unless_any a q xs) ∙ at a (q x) (list_any q xs)
  where
    at : (a b c : Bool) → ((not a || not b) && not (a && c)) ≡ not (a && (b || c))
    at true true c = refl
    at true false c = refl
    at false b c = refl

-- ---- The tests of one device

all_one : {X : Type 0} (line : ℕ) (f : X → Bool) (xs : List X) → list_all (λ (e : Test). e.1) (flat_map (λ x. (line, f x) ∷ []) xs) ≡ list_all f xs
all_one line f [] = refl
all_one line f (x ∷ xs) = ap (λ b. f x && b) (all_one line f xs)

at_one : {X : Type 0} (line : ℕ) (f : X → Bool) (xs : List X) → AllByRecursion (λ (e : Test). e.0 ≡ line) (flat_map (λ x. (line, f x) ∷ []) xs)
at_one line f [] = tt
at_one line f (x ∷ xs) = (refl, at_one line f xs)

-- what stands in the tests of a device for the steps of all threads
abbrev callbacks_test : Record → ℕ → ℕ → Bool
callbacks_test r d t = list_all (λ p. callback_fits r d t p.0 p.1) (history r t)

abbrev refusals_test : Record → ℕ → ℕ → Bool
refusals_test r d t = list_all (λ p. refusal_fits r d t p.0 p.1) (history r t)

abbrev of_all : ℕ → (ℕ → Bool) → List ℕ → List Test
of_all line f ts = flat_map (λ t. (line, f t) ∷ []) ts

device_tests_at : (r : Record) (d line : ℕ) → AllByRecursion (λ (e : Test). e.0 ≡ line) (device_tests r d line)
device_tests_at r d line = (
  refl,
  (
    refl,
    (
      refl,
      (
        refl,
        (
          refl,
          all-append (λ (e : Test). e.0 ≡ line) (of_all line (callbacks_test r d) (threads r.script) ++ of_all line (refusals_test r d) (threads r.script)) (of_all line (app_refuses_none r d) (clients r.script))
              (all-append (λ (e : Test). e.0 ≡ line) (of_all line (callbacks_test r d) (threads r.script)) (of_all line (refusals_test r d) (threads r.script))
              (at_one line (callbacks_test r d) (threads r.script)) (at_one line (refusals_test r d) (threads r.script)))
              (at_one line (app_refuses_none r d) (clients r.script)),
        ),
      ),
    ),
  ),
)

steps_all : (r : Record) (d line : ℕ) → list_all (λ (x : Test). x.1) (of_all line (callbacks_test r d) (threads r.script) ++ of_all line (refusals_test r d) (threads r.script) ++ of_all line (app_refuses_none r d) (clients r.script))
    ≡ (list_all (callbacks_test r d) (threads r.script) && list_all (refusals_test r d) (threads r.script) && list_all (app_refuses_none r d) (clients r.script))
steps_all r d line =
    list_all-append (λ (x : Test). x.1) (of_all line (callbacks_test r d) (threads r.script) ++ of_all line (refusals_test r d) (threads r.script)) (of_all line (app_refuses_none r d) (clients r.script))
    ∙ ap₂ ◌&&◌ (list_all-append (λ (x : Test). x.1) (of_all line (callbacks_test r d) (threads r.script)) (of_all line (refusals_test r d) (threads r.script))
    ∙ ap₂ ◌&&◌ (all_one line (callbacks_test r d) (threads r.script)) (all_one line (refusals_test r d) (threads r.script)))
    (all_one line (app_refuses_none r d) (clients r.script))

refused_as : (r : Record) (d : ℕ) (e : Device) → IsDeviceAt r (thread_count r.script) d [] e → not ((device_at r d).thread == 0 && e.refused) ≡ list_all (app_refuses_none r d) (clients r.script)
refused_as r d e at =
    ap (λ b. not ((device_at r d).thread == 0 && b)) (at.refused ∙ none_refused (list_any (λ t. is_client r.script t && refused t) (threads r.script)) (is_client r.script (thread_count r.script)) ∙ of_clients r refused)
    ∙ sym (unless_any ((device_at r d).thread == 0) refused (clients r.script))
  where
    refused : ℕ → Bool
    refused = λ t. list_any (says (is_on r.script t d) is_refusal) (own_order_of r t)

pub device_tests_all : (r : Record) (d line : ℕ) (e : Device) → IsDeviceAt r (thread_count r.script) d [] e → device_holds e (device_at r d) ≡ list_all (λ (x : Test). x.1) (device_tests r d line)
device_tests_all r d line e at =
    ap₂ ◌&&◌ (ap₂ ◌&&◌ (ap₂ ◌&&◌ (ap₂ ◌&&◌ (ap₂ ◌&&◌ given began) called) one) steps) (ap is_numbering ordinals)
    ∙ turned (length (over_steps r (ordinal_on r d)) == end.given) (is_numbering (over_steps r (ordinal_on r d))) (pointwise is_same_pair (over_steps r (began_on r d)) ((end.thread, end.given) ∷ []))
    (is_same_numbers (over_steps r (called_on r d)) (end.thread ∷ [])) (end.callbacks == 1)
    (list_all (λ (x : Test). x.1) (of_all line (callbacks_test r d) (threads r.script) ++ of_all line (refusals_test r d) (threads r.script) ++ of_all line (app_refuses_none r d) (clients r.script)))
  where
    end : DeviceEnd
    end = device_at r d

    ordinals : e.ordinals.items ≡ over_steps r (ordinal_on r d)
    ordinals = at.ordinals ∙ over_all r (ordinal_on r d)

    given : (length e.ordinals.items == end.given) ≡ (length (over_steps r (ordinal_on r d)) == end.given)
    given = ap (λ l. length l == end.given) ordinals

    began : is_once is_same_pair e.began (end.thread, end.given) ≡ pointwise is_same_pair (over_steps r (began_on r d)) ((end.thread, end.given) ∷ [])
    began = ap (λ ts. is_once is_same_pair ts (end.thread, end.given)) (at.began ∙ ap times_of (over_all r (began_on r d))) ∙ once_of is_same_pair (over_steps r (began_on r d)) (end.thread, end.given)

    called : is_once ◌==◌ e.called end.thread ≡ is_same_numbers (over_steps r (called_on r d)) (end.thread ∷ [])
    called = ap (λ ts. is_once ◌==◌ ts end.thread) (at.called ∙ ap times_of (over_all r (called_on r d))) ∙ once_of ◌==◌ (over_steps r (called_on r d)) end.thread

    one : (end.callbacks == 1) ≡ (end.callbacks == 1)
    one = refl

    steps : steps_fit e end ≡ list_all (λ (x : Test). x.1) (of_all line (callbacks_test r d) (threads r.script) ++ of_all line (refusals_test r d) (threads r.script) ++ of_all line (app_refuses_none r d) (clients r.script))
    steps = ap₂ ◌&&◌ (ap₂ ◌&&◌ (at.callbacks ∙ and-true (list_all (callbacks_test r d) (threads r.script))) (at.refusals ∙ and-true (list_all (refusals_test r d) (threads r.script)))) (refused_as r d e at)
        ∙ sym (steps_all r d line)

    turned : (l n b c o w : Bool) → (l && b && c && o && w && n) ≡ (l && (n && (b && (c && (o && w)))))
    turned false n b c o w = refl
    turned true true false c o w = refl
    turned true true true false o w = refl
    turned true true true true false w = refl
    turned true true true true true w = and-true w
    turned true false false c o w = refl
    turned true false true false o w = refl
    turned true false true true false w = refl
    turned true false true true true w = and-false w

least_device : (r : Record) (d line : ℕ) (e : Device) → IsDeviceAt r (thread_count r.script) d [] e → least_failing (device_tests r d line) ≡ cond (device_holds e (device_at r d)) None (Some line)
least_device r d line e at = least_at_one line (device_tests r d line) (device_tests_at r d line) ∙ ap (λ (b : Bool). cond b None (Some line)) (sym (device_tests_all r d line e at))

-- ---- The tests of the numbers of a range, of which each fails at a line of its own or nowhere

abbrev FailAt : (ℕ → List Test) → (ℕ → Bool) → ℕ → ℕ → ℕ → Type 0
FailAt f holds base a n = (k : ℕ) → a ≤ k → k < a + n → least_failing (f k) ≡ cond (holds k) None (Some (base + k))

later : (f : ℕ → List Test) (holds : ℕ → Bool) (base a n : ℕ) → FailAt f holds base a (suc n) → FailAt f holds base (a + 1) n
later f holds base a n each k low high = each k (omega (arith, low)) (omega (arith, high))

abbrev rest_of : (ℕ → List Test) → ℕ → ℕ → Option ℕ
rest_of f a n = least_failing (flat_map f (range_with_len a n))

least_next : (f : ℕ → List Test) (holds : ℕ → Bool) (base a n : ℕ) → FailAt f holds base a (suc n) → rest_of f a (suc n) ≡ lesser (cond (holds a) None (Some (base + a))) (rest_of f (a + 1) n)
least_next f holds base a n each = least-append (f a) (flat_map f (range_with_len (a + 1) n)) ∙ ap (λ o. lesser o (rest_of f (a + 1) n)) (each a (omega arith) (omega arith))

not_below : (f : ℕ → List Test) (holds : ℕ → Bool) (base a n : ℕ) → FailAt f holds base a n → NotBelow (base + a) (rest_of f a n)
not_below f holds base a zero each = tt
not_below f holds base a (suc n) each = subst (NotBelow (base + a)) (sym (least_next f holds base a n each)) (at (holds a) (rest_of f (a + 1) n) (not_below f holds base (a + 1) n (later f holds base a n each)))
  where
    at : (b : Bool) (o : Option ℕ) → NotBelow (base + (a + 1)) o → NotBelow (base + a) (lesser (cond b None (Some (base + a))) o)
    at true None h = tt
    at true (Some l) h = omega (arith, h)
    at false None h = omega arith
    at false (Some l) h = omega (arith, h)

none_in_range : (f : ℕ → List Test) (holds : ℕ → Bool) (base a n : ℕ) → FailAt f holds base a n → ((k : ℕ) → a ≤ k → k < a + n → holds k ≡ true) → rest_of f a n ≡ None
none_in_range f holds base a zero each all = refl
none_in_range f holds base a (suc n) each all =
    least_next f holds base a n each
    ∙ ap (λ (b : Bool). lesser (cond b None (Some (base + a))) (rest_of f (a + 1) n)) (all a (omega arith) (omega arith))
    ∙ none_in_range f holds base (a + 1) n (later f holds base a n each) (λ k low high. all k (omega (arith, low)) (omega (arith, high)))

first_in_range : (f : ℕ → List Test) (holds : ℕ → Bool) (base a n d : ℕ) → FailAt f holds base a n → a ≤ d → d < a + n → holds d ≡ false → ((k : ℕ) → k < d → a ≤ k → holds k ≡ true) → rest_of f a n ≡ Some (base + d)
first_in_range f holds base a zero d each low high fails before = absurd (omega (arith, low, high))
first_in_range f holds base a (suc n) d each low high fails before = least_next f holds base a n each ∙ elim (cases_eq a d) [
  | inl is ↦ ap (λ (b : Bool). lesser (cond b None (Some (base + a))) (rest_of f (a + 1) n)) (ap holds is ∙ fails)
      ∙ least_is (rest_of f (a + 1) n) (not_below f holds base (a + 1) n (later f holds base a n each)) ∙ ap (λ k. Some (base + k)) is
  | inr other ↦ ap (λ (b : Bool). lesser (cond b None (Some (base + a))) (rest_of f (a + 1) n)) (before a (omega (arith, low, other)) (omega arith))
      ∙ first_in_range f holds base (a + 1) n d (later f holds base a n each) (omega (arith, low, other)) (omega (arith, high)) fails (λ k less from. before k less (omega (arith, from)))
]
  where
    least_is : (o : Option ℕ) → NotBelow (base + (a + 1)) o → lesser (Some (base + a)) o ≡ Some (base + a)
    least_is None h = refl
    least_is (Some l) h = ap Some (min_low (base + a) l (omega (arith, h)))
      where
        min_low : (b c : ℕ) → b ≤ c → min b c ≡ b
        min_low b c h = grind arith

-- ---- The tests of all devices

-- what was told of device d is what its line says; of a device that isn't there nothing is
abbrev holds_at : Record → Devices → ℕ → Bool
holds_at r ds d = elim (slice_get ds.devices.items d) [ None ↦ true | Some e ↦ device_holds e (device_at r d) ]

abbrev all_tests : Record → ℕ → List Test
all_tests r d = device_tests r d (device_line r d)

fail_at : (r : Record) (ds : Devices) → AreDevicesAt r (thread_count r.script) [] ds → FailAt (all_tests r) (holds_at r ds) (device_line r 0) 0 (length r.script.images)
fail_at r ds at k low high = elim (slice_get_cases ds.devices.items k).1 [
  | inl w ↦ least_device r k (device_line r k) w.0 (at.each k w.0 w.2) ∙ ap₂ (λ (b : Bool) l. cond b None (Some l)) (sym (ap (λ o. elim o [ None ↦ true | Some e ↦ device_holds e (device_at r k) ]) w.2)) line
  | inr w ↦ absurd (omega (arith, w.0, high, at.count))
]
  where
    line : device_line r k ≡ device_line r 0 + k
    line = omega arith

pub none_fails : (r : Record) (ds : Devices) → AreDevicesAt r (thread_count r.script) [] ds → ((d : ℕ) (e : Device) → slice_get ds.devices.items d ≡ Some e → device_holds e (device_at r d) ≡ true)
    → least_failing (devices r) ≡ None
none_fails r ds at all = none_in_range (all_tests r) (holds_at r ds) (device_line r 0) 0 (length r.script.images) (fail_at r ds at) (λ k low high. holds (slice_get ds.devices.items k) k refl)
  where
    holds : (o : Option Device) (k : ℕ) → slice_get ds.devices.items k ≡ o → elim o [ None ↦ true | Some e ↦ device_holds e (device_at r k) ] ≡ true
    holds None k is = refl
    holds (Some e) k is = all k e is

pub first_fails : (r : Record) (ds : Devices) (d : ℕ) (e : Device) → AreDevicesAt r (thread_count r.script) [] ds → slice_get ds.devices.items d ≡ Some e → device_holds e (device_at r d) ≡ false
    → ((k : ℕ) (f : Device) → k < d → slice_get ds.devices.items k ≡ Some f → device_holds f (device_at r k) ≡ true) → least_failing (devices r) ≡ Some (device_line r 0 + d)
first_fails r ds d e at stands fails all =
    first_in_range (all_tests r) (holds_at r ds) (device_line r 0) 0 (length r.script.images) d (fail_at r ds at) (omega arith) (omega (arith, slice_get_within ds.devices.items d e stands, at.count))
    (ap (λ o. elim o [ None ↦ true | Some f ↦ device_holds f (device_at r d) ]) stands ∙ fails) (λ k less low. holds (slice_get ds.devices.items k) k less refl)
  where
    holds : (o : Option Device) (k : ℕ) → k < d → slice_get ds.devices.items k ≡ o → elim o [ None ↦ true | Some f ↦ device_holds f (device_at r k) ] ≡ true
    holds None k less is = refl
    holds (Some f) k less is = all k f less is

-- the devices before place i hold, and so does that of place i
pub holds_more : (r : Record) (es : List Device) (i : ℕ) (x : Device) → slice_get es i ≡ Some x → device_holds x (device_at r i) ≡ true
    → ((d : ℕ) (e : Device) → d < i → slice_get es d ≡ Some e → device_holds e (device_at r d) ≡ true)
    → (d : ℕ) (e : Device) → d < i + 1 → slice_get es d ≡ Some e → device_holds e (device_at r d) ≡ true
holds_more r es i x stands holds before d e less is = elim (cases_eq d i) [
  | inl same ↦ ap₂ (λ y k. device_holds y (device_at r k)) (same_Some e x (sym is ∙ ap (slice_get es) same ∙ stands)) same ∙ holds
  | inr other ↦ before d e (omega (arith, less, other)) is
]
