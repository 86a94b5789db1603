-- The tests of the devices hold exactly where that rule does.
use Rattle.std.proofs.Common.{◌≡◌, ℕ, ◌<◌, ◌==◌, Bool, true, false, not, ◌&&◌, ◌||◌, List, [], ◌∷◌, ◌++◌, length, refl, sym, subst, inl, inr, arith, count_by, Decides, IsTrue}
use Rattle.std.specs.List.{list_all, list_any}
use Rattle.std.proofs.lemmas.Bool.{and_parts, and_from, eqb-true, eq-eqb, ne_eqb, cases_eq}
use Rattle.std.proofs.lemmas.Bool.Decides.{Decides-at, Decides-like, Decides-and, Decides-eqb}
use lib.Pointwise.{pointwise, pointwise_decides, bytes_decides}
use Rattle.lw_base.proofs.Bools.{and_assoc}
use Rattle.lw_model.specs.declared.record.Record.{Record}
use Rattle.lw_model.specs.Threads.{images, is_on}
use Rattle.lw_model.specs.OwnOrder.{own_order_of, history}
use Rattle.lw_model.specs.Holding.{says}
use Rattle.lw_model.specs.Lines.{device_line}
use Rattle.lw_model.specs.Same.{is_same_numbers, is_same_pair}
use Rattle.lw_model.specs.Devices.{DeviceHolds, Devices, device_at, over_steps, ordinal_on, began_on, called_on, callback_fits, refusal_fits, is_refusal}
use Rattle.lw_model.specs.Verdict.{Test, each_thread, each_client, is_numbering, app_refuses_none, device_tests, devices}
use Rattle.lw_model.proofs.Passing.{passes, list_all-flat_map, all_in_range, Decides-each_thread, Decides-each_client}
use Rattle.lw_model.proofs.Sameness.{Tells-pair}
use Rattle.lw_model.proofs.Exact.{Decides-itself, Decides-append}

-- one test alone
Decides-one : {P : Type 0} (line : ℕ) (b : Bool) → Decides b P → Decides (passes ((line, b) ∷ [])) P
Decides-one line true d = d
Decides-one line false d = d

numbering : (ns : List ℕ) → Decides (is_numbering ns) ((n : ℕ) → n < length ns → count_by (λ m. m == n) ns ≡ 1)
numbering ns = Decides-like (is_numbering ns) (λ h n below. h n (omega arith) (omega arith)) (λ h n low high. h n (omega arith))
    (all_in_range (λ n. count_by (λ m. m == n) ns == 1) (λ n. count_by (λ m. m == n) ns ≡ 1) 0 (length ns) (λ n. Decides-eqb (count_by (λ m. m == n) ns) 1))

-- the length, and each number below it once
ordinals : (ns : List ℕ) (given : ℕ) → Decides (length ns == given && is_numbering ns) ((length ns ≡ given) × ((n : ℕ) → n < given → count_by (λ m. m == n) ns ≡ 1))
ordinals ns given = (
  λ e. let h = and_parts (length ns == given) (is_numbering ns) e in
      let same : length ns ≡ given = eqb-true (length ns) given h.0 in
      (same, λ n below. (numbering ns).0 h.1 n (subst (λ k. n < k) (sym same) below)),
  λ h. and_from (length ns == given) (is_numbering ns) (eq-eqb (length ns) given h.0) ((numbering ns).1 (λ n below. h.1 n (subst (λ k. n < k) h.0 below))),
)

-- a test of a client that stands under a condition on the app
refuses : (r : Record) (d t : ℕ) → Decides (app_refuses_none r d t) ((device_at r d).thread ≡ 0 → IsTrue (not (list_any (says (is_on r.script t d) is_refusal) (own_order_of r t))))
refuses r d t = under (device_at r d).thread (not (list_any (says (is_on r.script t d) is_refusal) (own_order_of r t)))
  where
    under : (n : ℕ) (b : Bool) → Decides (not (n == 0) || b) (n ≡ 0 → IsTrue b)
    under n b = elim (cases_eq n 0) [
      | inl is ↦ (λ e z. subst (λ q. (not q || b) ≡ true) (eq-eqb n 0 is) e, λ h. subst (λ q. (not q || b) ≡ true) (sym (eq-eqb n 0 is)) (h is))
      | inr ne ↦ (λ e z. absurd (ne z), λ h. subst (λ q. (not q || b) ≡ true) (sym (ne_eqb n 0 ne)) refl)
    ]

pub device-exact : (r : Record) (d line : ℕ) → Decides (passes (device_tests r d line)) (DeviceHolds r d)
device-exact r d line =
    let end = device_at r d in
    let ns = over_steps r (ordinal_on r d) in
    let count = length ns == end.given in
    let once = is_numbering ns in
    let began = pointwise is_same_pair (over_steps r (began_on r d)) ((end.thread, end.given) ∷ []) in
    let called = is_same_numbers (over_steps r (called_on r d)) (end.thread ∷ []) in
    let one = end.callbacks == 1 in
    let after = each_thread r (λ t. (line, list_all (λ p. callback_fits r d t p.0 p.1) (history r t)) ∷ []) in
    let refused = each_thread r (λ t. (line, list_all (λ p. refusal_fits r d t p.0 p.1) (history r t)) ∷ []) in
    let app = each_client r (λ t. (line, app_refuses_none r d t) ∷ []) in
    let rest = after ++ refused ++ app in
    Decides-like (passes (device_tests r d line))
    (λ h. record { ordinal_count = h.0.0; each_ordinal = h.0.1; began_once = h.1.0; called_once = h.1.1.0; one_callback = h.1.1.1.0; called_after = h.1.1.1.1.0.0; refused_after = h.1.1.1.1.0.1; app_refuses_none = λ is t client. h.1.1.1.1.1 t client is })
    (λ h. ((h.ordinal_count, h.each_ordinal), (h.began_once, (h.called_once, (h.one_callback, ((h.called_after, h.refused_after), λ t client is. h.app_refuses_none is t client))))))
    (Decides-at (count && (once && (began && (called && (one && passes rest))))) ((count && once) && (began && (called && (one && passes rest)))) (and_assoc count once (began && (called && (one && passes rest))))
    (Decides-and (count && once) (began && (called && (one && passes rest))) (ordinals ns end.given)
    (Decides-and began (called && (one && passes rest)) (pointwise_decides Tells-pair (over_steps r (began_on r d)) ((end.thread, end.given) ∷ []))
    (Decides-and called (one && passes rest) (bytes_decides (over_steps r (called_on r d)) (end.thread ∷ []))
    (Decides-and one (passes rest) (Decides-eqb end.callbacks 1)
    (Decides-append (after ++ refused) app
    (Decides-append after refused
    (Decides-each_thread r (λ t. (line, list_all (λ p. callback_fits r d t p.0 p.1) (history r t)) ∷ []) (λ t. IsTrue (list_all (λ p. callback_fits r d t p.0 p.1) (history r t)))
    (λ t. Decides-one line (list_all (λ p. callback_fits r d t p.0 p.1) (history r t)) (Decides-itself (list_all (λ p. callback_fits r d t p.0 p.1) (history r t)))))
    (Decides-each_thread r (λ t. (line, list_all (λ p. refusal_fits r d t p.0 p.1) (history r t)) ∷ []) (λ t. IsTrue (list_all (λ p. refusal_fits r d t p.0 p.1) (history r t)))
    (λ t. Decides-one line (list_all (λ p. refusal_fits r d t p.0 p.1) (history r t)) (Decides-itself (list_all (λ p. refusal_fits r d t p.0 p.1) (history r t))))))
    (Decides-each_client r (λ t. (line, app_refuses_none r d t) ∷ []) (λ t. (device_at r d).thread ≡ 0 → IsTrue (not (list_any (says (is_on r.script t d) is_refusal) (own_order_of r t))))
    (λ t. Decides-one line (app_refuses_none r d t) (refuses r d t)))))))))

pub devices-exact : (r : Record) → Decides (passes (devices r)) (Devices r)
devices-exact r = Decides-at (passes (devices r)) (list_all (λ d. passes (device_tests r d (device_line r d))) (images r.script))
    (list_all-flat_map (λ (e : Test). e.1) (λ d. device_tests r d (device_line r d)) (images r.script))
    (Decides-like (list_all (λ d. passes (device_tests r d (device_line r d))) (images r.script)) (λ h d below. h d (omega arith) (omega arith)) (λ h d low high. h d (omega arith))
    (all_in_range (λ d. passes (device_tests r d (device_line r d))) (DeviceHolds r) 0 (length r.script.images) (λ d. device-exact r d (device_line r d))))
