-- What is known of a device once all rows are in one hand.
use Rattle.std.proofs.Common.{◌≡◌, ℕ, zero, suc, ◌+◌, ◌<◌, ◌≤◌, List, [], ◌∷◌, length, get_or, refl, sym, ap, ◌∙◌, ⊎_elim, arith, All, Any, length-append}
use Rattle.std.proofs.lemmas.List.Elements.{All-nil, All-cons, All-head, All-tail}
use mathlib.Core.Logic.{dite}
use native.Mathlib.Decide.{ℕ_discrete}
use Rattle.lw_base.specs.Totals.{total, times}
use Rattle.lw_latch.specs.DeviceWord.{held_count, IsWhole}
use Rattle.lw_latch.specs.DeviceEnds.{FiresOnlyWhatItBegan, SeatEnd, HaveFired, Settles}
use Rattle.lw_base.specs.declared.ends.DeviceEnd.{DeviceEnd}
use Rattle.lw_base.proofs.Totals.{times_append}
use Rattle.lw_device.specs.Rows.{IsEndOf}
use Rattle.lw_device.proofs.Joining.{joined, joined_sum, joined_began, begun_of}

-- what one of these has, all have at least
pub at_least : (f : SeatEnd → ℕ) (es : List SeatEnd) (k : ℕ) (x : SeatEnd) → k < length es → get_or es k x ≡ x → f x ≤ total f es
at_least f [] k x l is = absurd (omega arith)
at_least f (e ∷ es) zero x l is = let same = ap f is in omega arith
at_least f (e ∷ es) (suc k) x l is = let r = at_least f es k x (omega arith) is in omega arith

pub each_zero : (f : SeatEnd → ℕ) (es : List SeatEnd) → total f es ≡ 0 → All (λ e. f e ≡ 0) es
each_zero f [] z k d l = absurd (omega arith)
each_zero f (e ∷ es) z zero d l = omega arith
each_zero f (e ∷ es) z (suc k) d l = each_zero f es (omega arith) k d (omega arith)

abbrev fired_of : SeatEnd → ℕ
fired_of e = e.view.fired

abbrev found_of : SeatEnd → ℕ
found_of e = e.view.found

abbrev found_or_begun : SeatEnd → ℕ
found_or_begun e = e.view.found + e.view.begun

split_sum : (es : List SeatEnd) → total found_or_begun es ≡ total found_of es + total begun_of es
split_sum [] = refl
split_sum (e ∷ es) = let r = split_sum es in omega arith

total_at_most : (f g : SeatEnd → ℕ) (es : List SeatEnd) → All (λ e. f e ≤ g e) es → total f es ≤ total g es
total_at_most f g [] all = omega arith
total_at_most f g (e ∷ es) all = let P = λ (x : SeatEnd). f x ≤ g x in let here = All-head P e es all in let r = total_at_most f g es (All-tail P e es all) in omega arith

each_equal : (f g : SeatEnd → ℕ) (es : List SeatEnd) → All (λ e. f e ≤ g e) es → total f es ≡ total g es → All (λ e. f e ≡ g e) es
each_equal f g [] all same = All-nil (λ (x : SeatEnd). f x ≡ g x)
each_equal f g (e ∷ es) all same =
    let P = λ (x : SeatEnd). f x ≤ g x in
    let here = All-head P e es all in
    let rest = All-tail P e es all in
    let r = total_at_most f g es rest in
    All-cons (λ (x : SeatEnd). f x ≡ g x) e es (omega arith) (each_equal f g es rest (omega arith))

-- where all know that it has fired, it has
has_fired : (e : SeatEnd) (fs : List SeatEnd) → IsWhole (joined e fs).view → HaveFired (e ∷ fs) → (joined e fs).view.fired ≡ 1
has_fired e fs whole have =
    let j = joined e fs in
    let sf = joined_sum fired_of (λ x g. refl) e fs in
    let sb = joined_sum begun_of (λ x g. refl) e fs in
    let sn = joined_sum found_of (λ x g. refl) e fs in
    let once = whole.begun in
    let fires = whole.fired in
    ⊎_elim
    (λ (a : Any (λ (x : SeatEnd). 1 ≤ x.view.fired) (e ∷ fs)). (let t = at_least fired_of (e ∷ fs) a.0 a.1 a.2 a.3 in let one = a.4 in omega arith))
    (λ (a : Any (λ (x : SeatEnd). 1 ≤ x.view.found + x.view.begun) (e ∷ fs) × All (λ (x : SeatEnd). x.view.begun ≤ x.view.fired) (e ∷ fs)).
    (let some_one = a.0 in
    let t = at_least found_or_begun (e ∷ fs) some_one.0 some_one.1 some_one.2 some_one.3 in
    let one = some_one.4 in
    let s = split_sum (e ∷ fs) in
    let began : j.view.begun ≡ 1 = dite (ℕ_discrete j.view.found 0) (λ none. omega arith) (λ some_found. whole.found (omega arith)) in
    let u = total_at_most begun_of fired_of (e ∷ fs) a.1 in
    omega arith))
    have

pub settles : (e : SeatEnd) (fs : List SeatEnd) (x : DeviceEnd) → IsEndOf (joined e fs) x → HaveFired (e ∷ fs) → All FiresOnlyWhatItBegan (e ∷ fs) → Settles (e ∷ fs) x.given x.thread x.callbacks
settles e fs x end have only =
    let j = joined e fs in
    let whole = end.whole in
    let fires = has_fired e fs whole have in
    let few = whole.fired in
    let once = whole.begun in
    let began : j.view.begun ≡ 1 = omega arith in
    let sf = joined_sum fired_of (λ y g. refl) e fs in
    let sb = joined_sum begun_of (λ y g. refl) e fs in
    let sg = joined_sum (λ (y : SeatEnd). length y.view.ordinals) (λ y g. length-append y.view.ordinals g.view.ordinals) e fs in
    let sh = joined_sum (λ (y : SeatEnd). held_count y.view) (λ y g. omega arith) e fs in
    let st : (k : ℕ) → times k j.view.ordinals ≡ total (λ (y : SeatEnd). times k y.view.ordinals) (e ∷ fs) = λ k. joined_sum (λ (y : SeatEnd). times k y.view.ordinals) (λ y g. times_append k y.view.ordinals g.view.ordinals) e fs in
    let so = joined_sum (λ (y : SeatEnd). y.view.opens) (λ y g. refl) e fs in
    let w = joined_began e fs (sym sb ∙ began) in
    let b = w.4 in
    let g = end.given in
    let o = whole.ordinals in
    let still = whole.settled began in
    let quiet = whole.quiet fires in
    record {
      once = λ k l. sym (st k) ∙ o.once k (omega arith);
      none_else = λ k l. sym (st k) ∙ o.none_else k (omega arith);
      count = omega arith;
      began = (w.0, w.1, w.2, w.3, (b.begun, (let n = b.count in omega arith), sym b.opens_then ∙ sym (whole.before began) ∙ so, sym b.by ∙ sym end.thread));
      alone = omega arith;
      fired = (let z = end.callbacks in omega arith);
      one_callback = end.callbacks ∙ fires;
      by_it = each_equal fired_of begun_of (e ∷ fs) only (omega arith);
      nothing_open = each_zero (λ (y : SeatEnd). held_count y.view) (e ∷ fs) (omega arith);
    }
