use Rattle.std.proofs.Common.{◌≡◌, ℕ, suc, List, [], ◌∷◌, drop, length, ap, sym, subst, ◌∙◌, arith, length-append}
use Rattle.std.specs.Prelude.{slice_index_or}
use Rattle.std.proofs.lemmas.List.{get_or_push, get_or_append_left}
use mathlib.Core.Logic.{dite}
use native.Mathlib.Decide.{ℕ_discrete}
use Rattle.std.specs.Vec.Iter.{into_iter_items}
use Rattle.lw_latch.specs.DeviceEnds.{SeatEnd}
use Rattle.lw_base.specs.declared.ends.DeviceEnd.{DeviceEnd}
use Rattle.lw_device.specs.Rows.{IsEndOf, seat_of, no_seat}
use Rattle.lw_device.proofs.Pairing.{next_left}
use Rattle.lw_device.proofs.settling.all_ends.Goals as goal

pub loop-seat-preserved : goal.loop-seat-preserved
loop-seat-preserved c =
    let i = c.loop-seat.invariant in
    let old = c.loop-seat.ends.items in
    let n = length old in
    let end = c.end_of.result in
    let is = c.in_ok-push.ensures.items in
    let long : length c.push.new.self.items ≡ suc n = ap length is ∙ length-append old (end ∷ []) ∙ omega arith in
    let left = next_left n c.args.whole.seats (into_iter_items c.next.new.self) c.in-Some.seat no_seat (sym i.1 ∙ c.in-Some.ensures.steps.0) in
    let here = left.0 in
    let seat : IsEndOf (seat_of c.args.whole n) end = subst (λ (e : SeatEnd). IsEndOf e end) (sym left.1) c.end_of.ensures in (
      (omega arith),
      left.2 ∙ ap (λ (k : ℕ). drop k c.args.whole.seats) (sym long),
      λ d x l. dite (ℕ_discrete d n)
          (λ same. (let at : slice_index_or c.push.new.self.items d x ≡ end = ap (λ (es : List DeviceEnd). slice_index_or es d x) is ∙ get_or_push old end x d (sym same) in
          subst (λ (y : DeviceEnd). IsEndOf (seat_of c.args.whole d) y) (sym at) (subst (λ (k : ℕ). IsEndOf (seat_of c.args.whole k) end) (sym same) seat)))
          (λ differ. (let at : slice_index_or c.push.new.self.items d x ≡ slice_index_or old d x = ap (λ (es : List DeviceEnd). slice_index_or es d x) is ∙ get_or_append_left old (end ∷ []) x d (omega arith) in
          subst (λ (y : DeviceEnd). IsEndOf (seat_of c.args.whole d) y) (sym at) (i.2 d x (omega arith)))),
    )
