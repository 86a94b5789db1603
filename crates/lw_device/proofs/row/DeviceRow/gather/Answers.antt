use Rattle.std.proofs.Common.{rules, ◌≡◌, ℕ, suc, ◌+◌, List, [], ◌∷◌, All, drop, slice_index_or, slice_set, ap, sym, subst, ◌∙◌, arith}
use Rattle.std.proofs.lemmas.List.Elements.{All-nil, All-cons, All-same}
use Rattle.std.specs.Vec.Iter.{into_iter_items}
use Rattle.std.proofs.lemmas.List.{nil_from_length}
use Rattle.lw_latch.specs.DeviceEnds.{FiresOnlyWhatItBegan, SeatEnd, both_ends}
use Rattle.lw_device.specs.Rows.{Row, both_rows, both_seats}
use Rattle.lw_device.proofs.Pairing.{both_from, both_step, both_end, Matches, match_here, match_next, drop_step, none_to_join}
use Rattle.lw_device.proofs.row.DeviceRow.gather.Goals as goal

pub gather-requires : goal.gather-requires
gather-requires c =
    let es = c.loop-seat.self-inside.seats.items in
    let x = c.index_mut.result.now in
    let m = subst (λ (l : List SeatEnd). Matches c.loop-seat.device es l) c.in-Some.ensures.steps.0 c.loop-seat.invariant.1 in
    (match_here c.loop-seat.device es (into_iter_items c.next.new.self) c.in-Some.seat x m).1 ∙ ap (λ (e : SeatEnd). e.latch) (sym c.index_mut.ensures.value)

pub loop-seat-preserved : goal.loop-seat-preserved
loop-seat-preserved c =
    let i = c.loop-seat.invariant in
    let d = c.loop-seat.device in
    let es = c.loop-seat.self-inside.seats.items in
    let x = c.index_mut.result.now in
    let f = c.in-Some.seat in
    let rest = into_iter_items c.next.new.self in
    let next : suc d ≡ d + 1 = omega arith in
    let m = subst (λ (l : List SeatEnd). Matches d es l) c.in-Some.ensures.steps.0 i.1 in
    let here = match_here d es rest f x m in
    let now : both_ends (slice_index_or es d x) f ≡ c.gather.new.self = ap (λ (e : SeatEnd). both_ends e f) (sym c.index_mut.ensures.value) ∙ sym c.gather.ensures.both in
    let fires = c.gather.ensures.only_who_began in
    let mine : FiresOnlyWhatItBegan (slice_index_or es d x) = subst FiresOnlyWhatItBegan c.index_mut.ensures.value fires.0 in (
      i.0,
      subst (λ (k : ℕ). Matches k (slice_set es d c.gather.new.self) rest) next (subst (λ (e : SeatEnd). Matches (suc d) (slice_set es d e) rest) now (match_next d es rest f x m)),
      ap (λ (k : ℕ). both_from k (slice_set es d c.gather.new.self) rest) (sym next) ∙ ap (λ (e : SeatEnd). both_from (suc d) (slice_set es d e) rest) (sym now) ∙ both_step d es rest f x here.0
          ∙ ap (λ (l : List SeatEnd). both_from d es l) (sym c.in-Some.ensures.steps.0) ∙ i.2,
      (λ all. i.3 (drop_step FiresOnlyWhatItBegan d es c.gather.new.self x here.0 mine (subst (λ (k : ℕ). All FiresOnlyWhatItBegan (drop k (slice_set es d c.gather.new.self))) (sym next) all))),
      (λ all. i.4 (All-same FiresOnlyWhatItBegan (into_iter_items c.loop-seat.seat-iterator) (f ∷ rest) c.in-Some.ensures.steps.0 (All-cons FiresOnlyWhatItBegan f rest fires.1 all))),
    )

pub returns-clause-both : goal.returns-clause-both
returns-clause-both c =
    let i = c.loop-seat.invariant in
    let d = c.loop-seat.device in
    let es = c.loop-seat.self-inside.seats.items in
    let none : into_iter_items c.loop-seat.seat-iterator ≡ [] = nil_from_length (into_iter_items c.loop-seat.seat-iterator) (search rules) in
    let all : into_iter_items c.into_iter-seat-iterator.result ≡ c.other.inside.seats.items = search rules in
    let joined : es ≡ both_seats c.self.inside.seats.items c.other.inside.seats.items =
    sym (both_end d es) ∙ ap (λ (l : List SeatEnd). both_from d es l) (sym none) ∙ i.2 ∙ ap (λ (l : List SeatEnd). both_seats c.self.inside.seats.items l) all in
    (λ k. record { thread = i.0 k; seats = joined k }) ∙ (λ k. both_rows (c.self.view_is k) (c.other.view_is k))

pub returns-clause-only_who_began : goal.returns-clause-only_who_began
returns-clause-only_who_began c =
    let i = c.loop-seat.invariant in
    let d = c.loop-seat.device in
    let es = c.loop-seat.self-inside.seats.items in
    let none : into_iter_items c.loop-seat.seat-iterator ≡ [] = nil_from_length (into_iter_items c.loop-seat.seat-iterator) (search rules) in
    let all : c.other.inside.seats.items ≡ into_iter_items c.into_iter-seat-iterator.result = search rules in
    let left = subst (λ (l : List SeatEnd). Matches d es l) none i.1 in
    let others = i.4 (All-same FiresOnlyWhatItBegan _ [] none (All-nil FiresOnlyWhatItBegan)) in (
      subst (λ (r : Row). All FiresOnlyWhatItBegan r.seats) c.self.view_is (i.3 (none_to_join FiresOnlyWhatItBegan d es left)),
      subst (λ (r : Row). All FiresOnlyWhatItBegan r.seats) c.other.view_is (All-same FiresOnlyWhatItBegan _ _ all others),
    )
