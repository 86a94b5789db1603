use Rattle.std.proofs.Common.{rules, ap, sym, subst, arith}
use Rattle.lw_place.specs.PlaceWord.{IsBelow}
use Rattle.lw_place.specs.PlaceSeats.{ThreadEnd}
use Rattle.lw_place.proofs.Steps.{moves_to}
use Rattle.lw_place.proofs.thread_seat.ThreadSeat.move_to.Goals as goal

pub store-requires : goal.store-requires
store-requires c =
    let i = c.self.invariant in
    let seat = i.keeps.knows in
    let below = subst (λ (e : ThreadEnd). IsBelow e.places.reactors c.args.place) (sym c.self.view_is) c.requires in
    (search rules, (let a = seat.words in let b = i.number in let e = ap (λ z. z.words) i.keeps.same_table in let d = ap (λ t. t.shared.table_id.words) c.deref.ensures in omega arith), moves_to _ _ _ _ (record { thread = c.self.inside.thread; place = c.self.inside.place }) c.args.place c.word.result c.word.ensures (ap (λ v. v.stands) i.view) seat.few_reactors seat.some_threads below)
