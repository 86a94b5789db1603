use Rattle.std.proofs.Common.{rules, ap, subst, ◌∙◌, arith, ◌<◌}
use Rattle.lw_place.specs.PlaceWord.{IsBelow}
use Rattle.lw_place.specs.declared.place.Place.{Place}
use Rattle.lw_place.specs.PlaceSeats.{ThreadEnd}
use Rattle.lw_place.proofs.Steps.{begins_to}
use Rattle.lw_place.proofs.thread_seat.ThreadSeat.begin.Goals as goal

pub store-requires : goal.store-requires
store-requires c =
    let i = c.self.invariant in
    let seat = i.keeps.knows in
    let held = ap (λ (e : ThreadEnd). e.place) c.self.view_is ∙ c.requires in
    let below : c.args.reactor < c.self.inside.seat.me.0.reactors = subst (λ (p : Place). IsBelow c.self.inside.seat.me.0.reactors p) held i.below in
    (search rules, (let a = seat.words in let b = i.number in let e = ap (λ z. z.words) i.keeps.same_table in let d = ap (λ t. t.shared.table_id.words) c.deref.ensures in omega arith), begins_to _ _ _ _ (record { thread = c.self.inside.thread; place = c.self.inside.place }) c.args.reactor c.word.result c.word.ensures (ap (λ v. v.stands) i.view) held seat.few_reactors seat.some_threads below)
