use Rattle.std.proofs.Common.{rules, ◌≡◌, [], ◌∷◌, ◌++◌, sym, subst}
use Rattle.std.proofs.lemmas.List.Elements.{All-head, All-rest, All-same, All-push}
use Rattle.std.specs.Vec.Iter.{into_iter_items}
use Rattle.device_bench.specs.Givers.{IsFresh, IsFreshSeat}
use Rattle.device_bench.proofs.storm.new_givers.Goals as goal

pub loop-seat-preserved : goal.loop-seat-preserved
loop-seat-preserved c =
    let i = c.loop-seat.invariant in
    let seat = c.in-Some.seat in
    let rest = into_iter_items c.next.new.self in
    let before = into_iter_items c.loop-seat.seat-iterator in
    let steps = c.in-Some.ensures.steps.0 in
    let fresh = All-head IsFreshSeat seat rest (All-same IsFreshSeat (seat ∷ rest) before (sym steps) i.1) in
    let is : c.push.new.self.items ≡ c.loop-seat.eight.items ++ c.new.result ∷ [] = search rules in
    let all = All-push IsFresh c.loop-seat.eight.items c.new.result i.0 (subst IsFreshSeat (sym c.new.ensures) fresh) in
    (λ k d l. All-same IsFresh c.push.new.self.items (c.loop-seat.eight.items ++ c.new.result ∷ []) is all k d l, λ k d l. All-rest IsFreshSeat seat rest before steps i.1 k d l)
