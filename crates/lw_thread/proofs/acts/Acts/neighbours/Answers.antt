use Rattle.std.proofs.Common.{rules, ◌≡◌, length, sym, ap, ◌∙◌, arith}
use Rattle.std.specs.VecDeque.{deque_len}
use Rattle.std.proofs.lemmas.Bool.{false≢true}
use Rattle.std.proofs.lemmas.List.{length-map}
use Rattle.lw_thread.specs.declared.acts.Asked.{Asked}
use Rattle.lw_thread.specs.Acts.{ActsEnd}
use Rattle.lw_thread.proofs.Asking.{neighbours_more, neighbours_end, neighbours_all, neighbours_most}
use Rattle.lw_thread.proofs.acts.Acts.neighbours.Goals as goal

pub returns-then-place-most-clause-all : goal.returns-then-place-most-clause-all
returns-then-place-most-clause-all g c =
    let i = c.loop-place.invariant in
    let first = neighbours_most c.args.self.now.pending c.args.to c.loop-place.place c.args.most i.0 i.2 c.if-place-most.true in
    omega arith

pub returns-then-not-goes_to : goal.returns-then-not-goes_to
returns-then-not-goes_to g c =
    let i = c.loop-place.invariant in
    let long : deque_len c.self.inside.asked ≡ length c.self.inside.asked.items = search rules in
    let size = ap (λ (a : ActsEnd _). length a.pending) (sym c.self.view_is) ∙ length-map c.self.inside.asked.items (λ (s : Asked _). record { to = s.to; what = s.message }) in
    let test = c.loop-place-test.true in
    let end = c.len-place-end.ensures in
    let most = i.1 in
    let first = neighbours_end c.args.self.now.pending c.args.to c.loop-place.place (omega arith) i.2 (λ d e. false≢true (sym c.if-not-goes_to.true ∙ (c.goes_to.ensures d).1 e)) in
    omega arith

pub loop-place-preserved : goal.loop-place-preserved
loop-place-preserved g c =
    let i = c.loop-place.invariant in
    let long : deque_len c.self.inside.asked ≡ length c.self.inside.asked.items = search rules in
    let size = ap (λ (a : ActsEnd _). length a.pending) (sym c.self.view_is) ∙ length-map c.self.inside.asked.items (λ (s : Asked _). record { to = s.to; what = s.message }) in
    let test = c.loop-place-test.true in
    let end = c.len-place-end.ensures in
    let most = i.1 in
    let other = c.if-place-most.false in
    (omega arith, omega arith, neighbours_more c.args.self.now.pending c.args.to c.loop-place.place i.2 (λ d. (c.goes_to.ensures d).0 c.if-not-goes_to.false))

pub returns : goal.returns
returns g c =
    let i = c.loop-place.invariant in
    let long : deque_len c.self.inside.asked ≡ length c.self.inside.asked.items = search rules in
    let size = ap (λ (a : ActsEnd _). length a.pending) (sym c.self.view_is) ∙ length-map c.self.inside.asked.items (λ (s : Asked _). record { to = s.to; what = s.message }) in
    let test = c.loop-place-test.false in
    let end = c.len-place-end.ensures in
    let all = c.len.ensures in
    let within = i.0 in
    let most = i.1 in
    let count : c.len.result ≡ length c.args.self.now.pending = omega arith in
    let first = neighbours_all c.args.self.now.pending c.args.to (λ j e l. i.2 j e (omega arith)) in
    omega arith
