use Rattle.std.proofs.Common.{rules, ◌≡◌, ◌<◌, ◌≤◌, length, get_or, refl, sym, ap, ◌∙◌, arith}
use Rattle.lw_ring.specs.declared.settling.Pair.{Pair}
use Rattle.lw_ring.proofs.Tallies.{tally, tally_is, tally_none, tally_full, room, step}
use Rattle.lw_ring.proofs.settling.discount.Goals as goal

pub loop-value-init : goal.loop-value-init
loop-value-init g c = λ k d l. (refl, (let a = tally_none g.T.Tagged.letter g.T.Tagged.tag_of k in omega arith))

pub overflow_sub-counts : goal.overflow_sub-counts
overflow_sub-counts g c =
    let letter = g.T.Tagged.letter in
    let tag_of = g.T.Tagged.tag_of in
    let s = c.tag-sender.result.sender in
    let i = c.loop-value.value-index in
    let left = c.args.left.now in
    let start = c.args.counts.now in
    let none : Pair = record { sent = 0; run = 0 } in
    let names : (tag_of (letter (get_or left i c.value-item.result))).sender ≡ s = ap (λ y. (tag_of (letter y)).sender) (sym c.value-item.is) ∙ sym (ap (λ t. t.sender) c.tag-sender.ensures) in
    let in_start : s < length start = (let h = c.requires.senders i c.value-item.result c.loop-value-test.true in omega arith) in
    let in_range : s < length c.loop-value.counts = (let same = c.loop-value.auto.counts in omega arith) in
    let enough : tally letter tag_of s left ≤ (get_or start s none).run = (let h = c.requires.enough s none in_start in let is = tally_is letter tag_of s left in omega arith) in
    let positive = room letter tag_of c.loop-value.counts start s i left none c.value-item.result c.loop-value.invariant in_range c.loop-value-test.true names enough in
    positive

pub loop-value-preserved : goal.loop-value-preserved
loop-value-preserved g c =
    let letter = g.T.Tagged.letter in
    let tag_of = g.T.Tagged.tag_of in
    let s = c.tag-sender.result.sender in
    let i = c.loop-value.value-index in
    let left = c.args.left.now in
    let start = c.args.counts.now in
    let none : Pair = record { sent = 0; run = 0 } in
    let names : (tag_of (letter (get_or left i c.value-item.result))).sender ≡ s = ap (λ y. (tag_of (letter y)).sender) (sym c.value-item.is) ∙ sym (ap (λ t. t.sender) c.tag-sender.ensures) in
    let in_start : s < length start = (let h = c.requires.senders i c.value-item.result c.loop-value-test.true in omega arith) in
    let in_range : s < length c.loop-value.counts = (let same = c.loop-value.auto.counts in omega arith) in
    let enough : tally letter tag_of s left ≤ (get_or start s none).run = (let h = c.requires.enough s none in_start in let is = tally_is letter tag_of s left in omega arith) in
    let positive = room letter tag_of c.loop-value.counts start s i left none c.value-item.result c.loop-value.invariant in_range c.loop-value-test.true names enough in
    step letter tag_of c.loop-value.counts start s i left none c.value-item.result c.loop-value.invariant in_range c.loop-value-test.true names positive

pub returns : goal.returns
returns g c = λ k d l.
    let a = c.loop-value.invariant k d (search rules) in
    let letter = g.T.Tagged.letter in
    let tag_of = g.T.Tagged.tag_of in
    let full = tally_full letter tag_of k c.loop-value.value-index c.args.left.now (search rules) in
    let is = tally_is letter tag_of k c.args.left.now in
    (a.0, (let b = a.1 in omega arith))
