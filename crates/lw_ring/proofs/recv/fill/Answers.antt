use Rattle.std.proofs.Common.{rules, ◌≡◌, List, [], ◌++◌, length, reverse, sym, ap, subst, ◌∙◌, arith}
use Rattle.std.proofs.lemmas.List.{append-nil}
use Rattle.lw_ring.specs.Queue.{contents, Takes}
use Rattle.lw_ring.proofs.Handing.{one_off}
use Rattle.lw_ring.proofs.recv.fill.Goals as goal

pub loop-preserved : goal.loop-preserved
loop-preserved g c =
    let i = c.loop.invariant in
    let u = c.unpack.ensures in
    let parcel = c.in-Some-pop.parcel in
    let batch : List g.row.T.Denot = c.loop.batch.items in
    let none : c.loop.hand.items ≡ [] = i.none_in_hand (search rules) in
    let was : batch ++ contents parcel ≡ (batch ++ reverse c.loop.hand.items) ++ contents parcel =
    ap (λ l. l ++ contents parcel) (sym (append-nil batch) ∙ ap (λ (l : List g.row.T.Denot). batch ++ reverse l) (sym none)) in
    let told = subst (λ client. Takes g.T.Tagged.letter g.T.Tagged.tag_of g.T.Tagged.fits client parcel c.pop.new.pass.me.view.client) c.is_empty.ensures.same c.in-Some-pop.ensures.told in
    record {
      of_queue = search rules;
      off = one_off g.T.Tagged.letter g.T.Tagged.tag_of g.T.Tagged.fits _ _ _ parcel _ _ _ i.off told (u.items ∙ was);
      count = u.count;
      room = search rules;
      none_in_hand = u.all;
      spares = u.spares;
      full = λ full. absurd (let same = ap length (i.full full).0 in let more = c.if-len-max.false in omega arith);
    }
