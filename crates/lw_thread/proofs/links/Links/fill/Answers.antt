use Rattle.std.proofs.Common.{map, reverse, ap, subst, ◌∙◌, arith}
use Rattle.lw_thread.specs.Links.{Tied}
use Rattle.lw_thread.specs.Polls.{Takes}
use Rattle.lw_thread.proofs.Tying.{fill_tied, none_left, takes_given}
use Rattle.lw_thread.proofs.links.Links.fill.Goals as goal

pub take_into-requires-clause-room : goal.take_into-requires-clause-room
take_into-requires-clause-room g c =
    let none = ap (λ (t : Tied _ _). t.left) c.self.view_is ∙ c.requires in
    (none_left g.M.Tagged.letter c.self.inside.batch.items none, c.self.invariant.batch_room)

pub invariant_of-self-2 : goal.invariant_of-self-2
invariant_of-self-2 g c =
    let none = ap (λ (t : Tied _ _). t.left) c.self.view_is ∙ c.requires in
    let i = c.self.invariant in
    let t = c.take_into.ensures in
    let r = c.in_ok-reserve.ensures in
    let v = c.reverse.ensures in
    fill_tied g.M.Tagged.letter g.M.Tagged.tag_of g.M.Tagged.fits _ c.self.inside.ran c.reserve.new.self c.self.inside.batch c.reverse.new.self c.self.inside.gone.items c.take_into.new.self c.take_into.new.batch.items
    i none t.taken t.each t.count r.items (search (arith, r)) v.items (let a = t.room in let b = i.batch_room in let d = v.capacity in omega arith)

pub returns-clause-ok : goal.returns-clause-ok
returns-clause-ok g c =
    let t = c.take_into.ensures in
    let r = c.in_ok-reserve.ensures in
    let p = c.self.view_is in
    record {
      took = subst (λ (s : Tied _ _). Takes g.M.Tagged.letter g.M.Tagged.tag_of g.M.Tagged.fits (map g.M.Tagged.letter (reverse c.reverse.new.self.items)) s.recv c.take_into.new.self) p
          (takes_given g.M.Tagged.letter g.M.Tagged.tag_of g.M.Tagged.fits c.self.inside.recv c.take_into.new.self c.take_into.new.batch.items c.reverse.new.self.items c.reverse.ensures.items t.taken t.order t.count t.fewer t.in_hand);
      rest = λ i. record { thread = (p i).thread; recv = c.take_into.new.self; ends = (p i).ends; ran = (r.items ∙ ap (λ (s : Tied _ _). s.ran) p) i; left = map g.M.Tagged.letter (reverse c.reverse.new.self.items) };
    }
