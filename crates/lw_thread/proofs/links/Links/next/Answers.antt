use Rattle.std.proofs.Common.{rules, [], ◌∷◌, ◌++◌, map, reverse, refl, ap, subst, ◌∙◌, arith}
use Rattle.lw_thread.specs.Links.{Tied, known_tied}
use Rattle.lw_thread.specs.Calls.{IsToRun}
use Rattle.lw_thread.specs.Acts.{and_run}
use Rattle.lw_thread.proofs.Tying.{next_tied, next_fits, known_next, batch_first, last_is}
use Rattle.lw_thread.proofs.links.Links.next.Goals as goal

pub invariant_of-self : goal.invariant_of-self
invariant_of-self g c =
    let i = c.self.invariant in
    let p = c.take_last.ensures in
    let r = c.push_reserved.ensures in
    let same = last_is c.self.inside.batch.items c.take_last.new.self.items c.take_last.result c.index-message.result.now _ p.items (search rules) c.index-message.ensures in
    next_tied g.M.Tagged.letter g.M.Tagged.tag_of g.M.Tagged.fits _ c.self.inside.ran c.push_reserved.new.self c.self.inside.batch c.take_last.new.self c.self.inside.gone.items c.take_last.result c.tag.result
    i refl refl p.items (let a = p.capacity in omega arith) (c.tag.ensures ∙ ap (λ m. g.M.Tagged.tag_of (g.M.Tagged.letter m)) same) r.items (let a = r.capacity in omega arith)

pub returns-clause-fits : goal.returns-clause-fits
returns-clause-fits g c =
    subst (λ (t : Tied _ _). IsToRun g.M.Tagged.letter g.M.Tagged.tag_of g.M.Tagged.fits (known_tied t) c.take_last.result) c.self.view_is
    (next_fits g.M.Tagged.letter g.M.Tagged.tag_of g.M.Tagged.fits _ c.self.inside.ran c.self.inside.batch c.take_last.new.self c.self.inside.gone.items c.take_last.result c.self.invariant c.take_last.ensures.items)

pub returns-clause-known : goal.returns-clause-known
returns-clause-known g c =
    let x = g.M.Tagged.letter c.take_last.result in
    let p = c.take_last.ensures in
    let same = last_is c.self.inside.batch.items c.take_last.new.self.items c.take_last.result c.index-message.result.now _ p.items (search rules) c.index-message.ensures in
    let s : Tied g.row.M-Letter.Denot g.row.M-Family.Denot = record { thread = c.self.inside.thread; recv = c.self.inside.recv; ends = c.self.inside.ends.items; ran = c.self.inside.ran.items; left = map g.M.Tagged.letter (reverse c.self.inside.batch.items) } in
    let t : Tied g.row.M-Letter.Denot g.row.M-Family.Denot = record s { ran = c.push_reserved.new.self.items; left = map g.M.Tagged.letter (reverse c.take_last.new.self.items) } in
    let log = c.push_reserved.ensures.items ∙ ap (λ z. c.self.inside.ran.items ++ z ∷ []) (c.tag.ensures ∙ ap (λ m. g.M.Tagged.tag_of (g.M.Tagged.letter m)) same) in
    known_next g.M.Tagged.tag_of s t x c.self.invariant.taken (ap (map g.M.Tagged.letter) (batch_first c.self.inside.batch.items c.take_last.new.self.items c.take_last.result p.items)) (λ k. record s { ran = log k; left = t.left })
    ∙ ap (λ (q : Tied _ _). and_run (known_tied q) x) c.self.view_is
