use Rattle.std.proofs.Common.{◌≡◌, ℕ, ◌+◌, List, map, refl, sym, ap, subst, ◌∙◌, arith}
use Rattle.lw_base.specs.declared.message.Mark.{Mark}
use Rattle.lw_visit.specs.Tokens.{Visit, AscendBelow, thread_of}
use Rattle.lw_visit.proofs.Ascending.{marks_push}
use Rattle.lw_visit.proofs.visit.VisitToken.mark.Goals as goal

pub invariant_of-self : goal.invariant_of-self
invariant_of-self c =
    let i = c.self.invariant in
    let ms = c.self.inside.marks.items in
    let here : c.args.here ≡ c.self.inside.goes_to = c.requires.0 ∙ sym (ap (λ (t : Visit). t.goes_to) c.self.view_is) in
    let threads = ap (λ (t : Visit). t.threads) c.self.view_is in
    let old = subst (λ (n : ℕ). AscendBelow n (map thread_of ms)) (sym here) i.0 in
    let pushed = subst (λ (l : List Mark). AscendBelow (c.args.here + 1) (map thread_of l)) (sym c.push_reserved.ensures.items) (marks_push c.args.here ms _ refl old) in (
      subst (λ (n : ℕ). AscendBelow n (map thread_of c.push_reserved.new.self.items)) (sym c.requires.2) pushed,
      omega arith,
      omega arith,
      omega arith,
    )
