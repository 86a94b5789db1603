use Rattle.std.proofs.Common.{◌++◌, sym, ap, subst, ◌∙◌}
use Rattle.lw_thread.specs.Acts.{ActsEnd, AreAsked}
use Rattle.lw_thread.specs.Sending.{sends_of}
use Rattle.lw_thread.proofs.Asking.{asked_behind, sends_both}
use Rattle.lw_thread.proofs.acts.Acts.put_behind.Goals as goal

pub invariant_of-self : goal.invariant_of-self
invariant_of-self g c =
    let first = subst (λ q. AreAsked g.M.Tagged.letter g.M.Tagged.marked c.self.inside.threads (sends_of q.items)) (sym c.replace-first.ensures.value) c.self.invariant.0 in
    let rest = subst (λ (a : ActsEnd _). AreAsked g.M.Tagged.letter g.M.Tagged.marked a.threads (sends_of c.args.rest.items)) (sym c.self.view_is) c.requires in
    let kept = c.put_before.ensures.kept in
    (asked_behind g.M.Tagged.letter g.M.Tagged.marked c.self.inside.threads kept.0 kept.1 c.args.rest.items c.replace-first.result.items _ kept.2 (kept.3 ∙ ap (λ q. kept.1 ++ q.items) c.replace-first.ensures.after) first rest, c.self.invariant.1, c.self.invariant.2)

pub returns-clause-kept : goal.returns-clause-kept
returns-clause-kept g c =
    let kept = c.put_before.ensures.kept in
    let all = kept.3 ∙ ap (λ q. kept.1 ++ q.items) c.replace-first.ensures.after in (
      sends_of kept.1,
      ap (λ (a : ActsEnd _). record a { pending = sends_of c.put_before.new.rest.items }) c.self.view_is
          ∙ ap (λ ps. record c.args.self.now { pending = ps }) (ap sends_of all ∙ sends_both kept.1 c.args.rest.items),
    )
