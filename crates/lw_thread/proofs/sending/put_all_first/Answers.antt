use Rattle.std.proofs.Common.{◌<◌, [], ◌∷◌, ◌++◌, length, sym, ap, subst, ◌∙◌, arith, append_assoc}
use Rattle.std.proofs.lemmas.List.{append-nil, length_push}
use Rattle.lw_thread.specs.Acts.{ActsEnd}
use Rattle.lw_thread.proofs.Making.{puts_none, puts_more}
use Rattle.lw_thread.proofs.sending.put_all_first.Goals as goal

pub loop-init : goal.loop-init
loop-init g c = record { put = []; parts = sym (append-nil c.args.run.items); turns = omega arith; first = puts_none g.M.Tagged.letter g.M.Tagged.marked g.M.Tagged.fits c.args.to c.args.acts.now; threads = c.requires }

pub loop-preserved : goal.loop-preserved
loop-preserved g c =
    let i = c.loop.invariant in
    let p = c.in-Some.ensures in
    let f = c.in_ok-put_first.ensures.first in
    let size = ap length p.items ∙ length_push c.pop.new.self.items c.in-Some.message in
    let had = i.turns in
    record {
      put = c.in-Some.message ∷ i.put;
      parts = i.parts ∙ ap (λ l. l ++ i.put) p.items ∙ append_assoc c.pop.new.self.items (c.in-Some.message ∷ []) i.put;
      turns = omega arith;
      first = puts_more g.M.Tagged.letter g.M.Tagged.marked g.M.Tagged.fits c.args.to c.in-Some.message i.put c.args.acts.now c.loop.acts c.put_first.new.self i.first f;
      threads = subst (λ n. c.args.to < n) (ap (λ (q : ActsEnd _). q.threads) f.3.rest) i.threads;
    }
