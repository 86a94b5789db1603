use Rattle.std.proofs.Common.{rules, ◌≡◌, ◌++◌, map, length, sym, ap, ◌∙◌, subst, arith, length-append}
use Rattle.std.proofs.lemmas.List.{length-map}
use Rattle.lw_base.specs.Letters.{Numbered}
use Rattle.lw_ring.specs.declared.queue.PassView.{PassView}
use Rattle.lw_ring.specs.Calls.{NamedFrom}
use Rattle.lw_ring.specs.Ends.{Sender}
use Rattle.lw_ring.proofs.Handing.{numbered_on}
use Rattle.lw_ring.proofs.ends.SendEnd.send_run.Goals as goal

pub invariant_of-self-in-Ok : goal.invariant_of-self-in-Ok
invariant_of-self-in-Ok g c =
    let S : Type 0 = Sender g.row.T-Letter.Denot g.row.T-Family.Denot in
    let V : Type 0 = PassView g.row.T-Letter.Denot g.row.T-Family.Denot in
    let letter = g.T.Tagged.letter in
    let i = c.self.invariant in
    let v : V = c.self.inside.pass.me.view.client in
    let w : V = c.push.new.pass.me.view.client in
    let run = c.args.run.items in
    let now : w ≡ record v { put = v.put ++ map letter run } = c.in-Ok.ensures.ok in
    let put = ap (λ (y : V). y.put) now in
    let long = ap length put ∙ length-append v.put (map letter run) in
    let mapped = length-map run letter in
    let count : c.len-count.result ≡ length run = search rules in
    let before = i.knows.size in
    let named : NamedFrom letter g.T.Tagged.tag_of c.self.inside.sender (length v.put) run =
    subst (λ (x : S). NamedFrom letter g.T.Tagged.tag_of x.sender (length x.sent) run) (sym c.self.view_is) c.requires.names in
    record {
      of_queue = search rules;
      knows = record {
        not_fresh = ap (λ (y : V). y.fresh) now ∙ i.knows.not_fresh;
        sends = ap (λ (y : V). y.sends) now ∙ i.knows.sends;
        from = ap (λ (y : V). y.from) now ∙ i.knows.from;
        size = omega arith;
      };
      few = (let most = c.if-count-self.false in let bound = i.few in omega arith);
      outside = search rules;
      numbered = subst (λ ls. Numbered g.T.Tagged.tag_of c.self.inside.sender ls) (sym put) (numbered_on letter g.T.Tagged.tag_of c.self.inside.sender v.put run i.numbered named);
    }
