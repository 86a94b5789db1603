use Rattle.std.proofs.Common.{sym, refl, ◌∙◌}
use Rattle.lw_model.proofs.Printed.{parts}
use Rattle.lw_judge.proofs.walk.Walk.new.Goals as goal

pub returns : goal.returns
returns c =
    let r = c.args.of.now in
    record {
      sends = c.in_ok-new.ensures r (sym (c.len.ensures ∙ (parts r).threads));
      devices = c.in_ok-new-2.ensures r (sym c.len-2.ensures);
      marks = c.new-3.ensures r;
      answers = refl;
    }
