use Rattle.std.proofs.Common.{◌∙◌, sym, ap, subst, ◌++◌, flat_map, take, arith}
use Rattle.lw_report_print.proofs.TextLemmas.{after, all_more, all_taken, texts_more}
use Rattle.lw_report_print.proofs.printed.push_all.Goals as goal

pub loop-item-preserved : goal.loop-item-preserved
loop-item-preserved g c =
    let i = c.loop-item.item-index in
    let items = c.args.items.now in
    let item = c.item-item.result in
    let text = g.T.Printed.text in
    record {
      bytes = c.in_ok-push_to.ensures.bytes ∙ after _ _ (flat_map text (take i items)) (text item) _ c.loop-item.invariant.bytes
          (ap (λ x. flat_map text (take i items) ++ text x) c.item-item.is ∙ sym (texts_more text items i item c.loop-item-test.true));
      range = all_more g.T.Printed.fits items i item c.loop-item-test.true c.loop-item.invariant.range (subst g.T.Printed.fits c.item-item.is c.in_ok-push_to.ensures.range);
    }

pub returns-clause-range : goal.returns-clause-range
returns-clause-range g c = all_taken g.T.Printed.fits c.args.items.now c.loop-item.item-index (omega (arith, c.loop-item-test.false)) c.loop-item.invariant.range
