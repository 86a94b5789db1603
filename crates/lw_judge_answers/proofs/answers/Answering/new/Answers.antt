use Rattle.std.proofs.Common.{[], length, refl, sym, ap, subst}
use Rattle.lw_judge_answers.specs.CompletionsAt.{AreCompletionsAt}
use Rattle.lw_judge_answers.proofs.answers.Answering.new.Goals as goal

pub returns : goal.returns
returns c = record {
  knows = record {
    asked = c.in_ok-new.ensures c.args.of.now.script c.args.thread (sym c.len.ensures);
    completed = subst (λ n. AreCompletionsAt n [] c.in_ok-new-2.field-0) (ap length c.dids_of.ensures) c.in_ok-new-2.ensures;
    finished = c.in_ok-new-3.ensures c.args.of.now.script (sym c.len-2.ensures);
  };
  first = refl;
}
