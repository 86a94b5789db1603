use Rattle.lw_judge_answers.proofs.answers.Answering.step.Goals as goal

pub returns : goal.returns
returns c = λ past few stands placed holds was. record {
  knows = record {
    asked = c.in_ok-step.ensures past few was.knows.asked;
    completed = c.in_ok-step-2.ensures _ past few was.knows.completed;
    finished = c.step-3.ensures c.args.of.now.script past was.knows.finished;
  };
  first = c.least_with-self.ensures past stands placed holds was;
}
