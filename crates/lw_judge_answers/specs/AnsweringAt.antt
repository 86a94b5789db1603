-- What the judge knows of a thread for the rule *Answers*, from the steps before a line, the latest first.
use Rattle.std.specs.Prelude.{ℕ, ◌≡◌, nat_le, List, ◌∷◌, ◌++◌, length}
use Rattle.lw_model.specs.declared.record.Record.{Record}
use Rattle.lw_model.specs.declared.step.Step.{Step}
use Rattle.lw_model.specs.Threads.{ran_of, did_of}
use Rattle.lw_model.specs.OwnOrder.{history}
use Rattle.lw_model.specs.Lines.{thread_line, did_line, called_line}
use Rattle.lw_model.specs.Answers.{wanted, at_fits, did_ats, called_ats}
use Rattle.lw_model.specs.Verdict.{Test, each_line, step_test, least_failing}
use Rattle.std.specs.List.{flat_map}
use Rattle.lw_judge_threads.specs.Folded.{folded}
use Rattle.lw_judge_answers.specs.UnansweredAt.{IsUnansweredAt}
use Rattle.lw_judge_answers.specs.CompletionsAt.{AreCompletionsAt}
use Rattle.lw_judge_answers.specs.DonesAt.{AreDonesAt}
use Rattle.lw_judge_answers.specs.declared.answers.Answering.{Answering}

-- what is asked of the steps that stand before a line
pub record KnowsAt (r : Record) (t : ℕ) (past : List Step) (a : Answering) : Type 0 where
  pub asked : IsUnansweredAt r.script t past a.unanswered
  pub completed : AreCompletionsAt (length (did_of r t)) past a.completions
  pub finished : AreDonesAt r.script past a.dones

-- and the first line among them that fails
pub record IsAnsweringAt (r : Record) (t : ℕ) (past : List Step) (a : Answering) : Type 0 where
  pub knows : KnowsAt r t past a
  pub first : a.least ≡ least_failing (folded (step_test r t) past)

-- the tests of a thread by the rule
abbrev pub answers_of : Record → ℕ → List Test
answers_of r t = (thread_line r t, nat_le (wanted r t) (length (did_of r t)))
    ∷ (each_line (did_line r t) (at_fits (length (ran_of r t))) (did_ats r t)
    ++ each_line (called_line r t) (at_fits (length (ran_of r t))) (called_ats r t)
    ++ flat_map (λ p. step_test r t p.0 p.1) (history r t))
