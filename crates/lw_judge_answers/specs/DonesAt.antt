-- Which clients' `done` was run, from the steps before a line, the latest first.
use Rattle.std.specs.Prelude.{◌≡◌, not, List, map, count_by}
use Rattle.std.specs.List.{list_any}
use Rattle.lw_model.specs.declared.script.Script.{Script}
use Rattle.lw_model.specs.declared.step.Step.{Step}
use Rattle.lw_model.specs.Threads.{clients}
use Rattle.lw_model.specs.Answers.{is_done_of}
use Rattle.lw_judge_answers.specs.declared.dones.Dones.{Dones}

-- of each client whether its `done` was run, and of how many it wasn't
pub record AreDonesAt (s : Script) (past : List Step) (x : Dones) : Type 0 where
  pub each : x.done.items ≡ map (λ c. list_any (is_done_of c) past) (clients s)
  pub left : x.waiting ≡ count_by not x.done.items
