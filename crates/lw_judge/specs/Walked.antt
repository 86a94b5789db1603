-- What is known behind the steps of some threads, and of one more thread before a line, the latest first.
use Rattle.std.specs.Prelude.{ℕ, ◌≡◌, List}
use Rattle.std.specs.List.{flat_map, range_with_len}
use Rattle.lw_model.specs.declared.record.Record.{Record}
use Rattle.lw_model.specs.declared.step.Step.{Step}
use Rattle.lw_model.specs.Verdict.{least_failing}
use Rattle.lw_judge.specs.declared.walk.Going.{Going}
use Rattle.lw_judge.specs.declared.walk.Walk.{Walk}
use Rattle.lw_judge_threads.specs.Holdings.{HoldsAt}
use Rattle.lw_judge_answers.specs.AnsweringAt.{IsAnsweringAt, answers_of}
use Rattle.lw_judge_devices.specs.DevicesTold.{AreDevicesAt, TellsAt}
use Rattle.lw_judge_messages.specs.MarksAt.{AreMarksAt}
use Rattle.lw_judge_messages.specs.SendsAt.{AreSendsAt}

-- what is known of thread t
pub record IsGoingAt (r : Record) (t : ℕ) (past : List Step) (g : Going) : Type 0 where
  pub holding : HoldsAt r.script t past g.holding
  pub tells : TellsAt r.script t past g.tells
  pub answering : IsAnsweringAt r t past g.answering

-- what is known of the threads below t, and of thread t; the rule on answers is judged of those below alone
pub record IsWalkedTo (r : Record) (t : ℕ) (past : List Step) (w : Walk) : Type 0 where
  pub sends : AreSendsAt r t past w.sends
  pub devices : AreDevicesAt r t past w.devices
  pub marks : AreMarksAt r t past w.marks
  pub answers : w.answers ≡ least_failing (flat_map (answers_of r) (range_with_len 0 t))
