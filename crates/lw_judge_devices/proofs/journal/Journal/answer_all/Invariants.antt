use Rattle.std.proofs.Common.{[], take}
use Rattle.std.specs.Prelude.{filter_map}
use Rattle.lw_model.specs.Journal.{request_of}
use Rattle.lw_judge_devices.specs.declared.table.Owed.{Owed}
use Rattle.lw_judge_devices.specs.Answered.{IsImageOf, IsBehind}
use Rattle.lw_judge_devices.proofs.journal.Journal.answer_all.Given as goal

abbrev pub invariant-loop-tag : goal.invariant-loop-tag
invariant-loop-tag l = record {
  image : IsImageOf l.self.script.now l.self.device l.image;
  behind : (was : Owed) → IsBehind l.self.script.now l.self.device [] was l.initial.owed l.initial.image
      → IsBehind l.self.script.now l.self.device (filter_map request_of (take l.tag-index l.ran)) was l.owed l.image;
}
