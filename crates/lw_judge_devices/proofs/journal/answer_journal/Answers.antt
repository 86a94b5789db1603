use Rattle.std.proofs.Common.{subst, ◌∙◌}
use Rattle.std.specs.Prelude.{filter_map}
use Rattle.std.proofs.lemmas.Result.{on_ok_weaker}
use Rattle.lw_model.specs.Journal.{request_of}
use Rattle.lw_judge_devices.specs.Answered.{IsBehind}
use Rattle.lw_judge_devices.proofs.OpsFit.{reads_fit, image_fits, block_is, blocks_are}
use Rattle.lw_judge_devices.proofs.OwedImages.{behind_first, behind_last}
use Rattle.lw_judge_devices.proofs.WhatStands.{is_in}
use Rattle.lw_judge_devices.proofs.journal.answer_journal.Goals as goal

pub new-requires-clause-some : goal.new-requires-clause-some
new-requires-clause-some c =
    (image_fits c.args.of.now c.args.device c.index-as_slice-device.result (is_in c.as_slice.result.now c.args.of.now.script.images c.args.device _ c.as_slice.ensures c.requires c.index-as_slice-device.is)).0

pub answer_all-requires-clause-reads : goal.answer_all-requires-clause-reads
answer_all-requires-clause-reads c = reads_fit c.args.of.now

pub answer_all-requires-clause-image : goal.answer_all-requires-clause-image
answer_all-requires-clause-image c =
    let s = c.args.of.now.script in
    let image = c.index-as_slice-device.result in
    let at = is_in c.as_slice.result.now s.images c.args.device image c.as_slice.ensures c.requires c.index-as_slice-device.is in
    record {
      block = c.in_ok-image.ensures.block ∙ block_is s c.args.device image at;
      blocks = c.in_ok-image.ensures.blocks ∙ blocks_are s c.args.device image at;
    }

pub returns : goal.returns
returns c =
    let r = c.args.of.now in
    let d = c.args.device in
    let owed = c.args.owed.now in
    on_ok_weaker c.answer_all.result
    (λ behind. λ below. behind_last r d owed c.answer_all.new.owed c.answer_all.new.image below
    (subst (λ l. IsBehind r.script d (filter_map request_of l) owed c.answer_all.new.owed c.answer_all.new.image) c.ran_by_owner.ensures
    (behind owed (behind_first r d owed c.in_ok-image.image below c.in_ok-image.ensures.after))))
    c.answer_all.ensures
