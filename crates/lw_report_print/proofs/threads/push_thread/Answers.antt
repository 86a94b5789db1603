use Rattle.std.proofs.Common.{◌∙◌, ◌∷◌, [], map, ◌++◌, subst}
use Rattle.std.specs.List.{AllByRecursion}
use Rattle.std.proofs.lemmas.Result.{on_ok_weaker}
use Rattle.lw_model.specs.ReportText.{thread_line, hop_line, ran_line, did_line, called_line, reply_line, seen_line}
use Rattle.lw_model.specs.Ranges.{CalledFits, DidFits, HopFits, ReplyFits, SeenFits, TagFits}
use Rattle.lw_report_print.proofs.TextLemmas.{one, more}
use Rattle.lw_report_print.proofs.threads.push_thread.Goals as goal

pub returns-clause-bytes : goal.returns-clause-bytes
returns-clause-bytes c =
    let t = c.args.thread.now in
    let b0 = thread_line c.args.number t ∷ [] in
    let b1 = b0 ++ map hop_line t.hops in
    let b2 = b1 ++ map ran_line t.ran in
    let b3 = b2 ++ map did_line t.did in
    let b4 = b3 ++ map called_line t.called in
    let b5 = b4 ++ map reply_line t.replies in
    let head = one _ _ (thread_line c.args.number t) c.in_ok-push_thread_line.ensures.bytes in
    let hops = c.in_ok-push_all.ensures.bytes ∙ more hop_line _ _ b0 t.hops _ head c.as_slice.ensures in
    let ran = c.in_ok-push_all-2.ensures.bytes ∙ more ran_line _ _ b1 t.ran _ hops c.as_slice-2.ensures in
    let did = c.in_ok-push_all-3.ensures.bytes ∙ more did_line _ _ b2 t.did _ ran c.as_slice-3.ensures in
    let called = c.in_ok-push_all-4.ensures.bytes ∙ more called_line _ _ b3 t.called _ did c.as_slice-4.ensures in
    let replies = c.in_ok-push_all-5.ensures.bytes ∙ more reply_line _ _ b4 t.replies _ called c.as_slice-5.ensures in
    on_ok_weaker c.push_all-6.result (λ e. e ∙ more seen_line _ _ b5 t.seen _ replies c.as_slice-6.ensures) c.push_all-6.ensures.bytes

pub returns-clause-range : goal.returns-clause-range
returns-clause-range c = on_ok_weaker c.push_all-6.result (λ seen. record {
  home = c.in_ok-push_thread_line.ensures.range;
  hops = subst (AllByRecursion HopFits) c.as_slice.ensures c.in_ok-push_all.ensures.range;
  ran = subst (AllByRecursion TagFits) c.as_slice-2.ensures c.in_ok-push_all-2.ensures.range;
  did = subst (AllByRecursion DidFits) c.as_slice-3.ensures c.in_ok-push_all-3.ensures.range;
  called = subst (AllByRecursion CalledFits) c.as_slice-4.ensures c.in_ok-push_all-4.ensures.range;
  replies = subst (AllByRecursion ReplyFits) c.as_slice-5.ensures c.in_ok-push_all-5.ensures.range;
  seen = subst (AllByRecursion SeenFits) c.as_slice-6.ensures seen;
}) c.push_all-6.ensures.range
