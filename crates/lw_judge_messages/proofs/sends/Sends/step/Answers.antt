use Rattle.std.proofs.Common.{◌≡◌, ◌∷◌, nat_lt, nat_le, true, cond, [], length, refl, sym, subst, arith}
use Rattle.std.specs.Result.{OnOk}
use Rattle.std.proofs.lemmas.Bool.{and_from, lt-ltb, le-leb}
use Rattle.std.proofs.lemmas.Result.{on_ok_weaker}
use Rattle.lw_model.specs.declared.step.Step.TheVariants as step_of
use Rattle.lw_model.specs.Threads.{thread_count, is_client}
use Rattle.lw_model.specs.Sent.{sent_by, sent_by_did, tokens_started_by}
use Rattle.lw_judge_messages.specs.SendsAt.{AreSendsAt, Adds}
use Rattle.lw_judge_messages.proofs.SendSteps.{sends-step, without_tokens}
use Rattle.lw_judge_messages.proofs.sends.Sends.step.Goals as goal

pub returns-else-thread-len : goal.returns-else-thread-len
returns-else-thread-len c = λ past runners holds are.
    let r = c.args.of.now in
    let t = c.args.thread in
    let x = c.args.self.now in
    let y = c.did.new.self in
    let i = c.in-Did.place in
    let line = c.in-Did.line in
    let client : is_client r.script t ≡ true = and_from (nat_lt 0 t) (nat_le t (length r.script.clients)) (lt-ltb 0 t (omega arith)) (le-leb t (length r.script.clients) (omega arith)) in
    subst (λ s. OnOk c.did.result (AreSendsAt r t (s ∷ past) y)) (sym c.in-Did.is)
    (on_ok_weaker c.did.result
    (λ adds. sends-step r t past (step_of.Did i line) x y are
    (subst (λ b. Adds (thread_count r.script) t (cond b (sent_by_did r t past line) []) (cond b (tokens_started_by r t (step_of.Did i line)) []) x y) (sym client) adds))
    (c.did.ensures past i runners holds are.sized))

pub returns-in-Ran : goal.returns-in-Ran
returns-in-Ran c = λ past runners holds are.
    let r = c.args.of.now in
    let t = c.args.thread in
    let x = c.args.self.now in
    let y = c.ran.new.self in
    let s = step_of.Ran c.in-Ran.place c.in-Ran.tag in
    subst (λ s. OnOk c.ran.result (AreSendsAt r t (s ∷ past) y)) (sym c.in-Ran.is)
    (on_ok_weaker c.ran.result
    (λ adds. sends-step r t past s x y are (without_tokens r t (sent_by r t past s) (tokens_started_by r t s) refl x y adds))
    (c.ran.ensures (thread_count r.script) runners are.sized))
