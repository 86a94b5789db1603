use Rattle.std.proofs.Common.{◌≡◌, ◌==◌, [], ◌∷◌, nat_lt, nat_le, true, false, cond, map, length, sym, subst, arith}
use Rattle.std.proofs.lemmas.Bool.{and_from, and_right, lt-ltb, le-leb, lt-leb, ne_eqb}
use Rattle.std.proofs.lemmas.Result.{on_ok_weaker}
use Rattle.lw_base.specs.declared.message.What.TheVariants as what
use Rattle.lw_model.specs.Threads.{thread_count, is_client, owner_of, images}
use Rattle.lw_model.specs.Sent.{sent_last}
use Rattle.lw_judge_messages.specs.SendsAt.{Adds}
use Rattle.lw_judge_messages.proofs.Added.{adds_none}
use Rattle.lw_judge_messages.proofs.SendSteps.{sends-finish}
use Rattle.lw_judge_messages.proofs.sends.Sends.finish.Goals as goal

pub returns-then-thread-eq0 : goal.returns-then-thread-eq0
returns-then-thread-eq0 c = λ past is are.
    let r = c.args.of.now in
    let x = c.args.self.now in
    let y = c.stop_owners.new.self in
    on_ok_weaker c.stop_owners.result
    (λ adds. sends-finish r c.args.thread past x y is are (subst (λ t. Adds (thread_count r.script) t (sent_last r.script t) [] x y) (sym c.if-thread-eq0.true) adds))
    (c.stop_owners.ensures are.sized)

pub returns-then-thread-len : goal.returns-then-thread-len
returns-then-thread-len c = λ past is are.
    let r = c.args.of.now in
    let t = c.args.thread in
    let x = c.args.self.now in
    let y = c.send.new.self in
    let client : is_client r.script t ≡ true = and_from (nat_lt 0 t) (nat_le t (length r.script.clients)) (lt-ltb 0 t (omega arith)) (le-leb t (length r.script.clients) (omega arith)) in
    on_ok_weaker c.send.result
    (λ adds. sends-finish r t past x y is are
    (subst (λ b. Adds (thread_count r.script) t (cond b ((0, what.Done) ∷ []) (cond (t == 0) (map (λ d. (owner_of r.script d, what.Stop)) (images r.script)) [])) [] x y) (sym client) adds))
    (c.send.ensures (thread_count r.script) are.sized)

pub returns : goal.returns
returns c = λ past is are.
    let r = c.args.of.now in
    let t = c.args.thread in
    let x = c.args.self.now in
    let owner : is_client r.script t ≡ false = and_right (nat_lt 0 t) (nat_le t (length r.script.clients)) (lt-leb t (length r.script.clients) (omega arith)) in
    let other : (t == 0) ≡ false = ne_eqb t 0 (omega arith) in
    sends-finish r t past x x is are
    (subst (λ b. Adds (thread_count r.script) t (cond b ((0, what.Done) ∷ []) (cond (t == 0) (map (λ d. (owner_of r.script d, what.Stop)) (images r.script)) [])) [] x x) (sym owner)
    (subst (λ b. Adds (thread_count r.script) t (cond b (map (λ d. (owner_of r.script d, what.Stop)) (images r.script)) []) [] x x) (sym other) (adds_none (thread_count r.script) t x are.sized)))
