use Rattle.std.proofs.Common.{ℕ, true, [], ◌∷◌, sym, subst, refl}
use Rattle.lw_model.specs.Sent.{first_runner}
use Rattle.lw_judge_messages.specs.declared.sends.Sends.{Sends}
use Rattle.lw_judge_messages.specs.Tokens.{what_of}
use Rattle.lw_judge_messages.specs.SendsAt.{Adds}
use Rattle.lw_judge_messages.proofs.Added.{adds_token, adds_none}
use Rattle.lw_judge_messages.proofs.Sending.{first_way, started-way}
use Rattle.lw_judge_messages.proofs.sends.Sends.start.Goals as goal
use Rattle.lw_judge_messages.proofs.sends.Sends.start.Goals.{in-Some+in_ok-send, in_default}

pub returns : goal.returns
returns c = λ r n are sized.
    let t = c.args.thread in
    let v = c.args.token in
    let w = what_of v in
    let x = c.args.self.now in
    let y = c.match-first.self in
    let z : Sends = record { lists = y.lists; tokens = c.push.new.self } in
    let ms = first_way w (first_runner r w (λ (u : ℕ). true)) in
    let sent : Adds n t ms [] x y = elim c.match-first.branch [
      | in-Some+in_ok-send b ↦ subst (λ q. Adds n t ms [] x q) (sym b.self-is) (subst (λ o. Adds n t (first_way w o) [] x b.send.new.self) (b.in-Some.ensures r are)
          (subst (λ q. Adds n t ((b.in-Some.to, q) ∷ []) [] x b.send.new.self) b.what.ensures (b.in_ok-send.ensures n sized)))
      | in_default b ↦ subst (λ q. Adds n t ms [] x q) (sym b.self-is) (subst (λ o. Adds n t (first_way w o) [] x x) (b.in_default.ensures r are) (adds_none n t x sized))
    ] in
    subst (λ q. Adds n t q (w ∷ []) x z) (sym (started-way r w)) (adds_token n t ms v x y z sent refl c.in_ok-push.ensures.items)
