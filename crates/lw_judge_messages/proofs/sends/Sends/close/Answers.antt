use Rattle.std.proofs.Common.{◌≡◌, ◌<◌, ◌≤◌, [], ◌∷◌, ℕ, true, false, cond, nat_lt, map, filter, length, arith, sym, subst}
use Rattle.std.specs.List.{range_with_len}
use Rattle.std.proofs.lemmas.Bool.{lt-ltb}
use Rattle.std.proofs.lemmas.Bool.Decides.{nat_tests}
use Rattle.lw_base.specs.declared.message.What.{What}
use Rattle.lw_base.specs.declared.message.What.TheVariants as what
use Rattle.lw_model.specs.Threads.{thread_count, is_on}
use Rattle.lw_model.specs.Holding.{references}
use Rattle.lw_judge_messages.specs.SendsAt.{Adds}
use Rattle.lw_judge_messages.proofs.Added.{adds_more, adds_none}
use Rattle.lw_judge_messages.proofs.Sending.{map-filter-range_push}
use Rattle.lw_judge_messages.proofs.sends.Sends.close.Goals as goal
use Rattle.lw_judge_messages.proofs.sends.Sends.close.Goals.{then-references-gt0+in_ok-send, else-references-gt0}

some : (k : ℕ) → 0 < k → nat_lt 0 k ≡ true
some k h = lt-ltb 0 k h

none : (k : ℕ) → k ≤ 0 → nat_lt 0 k ≡ false
none k h = grind (arith, nat_tests)

pub loop-device-preserved : goal.loop-device-preserved
loop-device-preserved c = λ past holds sized.
    let s = c.args.of.now.script in
    let n = thread_count s in
    let t = c.args.thread in
    let x = c.args.self.now in
    let y = c.loop-device.self in
    let d = c.loop-device.device in
    let putself = λ (d : ℕ). let q : ℕ × What = (t, what.PutSelf d) in q in
    let holds_it = λ (d : ℕ). nat_lt 0 (references (is_on s t d) past) in
    let before = c.loop-device.invariant past holds sized in
    let is = c.references.ensures s t past holds (omega arith) in
    let one : Adds n t (cond (holds_it d) (putself d ∷ []) []) [] y c.if-references-gt0.self = elim c.if-references-gt0.branch [
      | then-references-gt0+in_ok-send b ↦ subst (λ q. Adds n t (cond q (putself d ∷ []) []) [] y c.if-references-gt0.self) (sym (some (references (is_on s t d) past) (omega (arith, is, b.if-references-gt0.true))))
          (subst (λ z. Adds n t (putself d ∷ []) [] y z) (sym b.self-is) (b.in_ok-send.ensures n before.sized))
      | else-references-gt0 b ↦ subst (λ q. Adds n t (cond q (putself d ∷ []) []) [] y c.if-references-gt0.self) (sym (none (references (is_on s t d) past) (omega (arith, is, b.if-references-gt0.false))))
          (subst (λ z. Adds n t [] [] y z) (sym b.self-is) (adds_none n t y before.sized))
    ] in
    subst (λ ms. Adds n t ms [] x c.if-references-gt0.self) (sym (map-filter-range_push putself holds_it d))
    (adds_more n t (map putself (filter holds_it (range_with_len 0 d))) (cond (holds_it d) (putself d ∷ []) []) [] [] x y c.if-references-gt0.self before one)

pub returns : goal.returns
returns c = λ past holds sized.
    let s = c.args.of.now.script in
    let t = c.args.thread in
    let all : c.loop-device.device ≡ length s.images = omega arith in
    subst (λ k. Adds (thread_count s) t (map (λ d. (t, what.PutSelf d)) (filter (λ d. nat_lt 0 (references (is_on s t d) past)) (range_with_len 0 k))) [] c.args.self.now c.loop-device.self)
    all (c.loop-device.invariant past holds sized)
