use Rattle.std.proofs.Common.{◌≡◌, [], ◌∷◌, ℕ, map, length, arith, sym, subst}
use Rattle.std.specs.List.{range_with_len}
use Rattle.lw_base.specs.declared.message.What.{What}
use Rattle.lw_base.specs.declared.message.What.TheVariants as what
use Rattle.lw_model.specs.Threads.{thread_count, owner_of}
use Rattle.lw_judge_messages.specs.SendsAt.{Adds}
use Rattle.lw_judge_messages.proofs.Added.{adds_more}
use Rattle.lw_judge_messages.proofs.Sending.{map-range_push}
use Rattle.lw_judge_messages.proofs.sends.Sends.stop_owners.Goals as goal

pub loop-device-preserved : goal.loop-device-preserved
loop-device-preserved c = λ sized.
    let s = c.args.of.now.script in
    let n = thread_count s in
    let x = c.args.self.now in
    let d = c.loop-device.device in
    let stop = λ (d : ℕ). let q : ℕ × What = (owner_of s d, what.Stop) in q in
    let before = c.loop-device.invariant sized in
    let one = subst (λ o. Adds n 0 ((o, what.Stop) ∷ []) [] c.loop-device.self c.send.new.self) c.owner_of.ensures (c.in_ok-send.ensures n before.sized) in
    subst (λ ms. Adds n 0 ms [] x c.send.new.self) (sym (map-range_push stop d))
    (adds_more n 0 (map stop (range_with_len 0 d)) (stop d ∷ []) [] [] x c.loop-device.self c.send.new.self before one)

pub returns : goal.returns
returns c = λ sized.
    let s = c.args.of.now.script in
    let all : c.loop-device.device ≡ length s.images = omega arith in
    subst (λ k. Adds (thread_count s) 0 (map (λ d. (owner_of s d, what.Stop)) (range_with_len 0 k)) [] c.args.self.now c.loop-device.self) all (c.loop-device.invariant sized)
