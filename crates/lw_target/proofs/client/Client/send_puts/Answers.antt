use Rattle.std.proofs.Common.{◌<◌, length, ◌++◌, ◌∷◌, [], List, arith, ◌∙◌, ap}
use Rattle.lw_target.specs.declared.acts.Outgoing.{Outgoing}
use Rattle.lw_target.specs.Messages.{Asked}
use Rattle.lw_target.specs.Effects.{putself_of}
use Rattle.lw_target.proofs.Holdings.{puts_here, puts_none}
use Rattle.lw_target.proofs.client.Client.send_puts.Goals as goal
use Rattle.lw_target.proofs.client.Client.send_puts.Goals.{then-index-gt0+in_ok-send, else-index-gt0}

pub loop-image-preserved : goal.loop-image-preserved
loop-image-preserved c =
    let acts = λ (sends : List Outgoing). let a : Asked = record { ran = c.args.acts.now.ran; sends = sends } in a in
    let ks = c.args.self.now.channels.items in
    let within : c.loop-image.image < length ks = omega (arith, c.len-image-end.ensures) in
    elim c.if-index-gt0.branch [
      | then-index-gt0+in_ok-send w ↦
          w.acts-is ∙ w.in_ok-send.ensures
          ∙ ap (λ (a : Asked). let b : Asked = record { ran = a.ran; sends = a.sends ++ putself_of c.args.self.now.thread c.loop-image.image ∷ [] } in b) c.loop-image.invariant
          ∙ ap acts (puts_here c.args.self.now.thread c.loop-image.image ks c.index.result.now c.args.acts.now.sends within c.index.ensures w.if-index-gt0.true)
      | else-index-gt0 w ↦
          w.acts-is ∙ c.loop-image.invariant
          ∙ ap acts (puts_none c.args.self.now.thread c.loop-image.image ks c.index.result.now c.args.acts.now.sends within c.index.ensures w.if-index-gt0.false)
    ]
