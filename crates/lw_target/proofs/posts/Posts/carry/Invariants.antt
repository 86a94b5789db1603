use Rattle.std.proofs.Common.{◌≡◌, ◌+◌, length}
use Rattle.lw_target.specs.Messages.{Extent, AllFit, AllMayGo, asked_work}
use Rattle.lw_target.specs.Turns.{HasSenders, posts_work}
use Rattle.lw_target.proofs.Letters.{Going}
use Rattle.lw_target.proofs.posts.Posts.carry.Given as goal

abbrev pub invariant-loop-out : goal.invariant-loop-out
invariant-loop-out l = record {
  app : Going 0 l.sender l.initial.self.app l.self.app l.initial.acts.sends l.acts.sends;
  client : Going 1 l.sender l.initial.self.client l.self.client l.initial.acts.sends l.acts.sends;
  owner : Going 2 l.sender l.initial.self.owner l.self.owner l.initial.acts.sends l.acts.sends;
  senders : HasSenders l.self;
  work : posts_work l.self + asked_work l.acts.sends ≡ posts_work l.initial.self + asked_work l.initial.acts.sends;
  fits : (extent : Extent) → AllFit extent l.initial.self.owner.waiting → AllMayGo extent l.initial.acts.sends
      → AllFit extent l.self.owner.waiting × AllMayGo extent l.acts.sends;
}

abbrev pub decreases-loop-out : goal.decreases-loop-out
decreases-loop-out l = length l.acts.sends
