use Rattle.std.proofs.Common.{rules, ◌≡◌, false, sym, subst}
use Rattle.lw_thread.specs.Links.{Tied}
use Rattle.lw_thread.specs.Threads.{IsKept}
use Rattle.lw_thread.proofs.Kept.{new_kept}
use Rattle.lw_thread.proofs.thread.LightThread.new.Goals as goal

pub invariant_of-result : goal.invariant_of-result
invariant_of-result g c =
    subst (λ (t : Tied _ _). (t.thread ≡ c.args.seat.thread) × IsKept g.B.Message.Tagged.letter g.B.Message.Tagged.tag_of g.B.Body.lawful (record { body = c.args.body; acts = c.in_ok-acts.acts; recv = t.recv; ends = t.ends; seat = c.args.seat; load = c.args.load; ran = t.ran; left = t.left; trail = c.new-3.result.items; stopped = false })) (sym c.in_ok-links.ensures) (
      c.thread.ensures.thread,
      new_kept g.B.Message.Tagged.letter g.B.Message.Tagged.tag_of g.B.Body.lawful c.args.body c.in_ok-acts.acts c.args.recv c.args.ends.items c.args.seat c.args.load c.new-3.result.items c.requires.ends c.requires.unused.0 c.requires.place c.requires.load.0 c.requires.lawful (search rules) (search rules),
    )
