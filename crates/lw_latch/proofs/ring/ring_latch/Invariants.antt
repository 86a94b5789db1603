use Rattle.std.proofs.Common.{◌≡◌, ◌-◌, length, All}
use Rattle.lw_latch.specs.RingWord.{most_senders, first_view}
use Rattle.lw_latch.specs.RingEnds.{RingEnd, new_sender}
use Rattle.lw_latch.proofs.ring.ring_latch.Given as goal

abbrev pub invariant-loop : goal.invariant-loop
invariant-loop l = record {
  rest : l.recv.view ≡ record first_view { parts = most_senders - l.counter };
  count : length l.ends.items ≡ l.counter;
  ends : All (λ (s : RingEnd). s ≡ new_sender l.recv.latch) l.ends.items;
}
