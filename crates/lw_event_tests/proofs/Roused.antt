-- Sleepers that can wake each of their run, through their calls.
use Rattle.std.proofs.Common.{◌≡◌, ℕ, ◌<◌, List, length, ap, ◌∙◌, length-set}
use Rattle.std.specs.Prelude.{slice_index_or, slice_set}
use Rattle.std.proofs.lemmas.List.{length-map}
use Rattle.lw_event.specs.Sleepers.{SleeperEnd, WakerEnd, AreNew, new_waker, once_more}

-- how many a sleeper can wake
abbrev pub wakers_of : SleeperEnd → ℕ
wakers_of s = length s.wakers

pub wakes_each : (n k : ℕ) (ss : List SleeperEnd) (s : SleeperEnd) → AreNew n ss → k < n → s ≡ slice_index_or ss k s → length s.wakers ≡ n
wakes_each n k ss s new low is = ap wakers_of (is ∙ new.each k s s.parker low) ∙ length-map new.parkers new_waker ∙ new.parker_count

-- after a wake it can wake as many
pub wakes_still : (to : ℕ) (s t : SleeperEnd) → ((d : WakerEnd) → t ≡ record s { wakers = slice_set s.wakers to (once_more (slice_index_or s.wakers to d)) }) → length t.wakers ≡ length s.wakers
wakes_still to s t woke = ap wakers_of (woke (new_waker s.parker)) ∙ length-set s.wakers to (once_more (slice_index_or s.wakers to (new_waker s.parker)))
