use Rattle.std.proofs.Common.{◌≡◌, false, replicate}
use Rattle.lw_thread.proofs.links.Links.new.Given as goal

-- none is noted as gone
abbrev pub invariant-loop : goal.invariant-loop
invariant-loop g l = l.gone.items ≡ replicate l.counter false
