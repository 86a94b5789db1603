use Rattle.std.proofs.Common.{rules}
use Rattle.lw_place.proofs.Dealing.{deals_thread}
use Rattle.lw_place.proofs.bundle.Bundle.deal_thread.Goals as goal

pub split_seat-seat-requires : goal.split_seat-seat-requires
split_seat-seat-requires c = (search rules, search rules, deals_thread _ _ _)
