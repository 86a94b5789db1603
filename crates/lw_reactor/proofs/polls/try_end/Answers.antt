use Rattle.std.proofs.Common.{◌≡◌}
use Rattle.std.specs.List.{insert}
use Rattle.lw_reactor.proofs.Trying.{lists_end, lists_not, put_ok}
use Rattle.lw_reactor.proofs.polls.try_end.Goals as goal

pub returns-in-Ended-clause-ended : goal.returns-in-Ended-clause-ended
returns-in-Ended-clause-ended g c =
    let f = c.requires in
    lists_end g.B.Body.ends c.args.at _ c.args.station.now f.0 c.remove.result c.in-Ended.remains c.remove.new.self.items _ c.station.view_is f.1 c.remove.ensures.value c.remove.ensures.items c.remove.ensures.capacity c.in-Ended.ensures

pub returns-else-is_err-clause-not_yet : goal.returns-else-is_err-clause-not_yet
returns-else-is_err-clause-not_yet g c =
    let f = c.requires in
    let back : c.insert.new.self.items ≡ insert c.remove.new.self.items c.args.at c.in-NotYet.thread = put_ok c.insert.result c.is_err.result _ _ _ c.is_err.ensures.value c.if-is_err.false c.insert.ensures.items in
    lists_not g.B.Body.ends c.args.at _ c.args.station.now f.0 c.remove.result c.in-NotYet.thread c.in-NotYet.field-1 c.remove.new.self.items c.insert.new.self.items _ c.station.view_is f.1 c.remove.ensures.value c.remove.ensures.items back f.4 c.in-NotYet.ensures
