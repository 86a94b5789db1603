use Rattle.std.proofs.Common.{◌≡◌, ap, arith, inl, inr, length, refl, sym, true, false, ◌∙◌, ◌++◌, ◌∷◌, []}
use Rattle.lw_station.specs.declared.stop.Stop.TheVariants as stop
use Rattle.lw_reactor.specs.Workers.{WorkerEnd}
use Rattle.lw_reactor.proofs.Trying.{ended_is, for_reason, lacks_is, there_is}
use Rattle.lw_reactor.proofs.worker.Worker.end.Goals as goal
use Rattle.lw_reactor.proofs.worker.Worker.end.Goals.{then-not-may_end-via-then-not-may_end, then-not-may_end-via-else-not-may_end+then-len-ge-MOST_REMAINS}

pub returns-then-not-may_end-clause-tried : goal.returns-then-not-may_end-clause-tried
returns-then-not-may_end-clause-tried g c =
    let f = c.requires.there in
    let i = there_is g.B.Body.ends c.args.at _ c.args.self.now f.0 c.self.view_is f.1 in
    let may = c.may_end.ensures f.0 i in
    let same = ap (λ (x : WorkerEnd _ _ _ _ _). length x.remains) c.self.view_is in
    let k = c.self.inside.remains.ok in
    inr (record {
      thread = f.0;
      is_there = f.1;
      cause = elim c.then-not-may_end.branch [
        | then-not-may_end-via-then-not-may_end w ↦ inl (λ m. absurd (let wrong : true ≡ false = sym (may.1 m) ∙ w.if-not-may_end.true in cc))
        | then-not-may_end-via-else-not-may_end+then-len-ge-MOST_REMAINS w ↦ inr (let x = w.len.ensures in let y = w.if-len-ge-MOST_REMAINS.true in omega arith)
      ];
      worker = refl;
    })

pub returns-in_err-reserve-clause-stops : goal.returns-in_err-reserve-clause-stops
returns-in_err-reserve-clause-stops g c =
    let f = c.requires.there in
    let i = there_is g.B.Body.ends c.args.at _ c.args.self.now f.0 c.self.view_is f.1 in
    let may = (c.may_end.ensures f.0 i).0 c.if-not-may_end.false in
    let k = c.self.inside.remains.ok in
    let x = c.len.ensures in
    let y = c.if-len-ge-MOST_REMAINS.false in
    for_reason c.from_residual.result stop.NoMemory _ c.from_residual.ensures.1
    (lacks_is g.B.Body.ends c.args.at _ c.args.self.now f.0 c.reserve.new.self.items c.self.view_is f.1 may (omega arith) c.reserve.ensures.items)

pub try_end-requires-after_bounds : goal.try_end-requires-after_bounds
try_end-requires-after_bounds g c κs within =
    let f = c.requires.there in
    let i = there_is g.B.Body.ends c.args.at _ c.args.self.now f.0 c.self.view_is f.1 in
    (f.0, i, f.2, f.3, (c.may_end.ensures f.0 i).0 c.if-not-may_end.false)

pub returns-in-Some-clause-tried : goal.returns-in-Some-clause-tried
returns-in-Some-clause-tried g c =
    let k = c.self.inside.remains.ok in
    let x = c.len.ensures in
    let y = c.if-len-ge-MOST_REMAINS.false in
    ended_is g.B.Body.ends c.args.at _ c.args.self.now c.in-Some.remains c.try_end.new.station c.push_reserved.new.self.items c.retire.new.self c.self.view_is (omega arith) c.in-Some.ensures.ended (c.push_reserved.ensures.items ∙ ap (λ xs. xs ++ c.in-Some.remains ∷ []) c.reserve.ensures.items) c.retire.ensures
