use Rattle.std.proofs.Common.{◌≡◌, ◌<◌, ◌+◌, ◌++◌, List, Option, Vec, Global, option_to_list, ap, sym, subst, ◌∙◌, length, refl, inl, arith}
use Rattle.std.proofs.lemmas.List.{append-nil}
use Rattle.lw_base.specs.declared.moves.Row.{Row}
use Rattle.lw_rounds.specs.Measures.{MeterEnd}
use Rattle.lw_rounds.proofs.Measuring.{IsWhole, MeasuredSoFar, measured_first, measured_more, measured_all, has_read, none_of}
use Rattle.lw_rounds.proofs.meter.Meter.measure.Goals.{in-Some+in_ok-push, in_default}
use Rattle.lw_rounds.proofs.meter.Meter.measure.Goals as goal

pub loop-thread-init : goal.loop-thread-init
loop-thread-init g c =
    record {
      whole = subst IsWhole c.self.view_is (record { measured = c.self.invariant.0; told = c.self.invariant.1 });
      so_far = subst (λ (rows : List Row). MeasuredSoFar 0 c.args.self.now c.args.self.now c.args.desk.now c.args.desk.now rows) (sym c.new-rows.ensures.items) (measured_first c.args.self.now c.args.desk.now);
      read = record { count = refl; each = λ k d l. inl refl };
    }

-- One thread more was looked at.
pub loop-thread-preserved : goal.loop-thread-preserved
loop-thread-preserved g c =
    let i = c.loop-thread.invariant in
    let t = c.loop-thread.thread in
    let old = c.args.self.now in
    let rows = c.loop-thread.rows.items in
    let less : t < length old.cells =
    (let test = c.loop-thread-test.true in
    let end = c.len-thread-end.ensures in
    let read = c.self.invariant.0 in
    let view = ap (λ (m : MeterEnd). length m.cells) c.self.view_is in
    omega arith) in
    let pushed : c.match-look.rows.items ≡ rows ++ option_to_list c.look.result = elim c.match-look.branch [
      | in-Some+in_ok-push w ↦ ap (λ (v : Vec Row Global). v.items) w.rows-is ∙ w.in_ok-push.ensures.items ∙ ap (λ (o : Option Row). rows ++ option_to_list o) (sym w.in-Some.is)
      | in_default w ↦ ap (λ (v : Vec Row Global). v.items) w.rows-is ∙ sym (append-nil rows)
          ∙ ap (λ (o : Option Row). rows ++ option_to_list o) (sym (none_of c.look.result w.in_default.not-Some))
    ] in
    let more = measured_more t old c.loop-thread.self c.look.new.self c.args.desk.now c.loop-thread.desk c.look.new.desk rows c.look.result i.whole less i.so_far c.look.ensures in
    record {
      whole = i.whole;
      so_far = subst (λ (ws : List Row). MeasuredSoFar (t + 1) old c.look.new.self c.args.desk.now c.look.new.desk ws) (sym pushed) more;
      read = has_read (t + 1) old c.look.new.self c.args.desk.now c.look.new.desk (rows ++ option_to_list c.look.result) more;
    }

-- There was no room for its row.
pub returns-in_err-push-clause-read : goal.returns-in_err-push-clause-read
returns-in_err-push-clause-read g c =
    let i = c.loop-thread.invariant in
    let t = c.loop-thread.thread in
    let old = c.args.self.now in
    let rows = c.loop-thread.rows.items in
    let less : t < length old.cells =
    (let test = c.loop-thread-test.true in
    let end = c.len-thread-end.ensures in
    let read = c.self.invariant.0 in
    let view = ap (λ (m : MeterEnd). length m.cells) c.self.view_is in
    omega arith) in
    has_read (t + 1) old c.look.new.self c.args.desk.now c.look.new.desk (rows ++ option_to_list c.look.result)
    (measured_more t old c.loop-thread.self c.look.new.self c.args.desk.now c.loop-thread.desk c.look.new.desk rows c.look.result i.whole less i.so_far c.look.ensures)

-- All were looked at.
pub returns-clause-rows : goal.returns-clause-rows
returns-clause-rows g c =
    let i = c.loop-thread.invariant in
    let t = c.loop-thread.thread in
    let old = c.args.self.now in
    let all : t ≡ length old.cells =
    (let test = c.loop-thread-test.false in
    let end = c.len-thread-end.ensures in
    let least = c.loop-thread.auto.thread-end in
    let read = c.self.invariant.0 in
    let view = ap (λ (m : MeterEnd). length m.cells) c.self.view_is in
    omega arith) in
    measured_all t old c.loop-thread.self c.args.desk.now c.loop-thread.desk c.loop-thread.rows.items i.whole all i.so_far
