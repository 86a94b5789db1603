use Rattle.std.proofs.Common.{◌≡◌, ◌<◌, ◌+◌, ◌-◌, ◌++◌, ◌∷◌, [], ℕ, List, Some, ap, sym, subst, ◌∙◌, length, slice_get, All, arith}
use Rattle.std.specs.Option.{option_copied}
use Rattle.std.specs.Vec.{with_items}
use Rattle.std.proofs.lemmas.List.{with_items_is}
use Rattle.std.proofs.lemmas.List.Elements.{All-weaker}
use Rattle.lw_base.specs.Limits.{standard}
use Rattle.lw_base.specs.Plan.{plan}
use Rattle.lw_base.specs.declared.moves.Row.{Row}
use Rattle.lw_base.specs.declared.moves.Round.{Round}
use Rattle.lw_rounds.specs.Rounds.{BalancerEnd, KeepsRounds, IsDue, Ascend, AreNoted, masks_of, round_of}
use Rattle.lw_rounds.proofs.Rounding.{AreRows, rows_of, keeps_read, keeps_made, pushed_last}
use Rattle.lw_rounds.proofs.balancer.Balancer.balance.Goals as goal

pub invariant_of-self : goal.invariant_of-self
invariant_of-self g c =
    let b : BalancerEnd = record {
      reactors = c.self.inside.reactors;
      masks = c.self.inside.masks.items;
      period = c.self.inside.period;
      meter = c.self.inside.meter;
      first = c.self.inside.first;
      rounds = c.self.inside.rounds.items;
    } in
    keeps_read c.self.inside.stands.items b c.measure.new.self c.measure.ensures.read.count c.self.invariant

pub invariant_of-self-2 : goal.invariant_of-self-2
invariant_of-self-2 g c =
    let b : BalancerEnd = record {
      reactors = c.self.inside.reactors;
      masks = c.self.inside.masks.items;
      period = c.self.inside.period;
      meter = c.self.inside.meter;
      first = c.self.inside.first;
      rounds = c.self.inside.rounds.items;
    } in
    keeps_read c.self.inside.stands.items b c.measure.new.self c.measure.ensures.read.count c.self.invariant

pub invariant_of-self-in_err-masks : goal.invariant_of-self-in_err-masks
invariant_of-self-in_err-masks g c =
    let b : BalancerEnd = record {
      reactors = c.self.inside.reactors;
      masks = c.self.inside.masks.items;
      period = c.self.inside.period;
      meter = c.self.inside.meter;
      first = c.self.inside.first;
      rounds = c.self.inside.rounds.items;
    } in
    keeps_read c.self.inside.stands.items b c.measure.new.self c.measure.ensures.read.count c.self.invariant

pub invariant_of-self-in_err-orders : goal.invariant_of-self-in_err-orders
invariant_of-self-in_err-orders g c =
    let b : BalancerEnd = record {
      reactors = c.self.inside.reactors;
      masks = c.self.inside.masks.items;
      period = c.self.inside.period;
      meter = c.self.inside.meter;
      first = c.self.inside.first;
      rounds = c.self.inside.rounds.items;
    } in
    keeps_read c.self.inside.stands.items b c.measure.new.self c.measure.ensures.read.count c.self.invariant

pub masks_of-requires : goal.masks_of-requires
masks_of-requires g c =
    let n = length c.self.inside.masks.items in
    let rs = c.self.inside.reactors in
    let rows = c.in_ok-rows.rows.items in
    let same = c.requires.reactors ∙ ap (λ (e : BalancerEnd). e.reactors) (sym c.self.view_is) in
    let are : AreRows n rs rows = rows_of c.self.inside.meter c.measure.new.self c.args.desk.now c.measure.new.desk rows n rs c.self.invariant.count (sym same) c.in_ok-rows.ensures.rows in
    subst (All (λ (w : Row). w.thread < n)) (sym c.as_slice.ensures.value) are.threads_below

pub plan-requires-clause-few : goal.plan-requires-clause-few
plan-requires-clause-few g c =
    let n = length c.self.inside.masks.items in
    let rs = c.self.inside.reactors in
    let rows = c.in_ok-rows.rows.items in
    let same = c.requires.reactors ∙ ap (λ (e : BalancerEnd). e.reactors) (sym c.self.view_is) in
    let are : AreRows n rs rows = rows_of c.self.inside.meter c.measure.new.self c.args.desk.now c.measure.new.desk rows n rs c.self.invariant.count (sym same) c.in_ok-rows.ensures.rows in
    let long = ap length c.as_slice-2.ensures.value in
    let few = are.few in
    let most = c.self.invariant.few in
    omega arith

pub plan-requires-clause-rows : goal.plan-requires-clause-rows
plan-requires-clause-rows g c =
    let n = length c.self.inside.masks.items in
    let rs = c.self.inside.reactors in
    let rows = c.in_ok-rows.rows.items in
    let same = c.requires.reactors ∙ ap (λ (e : BalancerEnd). e.reactors) (sym c.self.view_is) in
    let are : AreRows n rs rows = rows_of c.self.inside.meter c.measure.new.self c.args.desk.now c.measure.new.desk rows n rs c.self.invariant.count (sym same) c.in_ok-rows.ensures.rows in
    subst (All (λ (w : Row). w.reactor < rs)) (sym c.as_slice-2.ensures.value) are.reactors_below

pub invariant_of-self-in_err-push : goal.invariant_of-self-in_err-push
invariant_of-self-in_err-push g c =
    let b : BalancerEnd = record {
      reactors = c.self.inside.reactors;
      masks = c.self.inside.masks.items;
      period = c.self.inside.period;
      meter = c.self.inside.meter;
      first = c.self.inside.first;
      rounds = c.self.inside.rounds.items;
    } in
    subst (λ (rounds : List Round). KeepsRounds c.self.inside.stands.items (record b { meter = c.measure.new.self; rounds = rounds })) (sym c.in_err-push.ensures.items)
    (keeps_read c.self.inside.stands.items b c.measure.new.self c.measure.ensures.read.count c.self.invariant)

pub note_stands-requires-clause-threads : goal.note_stands-requires-clause-threads
note_stands-requires-clause-threads g c =
    let n = length c.self.inside.masks.items in
    let rs = c.self.inside.reactors in
    let rows = c.in_ok-rows.rows.items in
    let same = c.requires.reactors ∙ ap (λ (e : BalancerEnd). e.reactors) (sym c.self.view_is) in
    let are : AreRows n rs rows = rows_of c.self.inside.meter c.measure.new.self c.args.desk.now c.measure.new.desk rows n rs c.self.invariant.count (sym same) c.in_ok-rows.ensures.rows in
    let all = c.push.new.self.items in
    let taken : slice_get all (length all - 1) ≡ Some c.in-Some.round.now =
    ap (λ (xs : List Round). slice_get xs (length xs - 1)) (sym c.deref.ensures.value) ∙ sym c.last.ensures.value ∙ ap option_copied c.in-Some.is in
    let noted : c.as_slice-in-Some.result.now ≡ rows =
    c.as_slice-in-Some.ensures ∙ ap (λ (r : Round). r.rows) (pushed_last c.self.inside.rounds.items all _ c.in-Some.round.now c.in_ok-push.ensures.items taken) ∙ c.from_vec.ensures in
    let long = ap length c.deref_mut.ensures.value in
    let places = c.self.invariant.places in
    subst (All (λ (w : Row). w.thread < length c.deref_mut.result.now)) (sym noted)
    (All-weaker (λ (w : Row). w.thread < n) (λ (w : Row). w.thread < length c.deref_mut.result.now) (λ w l. omega arith) rows are.threads_below)

pub note_stands-requires-clause-ascend : goal.note_stands-requires-clause-ascend
note_stands-requires-clause-ascend g c =
    let n = length c.self.inside.masks.items in
    let rs = c.self.inside.reactors in
    let rows = c.in_ok-rows.rows.items in
    let same = c.requires.reactors ∙ ap (λ (e : BalancerEnd). e.reactors) (sym c.self.view_is) in
    let are : AreRows n rs rows = rows_of c.self.inside.meter c.measure.new.self c.args.desk.now c.measure.new.desk rows n rs c.self.invariant.count (sym same) c.in_ok-rows.ensures.rows in
    let all = c.push.new.self.items in
    let taken : slice_get all (length all - 1) ≡ Some c.in-Some.round.now =
    ap (λ (xs : List Round). slice_get xs (length xs - 1)) (sym c.deref.ensures.value) ∙ sym c.last.ensures.value ∙ ap option_copied c.in-Some.is in
    let noted : c.as_slice-in-Some.result.now ≡ rows =
    c.as_slice-in-Some.ensures ∙ ap (λ (r : Round). r.rows) (pushed_last c.self.inside.rounds.items all _ c.in-Some.round.now c.in_ok-push.ensures.items taken) ∙ c.from_vec.ensures in
    subst (Ascend 0) (sym noted) are.ascend

-- The round that was pushed is the one of the rows, and its threads were noted.
pub invariant_of-self-in-Some : goal.invariant_of-self-in-Some
invariant_of-self-in-Some g c =
    let b : BalancerEnd = record {
      reactors = c.self.inside.reactors;
      masks = c.self.inside.masks.items;
      period = c.self.inside.period;
      meter = c.self.inside.meter;
      first = c.self.inside.first;
      rounds = c.self.inside.rounds.items;
    } in
    let n = length c.self.inside.masks.items in
    let rs = c.self.inside.reactors in
    let rows = c.in_ok-rows.rows.items in
    let same = c.requires.reactors ∙ ap (λ (e : BalancerEnd). e.reactors) (sym c.self.view_is) in
    let are : AreRows n rs rows = rows_of c.self.inside.meter c.measure.new.self c.args.desk.now c.measure.new.desk rows n rs c.self.invariant.count (sym same) c.in_ok-rows.ensures.rows in
    let x : Round = record { number = c.len.result + 1; time = c.args.now; rows = c.from_vec.result; orders = c.from_vec-2.result } in
    let all = c.push.new.self.items in
    let taken : slice_get all (length all - 1) ≡ Some c.in-Some.round.now =
    ap (λ (xs : List Round). slice_get xs (length xs - 1)) (sym c.deref.ensures.value) ∙ sym c.last.ensures.value ∙ ap option_copied c.in-Some.is in
    let noted : c.as_slice-in-Some.result.now ≡ rows =
    c.as_slice-in-Some.ensures ∙ ap (λ (r : Round). r.rows) (pushed_last c.self.inside.rounds.items all x c.in-Some.round.now c.in_ok-push.ensures.items taken) ∙ c.from_vec.ensures in
    let orders_are : c.from_vec-2.result ≡ plan standard rs rows (masks_of b.masks rows) =
    c.from_vec-2.ensures ∙ c.in_ok-orders.ensures
    ∙ (λ i. plan (c.standard.ensures i) rs (c.as_slice-2.ensures.value i) ((c.as_slice-3.ensures.value ∙ c.in_ok-masks.ensures ∙ ap (masks_of b.masks) c.as_slice.ensures.value) i)) in
    let number : c.len.result ≡ length b.rounds = (let a = c.len.ensures in let k = c.self.inside.rounds.ok in omega arith) in
    let x_is : x ≡ round_of c.args.now b rows = (λ i. record { number = number i + 1; time = c.args.now; rows = c.from_vec.ensures i; orders = orders_are i }) in
    let pushed : all ≡ b.rounds ++ round_of c.args.now b rows ∷ [] = c.in_ok-push.ensures.items ∙ ap (λ (r : Round). b.rounds ++ r ∷ []) x_is in
    let now = c.note_stands.new.stands in
    let old = c.self.inside.stands.items in
    let value = ap length c.deref_mut.ensures.value in
    let count = c.note_stands.ensures.count in
    let long : length now ≡ length old = omega arith in
    let whole : length now ≡ c.self.inside.stands.len = (let k = c.self.inside.stands.ok in omega arith) in
    let items : (with_items c.self.inside.stands now).items ≡ now = with_items_is c.self.inside.stands now whole in
    subst (λ (stands : List ℕ). KeepsRounds stands (record b { meter = c.measure.new.self; rounds = all })) (sym items)
    (subst (λ (rounds : List Round). KeepsRounds now (record b { meter = c.measure.new.self; rounds = rounds })) (sym pushed)
    (keeps_made c.args.now old now b rows c.measure.new.self (subst (IsDue c.args.now) (sym c.self.view_is) c.requires.due) are c.measure.ensures.read.count long
    (subst (AreNoted now) noted c.note_stands.ensures.noted) c.self.invariant))
