-- The orders of a round: what is chosen for each row, from the loads, from its thread's mask and from the choices before it.
use Rattle.std.specs.Prelude.{ℕ, ◌+◌, ◌-◌, ◌*◌, ◌/◌, ◌==◌, nat_lt, nat_le, Bool, cond, ◌&&◌, not, List, [], ◌∷◌, ◌++◌, map, filter, find, filter_map, zip, Option, Some, None, unwrap_or, sum_by, slice_index}
use Rattle.std.specs.List.{range_with_len, list_all}
use Rattle.lw_base.specs.declared.moves.Limits.{Limits}
use Rattle.lw_base.specs.declared.moves.Row.{Row}
use Rattle.lw_base.specs.declared.moves.Order.{Order}
use Rattle.lw_base.specs.Masks.{every_reactor, allows, allowed}

-- the part of 100 in which a thread was busy
abbrev pub load_of : ℕ → ℕ → ℕ
load_of busy idle = cond (busy + idle == 0) 0 (busy * 100 / (busy + idle))

-- that of a row
abbrev pub load : Row → ℕ
load w = load_of w.busy w.idle

-- the sum of the loads of the rows on a reactor
abbrev pub core_load : List Row → ℕ → ℕ
core_load rows c = sum_by load (filter (λ w. w.reactor == c) rows)

-- the sum of the loads of the earlier rows that chose a reactor; `earlier` has each choice with its load
abbrev pub planned : List (ℕ × ℕ) → ℕ → ℕ
planned earlier d = sum_by (λ e. e.1) (filter (λ e. e.0 == d) earlier)

-- the reactors that a mask allows, in the order 1, .., R-1, 0
abbrev pub targets : ℕ → ℕ → List ℕ
targets mask reactors = filter (allows mask reactors) (range_with_len 1 (reactors - 1) ++ (0 ∷ []))

-- the first of some reactors that has room for a load, where `loads` is planned
abbrev pub with_room : Limits → (ℕ → ℕ) → ℕ → List ℕ → Option ℕ
with_room limits loads amount ds = find (λ d. nat_le (loads d + amount) limits.core) ds

-- the first of some reactors for which the least is planned
abbrev pub least_planned : (ℕ → ℕ) → List ℕ → Option ℕ
least_planned loads ds = find (λ d. list_all (λ e. nat_le (loads d) (loads e)) ds) ds

-- a thread stays where it is, on an allowed reactor other than 0 that isn't too busy; `cores` are the core loads
abbrev pub stays : Limits → ℕ → (ℕ → ℕ) → Row → ℕ → Bool
stays limits reactors cores w mask = not (w.reactor == 0) && (allows mask reactors w.reactor && nat_le (cores w.reactor) limits.busy)

-- the reactor that is chosen for a row, by the core loads and by what is planned so far: an idle thread goes to the first
-- that its mask allows
abbrev pub choice : Limits → ℕ → (ℕ → ℕ) → (ℕ → ℕ) → Row → ℕ → ℕ
choice limits reactors cores loads w mask =
    cond (nat_lt (load w) limits.load) (slice_index (allowed mask reactors) 0)
    (cond (stays limits reactors cores w mask) w.reactor
    (unwrap_or (with_room limits loads (load w) (targets mask reactors)) (unwrap_or (least_planned loads (targets mask reactors)) 0)))

-- the choices for the rows of `rest`, each with its mask, in order, after those in `earlier`
abbrev pub choices : Limits → ℕ → List Row → List (ℕ × ℕ) → List (Row × ℕ) → List ℕ
choices limits reactors rows earlier [] = []
choices limits reactors rows earlier (w ∷ rest) =
    let c = choice limits reactors (core_load rows) (planned earlier) w.0 w.1 in
    c ∷ choices limits reactors rows (earlier ++ ((c, load w.0) ∷ [])) rest

-- an order, where the choice isn't where the thread is
abbrev pub order_of : Row × ℕ → Option Order
order_of p = cond (p.0.reactor == p.1) None (Some (record { thread = p.0.thread; to = p.1 }))

-- the orders of a list of rows, with one mask a row
abbrev pub plan : Limits → ℕ → List Row → List ℕ → List Order
plan limits reactors rows masks = filter_map order_of (zip rows (choices limits reactors rows [] (zip rows masks)))

-- the orders where each thread may go to every reactor
abbrev pub free_plan : Limits → ℕ → List Row → List Order
free_plan limits reactors rows = plan limits reactors rows (map (λ w. every_reactor) rows)
