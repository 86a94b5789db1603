use Rattle.std.proofs.Common.{◌≡◌, ◌<◌, ◌-◌, ap, sym, subst, ◌∙◌, length, Some, None, Option, slice_set, arith}
use Rattle.lw_base.specs.declared.moves.Row.{Row}
use Rattle.lw_load.specs.declared.figures.Figures.{Figures}
use Rattle.lw_place.specs.declared.place.Place.{Place}
use Rattle.lw_rounds.specs.Measures.{LooksAt, MeterEnd, row_in}
use Rattle.lw_rounds.proofs.Measuring.{same_at, no_row, looks_at}
use Rattle.lw_rounds.proofs.meter.Meter.look.Goals as goal

pub returns-in_default : goal.returns-in_default
returns-in_default g c =
    let t = c.args.thread in
    let m : MeterEnd = record { cells = c.self.inside.reader; measured = c.self.inside.measured.items; told = c.self.inside.told.items } in
    let new : MeterEnd = record { cells = c.read-published.new.self; measured = slice_set m.measured t c.unwrap_or-now.result; told = slice_set m.told t None } in
    let within : t < length m.cells = (let v = ap (λ (e : MeterEnd). length e.cells) c.self.view_is in let r = c.requires.thread in omega arith) in
    let measured : t < length m.measured = (let i = c.self.invariant.0 in omega arith) in
    let told : t < length m.told = (let i = c.self.invariant.1 in omega arith) in
    let last = c.index-last.result.now in
    let now = c.unwrap_or-now.ensures in
    subst (λ (o : MeterEnd). LooksAt t o new c.args.desk.now c.look.new.self None) c.self.view_is
    (subst (λ (f : Figures). LooksAt t m (record new { measured = slice_set m.measured t f }) c.args.desk.now c.look.new.self None) (sym now)
    (looks_at m c.read-published.new.self t c.read-published.result last c.index.result.now c.args.desk.now c.look.new.self c.look.result None within
    c.read-published.ensures.found c.read-published.ensures.least
    (λ d. same_at m.measured t d last last measured c.index-last.ensures)
    (λ o. same_at m.told t o c.index.result.now c.index.result.now told c.index.ensures)
    c.look.ensures.seen c.look.ensures.below
    (no_row t c.look.result last _ c.in_default.not-List)))

pub returns : goal.returns
returns g c =
    let t = c.args.thread in
    let m : MeterEnd = record { cells = c.self.inside.reader; measured = c.self.inside.measured.items; told = c.self.inside.told.items } in
    let new : MeterEnd = record { cells = c.read-published.new.self; measured = slice_set m.measured t c.unwrap_or-now.result; told = slice_set m.told t None } in
    let within : t < length m.cells = (let v = ap (λ (e : MeterEnd). length e.cells) c.self.view_is in let r = c.requires.thread in omega arith) in
    let measured : t < length m.measured = (let i = c.self.invariant.0 in omega arith) in
    let told : t < length m.told = (let i = c.self.invariant.1 in omega arith) in
    let last = c.index-last.result.now in
    let f = c.unwrap_or-now.result in
    let now = c.unwrap_or-now.ensures in
    let row : Option Row = Some (record { thread = t; reactor = c.in-List.reactor; busy = f.busy - last.busy; idle = f.idle - last.idle }) in
    let answered : Option Row = Some (record { thread = t; reactor = c.in-List.reactor; busy = c.saturating_sub.result; idle = c.saturating_sub-2.result }) in
    let is : answered ≡ row =
    (λ i. Some (record { thread = t; reactor = c.in-List.reactor; busy = c.saturating_sub.ensures i; idle = c.saturating_sub-2.ensures i })) in
    subst (λ (o : MeterEnd). LooksAt t o new c.args.desk.now c.look.new.self answered) c.self.view_is
    (subst (λ (g : Figures). LooksAt t m (record new { measured = slice_set m.measured t g }) c.args.desk.now c.look.new.self answered) (sym now)
    (looks_at m c.read-published.new.self t c.read-published.result last c.index.result.now c.args.desk.now c.look.new.self c.look.result answered within
    c.read-published.ensures.found c.read-published.ensures.least
    (λ d. same_at m.measured t d last last measured c.index-last.ensures)
    (λ o. same_at m.told t o c.index.result.now c.index.result.now told c.index.ensures)
    c.look.ensures.seen c.look.ensures.below
    (is ∙ ap (λ (p : Place). row_in t p last f) (sym c.in-List.is) ∙ ap (row_in t c.look.result last) now)))
