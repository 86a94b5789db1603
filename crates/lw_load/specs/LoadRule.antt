-- The rule of a load cell.
use Rattle.std.specs.Prelude.{◌≡◌, ℕ, ◌+◌, ◌≤◌, List, [], ◌∷◌, slice_index}
use mathlib.Core.Option.{some}
use lib.ListN.{get_elem?}
use Rattle.lw_base.specs.Totals.{total}
use Rattle.lw_load.specs.declared.cell.LoadView.{LoadView}

abbrev pub writers : LoadView → ℕ
writers v = v.writers

-- the view that publishes, before it has published
abbrev pub first_view : LoadView
first_view = record { writers = 1; busy = 0; idle = 0; stores = 0; loads = 0 }

-- a view that reads, before it has read
abbrev pub unread : LoadView
unread = record { writers = 0; busy = 0; idle = 0; stores = 0; loads = 0 }

-- what the rule says of one view: the cell holds the pair that its publisher published last, and no less than a reader found
-- last
pub record Fits (pair : List ℕ) (v : LoadView) : Type 0 where
  pub published : 1 ≤ v.writers → pair ≡ v.busy ∷ v.idle ∷ []
  pub busy_found : v.writers ≡ 0 → v.busy ≤ slice_index pair 0
  pub idle_found : v.writers ≡ 0 → v.idle ≤ slice_index pair 1

-- the rule: there is one publisher, and the pair fits each view
pub record Kept (pair : List ℕ) (views : List LoadView) : Type 0 where
  pub one_writer : total writers views ≡ 1
  pub each : (i : ℕ) (v : LoadView) → get_elem? views i ≡ some v → Fits pair v

-- What each kind of step tells, of the view before it, the pair before, the pair after and the view after.

-- a pair is published, and one store more is counted
abbrev pub Publishes : LoadView → List ℕ → List ℕ → LoadView → Type 0
Publishes v before after w = w ≡ record v { busy = slice_index after 0; idle = slice_index after 1; stores = v.stores + 1 }

-- the pair is found, which is no less than was found before, and one load more is counted
abbrev pub Reads : LoadView → List ℕ → List ℕ → LoadView → Type 0
Reads v before after w =
    (w ≡ record v { busy = slice_index after 0; idle = slice_index after 1; loads = v.loads + 1 })
    × (v.busy ≤ slice_index after 0)
    × (v.idle ≤ slice_index after 1)
