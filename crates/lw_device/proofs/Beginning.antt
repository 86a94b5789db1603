-- What a row is told that begins an unregistration.
use Rattle.std.proofs.Common.{◌≡◌, ℕ, ◌<◌, ◌≤◌, List, length, get_or, ap, subst, ◌∙◌, slice_set}
use Rattle.std.proofs.lemmas.List.{get_or_default}
use Rattle.lw_latch.specs.DeviceWord.{KnowsOpen, IsAbove}
use Rattle.lw_latch.specs.DeviceEnds.{SeatEnd}
use Rattle.lw_device.specs.Rows.{Row, no_seat, seat_of, with_seat, seat_began}

-- what is known of the seat that was told this, and of what it was told
record Told (given opens : ℕ) (e : SeatEnd) : Type 0 where
  pub opened : KnowsOpen e.view
  pub own : length e.view.ordinals ≤ given
  pub often : e.view.opens ≤ opens
  pub above : IsAbove given e.view.ordinals

abbrev pub RowBegan : Row → ℕ → ℕ → Row → Type 0
RowBegan r d given new =
    (opens : ℕ)
    × (new ≡ with_seat r d (seat_began given opens))
    × KnowsOpen (seat_of r d).view
    × (length (seat_of r d).view.ordinals ≤ given)
    × ((seat_of r d).view.opens ≤ opens)
    × IsAbove given (seat_of r d).view.ordinals

abbrev SeatBegan : SeatEnd → ℕ → SeatEnd → Type 0
SeatBegan e given new =
    (opens : ℕ)
    × (new ≡ seat_began given opens e)
    × KnowsOpen e.view
    × (length e.view.ordinals ≤ given)
    × (e.view.opens ≤ opens)
    × IsAbove given e.view.ordinals

pub row_began : (thread : ℕ) (es : List SeatEnd) (d given : ℕ) (e new : SeatEnd) → d < length es → e ≡ get_or es d e → SeatBegan e given new
    → RowBegan (record { thread = thread; seats = es }) d given (record { thread = thread; seats = slice_set es d new })
row_began thread es d given e new l at t =
    let same : e ≡ get_or es d no_seat = at ∙ get_or_default es d e no_seat l in
    let is = subst (λ (x : SeatEnd). Told given t.0 x) same (record { opened = t.2; own = t.3; often = t.4; above = t.5 }) in (
      t.0,
      ap (λ (x : SeatEnd). record { thread = thread; seats = slice_set es d x }) (t.1 ∙ ap (seat_began given t.0) same),
      is.opened,
      is.own,
      is.often,
      is.above,
    )
