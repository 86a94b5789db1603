-- The desks of three reactors.
use Rattle.std.specs.Prelude.{◌≡◌, ℕ, List, length}
use Rattle.lw_thread.specs.Runs.{RunId, no_run, no_table}
use Rattle.lw_event.specs.Desks.{Desk, AreAllDesks}

-- a run of three reactors, and of no thread
abbrev pub three_reactors : {F : Type 0} → RunId F
three_reactors = record no_run { places = record { table = no_table; threads = 0; reactors = 3 } }

-- these are the desks of a run of three reactors, in order
pub record AreOurs {B M L F : Type 0} (ds : List (Desk B M L F)) : Type 0 where
  pub all : AreAllDesks ds
  pub count : length ds ≡ 3
  pub reactors : all.run.places.reactors ≡ 3
