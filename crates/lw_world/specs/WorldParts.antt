-- A world as the parts that keep it.
use Rattle.std.specs.Prelude.{◌≡◌, ℕ, ◌+◌, ◌≤◌, Bool, List, length}
use Rattle.lw_world.specs.declared.world_state.Standing.{Standing}
use Rattle.lw_world.specs.declared.world_state.Standing.TheVariants as standing
use Rattle.lw_world.specs.declared.world_state.Stage.{Stage}
use Rattle.lw_world.specs.Sums.{at}
use Rattle.lw_world.specs.Tally.{Counts}
use Rattle.lw_world.specs.Register.{Registered}
use Rattle.lw_world.specs.World.{State, IsKept, standing_of}

pub record Parts : Type 0 where
  pub threads : ℕ
  pub reactors : ℕ
  pub devices : ℕ
  pub sent : Counts
  pub run : Counts
  pub standing : Registered Standing
  pub channels : Counts
  pub visits : Counts
  pub stage : Registered Stage
  pub asleep : List Bool

abbrev pub state_of : Parts → State
state_of p = record {
  threads = p.threads;
  reactors = p.reactors;
  devices = p.devices;
  sent = p.sent.cells;
  run = p.run.cells;
  standing = p.standing.states;
  channels = p.channels.cells;
  visits = p.visits.cells;
  stage = p.stage.states;
  asleep = p.asleep;
}

-- the reactors up to the one that a thread stands at, or is on its way to
abbrev pub reactor_end : Standing → ℕ
reactor_end (standing.List c) = c + 1
reactor_end (standing.Event c) = c + 1
reactor_end standing.Ended = 0

-- a table has these numbers of rows and columns
pub record HasSize (c : Counts) (rows columns : ℕ) : Type 0 where
  pub rows_are : c.rows ≡ rows
  pub columns_are : c.columns ≡ columns

pub record IsSound (p : Parts) : Type 0 where
  pub few_threads : p.threads ≤ 81
  pub few_devices : p.devices ≤ 16
  pub sent : HasSize p.sent p.threads p.threads
  pub run : HasSize p.run p.threads p.threads
  pub channels : HasSize p.channels p.threads p.devices
  pub visits : HasSize p.visits p.threads p.devices
  pub standing : length p.standing.states ≡ p.threads
  pub lists : p.standing.keys ≡ p.reactors + 1
  pub stage : length p.stage.states ≡ p.devices
  pub shuts : p.stage.keys ≡ p.threads + 1
  pub asleep : length p.asleep ≡ p.reactors
  pub within : (t : ℕ) → reactor_end (standing_of (state_of p) t) ≤ p.reactors
  pub small : (s r : ℕ) → at p.sent.cells s r ≤ 1099511627776
  pub kept : IsKept (state_of p)
