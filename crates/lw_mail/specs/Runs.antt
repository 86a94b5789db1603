-- What the messages of a run have in common.
use Rattle.std.specs.Prelude.{List}
use Rattle.lw_latch.specs.DeviceEnds.{DeviceLatch}
use Rattle.lw_model.specs.declared.script.Script.{Script}
use Rattle.lw_pool.specs.PoolEnds.{Pool}

-- a run: its script, which all threads share, the pool of its buffers, and the latches of its devices
pub record Run : Type 0 where
  pub script : Script
  pub pool : Pool
  pub registry : List DeviceLatch
