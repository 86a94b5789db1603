-- What the threads told of each device, from the steps of the threads before one and from that one's before a line, the latest first.
use Rattle.std.specs.Prelude.{ℕ, ◌≡◌, ◌<◌, Bool, List, ◌∷◌, length, Option, Some, slice_get}
use Rattle.lw_model.specs.declared.record.Record.{Record}
use Rattle.lw_model.specs.declared.script.Script.{Script}
use Rattle.lw_model.specs.declared.record.Answer.{Answer}
use Rattle.lw_model.specs.declared.step.Step.{Step}
use Rattle.lw_model.specs.declared.step.Step.TheVariants as step
use Rattle.lw_model.specs.Threads.{is_client, is_on, image_at}
use Rattle.lw_model.specs.Holding.{held}
use Rattle.lw_judge_devices.specs.declared.device.Device.{Device}
use Rattle.lw_judge_devices.specs.declared.device.Tell.{Tell}
use Rattle.lw_judge_devices.specs.declared.devices.Devices.{Devices}
use Rattle.lw_judge_devices.specs.declared.devices.Tells.{Tells}
use Rattle.lw_judge_devices.specs.DeviceTold.{IsDeviceAt, IsTellAt}

-- what the threads below t told, and thread t in the steps of `past`
pub record AreDevicesAt (r : Record) (t : ℕ) (past : List Step) (ds : Devices) : Type 0 where
  pub count : length ds.devices.items ≡ length r.script.images
  pub each : (d : ℕ) (e : Device) → slice_get ds.devices.items d ≡ Some e → IsDeviceAt r t d past e

-- what thread t told
pub record TellsAt (s : Script) (t : ℕ) (past : List Step) (ts : Tells) : Type 0 where
  pub count : length ts.devices.items ≡ length s.images
  pub each : (d : ℕ) (e : Tell) → slice_get ts.devices.items d ≡ Some e → IsTellAt s t d past e

-- ---- One step more

-- an answer of thread t to an op on device d
abbrev pub AnswersDevices : ℕ → ℕ → Bool → Tell → Answer → Devices → Devices → Type 0
AnswersDevices d t is_client_now before answer old new = (r : Record) (past : List Step) (i at op : ℕ) → is_client_now ≡ is_client r.script t → image_at r.script t op ≡ Some d
    → (d < length r.script.images → IsTellAt r.script t d past before) → AreDevicesAt r t past old
    → AreDevicesAt r t (step.Did i (record { at = at; op = op; answer = answer }) ∷ past) new

-- a callback of device d on thread t
abbrev pub CallsDevices : ℕ → ℕ → Tell → Option ℕ → Devices → Devices → Type 0
CallsDevices d t before held_now old new = (r : Record) (past : List Step) (i at : ℕ) → (d < length r.script.images → held_now ≡ held (is_on r.script t d) d past)
    → (d < length r.script.images → IsTellAt r.script t d past before) → AreDevicesAt r t past old
    → AreDevicesAt r t (step.Called i (record { at = at; device = d }) ∷ past) new

-- an answer of a thread to an op on device d, by what the thread itself told
abbrev pub AnswersTells : ℕ → Answer → Tells → Tells → Type 0
AnswersTells d answer old new = (s : Script) (t : ℕ) (past : List Step) (i at op : ℕ) → image_at s t op ≡ Some d → TellsAt s t past old
    → TellsAt s t (step.Did i (record { at = at; op = op; answer = answer }) ∷ past) new
