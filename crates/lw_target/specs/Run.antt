-- The threads of a record of one client on one image.
use Rattle.std.specs.Prelude.{◌≡◌, true, List, [], ◌∷◌, nat_lt}
use Rattle.std.specs.List.{list_all}
use Rattle.lw_model.specs.declared.script.Script.{Script}
use Rattle.lw_model.specs.declared.record.Record.{Record}
use Rattle.lw_base.specs.declared.ends.DeviceEnd.{DeviceEnd}
use Rattle.lw_target.specs.WholeRun.{IsWholeRun}
use Rattle.lw_model.specs.declared.record.ThreadRecord.{ThreadRecord}
use Rattle.lw_model.specs.declared.record.RoleKind.{RoleKind}
use Rattle.lw_model.specs.declared.record.RoleKind.TheVariants.{App, Client, Owner}
use Rattle.lw_model.specs.Printable.{has_a_line, has_bytes}

-- what a thread ran has a line in a report, it called the device of the one image alone, and its replies have bytes
pub record IsThread (kind : RoleKind) (t : ThreadRecord) : Type 0 where
  pub role : t.role ≡ kind
  pub ran : list_all (λ m. has_a_line m.what) t.ran ≡ true
  pub called : list_all (λ c. nat_lt c.device 1) t.called ≡ true
  pub replies : list_all (λ r. has_bytes r.answer) t.replies ≡ true
  pub seen : t.seen ≡ []

-- the app, the client and the owner, and the client alone has replies
abbrev pub AreThreads : List ThreadRecord → Type 0
AreThreads threads = (app : ThreadRecord) × (client : ThreadRecord) × (owner : ThreadRecord)
    × (threads ≡ app ∷ client ∷ owner ∷ []) × IsThread App app × IsThread Client client × IsThread Owner owner
    × (app.replies ≡ []) × (owner.replies ≡ [])

-- the threads and the device of a whole run of the script
pub record Leaves (s : Script) (threads : List ThreadRecord) (devices : List DeviceEnd) : Type 0 where
  pub app : ThreadRecord
  pub client : ThreadRecord
  pub owner : ThreadRecord
  pub device : DeviceEnd
  pub all : threads ≡ app ∷ client ∷ owner ∷ []
  pub one : devices ≡ device ∷ []
  pub whole : IsWholeRun s app client owner device

-- the record of a whole run of its script
abbrev pub IsOfWholeRun : Record → Type 0
IsOfWholeRun r = Leaves r.script r.threads r.devices
