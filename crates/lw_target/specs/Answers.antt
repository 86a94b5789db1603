-- What the ops of a client are answered, by what it keeps of the device.
use Rattle.std.specs.Prelude.{ℕ, Bool, List, length, ◌==◌, nat_lt, nat_le, if◌then◌else◌, Option, Some, None}
use Rattle.lw_model.specs.declared.record.Answer.{Answer}
use Rattle.lw_model.specs.declared.record.Answer.TheVariants.{Given, Again, Shut, Counted, Deferred, NoChannel, Sent, Began, Already}
use Rattle.lw_target.specs.declared.channel.Channel.{Channel}
use Rattle.lw_target.specs.declared.device.Device.{Device}
use Rattle.std.specs.List.{list_any}
use Rattle.lw_model.specs.declared.script.Op.{Op}
use Rattle.lw_target.specs.declared.action.Action.{Action}
use Rattle.lw_target.specs.declared.action.Action.TheVariants as action
use Rattle.lw_target.specs.Actions.{names_image}

-- a get: refused once unregistration has begun; else the channel that stands, or a new one
abbrev pub get_answer : Device → Channel → Answer
get_answer d c = elim d.shut_by [ Some t ↦ Shut | None ↦ elim c.ordinal [ Some n ↦ Again n | None ↦ Given d.given ] ]

-- a put: None where it has to wait, which `waits` tells of one who holds a reference
abbrev pub put_answer : Bool → Channel → Option Answer
put_answer waits c = if c.references == 0 then Some NoChannel else (if waits then None else (if nat_lt 1 c.references then Some Counted else Some Deferred))

-- a write or a read, with so many requests unanswered at this depth: None where it has to wait
abbrev pub request_answer : ℕ → ℕ → Channel → Option Answer
request_answer unanswered depth c = if c.references == 0 then Some NoChannel else (if nat_le depth unanswered then None else Some Sent)

-- unregistration, which begins once
abbrev pub unregister_answer : Device → Answer
unregister_answer d = elim d.shut_by [ Some t ↦ Already | None ↦ Began d.given ]

-- an op of which some requests are unanswered, those of `waiting`, oldest first, at this depth
abbrev pub answer_to : List Op → List ℕ → ℕ → Action → Device → Channel → Option Answer
answer_to ops waiting depth (action.Get d) v k = Some (get_answer v k)
answer_to ops waiting depth (action.Put d) v k = put_answer (list_any (names_image ops d) waiting) k
answer_to ops waiting depth (action.Ask d) v k = request_answer (length waiting) depth k
