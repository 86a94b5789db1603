-- What device each thread got, shut and was told of.
use Rattle.std.specs.Prelude.{ℕ, ◌<◌, ◌≡◌, ◌==◌, Bool, true, false, cond, ◌&&◌, ◌||◌, not, IsTrue, List, [], ◌∷◌, length, Option, Some, None, unwrap_or, is_none, slice_get, filter_map, count_by}
use Rattle.std.specs.List.{list_all, list_any, flat_map}
use Rattle.lw_model.specs.declared.record.Record.{Record}
use Rattle.lw_base.specs.declared.ends.DeviceEnd.{DeviceEnd}
use Rattle.lw_model.specs.declared.record.Answer.{Answer}
use Rattle.lw_model.specs.declared.record.Answer.TheVariants as answer
use Rattle.lw_model.specs.Threads.{EachThread, EachClient, threads, is_on}
use Rattle.lw_model.specs.declared.step.Step.{Step}
use Rattle.lw_model.specs.declared.step.Step.TheVariants as step
use Rattle.lw_model.specs.OwnOrder.{own_order_of, history}
use Rattle.lw_model.specs.Holding.{says, held}

-- what device d came to
abbrev pub device_at : Record → ℕ → DeviceEnd
device_at r d = unwrap_or (slice_get r.devices d) (record { given = 0; thread = 0; callbacks = 0 })

-- what f finds in the steps of all threads, in thread order
abbrev pub over_steps : {X : Type 0} → Record → (ℕ → Step → Option X) → List X
over_steps r f = flat_map (λ t. filter_map (f t) (own_order_of r t)) (threads r.script)

-- the ordinal of a `given` line of device d
abbrev pub ordinal_on : Record → ℕ → ℕ → Step → Option ℕ
ordinal_on r d t (step.Did i x) = elim x.answer [ answer.Given n ↦ cond (is_on r.script t d x.op) (Some n) None | _ ↦ None ]
ordinal_on r d t _ = None

-- the thread and the count of a `began` line of device d
abbrev pub began_on : Record → ℕ → ℕ → Step → Option (ℕ × ℕ)
began_on r d t (step.Did i x) = elim x.answer [ answer.Began n ↦ cond (is_on r.script t d x.op) (Some (t, n)) None | _ ↦ None ]
began_on r d t _ = None

-- the thread of a callback of device d
abbrev pub called_on : Record → ℕ → ℕ → Step → Option ℕ
called_on r d t (step.Called i x) = cond (x.device == d) (Some t) None
called_on r d t _ = None

-- an unregister that began
abbrev pub is_began : Answer → Bool
is_began (answer.Began n) = true
is_began _ = false

-- a line after which the thread knows that the device is shut, and one that may not come after it
abbrev pub tells_shut : Answer → Bool
tells_shut (answer.Began n) = true
tells_shut answer.Shut = true
tells_shut answer.Already = true
tells_shut _ = false

-- an answer that only a device that isn't shut gives
abbrev pub needs_open : Answer → Bool
needs_open (answer.Given n) = true
needs_open (answer.Again n) = true
needs_open (answer.Began n) = true
needs_open answer.Started = true
needs_open _ = false

-- an answer that only a shut device gives
abbrev pub is_refusal : Answer → Bool
is_refusal answer.Shut = true
is_refusal answer.Already = true
is_refusal _ = false

-- a callback's line comes after the thread's own `began`, where it holds no channel of the device
abbrev pub callback_fits : Record → ℕ → ℕ → List Step → Step → Bool
callback_fits r d t past s = is_none (called_on r d t s) || list_any (says (is_on r.script t d) is_began) past && is_none (held (is_on r.script t d) d past)

-- what needs the device open does not come after what tells that it is shut
abbrev pub refusal_fits : Record → ℕ → ℕ → List Step → Step → Bool
refusal_fits r d t past s = not (says (is_on r.script t d) needs_open s) || not (list_any (says (is_on r.script t d) tells_shut) past)

-- the rules of one device
pub record DeviceHolds (r : Record) (d : ℕ) : Type 0 where
  pub ordinal_count : length (over_steps r (ordinal_on r d)) ≡ (device_at r d).given
  pub each_ordinal : (n : ℕ) → n < (device_at r d).given → count_by (λ m. m == n) (over_steps r (ordinal_on r d)) ≡ 1
  pub began_once : over_steps r (began_on r d) ≡ ((device_at r d).thread, (device_at r d).given) ∷ []
  pub called_once : over_steps r (called_on r d) ≡ (device_at r d).thread ∷ []
  pub called_after : EachThread r (λ t. IsTrue (list_all (λ p. callback_fits r d t p.0 p.1) (history r t)))
  pub one_callback : (device_at r d).callbacks ≡ 1
  pub refused_after : EachThread r (λ t. IsTrue (list_all (λ p. refusal_fits r d t p.0 p.1) (history r t)))
  pub app_refuses_none : (device_at r d).thread ≡ 0 → EachClient r (λ t. IsTrue (not (list_any (says (is_on r.script t d) is_refusal) (own_order_of r t))))

-- these hold of each device
abbrev pub Devices : Record → Type 0
Devices r = (d : ℕ) → d < length r.script.images → DeviceHolds r d
