-- What the threads told of a device, from the steps of the threads before one and from that one's before a line, the latest first.
use Rattle.std.specs.Prelude.{ℕ, ◌≡◌, ◌==◌, Bool, true, false, not, ◌&&◌, ◌||◌, length, List, [], ◌∷◌, ◌++◌, reverse, Option, Some, None, filter_map}
use Rattle.std.specs.List.{list_all, list_any, flat_map, range_with_len}
use Rattle.lw_model.specs.declared.record.Record.{Record}
use Rattle.lw_model.specs.declared.script.Script.{Script}
use Rattle.lw_base.specs.declared.ends.DeviceEnd.{DeviceEnd}
use Rattle.lw_model.specs.declared.record.Answer.{Answer}
use Rattle.lw_model.specs.declared.record.Answer.TheVariants as answer
use Rattle.lw_model.specs.declared.step.Step.{Step}
use Rattle.lw_model.specs.declared.step.Step.TheVariants as step
use Rattle.lw_model.specs.Threads.{is_client, is_on}
use Rattle.lw_model.specs.OwnOrder.{own_order_of, with_past, history}
use Rattle.lw_model.specs.Holding.{says, held}
use Rattle.lw_model.specs.Devices.{ordinal_on, began_on, called_on, is_began, tells_shut, is_refusal, callback_fits, refusal_fits}
use Rattle.lw_model.specs.Same.{is_same_pair}
use Rattle.lw_model.specs.Verdict.{is_numbering}
use Rattle.lw_judge_devices.specs.declared.device.Times.{Times}
use Rattle.lw_judge_devices.specs.declared.device.Times.TheVariants.{Never, Once, Often}
use Rattle.lw_judge_devices.specs.declared.device.Device.{Device}
use Rattle.lw_judge_devices.specs.declared.device.Tell.{Tell}

-- ---- How often something was told

abbrev pub once_more : {X : Type 0} → Times X → X → Times X
once_more Never x = Once x
once_more _ x = Often

-- of what stands in a list
abbrev pub times_of : {X : Type 0} → List X → Times X
times_of [] = Never
times_of (x ∷ []) = Once x
times_of (x ∷ y ∷ rest) = Often

-- one more, if there is one
abbrev pub times_with : {X : Type 0} → Times X → Option X → Times X
times_with ts None = ts
times_with ts (Some x) = once_more ts x

-- a list of the value, if there is one
abbrev pub listed : {X : Type 0} → Option X → List X
listed None = []
listed (Some x) = x ∷ []

-- ---- What was told in the steps of the threads below t, and in those of `past`, which are t's own

-- what f finds, in thread order
abbrev pub told : {X : Type 0} → Record → (ℕ → Step → Option X) → ℕ → List Step → List X
told r f t past = flat_map (λ u. filter_map (f u) (own_order_of r u)) (range_with_len 0 t) ++ filter_map (f t) (reverse past)

-- each step fits those of its thread before it
abbrev pub all_fit : Record → (ℕ → List Step → Step → Bool) → ℕ → List Step → Bool
all_fit r fits t past = list_all (λ u. list_all (λ p. fits u p.0 p.1) (history r u)) (range_with_len 0 t) && list_all (λ p. fits t p.0 p.1) (with_past [] (reverse past))

-- client t has a line that only a shut device d causes
abbrev pub is_refused : Record → ℕ → ℕ → List Step → Bool
is_refused r d t steps = is_client r.script t && list_any (says (is_on r.script t d) is_refusal) steps

-- one of the clients has
abbrev pub any_refused : Record → ℕ → ℕ → List Step → Bool
any_refused r d t past = list_any (λ u. is_refused r d u (own_order_of r u)) (range_with_len 0 t) || is_refused r d t past

-- what the threads below t told of device d, and thread t in the steps of `past`
pub record IsDeviceAt (r : Record) (t d : ℕ) (past : List Step) (e : Device) : Type 0 where
  pub ordinals : e.ordinals.items ≡ told r (ordinal_on r d) t past
  pub began : e.began ≡ times_of (told r (began_on r d) t past)
  pub called : e.called ≡ times_of (told r (called_on r d) t past)
  pub callbacks : e.callbacks_fit ≡ all_fit r (callback_fits r d) t past
  pub refusals : e.refusals_fit ≡ all_fit r (refusal_fits r d) t past
  pub refused : e.refused ≡ any_refused r d t past

-- what thread t told
pub record IsTellAt (s : Script) (t d : ℕ) (past : List Step) (e : Tell) : Type 0 where
  pub began : e.began ≡ list_any (says (is_on s t d) is_began) past
  pub shut : e.shut ≡ list_any (says (is_on s t d) tells_shut) past

-- ---- One step more

-- step s of thread t adds to what was told of device d what it tells
pub record GoesPast (r : Record) (t d : ℕ) (past : List Step) (s : Step) (old new : Device) : Type 0 where
  pub ordinals : new.ordinals.items ≡ old.ordinals.items ++ listed (ordinal_on r d t s)
  pub began : new.began ≡ times_with old.began (began_on r d t s)
  pub called : new.called ≡ times_with old.called (called_on r d t s)
  pub callbacks : new.callbacks_fit ≡ (old.callbacks_fit && callback_fits r d t past s)
  pub refusals : new.refusals_fit ≡ (old.refusals_fit && refusal_fits r d t past s)
  pub refused : new.refused ≡ (old.refused || is_client r.script t && says (is_on r.script t d) is_refusal s)

-- the ordinal that an answer gives, and the thread and the count of one that began
abbrev pub ordinal_of : Answer → Option ℕ
ordinal_of (answer.Given n) = Some n
ordinal_of _ = None

abbrev pub began_of : ℕ → Answer → Option (ℕ × ℕ)
began_of t (answer.Began n) = Some (t, n)
began_of t _ = None

-- what an answer of thread t adds to the lists; the rest stays
pub record CountsAnswer (t : ℕ) (answer : Answer) (old new : Device) : Type 0 where
  pub ordinals : new.ordinals.items ≡ old.ordinals.items ++ listed (ordinal_of answer)
  pub began : new.began ≡ times_with old.began (began_of t answer)
  pub called : new.called ≡ old.called
  pub callbacks : new.callbacks_fit ≡ old.callbacks_fit
  pub refusals : new.refusals_fit ≡ old.refusals_fit
  pub refused : new.refused ≡ old.refused

-- an answer to an op on the device
abbrev pub AnswersDevice : ℕ → Bool → Tell → Answer → Device → Device → Type 0
AnswersDevice t is_client_now before answer old new = (r : Record) (d : ℕ) (past : List Step) (i at op : ℕ) → is_client_now ≡ is_client r.script t → is_on r.script t d op ≡ true
    → IsTellAt r.script t d past before → GoesPast r t d past (step.Did i (record { at = at; op = op; answer = answer })) old new

-- its callback
abbrev pub CallsDevice : ℕ → Tell → Option ℕ → Device → Device → Type 0
CallsDevice t before held_now old new = (r : Record) (d : ℕ) (past : List Step) (i at : ℕ) → held_now ≡ held (is_on r.script t d) d past
    → IsTellAt r.script t d past before → GoesPast r t d past (step.Called i (record { at = at; device = d })) old new

-- an answer to an op on the device, by what the thread itself told
abbrev pub AnswersTell : Answer → Tell → Tell → Type 0
AnswersTell answer old new = (s : Script) (t d : ℕ) (past : List Step) (i at op : ℕ) → is_on s t d op ≡ true
    → IsTellAt s t d past old → IsTellAt s t d (step.Did i (record { at = at; op = op; answer = answer }) ∷ past) new

-- ---- What its line says

-- it was told once, and it is the same as x
abbrev pub is_once : {X : Type 0} → (X → X → Bool) → Times X → X → Bool
is_once same (Once y) x = same y x
is_once same _ x = false

-- as many ordinals as its line says, and one unregister and one callback on the thread that it names
abbrev pub counts_fit : Device → DeviceEnd → Bool
counts_fit e end = length e.ordinals.items == end.given && is_once is_same_pair e.began (end.thread, end.given) && is_once ◌==◌ e.called end.thread && end.callbacks == 1

-- each step fits those before it, and where the app unregistered the device, no client was refused
abbrev pub steps_fit : Device → DeviceEnd → Bool
steps_fit e end = e.callbacks_fit && e.refusals_fit && not (end.thread == 0 && e.refused)

-- all that was told of the device is what its line says
abbrev pub device_holds : Device → DeviceEnd → Bool
device_holds e end = counts_fit e end && steps_fit e end && is_numbering e.ordinals.items
