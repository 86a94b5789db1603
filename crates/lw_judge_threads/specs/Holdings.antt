-- What a thread holds of each device, from the steps before a line, the latest first.
use Rattle.std.specs.Prelude.{ℕ, ◌≡◌, ◌<◌, ◌^◌, Bool, true, false, List, ◌∷◌, length, Some, count_by, slice_get}
use Rattle.std.specs.List.{list_any}
use Rattle.lw_model.specs.declared.script.Script.{Script}
use Rattle.lw_model.specs.declared.step.Step.{Step}
use Rattle.lw_model.specs.declared.step.Step.TheVariants as step
use Rattle.lw_model.specs.declared.record.Answer.{Answer}
use Rattle.lw_model.specs.declared.record.Answer.TheVariants as answer
use Rattle.lw_base.specs.declared.message.What.TheVariants as what
use Rattle.lw_model.specs.Threads.{is_on, image_at}
use Rattle.lw_model.specs.Holding.{says, always, gains, loses, is_closed, pending, held, submitted}
use Rattle.lw_judge_threads.specs.declared.holding.Channel.{Channel}
use Rattle.lw_judge_threads.specs.declared.holding.Holding.{Holding}

-- what thread t holds of device d behind the steps of `past`
pub record IsChannelAt (s : Script) (t d : ℕ) (past : List Step) (c : Channel) : Type 0 where
  pub gained : c.gained ≡ count_by (says (is_on s t d) gains) past
  pub lost : c.lost ≡ count_by (says (is_on s t d) loses) past
  pub pending_is : c.pending ≡ pending (is_on s t d) d past
  pub held_is : c.held ≡ held (is_on s t d) d past
  pub submitted_is : c.submitted ≡ submitted (is_on s t d) past

-- the same of every device
pub record HoldsAt (s : Script) (t : ℕ) (past : List Step) (h : Holding) : Type 0 where
  pub closed : h.closed ≡ list_any (says always is_closed) past
  pub count : length h.channels.items ≡ length s.images
  pub each : (d : ℕ) (c : Channel) → slice_get h.channels.items d ≡ Some c → IsChannelAt s t d past c

-- ---- One step more: a `did` line with an answer other than `closed`, a `closed` line, and a putself that is run

-- of a device's channel
abbrev pub AnswersChannel : Answer → Channel → Channel → Type 0
AnswersChannel answer old new = (s : Script) (t d : ℕ) (past : List Step) (i at op : ℕ) → is_closed answer ≡ false → is_on s t d op ≡ true
    → length past < 2 ^ 63 → IsChannelAt s t d past old → IsChannelAt s t d (step.Did i (record { at = at; op = op; answer = answer }) ∷ past) new

-- the thread wasn't closed before
abbrev pub ClosesChannel : Channel → Channel → Type 0
ClosesChannel old new = (s : Script) (t d : ℕ) (past : List Step) (i at op : ℕ) → list_any (says always is_closed) past ≡ false
    → length past < 2 ^ 63 → IsChannelAt s t d past old → IsChannelAt s t d (step.Did i (record { at = at; op = op; answer = answer.Closed }) ∷ past) new

abbrev pub RunsChannel : Bool → Channel → Channel → Type 0
RunsChannel closed old new = (s : Script) (t d : ℕ) (past : List Step) (i sender number : ℕ) → closed ≡ list_any (says always is_closed) past
    → IsChannelAt s t d past old → IsChannelAt s t d (step.Ran i (record { sender = sender; number = number; what = what.PutSelf d }) ∷ past) new

-- of the channels of all devices
abbrev pub AnswersHolding : ℕ → Answer → Holding → Holding → Type 0
AnswersHolding d answer old new = (s : Script) (t : ℕ) (past : List Step) (i at op : ℕ) → is_closed answer ≡ false → image_at s t op ≡ Some d
    → length past < 2 ^ 63 → HoldsAt s t past old → HoldsAt s t (step.Did i (record { at = at; op = op; answer = answer }) ∷ past) new

abbrev pub ClosesHolding : Holding → Holding → Type 0
ClosesHolding old new = (s : Script) (t : ℕ) (past : List Step) (i at op : ℕ)
    → length past < 2 ^ 63 → HoldsAt s t past old → HoldsAt s t (step.Did i (record { at = at; op = op; answer = answer.Closed }) ∷ past) new

abbrev pub RunsHolding : ℕ → Holding → Holding → Type 0
RunsHolding d old new = (s : Script) (t : ℕ) (past : List Step) (i sender number : ℕ)
    → HoldsAt s t past old → HoldsAt s t (step.Ran i (record { sender = sender; number = number; what = what.PutSelf d }) ∷ past) new
