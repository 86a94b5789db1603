-- What one light thread leaves behind, as plain data.
use Rattle.std.specs.Prelude.{ℕ, List, [], ◌++◌, map, unwrap_or, option_map, slice_get}
use Rattle.std.specs.List.{flat_map}
use Rattle.lw_base.specs.declared.message.What.{What}
use Rattle.lw_model.specs.declared.step.Step.{Step}
use Rattle.lw_model.specs.declared.record.ThreadRecord.{ThreadRecord}
use Rattle.lw_model.specs.OwnOrder.{own_order, with_past}
use Rattle.lw_whole.specs.Letters.{Letter, Load, nothing, Note}

pub record Log : Type 0 where
  -- its part of the record
  pub lines : ThreadRecord
  -- the letters of the messages that it ran, in order
  pub ran : List Letter
  -- what it sent, each letter with its receiver: at each of its steps but the callbacks, and then at its end
  pub sends : List (List (ℕ × Letter))
  pub last : List (ℕ × Letter)
  -- how many of its steps had been made when each callback came
  pub stood : List ℕ
  -- what its own calls left in its row, and its row at the end: a client's went with its Done; the app took those in
  pub own : List Note
  pub row : List Note

-- the log of a thread without its callbacks, and its steps; the body keeps these
abbrev pub without_callbacks : ThreadRecord → ThreadRecord
without_callbacks x = record x { called = [] }

abbrev pub steps : Log → List Step
steps l = own_order (without_callbacks l.lines)

-- each step with those before it, the latest first
abbrev pub steps_with_past : Log → List (List Step × Step)
steps_with_past l = with_past [] (steps l)

-- all that it sent, in order
abbrev pub all_sends : Log → List (ℕ × Letter)
all_sends l = flat_map (λ now. now) l.sends ++ l.last

-- sends without their numbers and what they carry
abbrev pub addressed : List (ℕ × Letter) → List (ℕ × What)
addressed now = map (λ p. (p.0, p.1.tag.what)) now

-- what the message carried that was run at place i
abbrev pub load_at : Log → ℕ → Load
load_at l i = unwrap_or (option_map (λ x. x.load) (slice_get l.ran i)) nothing

-- of a thread that isn't there nothing was run and nothing sent
abbrev pub run_by : List Log → ℕ → List Letter
run_by logs t = unwrap_or (option_map (λ l. l.ran) (slice_get logs t)) []

abbrev pub sent_by_thread : List Log → ℕ → List (ℕ × Letter)
sent_by_thread logs s = unwrap_or (option_map all_sends (slice_get logs s)) []
