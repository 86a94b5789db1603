-- What the rows of the registry keep.
use Rattle.std.specs.Prelude.{ℕ, ◌+◌, ◌≡◌, ◌<◌, ◌≤◌, ◌==◌, Bool, true, cond, ◌&&◌, ◌||◌, not, if◌then◌else◌, List, [], ◌∷◌, ◌++◌, length, map, take, count_by, filter_map, Option, Some, None, unwrap_or, slice_get, Any}
use Rattle.std.specs.List.{list_all, list_any, AllByRecursion, enumerate_from}
use Rattle.lw_base.specs.Totals.{total, times}
use Rattle.lw_base.specs.declared.message.What.TheVariants as what
use Rattle.lw_model.specs.declared.script.Script.{Script}
use Rattle.lw_model.specs.declared.step.Step.{Step}
use Rattle.lw_model.specs.declared.step.Step.TheVariants as step
use Rattle.lw_model.specs.declared.record.Answer.TheVariants as answer
use Rattle.lw_base.specs.declared.ends.DeviceEnd.{DeviceEnd}
use Rattle.lw_model.specs.Threads.{is_on}
use Rattle.lw_model.specs.Holding.{says, ordinal_given}
use Rattle.lw_model.specs.Devices.{is_began, is_refusal}
use Rattle.lw_whole.specs.Letters.{Letter, Load, row, Note}
use Rattle.lw_whole.specs.Logs.{Log, steps}

-- a row that was never used; and one that was handed away
abbrev pub idle : Note
idle = record { ordinals = []; found = 0; begun = 0; count = 0; began_by = 0; fired = 0 }

abbrev pub note_at : List Note → ℕ → Note
note_at notes d = unwrap_or (slice_get notes d) idle

-- the count of a step that began to unregister the device
abbrev pub count_begun : (ℕ → Bool) → Step → Option ℕ
count_begun on (step.Did i x) = elim x.answer [ answer.Began n ↦ cond (on x.op) (Some n) None | _ ↦ None ]
count_begun on _ = None

-- what a note says of that
abbrev pub begun_in : Note → List ℕ
begun_in n = cond (n.begun == 0) [] (n.count ∷ [])

-- what the calls of a thread left of device d in its own row
pub record NoteFits (s : Script) (t d : ℕ) (l : Log) (n : Note) : Type 0 where
  pub ordinals : n.ordinals ≡ filter_map (ordinal_given (is_on s t d)) (steps l)
  pub found : list_any (says (is_on s t d) is_refusal) (steps l) ≡ true → 1 ≤ n.found
  pub begun : filter_map (count_begun (is_on s t d)) (steps l) ≡ begun_in n
  pub began_by : 1 ≤ n.begun → n.began_by ≡ t
  pub fired : count_by (λ x. x.device == d) l.lines.called ≡ n.fired

-- a note a device
pub record RowFits (s : Script) (t : ℕ) (l : Log) : Type 0 where
  pub devices : length l.own ≡ length s.images
  pub notes : AllByRecursion (λ p. NoteFits s t p.0 l p.1) (enumerate_from 0 l.own)

-- what two rows keep together
abbrev pub both_notes : Note → Note → Note
both_notes n m = record {
  ordinals = n.ordinals ++ m.ordinals;
  found = n.found + m.found;
  begun = n.begun + m.begun;
  count = if n.begun == 0 then m.count else n.count;
  began_by = if n.begun == 0 then m.began_by else n.began_by;
  fired = n.fired + m.fired;
}

abbrev pub both_rows : List Note → List Note → List Note
both_rows [] ms = []
both_rows (n ∷ ns) [] = n ∷ ns
both_rows (n ∷ ns) (m ∷ ms) = both_notes n m ∷ both_rows ns ms

-- a row once it has taken in others
abbrev pub joined : List Note → List (List Note) → List Note
joined ns [] = ns
joined ns (ms ∷ rest) = joined (both_rows ns ms) rest

-- the row that a Done brought
abbrev pub row_of : Load → Option (List Note)
row_of (row ns) = Some ns
row_of _ = None

abbrev pub row_in : Letter → Option (List Note)
row_in x = elim x.tag.what [ what.Done ↦ row_of x.load | _ ↦ None ]

abbrev pub rows_in : List Letter → List (List Note)
rows_in ran = filter_map row_in ran

-- the row neither found the device shut nor shut it
abbrev pub knows_open : Note → Bool
knows_open n = n.found == 0 && n.begun == 0

-- the app took in the row of each Done that brought one; where it began to unregister a device, no row that it had taken
-- in had found that device shut, or had begun
pub record TookIn (l : Log) : Type 0 where
  pub joined : l.row ≡ joined l.own (rows_in l.ran)
  pub knew : list_all (λ x. not (is_began x.answer) || list_all (λ ns. knows_open (note_at ns x.op)) (rows_in (take x.at l.ran))) l.lines.did ≡ true

-- what is known of a device once all its rows are in one hand and it has fired
pub record DeviceSettled (ns : List Note) (e : DeviceEnd) : Type 0 where
  pub once : (k : ℕ) → k < e.given → total (λ n. times k n.ordinals) ns ≡ 1
  pub count : total (λ n. length n.ordinals) ns ≡ e.given
  pub began : Any (λ n. (n.begun ≡ 1) × (n.count ≡ e.given) × (n.began_by ≡ e.thread)) ns
  pub fired : total (λ n. n.fired) ns ≡ e.callbacks
  pub one_callback : e.callbacks ≡ 1

-- what the rows keep of device d that are settled
abbrev pub notes_of : ℕ → List Log → List Note
notes_of d logs = map (λ l. note_at l.row d) logs
