-- What is answered behind some of the requests of an image's journal.
use Rattle.std.specs.Prelude.{ℕ, ◌≡◌, ◌+◌, ◌≤◌, ◌==◌, ◌&&◌, cond, List, [], map, reverse, length, IsTrue, Option, Some, zip}
use Rattle.std.specs.Option.{option_or}
use Rattle.lw_model.specs.declared.script.Script.{Script}
use Rattle.lw_model.specs.declared.script.Op.{Op}
use Rattle.lw_model.specs.declared.script.Op.TheVariants as op
use Rattle.lw_model.specs.declared.record.Replied.{Replied}
use Rattle.lw_model.specs.ScriptRules.{block_at, blocks_at}
use Rattle.lw_model.specs.Threads.{is_client, is_on, op_at}
use Rattle.lw_model.specs.Replay.{replay}
use Rattle.lw_model.specs.Journal.{look_up}
use Rattle.lw_judge_devices.specs.declared.table.Owed.{Owed}
use Rattle.lw_judge_devices.specs.declared.replay.Replay.{Replay}
use Rattle.lw_judge_devices.specs.Replayed.{IsAfter}
use Rattle.lw_judge_devices.specs.Owed.{reply_in, HasPlaces}

-- the ops of requests, each by its client and its number
abbrev pub asked_ops : Script → List (ℕ × ℕ) → List (Option Op)
asked_ops s asked = map (λ e. op_at s e.0 e.1) asked

-- requests of image d, each with its answer
abbrev pub answered : Script → ℕ → List (ℕ × ℕ) → List ((ℕ × ℕ) × Option Replied)
answered s d asked = zip asked (replay (block_at s d) [] (asked_ops s asked))

-- the table for image d
pub record IsImageOf (s : Script) (d : ℕ) (image : Replay) : Type 0 where
  pub block : image.block ≡ block_at s d
  pub blocks : length image.last.items ≡ blocks_at s d

-- the image and the table behind these requests of image d, where `was` was the table before the first
pub record IsBehind (s : Script) (d : ℕ) (asked : List (ℕ × ℕ)) (was now : Owed) (image : Replay) : Type 0 where
  pub places : HasPlaces s now
  pub replies : (t k : ℕ) → IsTrue (is_client s t) → reply_in now t k ≡ cond (is_on s t d k) (look_up t k (answered s d asked)) (reply_in was t k)
  pub after : IsAfter (reverse (asked_ops s asked)) image

-- the op k of a client is owed this answer, unless one was noted for it or it isn't on image d; the others are owed what they were
abbrev pub NotesAnswer : Script → ℕ → ℕ → ℕ → Option Replied → Owed → Owed → Type 0
NotesAnswer s d client k answer old new =
    (t j : ℕ) → reply_in new t j ≡ cond (client == t && k == j && is_on s client d k) (option_or (reply_in old client k) answer) (reply_in old t j)

-- a read is of blocks of its image
abbrev pub IsReadable : Script → Op → Type 0
IsReadable s (op.Read d start count) = start + count ≤ blocks_at s d
IsReadable s _ = Unit {0}

-- each read is
abbrev pub ReadsFit : Script → Type 0
ReadsFit s = (t k : ℕ) (o : Op) → op_at s t k ≡ Some o → IsReadable s o
