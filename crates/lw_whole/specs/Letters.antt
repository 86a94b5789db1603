-- Messages as plain data: a letter has its message's tag and what the message carries.
use Rattle.std.specs.Prelude.{ℕ, List, []}
use Rattle.lw_base.specs.declared.message.Tag.{Tag}
use Rattle.lw_base.specs.declared.message.Mark.{Mark}
use Rattle.lw_model.specs.declared.record.Replied.{Replied}

-- what a row keeps of one device: the ordinals that it was given; how often it found the device shut; how often it began to
-- unregister it, after how many channels had been given, and by which thread's row; and how often it was told of the callback
pub record Note : Type 0 where
  pub ordinals : List ℕ
  pub found : ℕ
  pub begun : ℕ
  pub count : ℕ
  pub began_by : ℕ
  pub fired : ℕ

-- what a message carries: a request the client in whose name it asks, a reply its answer, a visit and its completion the marks
-- so far, a cast and its completion the threads so far, a Done the row of its client, a note a device
pub data Load : Type 0 where
  nothing : Load
  asked : ℕ → Load
  answered : Replied → Load
  marked : List Mark → Load
  reached : List ℕ → Load
  row : List Note → Load

pub record Letter : Type 0 where
  pub tag : Tag
  pub load : Load

-- the marks and the threads that a message carries
abbrev pub marks_in : Load → List Mark
marks_in (marked ms) = ms
marks_in _ = []

abbrev pub threads_in : Load → List ℕ
threads_in (reached ts) = ts
threads_in _ = []
