-- What a history leaves once its thread has ended.
use Rattle.std.specs.Prelude.{ℕ, ◌+◌, ◌≡◌, true, List, [], ◌∷◌, length, map}
use Rattle.lw_model.specs.declared.script.Script.{Script}
use Rattle.lw_model.specs.Threads.{is_client, ops_of}
use Rattle.lw_whole.specs.Letters.{Note, row}
use Rattle.lw_whole.specs.Logs.{Log}
use Rattle.lw_whole.specs.Notes.{joined, rows_in}
use Rattle.lw_whole.specs.Threads.{Ended, HasRole}
use Rattle.lw_history.specs.Histories.{Event, runs_of, dids_of, last_of}
use Rattle.lw_history.specs.Fitting.{ClientFits, AppFits, EachFits, ends_in}
use Rattle.lw_history.specs.Keeping.{KeepsRow}

-- a client did all its ops and closed, and sent its Done with its row
pub record ClientDone (s : Script) (t : ℕ) (h : List Event) (own : List Note) : Type 0 where
  pub client : is_client s t ≡ true
  pub fits : EachFits (ClientFits s t) h
  pub ends : ends_in h ≡ 1
  pub count : length (dids_of h) ≡ length (ops_of s t) + 1
  pub keeps : KeepsRow s t h own
  pub with_row : map (λ p. p.1.load) (last_of h) ≡ row own ∷ []

-- the app unregistered each device and sent its Stops; its row has taken in those that Dones brought
pub record AppDone (s : Script) (h : List Event) (own joint : List Note) : Type 0 where
  pub fits : EachFits (AppFits s) h
  pub ends : ends_in h ≡ 1
  pub count : length (dids_of h) ≡ length s.images
  pub keeps : KeepsRow s 0 h own
  pub row : joint ≡ joined own (rows_in (runs_of h))

-- the log of a thread that ended, as whole runs ask for it
pub record IsLeft (s : Script) (t : ℕ) (l : Log) : Type 0 where
  pub ended : Ended s t l
  pub role : HasRole s t l
