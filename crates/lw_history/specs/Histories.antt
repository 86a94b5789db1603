-- What a thread that lists lines has done so far, as one list.
use Rattle.std.specs.Prelude.{ℕ, List, [], ◌∷◌, ◌++◌, length, map, filter_map}
use Rattle.lw_base.specs.declared.moves.Hop.{Hop}
use Rattle.lw_model.specs.declared.step.Step.{Step}
use Rattle.lw_model.specs.declared.step.Step.TheVariants as step
use Rattle.lw_model.specs.declared.record.Did.{Did}
use Rattle.lw_model.specs.declared.record.Called.{Called}
use Rattle.lw_model.specs.declared.record.RoleKind.{RoleKind}
use Rattle.lw_model.specs.Sent.{to_thread}
use Rattle.lw_whole.specs.Letters.{Letter, Note}
use Rattle.lw_whole.specs.Lines.{reply_in, results_in}
use Rattle.lw_whole.specs.Logs.{Log}
use Rattle.lw_whole.specs.Unsent.{named}

-- what a thread did, with what that sent, each message with its receiver, as yet without its sender and number: it ran a message;
-- it listed a line; it was called back; and once it sent its last messages
pub data Event : Type 0 where
  ran : Letter → List (ℕ × Letter) → Event
  did : Did → List (ℕ × Letter) → Event
  called : Called → Event
  ended : List (ℕ × Letter) → Event

-- a history has the latest event first

-- the messages that were run, the first first
abbrev pub runs_of : List Event → List Letter
runs_of [] = []
runs_of (ran x now ∷ before) = runs_of before ++ x ∷ []
runs_of (did x now ∷ before) = runs_of before
runs_of (called x ∷ before) = runs_of before
runs_of (ended now ∷ before) = runs_of before

-- the lines, the first first
abbrev pub dids_of : List Event → List Did
dids_of [] = []
dids_of (ran x now ∷ before) = dids_of before
dids_of (did x now ∷ before) = dids_of before ++ x ∷ []
dids_of (called x ∷ before) = dids_of before
dids_of (ended now ∷ before) = dids_of before

abbrev pub calls_of : List Event → List Called
calls_of [] = []
calls_of (ran x now ∷ before) = calls_of before
calls_of (did x now ∷ before) = calls_of before
calls_of (called x ∷ before) = calls_of before ++ x ∷ []
calls_of (ended now ∷ before) = calls_of before

-- its steps but for the callbacks, the latest first, each with its place among those of its kind
abbrev pub past_of : List Event → List Step
past_of [] = []
past_of (ran x now ∷ before) = step.Ran (length (runs_of before)) x.tag ∷ past_of before
past_of (did x now ∷ before) = step.Did (length (dids_of before)) x ∷ past_of before
past_of (called x ∷ before) = past_of before
past_of (ended now ∷ before) = past_of before

-- how many of these steps had been made when each callback came
abbrev pub stood_of : List Event → List ℕ
stood_of [] = []
stood_of (ran x now ∷ before) = stood_of before
stood_of (did x now ∷ before) = stood_of before
stood_of (called x ∷ before) = stood_of before ++ length (past_of before) ∷ []
stood_of (ended now ∷ before) = stood_of before

-- what each of these steps sent, the first first; and what the thread sent last
abbrev pub sends_of : List Event → List (List (ℕ × Letter))
sends_of [] = []
sends_of (ran x now ∷ before) = sends_of before ++ now ∷ []
sends_of (did x now ∷ before) = sends_of before ++ now ∷ []
sends_of (called x ∷ before) = sends_of before
sends_of (ended now ∷ before) = sends_of before

abbrev pub last_of : List Event → List (ℕ × Letter)
last_of [] = []
last_of (ran x now ∷ before) = last_of before
last_of (did x now ∷ before) = last_of before
last_of (called x ∷ before) = last_of before
last_of (ended now ∷ before) = last_of before ++ now

-- all that it sent, in the order in which it was asked for
abbrev pub all_of : List Event → List (ℕ × Letter)
all_of [] = []
all_of (ran x now ∷ before) = all_of before ++ now
all_of (did x now ∷ before) = all_of before ++ now
all_of (called x ∷ before) = all_of before
all_of (ended now ∷ before) = all_of before ++ now

-- sends of thread s under their numbers, where those of `before` were made before: each message is numbered by how many went to
-- its receiver before it
abbrev pub numbered : ℕ → List (ℕ × Letter) → List (ℕ × Letter) → List (ℕ × Letter)
numbered s before [] = []
numbered s before (p ∷ rest) = (p.0, named p.1 s (length (to_thread p.0 before))) ∷ numbered s (before ++ p ∷ []) rest

abbrev pub numbered_each : ℕ → List (ℕ × Letter) → List (List (ℕ × Letter)) → List (List (ℕ × Letter))
numbered_each s before [] = []
numbered_each s before (now ∷ rest) = numbered s before now ∷ numbered_each s (before ++ now) rest

-- all of these, in order
abbrev pub flat : List (List (ℕ × Letter)) → List (ℕ × Letter)
flat [] = []
flat (now ∷ rest) = now ++ flat rest

-- The log of thread s that has this role, began on this reactor, made these hops and has this history: its own calls left `own` in
-- its row, which is now `row`. The messages that it sent last come behind all others to their receivers.
abbrev pub log_of : ℕ → RoleKind → ℕ → List Hop → List Event → List Note → List Note → Log
log_of s role home hops h own row = record {
  lines = record {
    role = role;
    home = home;
    hops = hops;
    ran = map (λ x. x.tag) (runs_of h);
    did = dids_of h;
    called = calls_of h;
    replies = filter_map reply_in (runs_of h);
    seen = filter_map results_in (runs_of h);
  };
  ran = runs_of h;
  sends = numbered_each s [] (sends_of h);
  last = numbered s (flat (sends_of h)) (last_of h);
  stood = stood_of h;
  own = own;
  row = row;
}
