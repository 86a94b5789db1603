-- Logs that break one premise each: where threads ran, the rounds and the pool.
use Rattle.std.proofs.Common.{ℕ, List, [], ◌∷◌, refl}
use Rattle.lw_base.specs.declared.moves.Hop.{Hop}
use Rattle.lw_model.specs.declared.record.Answer.TheVariants as answer
use Rattle.lw_model.proofs.Records.{did, client, hop, order, round, moved, moved_client, moved_rows, without_ops}
use Rattle.lw_whole.specs.Logs.{Log}
use Rattle.lw_whole.specs.Notes.{idle}
use Rattle.lw_whole.specs.WholeRun.{Taken}
use Rattle.lw_whole.proofs.Parts.{client_log}
use Rattle.lw_whole.proofs.Premises as the
use Rattle.lw_whole.proofs.Needed.{IsNeeded, needed}
use Rattle.lw_whole.proofs.BrokenSends.{app_log, closer_log, keeper_log}

-- a client began on another reactor
abbrev astray : Log
astray = record closer_log { lines = client 1 [] (did 0 0 answer.Closed ∷ []) [] }

pub homes-needed : IsNeeded the.homes
homes-needed = needed the.homes (record without_ops { threads = app_log.lines ∷ astray.lines ∷ keeper_log.lines ∷ []; printable = refl })
    (app_log ∷ astray ∷ keeper_log ∷ []) [] 1 (λ e. refl) refl refl

-- a client with these hops
abbrev mover : List Hop → Log
mover hops = client_log 1 0 (moved_client hops) [] ([] ∷ [] ∷ []) [] (idle ∷ [])

-- the order of round 1 to this reactor was taken
abbrev taken_to : ℕ → List Taken
taken_to reactor = record { round = 1; order = order 1 reactor } ∷ []

-- two hops are of one round
pub ascend-needed : IsNeeded the.ascend
ascend-needed = needed the.ascend (record moved { threads = app_log.lines ∷ (mover (hop 1 0 ∷ hop 1 0 ∷ [])).lines ∷ keeper_log.lines ∷ []; printable = refl })
    (app_log ∷ mover (hop 1 0 ∷ hop 1 0 ∷ []) ∷ keeper_log ∷ []) (taken_to 0) 1 (λ e. refl) refl refl

-- a hop is for no order that was taken, or for one that no round sent
pub for_orders-needed : IsNeeded the.for_orders
for_orders-needed = needed the.for_orders (record moved { threads = app_log.lines ∷ (mover (hop 1 1 ∷ [])).lines ∷ keeper_log.lines ∷ []; printable = refl })
    (app_log ∷ mover (hop 1 1 ∷ []) ∷ keeper_log ∷ []) [] 1 (λ e. refl) refl refl

pub orders_sent-needed : IsNeeded the.orders_sent
orders_sent-needed = needed the.orders_sent (record moved { threads = app_log.lines ∷ (mover (hop 1 1 ∷ [])).lines ∷ keeper_log.lines ∷ []; printable = refl })
    (app_log ∷ mover (hop 1 1 ∷ []) ∷ keeper_log ∷ []) (taken_to 1) 1 (λ e. refl) refl refl

-- a round without the order that its rows ask for
pub rounds-needed : IsNeeded the.rounds
rounds-needed = needed the.rounds (record moved { threads = app_log.lines ∷ (mover []).lines ∷ keeper_log.lines ∷ []; rounds = round 1 10 moved_rows [] ∷ []; printable = refl })
    (app_log ∷ mover [] ∷ keeper_log ∷ []) [] 8 (λ e. refl) refl refl

-- a buffer isn't home
pub pool-needed : IsNeeded the.pool
pool-needed = needed the.pool (record without_ops { threads = app_log.lines ∷ closer_log.lines ∷ keeper_log.lines ∷ []; home = record { small = 0; large = 1 }; printable = refl })
    (app_log ∷ closer_log ∷ keeper_log ∷ []) [] 9 (λ e. refl) refl refl
