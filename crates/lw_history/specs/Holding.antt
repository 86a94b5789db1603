-- What a client holds of a device, as its steps say.
use Rattle.std.specs.Prelude.{ℕ, ◌≡◌, ◌+◌, ◌-◌, ◌≤◌, ◌==◌, nat_lt, ◌&&◌, cond, List, Option, Some, None, count_by}
use Rattle.lw_model.specs.declared.script.Script.{Script}
use Rattle.lw_model.specs.declared.record.Answer.{Answer}
use Rattle.lw_model.specs.declared.record.Answer.TheVariants as answer
use Rattle.lw_model.specs.Threads.{is_on}
use Rattle.lw_model.specs.Holding.{says, gains, loses, held, references, pending, submitted}
use Rattle.lw_history.specs.Histories.{Event, past_of}

-- the channel's ordinal where one is held, its references, the putselfs that were sent and not run, and the requests that were sent
-- since the channel was given
pub record Hold : Type 0 where
  pub ordinal : Option ℕ
  pub references : ℕ
  pub pending : ℕ
  pub submitted : ℕ

abbrev pub no_hold : Hold
no_hold = record { ordinal = None; references = 0; pending = 0; submitted = 0 }

-- an answer of the device
abbrev pub hold_after : Answer → Hold → Hold
hold_after (answer.Given n) k = record k { ordinal = Some n; references = k.references + 1; submitted = 0 }
hold_after (answer.Again n) k = record k { references = k.references + 1 }
hold_after answer.Counted k = record k { references = k.references - 1 }
hold_after answer.Deferred k = record k { references = k.references - 1; pending = k.pending + 1 }
hold_after answer.Sent k = record k { submitted = k.submitted + 1 }
hold_after _ k = k

-- the client closed: it gave back all references at once
abbrev pub hold_closed : Hold → Hold
hold_closed k = record k { references = 0; pending = k.pending + cond (nat_lt 0 k.references) 1 0 }

-- a putself of the device ran: the last one destroys the channel where no reference is left
abbrev pub hold_put : Hold → Hold
hold_put k = record k { ordinal = cond (k.pending == 1 && k.references == 0) None k.ordinal; pending = k.pending - 1 }

-- what thread t holds of device d
pub record KeepsHold (s : Script) (t d : ℕ) (h : List Event) (k : Hold) : Type 0 where
  pub ordinal : held (is_on s t d) d (past_of h) ≡ k.ordinal
  pub references : references (is_on s t d) (past_of h) ≡ k.references
  pub pending : pending (is_on s t d) d (past_of h) ≡ k.pending
  pub submitted : submitted (is_on s t d) (past_of h) ≡ k.submitted
  -- no more references were given back than were taken
  pub balance : count_by (says (is_on s t d) loses) (past_of h) ≤ count_by (says (is_on s t d) gains) (past_of h)
