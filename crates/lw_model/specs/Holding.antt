-- Channels, reference counts and pending putselfs of a client at a line, from the steps before it, the latest first.
-- `on` says which ops of the client are on the device, and `d` is the device.
use Rattle.std.specs.Prelude.{ℕ, ◌+◌, ◌-◌, ◌==◌, nat_lt, Bool, true, false, cond, ◌&&◌, ◌||◌, List, [], ◌∷◌, Option, Some, None, count_by}
use Rattle.std.specs.List.{list_any}
use Rattle.lw_base.specs.declared.message.What.{What}
use Rattle.lw_base.specs.declared.message.What.TheVariants as what
use Rattle.lw_model.specs.declared.record.Answer.{Answer}
use Rattle.lw_model.specs.declared.record.Answer.TheVariants as answer
use Rattle.lw_model.specs.declared.step.Step.{Step}
use Rattle.lw_model.specs.declared.step.Step.TheVariants as step

-- a get that made the channel
abbrev pub is_given : Answer → Bool
is_given (answer.Given n) = true
is_given _ = false

-- a request that went to the owner
abbrev pub is_sent : Answer → Bool
is_sent answer.Sent = true
is_sent _ = false

-- a put that gave the last reference back
abbrev pub is_deferred : Answer → Bool
is_deferred answer.Deferred = true
is_deferred _ = false

-- a client's last line
abbrev pub is_closed : Answer → Bool
is_closed answer.Closed = true
is_closed _ = false

-- a visit or a cast that set out
abbrev pub is_started : Answer → Bool
is_started answer.Started = true
is_started _ = false

-- a reference more, a reference less
abbrev pub gains : Answer → Bool
gains (answer.Given n) = true
gains (answer.Again n) = true
gains _ = false

-- a reference less
abbrev pub loses : Answer → Bool
loses answer.Counted = true
loses answer.Deferred = true
loses _ = false

-- a `did` line whose op and whose answer pass
abbrev pub says : (ℕ → Bool) → (Answer → Bool) → Step → Bool
says on passes (step.Did i x) = on x.op && passes x.answer
says on passes (step.Called i x) = false
says on passes (step.Ran i m) = false

-- any op
abbrev pub always : ℕ → Bool
always k = true

-- a `ran` line whose WHAT passes
abbrev pub runs : (What → Bool) → Step → Bool
runs passes (step.Did i x) = false
runs passes (step.Called i x) = false
runs passes (step.Ran i m) = passes m.what

-- a client's message to itself behind the last put of device d
abbrev pub is_putself : ℕ → What → Bool
is_putself d (what.PutSelf e) = e == d
is_putself d _ = false

-- the reference count
abbrev pub references : (ℕ → Bool) → List Step → ℕ
references on past = cond (list_any (says always is_closed) past) 0 (count_by (says on gains) past - count_by (says on loses) past)

-- whether a step sends a putself of d
abbrev pub defers : (ℕ → Bool) → List Step → Step → Bool
defers on past s = says on is_deferred s || says always is_closed s && nat_lt 0 (references on past)

-- the putselfs that were sent and not run
abbrev pub pending : (ℕ → Bool) → ℕ → List Step → ℕ
pending on d [] = 0
pending on d (s ∷ past) = pending on d past + cond (defers on past s) 1 0 - cond (runs (is_putself d) s) 1 0

-- whether a step takes the last pending putself away while no reference is left
abbrev pub destroys : (ℕ → Bool) → ℕ → List Step → Step → Bool
destroys on d past s = runs (is_putself d) s && pending on d past == 1 && references on past == 0

-- the ordinal of the channel that a step makes
abbrev pub ordinal_given : (ℕ → Bool) → Step → Option ℕ
ordinal_given on (step.Did i x) = elim x.answer [ answer.Given n ↦ cond (on x.op) (Some n) None | _ ↦ None ]
ordinal_given on _ = None

-- the ordinal of the channel that is held
abbrev pub held : (ℕ → Bool) → ℕ → List Step → Option ℕ
held on d [] = None
held on d (s ∷ past) = elim (ordinal_given on s) [ Some n ↦ Some n | None ↦ cond (destroys on d past s) None (held on d past) ]

-- the `sent` lines since the channel was given
abbrev pub submitted : (ℕ → Bool) → List Step → ℕ
submitted on [] = 0
submitted on (s ∷ past) = cond (says on is_given s) 0 (submitted on past + cond (says on is_sent s) 1 0)
