-- What clients are owed, by client and op.
use Rattle.std.specs.Prelude.{ℕ, ◌+◌, ◌≡◌, nat_lt, cond, length, IsTrue, Option, Some, None, option_and_then, slice_get}
use Rattle.std.specs.Global.{Vec}
use Rattle.lw_model.specs.declared.script.Script.{Script}
use Rattle.lw_model.specs.declared.record.Record.{Record}
use Rattle.lw_model.specs.declared.record.Replied.{Replied}
use Rattle.lw_model.specs.Threads.{is_client, ops_of, image_at}
use Rattle.lw_model.specs.Journal.{answers, look_up, reply_of}
use Rattle.lw_judge_devices.specs.declared.table.Owed.{Owed}

-- what stands under the op k of thread t
abbrev pub reply_in : Owed → ℕ → ℕ → Option Replied
reply_in w t k = option_and_then (λ ops. option_and_then (λ o. o) (slice_get ops.items k)) (slice_get w.threads.items t)

-- there is a place for each op of each thread before the owners
pub record HasPlaces (s : Script) (w : Owed) : Type 0 where
  pub threads : length w.threads.items ≡ 1 + length s.clients
  pub ops : (t : ℕ) (ops : Vec (Option Replied)) → slice_get w.threads.items t ≡ Some ops → length ops.items ≡ length (ops_of s t)

-- what is owed by the journals of the images below d
abbrev pub owed_below : Record → ℕ → ℕ → ℕ → Option Replied
owed_below r d t k = option_and_then (λ e. cond (nat_lt e d) (look_up t k (answers r e)) None) (image_at r.script t k)

-- each client is owed what these journals say
pub record OwesBelow (r : Record) (d : ℕ) (w : Owed) : Type 0 where
  pub places : HasPlaces r.script w
  pub replies : (t k : ℕ) → IsTrue (is_client r.script t) → reply_in w t k ≡ owed_below r d t k

-- each client is owed what all journals say
pub record IsOwed (r : Record) (w : Owed) : Type 0 where
  pub replies : (t k : ℕ) → IsTrue (is_client r.script t) → reply_in w t k ≡ reply_of r t k
