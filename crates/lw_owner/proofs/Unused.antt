-- An owner's set holds no channel, and its steps list nothing.
use Rattle.std.proofs.Common.{◌≡◌, ℕ, zero, suc, Bool, true, false, cond, List, [], ◌∷◌, map, length, Option, Some, None, replicate, refl, ap}
use Rattle.std.specs.Prelude.{slice_index_or, option_to_list, option_map}
use Rattle.std.specs.List.{AllByRecursion}
use Rattle.lw_latch.specs.DeviceEnds.{DeviceLatch, new_seat}
use Rattle.lw_model.specs.declared.script.Script.{Script}
use Rattle.lw_model.specs.declared.step.Step.TheVariants as step
use Rattle.lw_model.specs.Threads.{is_on}
use Rattle.lw_model.specs.Holding.{held, destroys, submitted}
use Rattle.lw_device.specs.Rows.{new_row}
use Rattle.lw_channel.specs.declared.channel.Channel.{Channel}
use Rattle.lw_channel.specs.Channels.{holds, new_set, no_channel}
use Rattle.lw_whole.specs.Letters.{Letter}
use Rattle.lw_whole.specs.Notes.{idle}
use Rattle.lw_whole.specs.Tokens.{own_mark}
use Rattle.lw_whole.specs.Owners.{steps_run}
use Rattle.lw_mail.specs.Saying.{notes_of}

none_at : (n d : ℕ) → slice_index_or (replicate n no_channel) d no_channel ≡ no_channel
none_at zero d = refl
none_at (suc n) zero = refl
none_at (suc n) (suc d) = none_at n d

pub holds_none : (ls : List DeviceLatch) (t d : ℕ) → holds (new_set (new_row ls t)) d ≡ false
holds_none ls t d = ap (λ (k : Channel). elim k.ordinal [ Some n ↦ true | None ↦ false ]) (none_at (length (new_row ls t).seats) d)

-- a thread that only runs messages was given no channel
pub none_held : (on : ℕ → Bool) (d : ℕ) (xs : List Letter) → held on d (steps_run xs) ≡ None
none_held on d [] = refl
none_held on d (x ∷ xs) = at (destroys on d (steps_run xs) (step.Ran (length xs) x.tag)) (none_held on d xs)
  where
    at : (b : Bool) → held on d (steps_run xs) ≡ None → cond b None (held on d (steps_run xs)) ≡ None
    at true e = refl
    at false e = e

pub no_mark : (s : Script) (t d : ℕ) (xs : List Letter) → own_mark s t (steps_run xs) d ≡ []
no_mark s t d xs = ap (λ (o : Option ℕ). option_to_list (option_map (λ n. record { thread = t; submitted = submitted (is_on s t d) (steps_run xs) }) o)) (none_held (is_on s t d) d xs)

-- what its row keeps is what an unused row keeps
pub row_unused : (ls : List DeviceLatch) (t : ℕ) → AllByRecursion (λ n. n ≡ idle) (notes_of (map (λ l. new_seat l t) ls))
row_unused [] t = tt
row_unused (l ∷ ls) t = (refl, row_unused ls t)
