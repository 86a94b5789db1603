-- The app's set holds no channel, so it leaves no mark.
use Rattle.std.proofs.Common.{◌≡◌, ℕ, Bool, true, false, List, [], ◌∷◌, length, Option, Some, None, ap, inl, inr}
use Rattle.std.specs.Prelude.{option_to_list, option_map, if◌then◌else◌}
use Rattle.std.proofs.lemmas.Bool.{cases_lt}
use Rattle.std.proofs.lemmas.List.{get_or_past}
use Rattle.std.proofs.lemmas.List.Elements.{All-get_or}
use Rattle.lw_model.specs.declared.script.Script.{Script}
use Rattle.lw_model.specs.Threads.{is_on}
use Rattle.lw_model.specs.Holding.{submitted}
use Rattle.lw_channel.specs.declared.channel.Channel.{Channel}
use Rattle.lw_channel.specs.Channels.{Channels, no_channel, channel_of, submitted_on, IsEmpty}
use Rattle.lw_visit.specs.Tokens.{marks_of}
use Rattle.lw_whole.specs.Tokens.{own_mark}
use Rattle.lw_history.specs.Histories.{Event, past_of}
use Rattle.lw_history.specs.Fitting.{AppFits, EachFits}
use Rattle.lw_app.proofs.Histories.{holds_none}

no_ordinal : (x : Channels) (d : ℕ) → IsEmpty x → (channel_of x d).ordinal ≡ None
no_ordinal x d e = elim (cases_lt d (length x.channels)) [
  | inl l ↦ All-get_or (λ (k : Channel). k.ordinal ≡ None) x.channels d no_channel l e
  | inr g ↦ ap (λ (k : Channel). k.ordinal) (get_or_past x.channels d no_channel g)
]

abbrev is_standing : Option ℕ → Bool
is_standing o = elim o [ Some n ↦ true | None ↦ false ]

pub no_marks : (here d : ℕ) (x : Channels) → IsEmpty x → marks_of here d x ≡ []
no_marks here d x e = ap (λ (o : Option ℕ). if (is_standing o) then (record { thread = here; submitted = submitted_on x d } ∷ []) else []) (no_ordinal x d e)

pub no_own_mark : (s : Script) (d : ℕ) (h : List Event) → EachFits (AppFits s) h → own_mark s 0 (past_of h) d ≡ []
no_own_mark s d h fits = ap (λ (o : Option ℕ). option_to_list (option_map (λ n. record { thread = 0; submitted = submitted (is_on s 0 d) (past_of h) }) o)) (holds_none s d h fits)
