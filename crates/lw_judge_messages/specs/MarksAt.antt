-- What visits found, from the steps before a line, the latest first.
use Rattle.std.specs.Prelude.{ℕ, ◌≡◌, ◌++◌, Bool, cond, List, [], ◌∷◌, Option, Some, None, option_map, option_and_then, option_to_list, unwrap_or, filter_map, is_some, nat_eq, IfSome, ◌≤◌, ◌≢◌}
use Rattle.std.specs.List.{range_with_len}
use Rattle.std.specs.Option.{option_eq}
use Rattle.std.specs.HashMap.{get}
use Rattle.lw_base.specs.declared.message.Mark.{Mark}
use Rattle.lw_base.specs.declared.message.What.{What}
use Rattle.lw_model.specs.declared.record.Record.{Record}
use Rattle.lw_model.specs.declared.script.Script.{Script}
use Rattle.lw_model.specs.declared.step.Step.{Step}
use Rattle.lw_model.specs.Threads.{image_at, is_on}
use Rattle.lw_model.specs.Holding.{runs, held, submitted}
use Rattle.lw_model.specs.Sent.{is_same_token}
use Rattle.lw_model.specs.Lawful.{mark_of}
use Rattle.lw_judge_messages.specs.declared.tokens.Token.{Token}
use Rattle.lw_judge_messages.specs.declared.tokens.Token.TheVariants as token
use Rattle.lw_judge_messages.specs.declared.visits.Found.{Found}
use Rattle.lw_judge_messages.specs.declared.visits.Marks.{Marks}
use Rattle.lw_judge_messages.specs.Tokens.{is_token, what_of}

-- the marks that are kept under a token
abbrev pub marks_under : Marks → Token → List Mark
marks_under m w = unwrap_or (option_map (λ f. f.marks.items) (get is_token m.by_token w)) []

-- the last thread that ran the token
abbrev pub last_under : Marks → Token → Option ℕ
last_under m w = option_and_then (λ f. f.last) (get is_token m.by_token w)

-- thread t is that one
abbrev pub ran_by : Marks → Token → ℕ → Bool
ran_by m w t = option_eq nat_eq (last_under m w) (Some t)

-- thread t ran the token of a visit that found this so far
pub record FindsMark (t : ℕ) (mark : Option Mark) (f g : Found) : Type 0 where
  pub last : g.last ≡ Some t
  pub marks : g.marks.items ≡ cond (option_eq nat_eq f.last (Some t)) f.marks.items (f.marks.items ++ option_to_list mark)

-- thread t ran the token: its mark is the last where it did so for the first time, and what is kept under other tokens stays
pub record HasRun (w : Token) (t : ℕ) (mark : Option Mark) (m n : Marks) : Type 0 where
  pub last : last_under n w ≡ Some t
  pub marks : marks_under n w ≡ cond (ran_by m w t) (marks_under m w) (marks_under m w ++ option_to_list mark)
  pub other_last : (v : Token) → v ≢ w → last_under n v ≡ last_under m v
  pub other_marks : (v : Token) → v ≢ w → marks_under n v ≡ marks_under m v

-- the mark of thread t where the steps of `past` stand before the line, if it holds a channel of device d there
abbrev pub mark_at : Script → ℕ → ℕ → List Step → Option Mark
mark_at s t d past = option_map (λ n. record { thread = t; submitted = submitted (is_on s t d) past }) (held (is_on s t d) d past)

-- the first of these steps that runs the token leaves this mark, or none; no step, where none runs it
abbrev pub first_mark : Script → ℕ → What → ℕ → List Step → Option (Option Mark)
first_mark s t w d [] = None
first_mark s t w d (x ∷ past) = elim (first_mark s t w d past) [ Some m ↦ Some m | None ↦ cond (runs (is_same_token w) x) (Some (mark_at s t d past)) None ]

-- what is kept under the token of a visit of device d: the marks of the threads below t, and that of thread t behind the steps of `past`
pub record IsVisitAt (r : Record) (t : ℕ) (past : List Step) (w : Token) (d : ℕ) (m : Marks) : Type 0 where
  pub marks : marks_under m w ≡ filter_map (mark_of r (what_of w) d) (range_with_len 0 t) ++ option_to_list (option_and_then (λ o. o) (first_mark r.script t (what_of w) d past))
  pub last : is_some (first_mark r.script t (what_of w) d past) ≡ ran_by m w t
  pub none_later : IfSome (last_under m w) (λ u. u ≤ t)

-- the same of each op of a thread that is on a device
pub record AreMarksAt (r : Record) (t : ℕ) (past : List Step) (m : Marks) : Type 0 where
  pub each : (origin k d : ℕ) → image_at r.script origin k ≡ Some d → IsVisitAt r t past (token.Visit origin k d) d m
