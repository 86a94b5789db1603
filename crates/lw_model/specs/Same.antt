-- Tests of whether two parts of a record are the same.
use Rattle.std.specs.Prelude.{ℕ, ◌==◌, Bool, true, false, ◌&&◌, List, [], ◌∷◌, Option, Some, None}
use lib.Pointwise.{pointwise}
use Rattle.lw_base.specs.declared.message.Mark.{Mark}
use Rattle.lw_base.specs.declared.message.What.{What}
use Rattle.lw_base.specs.declared.message.What.TheVariants as what
use Rattle.lw_model.specs.declared.record.Replied.{Replied}
use Rattle.lw_model.specs.declared.record.Replied.TheVariants as replied
use Rattle.lw_model.specs.declared.record.Reply.{Reply}
use Rattle.lw_model.specs.declared.record.Seen.{Seen}
use Rattle.lw_model.specs.declared.record.SeenBy.{SeenBy}
use Rattle.lw_model.specs.declared.record.SeenBy.TheVariants as by
use Rattle.lw_base.specs.declared.moves.Order.{Order}

-- two optional values that are both there and the same
abbrev pub both : {X : Type 0} → (X → X → Bool) → Option X → Option X → Bool
both same None b = false
both same (Some x) None = false
both same (Some x) (Some y) = same x y

-- a WHAT as numbers
abbrev pub what_code : What → List ℕ
what_code (what.Request k) = 0 ∷ k ∷ []
what_code (what.Reply k) = 1 ∷ k ∷ []
what_code (what.PutSelf d) = 2 ∷ d ∷ []
what_code (what.Visit o k d) = 3 ∷ o ∷ k ∷ d ∷ []
what_code (what.Visited k) = 4 ∷ k ∷ []
what_code (what.Cast o k) = 5 ∷ o ∷ k ∷ []
what_code (what.Casted k) = 6 ∷ k ∷ []
what_code what.Done = 7 ∷ []
what_code what.Stop = 8 ∷ []
what_code (what.Arrive n t) = 9 ∷ n ∷ t ∷ []
what_code (what.Order n t c) = 10 ∷ n ∷ t ∷ c ∷ []

-- of lists of numbers
abbrev pub is_same_numbers : List ℕ → List ℕ → Bool
is_same_numbers = pointwise ◌==◌

-- of what messages are for
abbrev pub is_same_what : What → What → Bool
is_same_what v w = is_same_numbers (what_code v) (what_code w)

-- of answers of replies
abbrev pub is_same_replied : Replied → Replied → Bool
is_same_replied replied.Ok replied.Ok = true
is_same_replied (replied.Bytes xs) (replied.Bytes ys) = is_same_numbers xs ys
is_same_replied (replied.Writes m) (replied.Writes n) = m == n
is_same_replied _ _ = false

-- of `reply` lines
abbrev pub is_same_reply : Reply → Reply → Bool
is_same_reply x y = x.op == y.op && is_same_replied x.answer y.answer

-- of results of a visit
abbrev pub is_same_mark : Mark → Mark → Bool
is_same_mark x y = x.thread == y.thread && x.submitted == y.submitted

-- of results of a visit or a cast
abbrev pub is_same_results : SeenBy → SeenBy → Bool
is_same_results (by.Visit xs) (by.Visit ys) = pointwise is_same_mark xs ys
is_same_results (by.Cast xs) (by.Cast ys) = is_same_numbers xs ys
is_same_results _ _ = false

-- of `seen` lines
abbrev pub is_same_seen : Seen → Seen → Bool
is_same_seen x y = x.op == y.op && is_same_results x.results y.results

-- of orders
abbrev pub is_same_order : Order → Order → Bool
is_same_order x y = x.thread == y.thread && x.to == y.to

-- of pairs of numbers
abbrev pub is_same_pair : (ℕ × ℕ) → (ℕ × ℕ) → Bool
is_same_pair x y = x.0 == y.0 && x.1 == y.1
