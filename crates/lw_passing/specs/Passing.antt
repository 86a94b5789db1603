-- How a token is passed on.
use Rattle.std.specs.Prelude.{ℕ, ◌≡◌, ◌+◌, ◌<◌, Bool, true, false, nat_lt, List, [], ◌∷◌, ◌++◌}
use Rattle.lw_base.specs.declared.message.Mark.{Mark}
use Rattle.lw_base.specs.declared.message.What.{What}
use Rattle.lw_base.specs.declared.message.What.TheVariants as what
use Rattle.lw_visit.specs.Tokens.{Visit, Cast, visit_passed, cast_passed}
use Rattle.lw_thread.specs.Acts.{ActsEnd, IsAsked}
use Rattle.lw_whole.specs.Letters.{Load}
use Rattle.lw_whole.specs.Unsent.{named}
use Rattle.lw_mail.specs.Saying.{letter_of}
use Rattle.lw_mail.specs.Fitting.{fits_mail}
use Rattle.lw_mail.specs.declared.mail.Mail.{Mail}
use Rattle.lw_mail.specs.declared.mail.Content.{Content}
use Rattle.lw_mail.specs.declared.mail.Content.TheVariants as content

-- a message that isn't sent yet
abbrev pub unsent_mail : Content → Mail
unsent_mail c = record { sender = 0; number = 0; content = c }

-- one send is asked for
abbrev pub Asks : ℕ → Content → ActsEnd Mail → ActsEnd Mail → Type 0
Asks to c old new = IsAsked letter_of named fits_mail to (unsent_mail c) old new

-- the token of a visit, to which thread `past` adds these marks, goes to the next thread; behind the last it is complete and goes to its
-- origin
abbrev pub IsNextVisit : ℕ → List Mark → Visit → ℕ → Content → Type 0
IsNextVisit past marks token to (content.Visit b) = (to ≡ past + 1) × (to < token.threads) × (b.value ≡ visit_passed marks token)
IsNextVisit past marks token to (content.Visited b) = (to ≡ token.origin) × (token.threads ≡ past + 1) × (b.value ≡ visit_passed marks token)
IsNextVisit past marks token to _ = ⊥

-- the token of a cast, to which thread `past` adds these threads
abbrev pub IsNextCast : ℕ → List ℕ → Cast → ℕ → Content → Type 0
IsNextCast past ran token to (content.Cast b) = (to ≡ past + 1) × (to < token.threads) × (b.value ≡ cast_passed ran token)
IsNextCast past ran token to (content.Casted b) = (to ≡ token.origin) × (token.threads ≡ past + 1) × (b.value ≡ cast_passed ran token)
IsNextCast past ran token to _ = ⊥

-- the token, which was made for all threads, goes past thread `past`, which adds these: that is the one send that is asked for
pub record PassesVisit (past : ℕ) (marks : List Mark) (token : Visit) (old new : ActsEnd Mail) : Type 0 where
  pub threads : token.threads ≡ old.threads
  pub to : ℕ
  pub content : Content
  pub next : IsNextVisit past marks token to content
  pub asked : Asks to content old new

pub record PassesCast (past : ℕ) (ran : List ℕ) (token : Cast) (old new : ActsEnd Mail) : Type 0 where
  pub threads : token.threads ≡ old.threads
  pub to : ℕ
  pub content : Content
  pub next : IsNextCast past ran token to content
  pub asked : Asks to content old new

-- The same, of letters alone.

-- a message with this letter, which isn't sent yet, was asked to be sent behind the others
pub record AsksFor (to : ℕ) (w : What) (load : Load) (old new : ActsEnd Mail) : Type 0 where
  pub waiting : Mail
  pub letter : letter_of waiting ≡ record { tag = record { sender = 0; number = 0; what = w }; load = load }
  pub added : new ≡ record old { pending = old.pending ++ record { to = to; what = waiting } ∷ [] }

-- a token goes past thread `past` to the next one, where there is one, and behind the last home
abbrev pub GoesPastAs : Bool → ℕ → What → What → ℕ → Load → ActsEnd Mail → ActsEnd Mail → Type 0
GoesPastAs true origin way home past load old new = AsksFor (past + 1) way load old new
GoesPastAs false origin way home past load old new = AsksFor origin home load old new

abbrev pub GoesPast : ℕ → What → What → ℕ → Load → ActsEnd Mail → ActsEnd Mail → Type 0
GoesPast origin way home past load old new = GoesPastAs (nat_lt (past + 1) old.threads) origin way home past load old new

-- the visit and the cast that a WHAT names, with what they carry then
abbrev pub VisitGoesPast : ℕ → ℕ → ℕ → ℕ → Load → ActsEnd Mail → ActsEnd Mail → Type 0
VisitGoesPast origin op device past load old new = GoesPast origin (what.Visit origin op device) (what.Visited op) past load old new

abbrev pub CastGoesPast : ℕ → ℕ → ℕ → Load → ActsEnd Mail → ActsEnd Mail → Type 0
CastGoesPast origin op past load old new = GoesPast origin (what.Cast origin op) (what.Casted op) past load old new
