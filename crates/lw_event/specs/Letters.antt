-- What contracts see of an event after it was sent.
use Rattle.std.specs.Prelude.{ℕ, List, []}
use Rattle.lw_base.specs.declared.message.Tag.{Tag}
use Rattle.lw_base.specs.declared.message.What.TheVariants as what
use Rattle.lw_base.specs.declared.moves.Hop.{Hop}

-- the tag, which tells the round and the thread, and of an order where to; and of an arrival the hops that its thread has made
pub record Letter : Type 0 where
  pub tag : Tag
  pub trail : List Hop

abbrev pub no_letter : Letter
no_letter = record { tag = record { sender = 0; number = 0; what = what.Done }; trail = [] }

abbrev pub tag_in : Letter → Tag
tag_in l = l.tag

-- the letter with another sender and number
abbrev pub with_name : Letter → ℕ → ℕ → Letter
with_name l sender number = record l { tag = record l.tag { sender = sender; number = number } }
