-- What the owner of an image answers.
use Rattle.std.specs.Prelude.{◌≡◌, true, List, [], ◌∷◌, ◌++◌, Option, Some}
use Rattle.lw_base.specs.declared.message.What.TheVariants as what
use Rattle.lw_model.specs.declared.script.Op.{Op}
use Rattle.lw_model.specs.declared.record.Replied.{Replied}
use Rattle.lw_model.specs.Replay.{answer_after}
use Rattle.lw_image.specs.Image.{Contents, IsAfter}
use Rattle.lw_target.specs.declared.mail.Mail.{Mail}
use Rattle.lw_target.specs.declared.mail.Load.{Load}
use Rattle.lw_target.specs.declared.mail.Load.TheVariants as load
use Rattle.lw_target.specs.declared.acts.Outgoing.{Outgoing}
use Rattle.lw_target.specs.declared.owner.Owner.{Owner}
use Rattle.lw_target.specs.Messages.{operands}

-- whatever requests made the image, the answer is the one that the next request of these operands has behind them,
-- and the image is then what that request makes of it
abbrev pub AnswersAs : Contents → Contents → Load → Replied → Type 0
AnswersAs old new carried answer = (o : Op) (past : List (Option Op)) → operands o ≡ carried → IsAfter old past
    → (answer_after old.block past o ≡ Some answer) × IsAfter new (Some o ∷ past)

-- the owner answers a request with one reply to its sender, ends at a stop, and passes over all else
abbrev pub Serves : Owner → Owner → Mail → List Outgoing → List Outgoing → Type 0
Serves old new mail before after = elim mail.tag.what [
  | what.Request k ↦ (answer : Replied) × AnswersAs old.image new.image mail.load answer
      × (after ≡ before ++ record { to = mail.tag.sender; what = what.Reply k; load = load.Replied answer } ∷ [])
      × (new.ended ≡ old.ended)
  | what.Stop ↦ (after ≡ before) × (new.image ≡ old.image) × (new.ended ≡ true)
  | _ ↦ (after ≡ before) × (new ≡ old)
]
