-- What a delivery leaves of the messages under way.
use Rattle.lw_base.specs.declared.message.What.{What}
use Rattle.lw_base.specs.declared.message.What.TheVariants as what
use Rattle.std.proofs.Common.{◌≡◌, ◌+◌, ◌≤◌, arith, List, [], ◌∷◌, ◌++◌, Result, Ok, Err, ◌∙◌, ap}
use Rattle.std.specs.Prelude.{OnOk}
use Rattle.std.proofs.lemmas.List.Elements.{All-head, All-push, All-same}
use Rattle.std.proofs.lemmas.List.Sums.{sum_by-cons}
use Rattle.lw_target.specs.declared.mail.Mail.{Mail}
use Rattle.lw_target.specs.declared.acts.Outgoing.{Outgoing}
use Rattle.lw_target.specs.Messages.{Extent, FitsImage, AllFit, AllMayGo, asked_work, waiting_work, weight}

pub on_ok_all : {A E : Type 0} {P Q R S : Type 0} (r : Result A E) → (P → Q → R → S) → OnOk r P → OnOk r Q → OnOk r R → OnOk r S
on_ok_all (Ok v) f p q s = f p q s
on_ok_all (Err e) f p q s = tt

pub asked_first : (sends rest : List Outgoing) (out : Outgoing) → sends ≡ out ∷ rest → asked_work sends ≡ weight out.what + asked_work rest
asked_first sends rest out e = ap asked_work e ∙ sum_by-cons (λ (s : Outgoing). weight s.what) out rest

pub waiting_first : (mails rest : List Mail) (mail : Mail) → mails ≡ mail ∷ rest → waiting_work mails ≡ weight mail.tag.what + waiting_work rest
waiting_first mails rest mail e = ap waiting_work e ∙ sum_by-cons (λ (m : Mail). weight m.tag.what) mail rest

pub owner_fits : (mails after : List Mail) (mail : Mail) (out : Outgoing) (extent : Extent) → after ≡ mails ++ mail ∷ []
    → mail.tag.what ≡ out.what → mail.load ≡ out.load
    → AllFit extent mails → AllMayGo extent (out ∷ []) → AllFit extent after
owner_fits mails after mail out extent e w l all one =
    All-same (λ (m : Mail). FitsImage extent m.tag.what m.load) after (mails ++ mail ∷ []) e
    (All-push (λ (m : Mail). FitsImage extent m.tag.what m.load) mails mail all
    (rw (w, l) (All-head (λ (s : Outgoing). FitsImage extent s.what s.load) out [] one)))

-- each message costs something to run
pub weight_some : (w : What) → 1 ≤ weight w
weight_some (what.Request k) = omega arith
weight_some (what.Reply k) = omega arith
weight_some (what.PutSelf d) = omega arith
weight_some what.Done = omega arith
weight_some (what.Visit a b d) = omega arith
weight_some (what.Visited k) = omega arith
weight_some (what.Cast a b) = omega arith
weight_some (what.Casted k) = omega arith
weight_some what.Stop = omega arith
weight_some (what.Arrive a b) = omega arith
weight_some (what.Order a b d) = omega arith
