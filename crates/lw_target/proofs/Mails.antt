-- Lists of messages, one message on.
use Rattle.std.proofs.Common.{arith, zero-add, ◌≡◌, true, List, [], ◌∷◌, ◌++◌, sym, ◌∙◌, ap}
use Rattle.std.specs.Prelude.{Bool, ◌+◌}
use Rattle.std.proofs.lemmas.List.Sums.{sum_by-append}
use Rattle.lw_target.specs.declared.acts.Outgoing.{Outgoing}
use Rattle.std.specs.List.{All, list_all}
use Rattle.std.proofs.lemmas.List.Elements.{All-head, All-rest, All-same, All-push}
use Rattle.std.proofs.lemmas.List.Folds.{list_all-append}
use Rattle.lw_target.specs.declared.mail.Mail.{Mail}
use Rattle.lw_target.specs.Messages.{IsPrintable, asked_work, waiting_work, weight}

abbrev pub AllPrintable : List Mail → Type 0
AllPrintable mails = All (λ (m : Mail). IsPrintable m.tag.what m.load) mails

pub first_printable : (mails rest : List Mail) (mail : Mail) → mails ≡ mail ∷ rest → AllPrintable mails → IsPrintable mail.tag.what mail.load
first_printable mails rest mail e all =
    All-head (λ (m : Mail). IsPrintable m.tag.what m.load) mail rest (All-same (λ (m : Mail). IsPrintable m.tag.what m.load) (mail ∷ rest) mails (sym e) all)

pub rest_printable : (mails rest : List Mail) (mail : Mail) → mails ≡ mail ∷ rest → AllPrintable mails → AllPrintable rest
rest_printable mails rest mail e all = All-rest (λ (m : Mail). IsPrintable m.tag.what m.load) mail rest mails e all

pub push_printable : (mails after : List Mail) (mail : Mail) → after ≡ mails ++ mail ∷ [] → AllPrintable mails → IsPrintable mail.tag.what mail.load → AllPrintable after
push_printable mails after mail e all one =
    All-same (λ (m : Mail). IsPrintable m.tag.what m.load) after (mails ++ mail ∷ []) e (All-push (λ (m : Mail). IsPrintable m.tag.what m.load) mails mail all one)

-- one test more, behind those that hold
pub list_all_push : {X : Type 0} (p : X → Bool) (xs : List X) (x : X) → list_all p xs ≡ true → p x ≡ true → list_all p (xs ++ x ∷ []) ≡ true
list_all_push p xs x all last = list_all-append p xs (x ∷ []) ∙ grind (arith, all, last)

-- the work of what was asked for, one send on
pub asked_push : (sends : List Outgoing) (out : Outgoing) → asked_work (sends ++ out ∷ []) ≡ asked_work sends + weight out.what
asked_push sends out = sum_by-append (λ (s : Outgoing). weight s.what) sends (out ∷ []) ∙ ap (λ n. asked_work sends + n) (zero-add (weight out.what))

pub waiting_push : (mails : List Mail) (mail : Mail) → waiting_work (mails ++ mail ∷ []) ≡ waiting_work mails + weight mail.tag.what
waiting_push mails mail = sum_by-append (λ (m : Mail). weight m.tag.what) mails (mail ∷ []) ∙ ap (λ n. waiting_work mails + n) (zero-add (weight mail.tag.what))
