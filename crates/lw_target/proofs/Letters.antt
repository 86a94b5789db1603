-- Letters under way, as messages are delivered and run.
use Rattle.std.proofs.Common.{ℕ, zero, suc, ◌≡◌, ◌≢◌, Bool, true, false, cond, List, [], ◌∷◌, ◌++◌, map, refl, sym, ◌∙◌, ap, append_assoc}
use Rattle.std.specs.Prelude.{◌==◌, filter}
use Rattle.std.proofs.lemmas.List.{map-append, append-nil}
use Rattle.std.proofs.lemmas.List.Elements.{filter-append}
use Rattle.lw_target.specs.declared.mail.Mail.{Mail}
use Rattle.lw_target.specs.declared.acts.Outgoing.{Outgoing}
use Rattle.lw_target.specs.Messages.{Inbox}
use Rattle.lw_target.specs.Letters.{Letter, letters, post_of, posted, Got}

abbrev pub letter_of : Mail → Letter
letter_of m = record { sender = m.tag.sender; what = m.tag.what; load = m.load }

abbrev pub letter_from : ℕ → Outgoing → Letter
letter_from sender o = record { sender = sender; what = o.what; load = o.load }

-- one send is posted to its receiver alone
pub posted_one : (thread sender : ℕ) (out : Outgoing) (to : ℕ) → post_of out.to ≡ to → posted thread sender (out ∷ []) ≡ cond (to == thread) (letter_from sender out ∷ []) []
posted_one thread sender out to e = at (post_of out.to == thread) ∙ ap (λ k. cond (k == thread) (letter_from sender out ∷ []) []) e
  where
    at : (b : Bool) → map (letter_from sender) (cond b (out ∷ []) []) ≡ cond b (letter_from sender out ∷ []) []
    at true = refl
    at false = refl

pub posted_append : (thread sender : ℕ) (xs ys : List Outgoing) → posted thread sender (xs ++ ys) ≡ posted thread sender xs ++ posted thread sender ys
posted_append thread sender xs ys =
    ap (map (letter_from sender)) (filter-append (λ (o : Outgoing). post_of o.to == thread) xs ys)
    ∙ map-append (letter_from sender) (filter (λ (o : Outgoing). post_of o.to == thread) xs) (filter (λ (o : Outgoing). post_of o.to == thread) ys)

pub got_none : (i : Inbox) (more : List Letter) → more ≡ [] → Got i i more
got_none i more e = record { ran = refl; waiting = sym (ap (λ q. letters i ++ q) e ∙ append-nil (letters i)) }

pub got_push : (old new : Inbox) (m : Mail) (more : List Letter) → new.waiting ≡ old.waiting ++ m ∷ [] → new.ran ≡ old.ran → more ≡ letter_of m ∷ [] → Got old new more
got_push old new m more waiting ran e = record {
  ran = ran;
  waiting = ap (map letter_of) waiting ∙ map-append letter_of old.waiting (m ∷ []) ∙ ap (λ q. letters old ++ q) (sym e);
}

pub got_then : (a b c : Inbox) (x y z : List Letter) → Got a b x → Got b c y → z ≡ x ++ y → Got a c z
got_then a b c x y z f g e = record {
  ran = g.ran ∙ f.ran;
  waiting = g.waiting ∙ ap (λ q. q ++ y) f.waiting ∙ append_assoc (letters a) x y ∙ ap (λ q. letters a ++ q) (sym e);
}

pub rest_post : (n : ℕ) → n ≢ 0 → n ≢ 1 → post_of n ≡ 2
rest_post zero a b = absurd (a refl)
rest_post (suc zero) a b = absurd (b refl)
rest_post (suc (suc n)) a b = refl

-- of a thread's sends some were delivered, and `left` are still to be
pub record Going (thread sender : ℕ) (old new : Inbox) (all left : List Outgoing) : Type 0 where
  pub ran : new.ran ≡ old.ran
  pub waiting : letters new ++ posted thread sender left ≡ letters old ++ posted thread sender all

pub going_on : (thread sender : ℕ) (a b c : Inbox) (all left rest : List Outgoing) (out : Outgoing) → Going thread sender a b all left
    → Got b c (posted thread sender (out ∷ [])) → left ≡ out ∷ rest → Going thread sender a c all rest
going_on thread sender a b c all left rest out g h e = record {
  ran = h.ran ∙ g.ran;
  waiting = ap (λ q. q ++ posted thread sender rest) h.waiting
      ∙ append_assoc (letters b) (posted thread sender (out ∷ [])) (posted thread sender rest)
      ∙ ap (λ q. letters b ++ q) (sym (posted_append thread sender (out ∷ []) rest) ∙ sym (ap (posted thread sender) e))
      ∙ g.waiting;
}

pub all_gone : (thread sender : ℕ) (a b : Inbox) (all left : List Outgoing) → Going thread sender a b all left → left ≡ [] → Got a b (posted thread sender all)
all_gone thread sender a b all left g e = record {
  ran = g.ran;
  waiting = sym (append-nil (letters b)) ∙ sym (ap (λ q. letters b ++ posted thread sender q) e) ∙ g.waiting;
}

-- where nothing was sent nothing came
pub got_nothing : (thread sender : ℕ) (old new : Inbox) (sends : List Outgoing) → sends ≡ [] → Got old new (posted thread sender sends) → letters new ≡ letters old
got_nothing thread sender old new sends none g = g.waiting ∙ ap (λ q. letters old ++ posted thread sender q) none ∙ append-nil (letters old)
