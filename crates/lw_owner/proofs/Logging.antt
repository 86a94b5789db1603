-- The log after a letter was run.
use Rattle.std.proofs.Common.{◌≡◌, ℕ, ◌+◌, List, [], ◌∷◌, ◌++◌, refl, sym, ap, subst, ◌∙◌}
use Rattle.std.specs.List.{list_any}
use Rattle.std.proofs.lemmas.List.{append-nil}
use Rattle.lw_base.proofs.Lists.{reverse_cons}
use Rattle.lw_base.specs.declared.message.What.TheVariants as what
use Rattle.lw_model.specs.declared.script.Script.{Script}
use Rattle.lw_model.specs.Threads.{thread_count}
use Rattle.lw_image.specs.Image.{IsAfter}
use Rattle.lw_thread.specs.Acts.{Known, ActsEnd, Post, and_run, asks_of, letters}
use Rattle.lw_whole.specs.Letters.{Letter, marked, reached}
use Rattle.lw_whole.specs.Sends.{ops_run}
use Rattle.lw_whole.specs.Tokens.{GoesOn, load_behind}
use Rattle.lw_whole.specs.Unsent.{named, AreSent}
use Rattle.lw_whole.specs.Owners.{steps_run, Serves, all_served}
use Rattle.lw_whole.proofs.Unsent.{and_asked, as_sent}
use Rattle.lw_visit.specs.Tokens.{Visit, Cast}
use Rattle.lw_mail.specs.Runs.{Run}
use Rattle.lw_mail.specs.Saying.{letter_of, what_of, load_of}
use Rattle.lw_mail.specs.declared.mail.Mail.{Mail}
use Rattle.lw_mail.specs.declared.mail.Content.{Content}
use Rattle.lw_passing.specs.Passing.{Asks as AsksTo, IsNextVisit, IsNextCast}
use Rattle.lw_passing.proofs.Going.{visit_goes_on, cast_goes_on}
use Rattle.lw_owner.specs.declared.owner.Owner.{Owner}
use Rattle.lw_owner.specs.Keeping.{HasLog, pairs, is_stop}
use Rattle.lw_owner.proofs.Unused.{no_mark}

-- the sends of some acts, as pairs
abbrev pub pairs_of : List (Post Mail) → List (ℕ × Letter)
pairs_of ps = pairs (letters letter_of ps)

pairs_push : (ps : List (Post Mail)) (p : Post Mail) → pairs_of (ps ++ p ∷ []) ≡ pairs_of ps ++ (p.to, letter_of p.what) ∷ []
pairs_push [] p = refl
pairs_push (q ∷ ps) p = ap (λ l. (q.to, letter_of q.what) ∷ l) (pairs_push ps p)

-- the letter of a content that isn't sent yet
abbrev pub blank_of : Content → Letter
blank_of c = record { tag = record { sender = 0; number = 0; what = what_of c }; load = load_of c }

-- one more was asked for, so one more is still to be sent
pub pairs_asked : (to : ℕ) (c : Content) (old new : ActsEnd Mail) → AsksTo to c old new → pairs_of new.pending ≡ pairs_of old.pending ++ (to, blank_of c) ∷ []
pairs_asked to c old new h =
    ap (λ (a : ActsEnd Mail). pairs_of a.pending) h.added
    ∙ pairs_push old.pending (record { to = to; what = h.waiting })
    ∙ ap (λ x. pairs_of old.pending ++ (to, x) ∷ []) h.same_letter

module _ (s : Script) (k : Known Letter Run) (a : ActsEnd Mail) (b : Owner) (l : HasLog s k (asks_of letter_of a) b) where
  -- the letter that a content gets when it is sent behind the others
  abbrev pub sent_as : ℕ → Content → Letter
  sent_as to c = as_sent k.thread k.sent (pairs_of a.pending) to (blank_of c)

  -- the log goes on: one letter more was run, which sent this or nothing
  pub went_on : (x : Letter) (to : ℕ) (c : Content) (a2 : ActsEnd Mail) (b2 : Owner) → AsksTo to c a a2 → Serves s k.thread l.runs x ((to, sent_as to c) ∷ [])
      → IsAfter b2.image (ops_run s (steps_run (x ∷ l.runs))) → b2.ended ≡ list_any is_stop (x ∷ l.runs) → HasLog s (and_run k x) (asks_of letter_of a2) b2
  went_on x to c a2 b2 asked serves image ended = record {
    runs = x ∷ l.runs;
    sends = ((to, sent_as to c) ∷ []) ∷ l.sends;
    ran = ap (λ xs. xs ++ x ∷ []) l.ran ∙ sym (reverse_cons x l.runs);
    served = (serves, l.served);
    sent = subst (λ ps. AreSent k.thread k.sent ps (all_served l.sends ++ (to, sent_as to c) ∷ [])) (sym (pairs_asked to c a a2 asked))
        (and_asked k.thread k.sent (pairs_of a.pending) (all_served l.sends) to (blank_of c) l.sent);
    image = image;
    ended = ended;
  }

  pub went_on_quietly : (x : Letter) (a2 : ActsEnd Mail) (b2 : Owner) → a2.pending ≡ a.pending → Serves s k.thread l.runs x []
      → IsAfter b2.image (ops_run s (steps_run (x ∷ l.runs))) → b2.ended ≡ list_any is_stop (x ∷ l.runs) → HasLog s (and_run k x) (asks_of letter_of a2) b2
  went_on_quietly x a2 b2 same serves image ended = record {
    runs = x ∷ l.runs;
    sends = [] ∷ l.sends;
    ran = ap (λ xs. xs ++ x ∷ []) l.ran ∙ sym (reverse_cons x l.runs);
    served = (serves, l.served);
    sent = subst (λ ps. AreSent k.thread k.sent (pairs_of ps) (all_served l.sends ++ [])) (sym same)
        (subst (AreSent k.thread k.sent (pairs_of a.pending)) (sym (append-nil (all_served l.sends))) l.sent);
    image = image;
    ended = ended;
  }

-- the next visit: this thread holds no channel, so it adds no mark
pub visit_goes : (s : Script) (t : ℕ) (before : List Letter) (token : Visit) (to n : ℕ) (c : Content) → token.threads ≡ thread_count s → IsNextVisit t [] token to c
    → GoesOn s (what.Visit token.origin token.op token.device) (t + 1) (load_behind s t (steps_run before) (what.Visit token.origin token.op token.device) (marked token.marks)) ((to, named (blank_of c) t n) ∷ [])
visit_goes s t before token to n c threads next =
    subst (λ ms. GoesOn s (what.Visit token.origin token.op token.device) (t + 1) (marked (token.marks ++ ms)) ((to, named (blank_of c) t n) ∷ [])) (sym (no_mark s t token.device before))
    (visit_goes_on s t [] token to t n c threads next)

-- the next cast
pub cast_goes : (s : Script) (t : ℕ) (before : List Letter) (token : Cast) (to n : ℕ) (c : Content) → token.threads ≡ thread_count s → IsNextCast t (t ∷ []) token to c
    → GoesOn s (what.Cast token.origin token.op) (t + 1) (load_behind s t (steps_run before) (what.Cast token.origin token.op) (reached token.ran)) ((to, named (blank_of c) t n) ∷ [])
cast_goes s t before token to n c threads next = cast_goes_on s t (t ∷ []) token to t n c threads next
