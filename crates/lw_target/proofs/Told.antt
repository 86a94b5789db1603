-- What was told to a thread, as messages are run and delivered, and where a client's sends go.
use Rattle.std.proofs.Common.{take, ℕ, zero, suc, ◌≡◌, Bool, true, false, cond, List, [], ◌∷◌, ◌++◌, map, length, Option, Some, None, arith, refl, sym, ◌∙◌, ap, subst, append_assoc}
use Rattle.std.specs.Prelude.{◌==◌, filter, option_map, option_to_list}
use Rattle.std.specs.List.{list_all, flat_map}
use Rattle.std.proofs.lemmas.Bool.{eq-eqb, eqb-true, and_parts, and_from}
use Rattle.std.proofs.lemmas.List.{map-append, append-nil}
use Rattle.std.proofs.lemmas.List.Elements.{filter-append}
use Rattle.std.proofs.lemmas.List.Folds.{list_all-append}
use Rattle.lw_base.specs.declared.message.What.{What}
use Rattle.lw_base.specs.declared.message.What.TheVariants as what
use Rattle.lw_base.specs.declared.message.Tag.{Tag}
use Rattle.lw_model.specs.declared.script.Script.{Script}
use Rattle.lw_model.specs.declared.step.Step.{Step}
use Rattle.lw_model.specs.declared.step.Step.TheVariants as step
use Rattle.lw_model.specs.declared.record.Did.{Did}
use Rattle.lw_model.specs.declared.record.Answer.{Answer}
use Rattle.lw_model.specs.declared.record.Answer.TheVariants as answer
use Rattle.lw_model.specs.Threads.{owner_of, image_at}
use Rattle.lw_model.specs.OwnOrder.{with_past}
use Rattle.lw_model.specs.Sent.{referred, to_thread}
use Rattle.lw_target.specs.declared.mail.Mail.{Mail}
use Rattle.lw_target.specs.declared.acts.Outgoing.{Outgoing}
use Rattle.lw_target.specs.Messages.{Inbox}
use Rattle.lw_target.specs.ClientLog.{sends_of}
use Rattle.lw_target.specs.ClientCalls.{receivers}
use Rattle.lw_target.specs.WholeRun.{run_from}
use Rattle.lw_target.specs.Letters.{Letter, letters, said_by, told, post_of, posted, Got}
use Rattle.lw_target.specs.InOrder.{IsOfOne}
use Rattle.lw_target.proofs.Letters.{letter_of, letter_from}

pub true_false : true ≡ false → ⊥
true_false e = cc

-- ---- a message is run

pub first_letter : (old new : Inbox) (m : Mail) → old.waiting ≡ m ∷ new.waiting → letters old ≡ letter_of m ∷ letters new
first_letter old new m e = ap (map letter_of) e

pub run_push : (s : ℕ) (ran : List Tag) (m : Tag) → run_from s (ran ++ m ∷ []) ≡ run_from s ran ++ cond (m.sender == s) (m.what ∷ []) []
run_push s ran m =
    ap (map (λ (x : Tag). x.what)) (filter-append (λ (x : Tag). x.sender == s) ran (m ∷ []))
    ∙ map-append (λ (x : Tag). x.what) (filter (λ (x : Tag). x.sender == s) ran) (filter (λ (x : Tag). x.sender == s) (m ∷ []))
    ∙ ap (λ q. run_from s ran ++ q) (at (m.sender == s))
  where
    at : (b : Bool) → map (λ (x : Tag). x.what) (cond b (m ∷ []) []) ≡ cond b (m.what ∷ []) []
    at true = refl
    at false = refl

-- what a thread was told is what it was told before it ran one more
pub told_take : (s : ℕ) (old new : Inbox) (m : Mail) → old.waiting ≡ m ∷ new.waiting → new.ran ≡ old.ran ++ m.tag ∷ [] → told new s ≡ told old s
told_take s old new m first ran =
    ap (λ q. run_from s q ++ said_by s (letters new)) ran
    ∙ ap (λ q. q ++ said_by s (letters new)) (run_push s old.ran m.tag)
    ∙ at (m.tag.sender == s)
    ∙ sym (ap (λ q. run_from s old.ran ++ said_by s q) (first_letter old new m first))
  where
    at : (b : Bool) → (run_from s old.ran ++ cond b (m.tag.what ∷ []) []) ++ said_by s (letters new)
        ≡ run_from s old.ran ++ map (λ (l : Letter). l.what) (cond b (letter_of m ∷ filter (λ (l : Letter). l.sender == s) (letters new)) (filter (λ (l : Letter). l.sender == s) (letters new)))
    at true = append_assoc (run_from s old.ran) (m.tag.what ∷ []) (said_by s (letters new))
    at false = ap (λ q. q ++ said_by s (letters new)) (append-nil (run_from s old.ran))

-- ---- messages are delivered

pub said_append : (s : ℕ) (xs ys : List Letter) → said_by s (xs ++ ys) ≡ said_by s xs ++ said_by s ys
said_append s xs ys =
    ap (map (λ (l : Letter). l.what)) (filter-append (λ (l : Letter). l.sender == s) xs ys)
    ∙ map-append (λ (l : Letter). l.what) (filter (λ (l : Letter). l.sender == s) xs) (filter (λ (l : Letter). l.sender == s) ys)

pub told_got : (s : ℕ) (old new : Inbox) (more : List Letter) → Got old new more → told new s ≡ told old s ++ said_by s more
told_got s old new more g =
    ap (λ q. run_from s q ++ said_by s (letters new)) g.ran
    ∙ ap (λ q. run_from s old.ran ++ said_by s q) g.waiting
    ∙ ap (λ q. run_from s old.ran ++ q) (said_append s (letters old) more)
    ∙ sym (append_assoc (run_from s old.ran) (said_by s (letters old)) (said_by s more))

-- what is posted of a sender's sends is said by that sender alone
pub said_of_others : (s thread sender : ℕ) (sends : List Outgoing) → (sender == s) ≡ false → said_by s (posted thread sender sends) ≡ []
said_of_others s thread sender [] e = refl
said_of_others s thread sender (o ∷ sends) e = at (post_of o.to == thread) (said_of_others s thread sender sends e)
  where
    at : (b : Bool) → said_by s (posted thread sender sends) ≡ [] → said_by s (map (letter_from sender) (cond b (o ∷ filter (λ (x : Outgoing). post_of x.to == thread) sends) (filter (λ (x : Outgoing). post_of x.to == thread) sends))) ≡ []
    at true none = ap (λ b. map (λ (l : Letter). l.what) (cond b (letter_from sender o ∷ filter (λ (l : Letter). l.sender == s) (posted thread sender sends)) (filter (λ (l : Letter). l.sender == s) (posted thread sender sends)))) e ∙ none
    at false none = none

-- ---- where a client's sends go

-- a request goes to the owner, a put to the client, and its last message to the app
abbrev pub is_routed : ℕ × What → Bool
is_routed p = elim p.1 [ what.Request k ↦ p.0 == 2 | what.PutSelf d ↦ p.0 == 1 | what.Done ↦ p.0 == 0 | _ ↦ false ]

-- the same without the last message
abbrev pub is_step_routed : ℕ × What → Bool
is_step_routed p = elim p.1 [ what.Request k ↦ p.0 == 2 | what.PutSelf d ↦ p.0 == 1 | _ ↦ false ]

pub routed_post : (to : ℕ) (w : What) → is_routed (to, w) ≡ true → post_of to ≡ to
routed_post to (what.Request k) e = rw (eqb-true to 2 e) refl
routed_post to (what.PutSelf d) e = rw (eqb-true to 1 e) refl
routed_post to what.Done e = rw (eqb-true to 0 e) refl
routed_post to (what.Reply k) e = absurd (true_false (sym e))
routed_post to (what.Visit a b d) e = absurd (true_false (sym e))
routed_post to (what.Visited k) e = absurd (true_false (sym e))
routed_post to (what.Cast a b) e = absurd (true_false (sym e))
routed_post to (what.Casted k) e = absurd (true_false (sym e))
routed_post to what.Stop e = absurd (true_false (sym e))
routed_post to (what.Arrive a b) e = absurd (true_false (sym e))
routed_post to (what.Order a b d) e = absurd (true_false (sym e))

pub step_routed : (p : ℕ × What) → is_step_routed p ≡ true → is_routed p ≡ true
step_routed (to, what.Request k) e = e
step_routed (to, what.PutSelf d) e = e
step_routed (to, what.Done) e = absurd (true_false (sym e))
step_routed (to, what.Reply k) e = absurd (true_false (sym e))
step_routed (to, what.Visit a b d) e = absurd (true_false (sym e))
step_routed (to, what.Visited k) e = absurd (true_false (sym e))
step_routed (to, what.Cast a b) e = absurd (true_false (sym e))
step_routed (to, what.Casted k) e = absurd (true_false (sym e))
step_routed (to, what.Stop) e = absurd (true_false (sym e))
step_routed (to, what.Arrive a b) e = absurd (true_false (sym e))
step_routed (to, what.Order a b d) e = absurd (true_false (sym e))

step_away : (to : ℕ) (w : What) → is_step_routed (to, w) ≡ true → (to == 0) ≡ false
step_away to (what.Request k) e = rw (eqb-true to 2 e) refl
step_away to (what.PutSelf d) e = rw (eqb-true to 1 e) refl
step_away to what.Done e = absurd (true_false (sym e))
step_away to (what.Reply k) e = absurd (true_false (sym e))
step_away to (what.Visit a b d) e = absurd (true_false (sym e))
step_away to (what.Visited k) e = absurd (true_false (sym e))
step_away to (what.Cast a b) e = absurd (true_false (sym e))
step_away to (what.Casted k) e = absurd (true_false (sym e))
step_away to what.Stop e = absurd (true_false (sym e))
step_away to (what.Arrive a b) e = absurd (true_false (sym e))
step_away to (what.Order a b d) e = absurd (true_false (sym e))

pub all_step_routed : (ps : List (ℕ × What)) → list_all is_step_routed ps ≡ true → list_all is_routed ps ≡ true
all_step_routed [] e = refl
all_step_routed (p ∷ ps) e =
    let both = and_parts (is_step_routed p) (list_all is_step_routed ps) e in
    and_from (is_routed p) (list_all is_routed ps) (step_routed p both.0) (all_step_routed ps both.1)

-- no step sends anything to the app
pub none_to_app : (ps : List (ℕ × What)) → list_all is_step_routed ps ≡ true → to_thread 0 ps ≡ []
none_to_app [] e = refl
none_to_app (p ∷ ps) e =
    let both = and_parts (is_step_routed p) (list_all is_step_routed ps) e in
    ap (λ b. map (λ (q : ℕ × What). q.1) (cond b (p ∷ filter (λ (q : ℕ × What). q.0 == 0) ps) (filter (λ (q : ℕ × What). q.0 == 0) ps))) (step_away p.0 p.1 both.0) ∙ none_to_app ps both.1

-- what is posted of a sender's sends is what it sent to that thread
pub said_of_own : (thread sender : ℕ) (sends : List Outgoing) → list_all is_routed (receivers sends) ≡ true
    → said_by sender (posted thread sender sends) ≡ to_thread thread (receivers sends)
said_of_own thread sender [] e = refl
said_of_own thread sender (o ∷ sends) e =
    let both = and_parts (is_routed (o.to, o.what)) (list_all is_routed (receivers sends)) e in
    ap (λ k. said_by sender (map (letter_from sender) (cond (k == thread) (o ∷ filter (λ (x : Outgoing). post_of x.to == thread) sends) (filter (λ (x : Outgoing). post_of x.to == thread) sends)))) (routed_post o.to o.what both.0)
    ∙ at (o.to == thread) (said_of_own thread sender sends both.1)
  where
    at : (b : Bool) → said_by sender (posted thread sender sends) ≡ to_thread thread (receivers sends)
        → said_by sender (map (letter_from sender) (cond b (o ∷ filter (λ (x : Outgoing). post_of x.to == thread) sends) (filter (λ (x : Outgoing). post_of x.to == thread) sends)))
        ≡ map (λ (p : ℕ × What). p.1) (cond b ((o.to, o.what) ∷ filter (λ (p : ℕ × What). p.0 == thread) (receivers sends)) (filter (λ (p : ℕ × What). p.0 == thread) (receivers sends)))
    at true same = ap (λ b. map (λ (l : Letter). l.what) (cond b (letter_from sender o ∷ filter (λ (l : Letter). l.sender == sender) (posted thread sender sends)) (filter (λ (l : Letter). l.sender == sender) (posted thread sender sends)))) (eq-eqb sender sender refl) ∙ ap (λ q. o.what ∷ q) same
    at false same = same

-- ---- the sends of a client's steps

to_owner : (s : Script) (d : ℕ) → IsOfOne s → d ≡ 0 → owner_of s d ≡ 2
to_owner s d one e = omega (arith, one.clients, e)

puts_routed : (t : ℕ) (ds : List ℕ) → t ≡ 1 → list_all is_step_routed (map (λ d. (t, what.PutSelf d)) ds) ≡ true
puts_routed t [] e = refl
puts_routed t (d ∷ ds) e = and_from (t == 1) _ (eq-eqb t 1 e) (puts_routed t ds e)

sends_routed : (s : Script) (t : ℕ) (past : List Step) (i : ℕ) (x : Did) → IsOfOne s → t ≡ 1 → list_all is_step_routed (sends_of s t past (step.Did i x)) ≡ true
sends_routed s t past i x one e = at x.answer
  where
    asked : (o : Option ℕ) → image_at s t x.op ≡ o → list_all is_step_routed (option_to_list (option_map (λ d. (owner_of s d, what.Request x.op)) o)) ≡ true
    asked None f = refl
    asked (Some d) f = and_from (owner_of s d == 2) true (eq-eqb (owner_of s d) 2 (to_owner s d one (one.image x.op d (subst (λ k. image_at s k x.op ≡ Some d) e f)))) refl

    put : (o : Option ℕ) → list_all is_step_routed (option_to_list (option_map (λ d. (t, what.PutSelf d)) o)) ≡ true
    put None = refl
    put (Some d) = and_from (t == 1) true (eq-eqb t 1 e) refl

    at : (a : Answer) → list_all is_step_routed (elim a [
      | answer.Sent ↦ option_to_list (option_map (λ d. (owner_of s d, what.Request x.op)) (image_at s t x.op))
      | answer.Deferred ↦ option_to_list (option_map (λ d. (t, what.PutSelf d)) (image_at s t x.op))
      | answer.Closed ↦ map (λ d. (t, what.PutSelf d)) (referred s t past)
      | _ ↦ []
    ]) ≡ true
    at answer.Sent = asked (image_at s t x.op) refl
    at answer.Deferred = put (image_at s t x.op)
    at answer.Closed = puts_routed t (referred s t past) e
    at (answer.Given n) = refl
    at (answer.Again n) = refl
    at answer.Shut = refl
    at answer.Counted = refl
    at answer.NoChannel = refl
    at answer.Waited = refl
    at answer.Started = refl
    at (answer.Began n) = refl
    at answer.Already = refl

pub steps_routed : (s : Script) (t : ℕ) (past steps : List Step) → IsOfOne s → t ≡ 1
    → list_all is_step_routed (flat_map (λ (p : List Step × Step). sends_of s t p.0 p.1) (with_past past steps)) ≡ true
steps_routed s t past [] one e = refl
steps_routed s t past (x ∷ steps) one e =
    list_all-append is_step_routed (sends_of s t past x) (flat_map (λ (p : List Step × Step). sends_of s t p.0 p.1) (with_past (x ∷ past) steps))
    ∙ and_from _ _ (at x) (steps_routed s t (x ∷ past) steps one e)
  where
    at : (x : Step) → list_all is_step_routed (sends_of s t past x) ≡ true
    at (step.Did i y) = sends_routed s t past i y one e
    at (step.Called i y) = refl
    at (step.Ran i m) = refl

-- a list that was lent and written back whole
pub written_back : {X : Type 0} (xs zs : List X) (n : ℕ) → length xs ≡ n → take n (xs ++ zs) ≡ xs
written_back [] zs zero e = refl
written_back [] zs (suc n) e = absurd (omega (arith, e))
written_back (x ∷ xs) zs zero e = absurd (omega (arith, e))
written_back (x ∷ xs) zs (suc n) e = ap (λ q. x ∷ q) (written_back xs zs n (omega (arith, e)))
