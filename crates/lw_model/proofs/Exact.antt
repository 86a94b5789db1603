-- The tests of each rule hold exactly where the rule does.
use Rattle.std.proofs.Common.{◌≡◌, ℕ, ◌≤◌, ◌==◌, nat_le, Bool, true, ◌&&◌, List, [], ◌∷◌, ◌++◌, map, length, Some, refl, ap, ap₂, ◌∙◌, filter_map, Decides, IsTrue}
use Rattle.std.specs.List.{list_all, flat_map}
use Rattle.std.proofs.lemmas.List.Folds.{list_all-append}
use Rattle.std.proofs.lemmas.Bool.{leb-true, le-leb}
use Rattle.std.proofs.lemmas.Bool.Decides.{Decides-at, Decides-like, Decides-and, Decides-eqb}
use Rattle.lw_base.proofs.Bools.{and_true}
use Rattle.lw_model.specs.declared.record.Record.{Record}
use Rattle.lw_model.specs.Threads.{ran_of, did_of}
use Rattle.lw_model.specs.declared.step.Step.{Step}
use Rattle.lw_model.specs.declared.step.Step.TheVariants as step
use Rattle.lw_model.specs.OwnOrder.{with_past, history}
use Rattle.lw_model.specs.Same.{is_same_reply, is_same_seen}
use Rattle.lw_model.specs.Lines.{thread_line, hop_line, ran_line, did_line, called_line, reply_line, seen_line}
use Rattle.lw_model.specs.Moves.{HomesAndHops, Numbers, home_of, first_reactor, hops_of, hop_fits, number_fits}
use Rattle.lw_model.specs.Answers.{Answers, wanted, at_fits, did_ats, called_ats, ats_fit, did_fits, step_fits}
use Rattle.lw_model.specs.Lawful.{Replies, VisitsSeen, BuffersHome, owed, replied_ops, replies_of, seen_by, seen_of}
use Rattle.lw_model.specs.Verdict.{Test, each_line, against, homes_and_hops, numbers, step_test, answers, replies, visits_seen, buffers_home}
use Rattle.lw_model.proofs.Passing.{passes, Decides-each_thread, Decides-each_client, passes-each_line, Decides-against, list_all-flat_map}
use Rattle.lw_model.proofs.Sameness.{Tells-reply, Tells-seen}

pub Decides-itself : (b : Bool) → Decides b (IsTrue b)
Decides-itself b = (λ e. e, λ e. e)

pub Decides-le : (m n : ℕ) → Decides (nat_le m n) (m ≤ n)
Decides-le m n = (leb-true m n, le-leb m n)

pub Decides-lines : {X : Type 0} (line : ℕ → ℕ) (fits : List X → X → Bool) (xs : List X) → Decides (passes (each_line line fits xs)) (IsTrue (list_all (λ p. fits p.0 p.1) (with_past [] xs)))
Decides-lines line fits xs = Decides-at (passes (each_line line fits xs)) (list_all (λ p. fits p.0 p.1) (with_past [] xs)) (passes-each_line line fits xs) (Decides-itself (list_all (λ p. fits p.0 p.1) (with_past [] xs)))

pub homes_and_hops-exact : (r : Record) → Decides (passes (homes_and_hops r)) (HomesAndHops r)
homes_and_hops-exact r = Decides-like (passes (homes_and_hops r))
    (λ h. record { homes = λ t b. (h t b).0; hops = λ t b. (h t b).1 }) (λ h t b. (h.homes t b, h.hops t b))
    (Decides-each_thread r (λ t. (thread_line r t, home_of r t == first_reactor r t) ∷ each_line (hop_line r t) (hop_fits r t) (hops_of r t))
    (λ t. (home_of r t ≡ first_reactor r t) × IsTrue (list_all (λ p. hop_fits r t p.0 p.1) (with_past [] (hops_of r t))))
    (λ t. Decides-and (home_of r t == first_reactor r t) (passes (each_line (hop_line r t) (hop_fits r t) (hops_of r t)))
    (Decides-eqb (home_of r t) (first_reactor r t)) (Decides-lines (hop_line r t) (hop_fits r t) (hops_of r t))))

pub numbers-exact : (r : Record) → Decides (passes (numbers r)) (Numbers r)
numbers-exact r = Decides-each_thread r (λ t. each_line (ran_line r t) number_fits (ran_of r t)) (λ t. IsTrue (list_all (λ p. number_fits p.0 p.1) (with_past [] (ran_of r t))))
    (λ t. Decides-lines (ran_line r t) number_fits (ran_of r t))

-- the test of a step is whether it fits
step_one : (r : Record) (t : ℕ) (past : List Step) (s : Step) → passes (step_test r t past s) ≡ step_fits r t past s
step_one r t past (step.Did i x) = and_true (did_fits r t past i x)
step_one r t past (step.Called i x) = refl
step_one r t past (step.Ran i m) = refl

steps_all : (r : Record) (t : ℕ) (ps : List (List Step × Step)) → list_all (λ p. passes (step_test r t p.0 p.1)) ps ≡ list_all (λ p. step_fits r t p.0 p.1) ps
steps_all r t [] = refl
steps_all r t (p ∷ ps) = ap₂ (λ a b. a && b) (step_one r t p.0 p.1) (steps_all r t ps)

abbrev StepTests : Record → ℕ → List Test
StepTests r t = flat_map (λ p. step_test r t p.0 p.1) (history r t)

Decides-steps : (r : Record) (t : ℕ) → Decides (passes (StepTests r t)) (IsTrue (list_all (λ p. step_fits r t p.0 p.1) (history r t)))
Decides-steps r t = Decides-at (passes (StepTests r t)) (list_all (λ p. step_fits r t p.0 p.1) (history r t))
    (list_all-flat_map (λ (e : Test). e.1) (λ p. step_test r t p.0 p.1) (history r t) ∙ steps_all r t (history r t)) (Decides-itself (list_all (λ p. step_fits r t p.0 p.1) (history r t)))

pub Decides-append : {P Q : Type 0} (xs ys : List Test) → Decides (passes xs) P → Decides (passes ys) Q → Decides (passes (xs ++ ys)) (P × Q)
Decides-append xs ys p q = Decides-at (passes (xs ++ ys)) (passes xs && passes ys) (list_all-append (λ (e : Test). e.1) xs ys) (Decides-and (passes xs) (passes ys) p q)

abbrev DidTests : Record → ℕ → List Test
DidTests r t = each_line (did_line r t) (at_fits (length (ran_of r t))) (did_ats r t)

abbrev CalledTests : Record → ℕ → List Test
CalledTests r t = each_line (called_line r t) (at_fits (length (ran_of r t))) (called_ats r t)

abbrev LinesFit : Record → ℕ → Type 0
LinesFit r t = IsTrue (list_all (λ p. step_fits r t p.0 p.1) (history r t))

pub answers-exact : (r : Record) → Decides (passes (answers r)) (Answers r)
answers-exact r = Decides-like (passes (answers r))
    (λ h. record { count = λ t b. (h t b).0; did_order = λ t b. (h t b).1.0.0; called_order = λ t b. (h t b).1.0.1; lines = λ t b. (h t b).1.1 })
    (λ h t b. (h.count t b, ((h.did_order t b, h.called_order t b), h.lines t b)))
    (Decides-each_thread r (λ t. (thread_line r t, nat_le (wanted r t) (length (did_of r t))) ∷ (DidTests r t ++ CalledTests r t ++ StepTests r t))
    (λ t. (wanted r t ≤ length (did_of r t)) × ((IsTrue (ats_fit r t (did_ats r t)) × IsTrue (ats_fit r t (called_ats r t))) × LinesFit r t))
    (λ t. Decides-and (nat_le (wanted r t) (length (did_of r t))) (passes (DidTests r t ++ CalledTests r t ++ StepTests r t)) (Decides-le (wanted r t) (length (did_of r t)))
    (Decides-append (DidTests r t ++ CalledTests r t) (StepTests r t)
    (Decides-append (DidTests r t) (CalledTests r t)
    (Decides-lines (did_line r t) (at_fits (length (ran_of r t))) (did_ats r t))
    (Decides-lines (called_line r t) (at_fits (length (ran_of r t))) (called_ats r t)))
    (Decides-steps r t))))

pub replies-exact : (r : Record) → Decides (passes (replies r)) (Replies r)
replies-exact r = Decides-each_client r (λ t. against is_same_reply (thread_line r t) (reply_line r t 0) (map (owed r t) (replied_ops r t)) (replies_of r t))
    (λ t. map (λ x. Some x) (replies_of r t) ≡ map (owed r t) (replied_ops r t))
    (λ t. Decides-against is_same_reply Tells-reply (thread_line r t) (reply_line r t 0) (map (owed r t) (replied_ops r t)) (replies_of r t))

-- equal lists, and equal lists of what is there
map_same : {X : Type 0} (xs ys : List X) → map (λ x. Some x) xs ≡ map (λ x. Some x) ys → xs ≡ ys
map_same [] [] e = refl
map_same [] (y ∷ ys) e = cc
map_same (x ∷ xs) [] e = cc
map_same (x ∷ xs) (y ∷ ys) e = ap₂ (λ a b. a ∷ b) (parts e).0 (map_same xs ys (parts e).1)
  where
    parts : Some x ∷ map (λ z. Some z) xs ≡ Some y ∷ map (λ z. Some z) ys → (x ≡ y) × (map (λ z. Some z) xs ≡ map (λ z. Some z) ys)
    parts e = (cc, cc)

pub Decides-listed : {X : Type 0} (same : X → X → Bool) → ((x y : X) → Decides (same x y) (x ≡ y)) → (last line : ℕ) (wanted found : List X) → Decides (passes (against same last line (map (λ x. Some x) wanted) found)) (found ≡ wanted)
Decides-listed same tells last line wanted found = Decides-like (passes (against same last line (map (λ x. Some x) wanted) found)) (map_same found wanted) (ap (map (λ x. Some x)))
    (Decides-against same tells last line (map (λ x. Some x) wanted) found)

pub visits_seen-exact : (r : Record) → Decides (passes (visits_seen r)) (VisitsSeen r)
visits_seen-exact r = Decides-each_client r (λ t. against is_same_seen (thread_line r t) (seen_line r t 0) (map (λ x. Some x) (filter_map (seen_by r t) (ran_of r t))) (seen_of r t))
    (λ t. seen_of r t ≡ filter_map (seen_by r t) (ran_of r t))
    (λ t. Decides-listed is_same_seen Tells-seen (thread_line r t) (seen_line r t 0) (filter_map (seen_by r t) (ran_of r t)) (seen_of r t))

pub buffers_home-exact : (r : Record) → Decides (passes (buffers_home r)) (BuffersHome r)
buffers_home-exact r = Decides-like (passes (buffers_home r)) (λ h. record { small = h.0.0; large = h.0.1 }) (λ h. ((h.small, h.large), refl))
    (Decides-and (r.home.small == r.script.small && r.home.large == r.script.large) true
    (Decides-and (r.home.small == r.script.small) (r.home.large == r.script.large) (Decides-eqb r.home.small r.script.small) (Decides-eqb r.home.large r.script.large))
    (Decides-itself true))
