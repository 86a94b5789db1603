-- Where what was run is what was sent, the part of an image's journal that came from a client is what that client lists as sent on it.
use Rattle.std.proofs.Common.{◌≡◌, ℕ, ◌+◌, ◌==◌, nat_lt, Bool, true, false, cond, List, [], ◌∷◌, ◌++◌, map, filter, filter_map, length, Option, Some, None, option_map, option_to_list, append-nil, refl, sym, ap, ap₂, ◌∙◌, inl, inr, arith, IsTrue}
use Rattle.std.specs.List.{flat_map, cons_option}
use Rattle.std.proofs.lemmas.Bool.{eq-eqb, ne_eqb, cases_eq}
use Rattle.std.proofs.lemmas.List.{map-append}
use Rattle.std.proofs.lemmas.List.Elements.{filter-append, filter_map-append}
use Rattle.lw_model.specs.declared.script.Op.{Op}
use Rattle.lw_model.specs.declared.script.Op.TheVariants as op
use Rattle.lw_base.specs.declared.message.Tag.{Tag}
use Rattle.lw_base.specs.declared.message.What.{What}
use Rattle.lw_base.specs.declared.message.What.TheVariants as what
use Rattle.lw_model.specs.declared.record.Record.{Record}
use Rattle.lw_model.specs.declared.record.Answer.{Answer}
use Rattle.lw_model.specs.declared.record.Answer.TheVariants as answer
use Rattle.lw_model.specs.Threads.{owner_of, is_client, is_owner, image_at, is_on, op_at, images, ran_of}
use Rattle.lw_model.specs.declared.step.Step.{Step}
use Rattle.lw_model.specs.declared.step.Step.TheVariants as step
use Rattle.lw_model.specs.OwnOrder.{own_order_of, with_past, history}
use Rattle.lw_model.specs.Sent.{sent_by, sent_by_did, sent_by_ran, sent_last, started, token_of_op, passed_on, completion, first_runner, referred}
use Rattle.lw_model.specs.Journal.{request_of, sent_op, IsOfClients}
use Rattle.lw_model.specs.Lawful.{RanIsSent}

-- the ops of the requests among some messages
abbrev pub request_op : What → Option ℕ
request_op (what.Request k) = Some k
request_op _ = None

abbrev ops_in : ℕ → List (ℕ × What) → List ℕ
ops_in t ps = filter_map request_op (map (λ p. p.1) (filter (λ p. p.0 == t) ps))

ops_in-append : (t : ℕ) (ps qs : List (ℕ × What)) → ops_in t (ps ++ qs) ≡ ops_in t ps ++ ops_in t qs
ops_in-append t ps qs = ap (λ xs. filter_map request_op (map (λ (p : ℕ × What). p.1) xs)) (filter-append (λ p. p.0 == t) ps qs)
    ∙ ap (filter_map request_op) (map-append (λ (p : ℕ × What). p.1) (filter (λ p. p.0 == t) ps) (filter (λ p. p.0 == t) qs))
    ∙ filter_map-append request_op (map (λ p. p.1) (filter (λ p. p.0 == t) ps)) (map (λ p. p.1) (filter (λ p. p.0 == t) qs))

-- what the journal has of a client is what its owner ran of it
part_of_run : (c : ℕ) (ms : List Tag) → map (λ e. e.1) (filter (λ e. e.0 == c) (filter_map request_of ms)) ≡ filter_map request_op (map (λ m. m.what) (filter (λ m. m.sender == c) ms))
part_of_run c [] = refl
part_of_run c (m ∷ ms) = at m.what (m.sender == c) (part_of_run c ms) ∙ sym (ran_part (m.sender == c))
  where
    J : List (ℕ × ℕ)
    J = filter_map request_of ms

    F : List Tag
    F = filter (λ x. x.sender == c) ms

    R : List ℕ
    R = filter_map request_op (map (λ x. x.what) F)

    ran_part : (b : Bool) → filter_map request_op (map (λ x. x.what) (cond b (m ∷ F) F)) ≡ cond b (cons_option (request_op m.what) R) R
    ran_part true = refl
    ran_part false = refl

    entry : (k : ℕ) (b : Bool) → map (λ e. e.1) (filter (λ e. e.0 == c) J) ≡ R → map (λ (e : ℕ × ℕ). e.1) (cond b ((m.sender, k) ∷ filter (λ e. e.0 == c) J) (filter (λ e. e.0 == c) J)) ≡ cond b (k ∷ R) R
    entry k true e = ap (λ ks. k ∷ ks) e
    entry k false e = e

    plain : (b : Bool) → map (λ e. e.1) (filter (λ e. e.0 == c) J) ≡ R → map (λ e. e.1) (filter (λ e. e.0 == c) J) ≡ cond b R R
    plain true e = e
    plain false e = e

    at : (w : What) (b : Bool) → map (λ e. e.1) (filter (λ e. e.0 == c) J) ≡ R
        → map (λ e. e.1) (filter (λ e. e.0 == c) (cons_option (elim w [ what.Request k ↦ Some (m.sender, k) | _ ↦ None ]) J)) ≡ cond (m.sender == c) (cons_option (request_op w) R) R
    at (what.Request k) b e = entry k (m.sender == c) e
    at _ b e = plain (m.sender == c) e

-- a message that is no request
one_none : (t u : ℕ) (w : What) → request_op w ≡ None → ops_in t ((u, w) ∷ []) ≡ []
one_none t u w none = at (u == t)
  where
    at : (b : Bool) → filter_map request_op (map (λ (p : ℕ × What). p.1) (cond b ((u, w) ∷ []) [])) ≡ []
    at true = ap (λ (o : Option ℕ). cons_option o []) none
    at false = refl

owner_same : (C e d : ℕ) → ((1 + C + e) == (1 + C + d)) ≡ (e == d)
owner_same C e d = elim (cases_eq e d) [
  | inl is ↦ eq-eqb (1 + C + e) (1 + C + d) (omega (arith, is)) ∙ sym (eq-eqb e d is)
  | inr ne ↦ ne_eqb (1 + C + e) (1 + C + d) (λ h. ne (omega (arith, h))) ∙ sym (ne_eqb e d ne)
]

putselfs_none : (t u : ℕ) (ds : List ℕ) → ops_in t (map (λ d. (u, what.PutSelf d)) ds) ≡ []
putselfs_none t u [] = refl
putselfs_none t u (d ∷ ds) = ops_in-append t ((u, what.PutSelf d) ∷ []) (map (λ e. (u, what.PutSelf e)) ds) ∙ ap₂ (λ a b. a ++ b) (one_none t u (what.PutSelf d) refl) (putselfs_none t u ds)

sent_one : (r : Record) (c d k : ℕ) (o : Option ℕ) → ops_in (owner_of r.script d) (option_to_list (option_map (λ e. (owner_of r.script e, what.Request k)) o)) ≡ option_to_list (cond (elim o [ None ↦ false | Some e ↦ e == d ]) (Some k) None)
sent_one r c d k None = refl
sent_one r c d k (Some e) = ap (λ b. filter_map request_op (map (λ (p : ℕ × What). p.1) (cond b ((owner_of r.script e, what.Request k) ∷ []) []))) (owner_same (length r.script.clients) e d) ∙ at (e == d)
  where
    at : (b : Bool) → filter_map request_op (map (λ (p : ℕ × What). p.1) (cond b ((owner_of r.script e, what.Request k) ∷ []) [])) ≡ option_to_list (cond b (Some k) None)
    at true = refl
    at false = refl

putself_one : (t u : ℕ) (o : Option ℕ) → ops_in t (option_to_list (option_map (λ d. (u, what.PutSelf d)) o)) ≡ []
putself_one t u None = refl
putself_one t u (Some d) = one_none t u (what.PutSelf d) refl

started_none : (r : Record) (t : ℕ) (w : What) → request_op w ≡ None → ops_in t (started r w) ≡ []
started_none r t w none = at (first_runner r w (λ u. true))
  where
    at : (o : Option ℕ) → ops_in t (elim o [ Some u ↦ (u, w) ∷ [] | None ↦ [] ]) ≡ []
    at None = refl
    at (Some u) = one_none t u w none

tokens_none : (r : Record) (t c k : ℕ) (o : Option Op) → ops_in t (flat_map (started r) (option_to_list (elim o [ None ↦ None | Some x ↦ token_of_op c k x ]))) ≡ []
tokens_none r t c k None = refl
tokens_none r t c k (Some (op.Visit d)) = ops_in-append t (started r (what.Visit c k d)) [] ∙ ap (λ xs. xs ++ []) (started_none r t (what.Visit c k d) refl)
tokens_none r t c k (Some op.Each) = ops_in-append t (started r (what.Cast c k)) [] ∙ ap (λ xs. xs ++ []) (started_none r t (what.Cast c k) refl)
tokens_none r t c k (Some _) = refl

passed_none : (r : Record) (t s : ℕ) (w : What) → request_op w ≡ None → ops_in t (completion w) ≡ [] → ops_in t (passed_on r s w) ≡ []
passed_none r t s w none home = at (first_runner r w (nat_lt s))
  where
    at : (o : Option ℕ) → ops_in t (elim o [ Some u ↦ (u, w) ∷ [] | None ↦ completion w ]) ≡ []
    at None = home
    at (Some u) = one_none t u w none

did_part : (r : Record) (c d : ℕ) (past : List Step) (k at : ℕ) (a : Answer) → ops_in (owner_of r.script d) (sent_by_did r c past (record { at = at; op = k; answer = a })) ≡ option_to_list (elim a [ answer.Sent ↦ cond (is_on r.script c d k) (Some k) None | _ ↦ None ])
did_part r c d past k at answer.Sent = sent_one r c d k (image_at r.script c k)
did_part r c d past k at answer.Deferred = putself_one (owner_of r.script d) c (image_at r.script c k)
did_part r c d past k at answer.Closed = putselfs_none (owner_of r.script d) c (referred r.script c past)
did_part r c d past k at answer.Started = tokens_none r (owner_of r.script d) c k (op_at r.script c k)
did_part r c d past k at _ = refl

ran_part : (r : Record) (c t : ℕ) (sender number : ℕ) (w : What) → ops_in t (sent_by_ran r c (record { sender = sender; number = number; what = w })) ≡ []
ran_part r c t sender number (what.Request k) = at (is_owner r.script c)
  where
    at : (b : Bool) → ops_in t (cond b ((sender, what.Reply k) ∷ []) []) ≡ []
    at true = one_none t sender (what.Reply k) refl
    at false = refl
ran_part r c t sender number (what.Visit o k d) = passed_none r t c (what.Visit o k d) refl (one_none t o (what.Visited k) refl)
ran_part r c t sender number (what.Cast o k) = passed_none r t c (what.Cast o k) refl (one_none t o (what.Casted k) refl)
ran_part r c t sender number _ = refl

step_part : (r : Record) (c d : ℕ) → IsTrue (is_client r.script c) → (past : List Step) (s : Step) → ops_in (owner_of r.script d) (sent_by r c past s) ≡ option_to_list (sent_op r c d s)
step_part r c d client past (step.Did i x) = ap (λ b. ops_in (owner_of r.script d) (cond b (sent_by_did r c past x) [])) client ∙ did_part r c d past x.op x.at x.answer
step_part r c d client past (step.Called i x) = refl
step_part r c d client past (step.Ran i m) = ran_part r c (owner_of r.script d) m.sender m.number m.what

steps_part : (r : Record) (c d : ℕ) → IsTrue (is_client r.script c) → (past steps : List Step) → ops_in (owner_of r.script d) (flat_map (λ p. sent_by r c p.0 p.1) (with_past past steps)) ≡ filter_map (sent_op r c d) steps
steps_part r c d client past [] = refl
steps_part r c d client past (s ∷ steps) = ops_in-append (owner_of r.script d) (sent_by r c past s) (flat_map (λ p. sent_by r c p.0 p.1) (with_past (s ∷ past) steps))
    ∙ ap₂ (λ a b. a ++ b) (step_part r c d client past s) (steps_part r c d client (s ∷ past) steps) ∙ joined (sent_op r c d s)
  where
    joined : (o : Option ℕ) → option_to_list o ++ filter_map (sent_op r c d) steps ≡ cons_option o (filter_map (sent_op r c d) steps)
    joined None = refl
    joined (Some k) = refl

-- the journal's part from a client is the ops that it lists as sent on the image, in the client's own order
pub journal_part : (r : Record) → RanIsSent r → IsOfClients r
journal_part r rule c d client image =
    part_of_run c (ran_of r (owner_of r.script d))
    ∙ ap (filter_map request_op) (rule.all (owner_of r.script d) (omega arith) c)
    ∙ ops_in-append (owner_of r.script d) (flat_map (λ p. sent_by r c p.0 p.1) (history r c)) (sent_last r.script c)
    ∙ ap₂ (λ a b. a ++ b) (steps_part r c d client [] (own_order_of r c)) last
    ∙ append-nil (filter_map (sent_op r c d) (own_order_of r c))
  where
    last : ops_in (owner_of r.script d) (sent_last r.script c) ≡ []
    last = ap (λ b. ops_in (owner_of r.script d) (cond b ((0, what.Done) ∷ []) (cond (c == 0) (map (λ e. (owner_of r.script e, what.Stop)) (images r.script)) []))) client ∙ one_none (owner_of r.script d) 0 what.Done refl
