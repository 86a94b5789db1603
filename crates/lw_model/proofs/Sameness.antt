-- The tests of sameness decide ≡.
use Rattle.std.proofs.Common.{◌≡◌, ℕ, zero, suc, get_or, ◌==◌, List, refl, sym, ap, ◌∙◌}
use Rattle.std.proofs.lemmas.Bool.{and_parts, and_from, eqb-true, eq-eqb, false≢true}
use lib.Pointwise.{pointwise_decides, bytes_decides}
use Rattle.lw_base.specs.declared.message.What.{What}
use Rattle.lw_base.specs.declared.message.What.TheVariants as what
use Rattle.lw_model.specs.declared.record.Replied.TheVariants as replied
use Rattle.lw_model.specs.declared.record.SeenBy.TheVariants as by
use Rattle.lw_model.specs.Same.{what_code, is_same_what, is_same_replied, is_same_reply, is_same_mark, is_same_results, is_same_seen, is_same_order, is_same_pair}
use Rattle.lw_model.proofs.Passing.{Tells}

-- the WHAT of a kind, given the numbers of its code
what_of : ℕ → ℕ → ℕ → ℕ → What
what_of zero a b c = what.Request a
what_of (suc zero) a b c = what.Reply a
what_of (suc (suc zero)) a b c = what.PutSelf a
what_of (suc (suc (suc zero))) a b c = what.Visit a b c
what_of (suc (suc (suc (suc zero)))) a b c = what.Visited a
what_of (suc (suc (suc (suc (suc zero))))) a b c = what.Cast a b
what_of (suc (suc (suc (suc (suc (suc zero)))))) a b c = what.Casted a
what_of (suc (suc (suc (suc (suc (suc (suc zero))))))) a b c = what.Done
what_of (suc (suc (suc (suc (suc (suc (suc (suc zero)))))))) a b c = what.Stop
what_of (suc (suc (suc (suc (suc (suc (suc (suc (suc zero))))))))) a b c = what.Arrive a b
what_of (suc (suc (suc (suc (suc (suc (suc (suc (suc (suc zero)))))))))) a b c = what.Order a b c
what_of _ a b c = what.Done

decoded : List ℕ → What
decoded xs = what_of (get_or xs 0 0) (get_or xs 1 0) (get_or xs 2 0) (get_or xs 3 0)

decoded-code : (w : What) → decoded (what_code w) ≡ w
unfolding decoded what_of
decoded-code (what.Request a) = refl
decoded-code (what.Reply a) = refl
decoded-code (what.PutSelf a) = refl
decoded-code (what.Visit a b c) = refl
decoded-code (what.Visited a) = refl
decoded-code (what.Cast a b) = refl
decoded-code (what.Casted a) = refl
decoded-code what.Done = refl
decoded-code what.Stop = refl
decoded-code (what.Arrive a b) = refl
decoded-code (what.Order a b c) = refl

pub Tells-what : Tells is_same_what
Tells-what v w = (
  λ e. sym (decoded-code v) ∙ ap decoded ((bytes_decides (what_code v) (what_code w)).0 e) ∙ decoded-code w,
  λ e. (bytes_decides (what_code v) (what_code w)).1 (ap what_code e),
)

pub Tells-order : Tells is_same_order
Tells-order x y = (
  λ e. let h = and_parts (x.thread == y.thread) (x.to == y.to) e in λ i. record { thread = eqb-true x.thread y.thread h.0 i; to = eqb-true x.to y.to h.1 i },
  λ e. and_from (x.thread == y.thread) (x.to == y.to) (eq-eqb x.thread y.thread (ap (λ o. o.thread) e)) (eq-eqb x.to y.to (ap (λ o. o.to) e)),
)

pub Tells-mark : Tells is_same_mark
Tells-mark x y = (
  λ e. let h = and_parts (x.thread == y.thread) (x.submitted == y.submitted) e in λ i. record { thread = eqb-true x.thread y.thread h.0 i; submitted = eqb-true x.submitted y.submitted h.1 i },
  λ e. and_from (x.thread == y.thread) (x.submitted == y.submitted) (eq-eqb x.thread y.thread (ap (λ o. o.thread) e)) (eq-eqb x.submitted y.submitted (ap (λ o. o.submitted) e)),
)

pub Tells-replied : Tells is_same_replied
Tells-replied replied.Ok replied.Ok = (λ e. refl, λ e. refl)
Tells-replied replied.Ok (replied.Bytes ys) = (λ e. absurd (false≢true e), λ e. cc)
Tells-replied replied.Ok (replied.Writes n) = (λ e. absurd (false≢true e), λ e. cc)
Tells-replied (replied.Bytes xs) replied.Ok = (λ e. absurd (false≢true e), λ e. cc)
Tells-replied (replied.Bytes xs) (replied.Bytes ys) = (λ e. ap replied.Bytes ((bytes_decides xs ys).0 e), λ e. (bytes_decides xs ys).1 (bytes_same e))
  where
    bytes_same : replied.Bytes xs ≡ replied.Bytes ys → xs ≡ ys
    bytes_same e = cc
Tells-replied (replied.Bytes xs) (replied.Writes n) = (λ e. absurd (false≢true e), λ e. cc)
Tells-replied (replied.Writes m) replied.Ok = (λ e. absurd (false≢true e), λ e. cc)
Tells-replied (replied.Writes m) (replied.Bytes ys) = (λ e. absurd (false≢true e), λ e. cc)
Tells-replied (replied.Writes m) (replied.Writes n) = (λ e. ap replied.Writes (eqb-true m n e), λ e. eq-eqb m n (writes_same e))
  where
    writes_same : replied.Writes m ≡ replied.Writes n → m ≡ n
    writes_same e = cc

pub Tells-reply : Tells is_same_reply
Tells-reply x y = (
  λ e. let h = and_parts (x.op == y.op) (is_same_replied x.answer y.answer) e in λ i. record { op = eqb-true x.op y.op h.0 i; answer = (Tells-replied x.answer y.answer).0 h.1 i },
  λ e. and_from (x.op == y.op) (is_same_replied x.answer y.answer) (eq-eqb x.op y.op (ap (λ o. o.op) e)) ((Tells-replied x.answer y.answer).1 (ap (λ o. o.answer) e)),
)

pub Tells-results : Tells is_same_results
Tells-results (by.Visit xs) (by.Visit ys) = (λ e. ap by.Visit ((pointwise_decides Tells-mark xs ys).0 e), λ e. (pointwise_decides Tells-mark xs ys).1 (visits_same e))
  where
    visits_same : by.Visit xs ≡ by.Visit ys → xs ≡ ys
    visits_same e = cc
Tells-results (by.Visit xs) (by.Cast ys) = (λ e. absurd (false≢true e), λ e. cc)
Tells-results (by.Cast xs) (by.Visit ys) = (λ e. absurd (false≢true e), λ e. cc)
Tells-results (by.Cast xs) (by.Cast ys) = (λ e. ap by.Cast ((bytes_decides xs ys).0 e), λ e. (bytes_decides xs ys).1 (casts_same e))
  where
    casts_same : by.Cast xs ≡ by.Cast ys → xs ≡ ys
    casts_same e = cc

pub Tells-seen : Tells is_same_seen
Tells-seen x y = (
  λ e. let h = and_parts (x.op == y.op) (is_same_results x.results y.results) e in λ i. record { op = eqb-true x.op y.op h.0 i; results = (Tells-results x.results y.results).0 h.1 i },
  λ e. and_from (x.op == y.op) (is_same_results x.results y.results) (eq-eqb x.op y.op (ap (λ o. o.op) e)) ((Tells-results x.results y.results).1 (ap (λ o. o.results) e)),
)

pub Tells-pair : Tells is_same_pair
Tells-pair x y = (
  λ e. let h = and_parts (x.0 == y.0) (x.1 == y.1) e in λ i. (eqb-true x.0 y.0 h.0 i, eqb-true x.1 y.1 h.1 i),
  λ e. and_from (x.0 == y.0) (x.1 == y.1) (eq-eqb x.0 y.0 (ap (λ (o : ℕ × ℕ). o.0) e)) (eq-eqb x.1 y.1 (ap (λ (o : ℕ × ℕ). o.1) e)),
)
