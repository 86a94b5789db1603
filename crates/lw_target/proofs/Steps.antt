-- Steps of a client, one after the other.
use Rattle.std.proofs.Common.{ℕ, ◌≡◌, ◌+◌, ◌-◌, ◌*◌, ◌≤◌, Bool, true, false, List, length, cond, arith, sym, ◌∙◌, ap, subst}
use Rattle.std.specs.Prelude.{vec_len, ◌||◌}
use Rattle.lw_target.specs.declared.acts.Outgoing.{Outgoing}
use Rattle.lw_target.specs.declared.client.Client.{Client}
use Rattle.lw_target.specs.Messages.{Asked}
use Rattle.lw_target.specs.Ops.{AllOfOps}
use Rattle.lw_target.specs.Work.{client_work}
use Rattle.lw_target.specs.Client.{Progress}

-- what two clients of the same ops both say of a list of sends
of_ops : (a b : Client) (sends : List Outgoing) → b.of ≡ a.of → AllOfOps a.of.ops sends → AllOfOps b.of.ops sends
of_ops a b sends e all = subst (λ o. AllOfOps o.ops sends) (sym e) all

of_ops_back : (a b : Client) (sends : List Outgoing) → b.of ≡ a.of → AllOfOps b.of.ops sends → AllOfOps a.of.ops sends
of_ops_back a b sends e all = subst (λ o. AllOfOps o.ops sends) e all

pub progress_then : (a b c : Client) (x y z : Asked) (m n k : ℕ) → Progress a b x y m → Progress b c y z n → k ≤ m + n → Progress a c x z k
progress_then a b c x y z m n k f g h = record {
  of = g.of ∙ f.of;
  channels = g.channels ∙ f.channels;
  ran = g.ran ∙ f.ran;
  sends = λ all. of_ops_back a b z.sends f.of (g.sends (of_ops a b y.sends f.of (f.sends all)));
  work = omega (arith, f.work, g.work);
}

-- the work of a client whose ops, channels and marks are told
pub work_is : (a b : Client) (next : ℕ) (closed done : Bool) → b.of ≡ a.of → b.next ≡ next → b.closed ≡ closed → b.done ≡ done → vec_len b.channels ≡ vec_len a.channels
    → client_work b ≡ 3 * (length a.of.ops - next) + cond closed 0 (1 + vec_len a.channels) + cond done 0 2
work_is a b next closed done of at shut told channels =
    let ops : length b.of.ops ≡ length a.of.ops = ap (λ o. length o.ops) of in
    let left : 3 * (length b.of.ops - b.next) ≡ 3 * (length a.of.ops - next) = cc in
    let close : ◌≡◌ {A = ℕ} (cond b.closed 0 (1 + vec_len b.channels)) (cond closed 0 (1 + vec_len a.channels)) = cc in
    let tell : ◌≡◌ {A = ℕ} (cond b.done 0 2) (cond done 0 2) = cc in
    omega (arith, left, close, tell)

-- the client worked where one of its two parts did
pub progress_either : (a b c : Client) (x y z : Asked) (p q : Bool) → Progress a b x y (cond p 1 0) → Progress b c y z (cond q 1 0)
    → Progress a c x z (cond (p || q) 1 0)
progress_either a b c x y z p q f g = progress_then a b c x y z (cond p 1 0) (cond q 1 0) (cond (p || q) 1 0) f g (either p q)
  where
    either : (p q : Bool) → cond (p || q) 1 0 ≤ cond p 1 0 + cond q 1 0
    either true true = omega arith
    either true false = omega arith
    either false true = omega arith
    either false false = omega arith
