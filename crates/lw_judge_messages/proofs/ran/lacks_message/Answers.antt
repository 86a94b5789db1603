use Rattle.std.proofs.Common.{◌<◌, ℕ, nat_le, get_or, not, length, sym, ap, ◌∙◌, arith}
use Rattle.std.proofs.lemmas.Bool.{le-leb, lt-leb}
use Rattle.lw_judge_messages.specs.SendsAt.{list_at}
use Rattle.lw_judge_messages.specs.RanSent.{count_from}
use Rattle.lw_judge_messages.proofs.AllOf.{all_more, all_fails}
use Rattle.lw_judge_messages.proofs.ran.lacks_message.Goals as goal

pub returns-then-count-list : goal.returns-then-count-list
returns-then-count-list c =
    let s = c.loop-sender.sender in
    let x = c.args.sends.now in
    let ran = c.args.ran.now in
    let items = c.as_slice-count-items.ensures.value in
    let below : s < c.args.threads = omega (arith, ap length items, c.in_ok-counts.ensures.0, c.loop-sender-test.true) in
    let count = ap (λ l. get_or l s 0) items ∙ c.in_ok-counts.ensures.1 s below in
    let enough = λ (q : ℕ). nat_le (length (list_at x q c.args.thread)) (count_from ran q) in
    sym (ap not (all_fails enough c.args.threads s below (lt-leb (length (list_at x s c.args.thread)) (count_from ran s) (omega (arith, ap length c.list.ensures, count, c.if-count-list.true)))))

pub loop-sender-preserved : goal.loop-sender-preserved
loop-sender-preserved c =
    let s = c.loop-sender.sender in
    let x = c.args.sends.now in
    let ran = c.args.ran.now in
    let items = c.as_slice-count-items.ensures.value in
    let below : s < c.args.threads = omega (arith, ap length items, c.in_ok-counts.ensures.0, c.loop-sender-test.true) in
    let count = ap (λ l. get_or l s 0) items ∙ c.in_ok-counts.ensures.1 s below in
    let enough = λ (q : ℕ). nat_le (length (list_at x q c.args.thread)) (count_from ran q) in
    all_more enough s c.loop-sender.invariant (le-leb (length (list_at x s c.args.thread)) (count_from ran s) (omega (arith, ap length c.list.ensures, count, c.if-count-list.false)))
