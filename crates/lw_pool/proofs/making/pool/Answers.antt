use Rattle.std.proofs.Common.{rules, ◌≡◌, ◌+◌, ◌-◌, ℕ, length, ap, ◌∙◌, arith, length-append}
use Rattle.std.specs.Arc.{arc_value}
use Rattle.crossbeam_queue.specs.Passes.{ruled_capacity}
use Rattle.lw_pool.specs.PoolEnds.{Pool, tally}
use Rattle.lw_pool.proofs.Rows.{one_more}
use Rattle.lw_pool.proofs.making.pool.Goals as goal

pub returns : goal.returns
returns g c =
    let s = arc_value c.in_ok-shared.shared in
    let p : Pool = record { small = s.small.table.shared.table_id; large = s.large.table.shared.table_id; small_count = ruled_capacity s.small; large_count = ruled_capacity s.large; users = s.users } in
    let i = c.loop-number.invariant in
    let n : ℕ = c.loop-number.number in
    let all : n + 1 ≡ c.args.users = (let a = c.loop-number.auto.number-end in let b = c.loop-number-test.false in let u = c.requires.users in omega arith) in
    let number : c.args.users - 1 ≡ n = omega arith in
    let small = i.2 in
    let large = i.3 in
    let size = i.4 in
    let items = c.in_ok-push-2.ensures.items in
    let each = one_more p _ _ n _ items i.4 i.5 (λ k. record { pool = p; number = number k; small = tally (small k); large = tally (large k) }) in
    record {
      pool = p;
      small_count = search rules;
      large_count = search rules;
      for_users = search rules;
      count = (let a = ap length items ∙ length-append c.loop-number.passes.items _ in omega arith);
      each = λ k d l. each k d (omega arith);
    }
