use Rattle.std.proofs.Common.{◌≡◌, ℕ, ◌<◌, rules, arith, ap, sym, subst, ◌∙◌, w64}
use Rattle.std.specs.Int.{bit_at}
use Rattle.std.proofs.lemmas.Nat.Bits.{bit_at_ones, bit_at-trailing_ones}
use Rattle.lw_poller.specs.Numbers.{most_pollers, Has, Lacks}
use Rattle.lw_poller.proofs.numbers.Numbers.least_free.Goals as goal

pub returns-then-self-eq18446744073709551615-clause-none : goal.returns-then-self-eq18446744073709551615-clause-none
returns-then-self-eq18446744073709551615-clause-none c = λ k within.
    let all : c.args.self.word ≡ 18446744073709551615 = search rules in
    ap (λ n. bit_at n k) all ∙ bit_at_ones 64 k within

pub returns-else-self-eq18446744073709551615-clause-found : goal.returns-else-self-eq18446744073709551615-clause-found
returns-else-self-eq18446744073709551615-clause-found c =
    subst (λ n. (n < most_pollers) × Lacks c.args.self.word n × ((k : ℕ) → k < n → Has c.args.self.word k)) (sym c.trailing_ones.ensures)
    (bit_at-trailing_ones w64 c.args.self.word (omega arith))
