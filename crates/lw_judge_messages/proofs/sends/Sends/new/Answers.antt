use Rattle.std.proofs.Common.{◌≡◌, ◌+◌, ◌<◌, ◌++◌, [], ◌∷◌, ℕ, length, sym, subst, ap, ◌∙◌, arith}
use Rattle.std.proofs.lemmas.List.{length_push}
use Rattle.lw_judge_messages.specs.SendsAt.{items_at}
use Rattle.lw_judge_messages.proofs.Added.{sizes-push, empty-push}
use Rattle.lw_judge_messages.proofs.SendSteps.{sends-none}
use Rattle.lw_judge_messages.proofs.sends.Sends.new.Goals as goal

pub loop-preserved : goal.loop-preserved
loop-preserved c =
    let rows = c.loop.lists.items in
    let row = c.in_ok-empty_lists.field-0 in
    let n = c.args.threads in
    let was = c.loop.invariant in
    let now : c.push.new.self.items ≡ rows ++ row ∷ [] = c.in_ok-push.ensures.items in
    record {
      count = ap length now ∙ length_push rows row ∙ ap (λ k. k + 1) was.count;
      each = subst (λ l. (s : ℕ) → s < c.loop.counter + 1 → length (items_at l s) ≡ n) (sym now)
          (subst (λ k. (s : ℕ) → s < k + 1 → length (items_at (rows ++ row ∷ []) s) ≡ n) was.count
          (sizes-push rows row n c.in_ok-empty_lists.ensures.0 (subst (λ k. (s : ℕ) → s < k → length (items_at rows s) ≡ n) (sym was.count) was.each)));
      empty = subst (λ l. (s u : ℕ) → items_at (items_at l s) u ≡ []) (sym now) (empty-push rows row n c.in_ok-empty_lists.ensures.1 was.empty);
    }

pub returns : goal.returns
returns c = λ r threads.
    let all : c.loop.counter ≡ c.args.threads = omega arith in
    sends-none r _ (record {
      count = c.loop.invariant.count ∙ all ∙ sym threads;
      each = λ s below. c.loop.invariant.each s (omega (arith, below, all, threads)) ∙ sym threads;
    }) c.loop.invariant.empty c.new.ensures.items
