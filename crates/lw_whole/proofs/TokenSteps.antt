-- Where a token was started or run once, the step that did so sent all that became of it.
use Rattle.std.proofs.Common.{◌≡◌, ℕ, ◌+◌, ◌≤◌, Bool, true, cond, List, [], ◌∷◌, ◌++◌, length, append_assoc, append-nil, sym, ap, ap₂, ◌∙◌, arith}
use Rattle.std.proofs.lemmas.List.{nil_from_length}
use Rattle.lw_base.specs.declared.message.What.{What}
use Rattle.lw_model.specs.declared.script.Script.{Script}
use Rattle.lw_model.specs.declared.step.Step.{Step}
use Rattle.lw_model.specs.OwnOrder.{with_past}
use Rattle.lw_whole.specs.Letters.{Letter}
use Rattle.lw_whole.specs.Logs.{Log}
use Rattle.lw_whole.specs.Sends.{SentBy, SentAlong}
use Rattle.lw_whole.proofs.TokenCounts.{dests, outs}
use Rattle.lw_whole.proofs.TokenRuns.{length_append, count_of, few_out}

-- what the steps before sent of the whole, how many of these pass, and how many pass in all
pub record Left (p : Step → Bool) (n : ℕ) (w : What) (whole : List ℕ) (total : ℕ) (past rest : List Step) (sends : List (List (ℕ × Letter))) : Type 0 where
  pub before : List ℕ
  pub counted : ℕ
  pub whole_is : whole ≡ before ++ outs p n w (with_past past rest) sends
  pub few : length before ≤ counted
  pub counts : counted + count_of p rest ≡ total

module _ (s : Script) (t : ℕ) (l : Log) (p : Step → Bool) (n : ℕ) (w : What)
    (few : (past : List Step) (x : Step) (now : List (ℕ × Letter)) → SentBy s t l past x now → length (cond (p x) (dests n w now) []) ≤ cond (p x) 1 0) where
  pub left_behind : (whole : List ℕ) (total : ℕ) (past : List Step) (x : Step) (rest : List Step) (now : List (ℕ × Letter)) (sends : List (List (ℕ × Letter))) → SentBy s t l past x now
      → Left p n w whole total past (x ∷ rest) (now ∷ sends) → Left p n w whole total (x ∷ past) rest sends
  left_behind whole total past x rest now sends h g = record {
    before = g.before ++ cond (p x) (dests n w now) [];
    counted = g.counted + cond (p x) 1 0;
    whole_is = g.whole_is ∙ sym (append_assoc g.before (cond (p x) (dests n w now) []) (outs p n w (with_past (x ∷ past) rest) sends));
    few = omega (arith, length_append g.before (cond (p x) (dests n w now) []), g.few, few past x now h);
    counts = omega (arith, g.counts);
  }

  -- the one step that passes sent the whole
  pub only_now : (whole : List ℕ) (total : ℕ) (past : List Step) (x : Step) (rest : List Step) (now : List (ℕ × Letter)) (sends : List (List (ℕ × Letter)))
      → SentAlong s t l (with_past past (x ∷ rest)) (now ∷ sends) → p x ≡ true → total ≤ 1 → length whole ≡ total → Left p n w whole total past (x ∷ rest) (now ∷ sends)
      → (whole ≡ dests n w now) × (length (dests n w now) ≡ 1)
  only_now whole total past x rest now sends h is one full g =
      let one_here = ap {B = ℕ} (λ b. cond b 1 0) is in
      let first = nil_from_length g.before (omega (arith, g.few, g.counts, one, one_here)) in
      let last = nil_from_length (outs p n w (with_past (x ∷ past) rest) sends) (omega (arith, few_out s t l p n w few (x ∷ past) rest sends h.1, g.counts, one, one_here)) in
      let same : whole ≡ dests n w now
      = g.whole_is ∙ ap (λ b. g.before ++ (cond b (dests n w now) [] ++ outs p n w (with_past (x ∷ past) rest) sends)) is
      ∙ ap₂ (λ xs ys. xs ++ (dests n w now ++ ys)) first last ∙ append-nil (dests n w now) in
      (same, omega (arith, ap length same, full, g.counts, one, one_here))
