-- What a step leaves of a device's channel, and that no count of it passes the number of steps.
use Rattle.std.proofs.Common.{◌≡◌, ℕ, ◌+◌, ◌-◌, ◌≤◌, Bool, true, false, cond, List, [], ◌∷◌, length, arith, suc}
use Rattle.std.specs.List.{list_any}
use Rattle.lw_model.specs.declared.script.Script.{Script}
use Rattle.lw_model.specs.declared.step.Step.{Step}
use Rattle.lw_model.specs.declared.step.Step.TheVariants as step
use Rattle.lw_model.specs.declared.record.Did.{Did}
use Rattle.lw_model.specs.declared.record.Answer.TheVariants as answer
use Rattle.lw_base.specs.declared.message.Tag.{Tag}
use Rattle.lw_model.specs.Threads.{is_on}
use Rattle.lw_model.specs.Holding.{says, always, is_closed, is_sent, is_given, runs, is_putself, defers, pending, submitted}
use Rattle.lw_judge_threads.specs.declared.holding.Channel.{Channel}
use Rattle.lw_judge_threads.specs.Holdings.{IsChannelAt}

-- at most one more than before
one_more : (n k : ℕ) (b c : Bool) → n ≤ k → n + cond b 1 0 - cond c 1 0 ≤ suc k
one_more n k true true h = omega (arith, h)
one_more n k true false h = omega (arith, h)
one_more n k false true h = omega (arith, h)
one_more n k false false h = omega (arith, h)

pub pending_le : (on : ℕ → Bool) (d : ℕ) (past : List Step) → pending on d past ≤ length past
pending_le on d [] = omega arith
pending_le on d (s ∷ past) = one_more (pending on d past) (length past) (defers on past s) (runs (is_putself d) s) (pending_le on d past)

sent_more : (n k : ℕ) (b c : Bool) → n ≤ k → cond b 0 (n + cond c 1 0) ≤ suc k
sent_more n k true c h = omega arith
sent_more n k false true h = omega (arith, h)
sent_more n k false false h = omega (arith, h)

pub submitted_le : (on : ℕ → Bool) (past : List Step) → submitted on past ≤ length past
submitted_le on [] = omega arith
submitted_le on (s ∷ past) = sent_more (submitted on past) (length past) (says on is_given s) (says on is_sent s) (submitted_le on past)

-- ---- A step that isn't about the device leaves its channel

pub did_elsewhere : (s : Script) (t d : ℕ) (past : List Step) (i : ℕ) (x : Did) (c : Channel) → is_closed x.answer ≡ false → is_on s t d x.op ≡ false
    → IsChannelAt s t d past c → IsChannelAt s t d (step.Did i x ∷ past) c
did_elsewhere s t d past i x c kept off at = grind arith

-- nor does a last line that isn't the thread's first
pub did_closed : (s : Script) (t d : ℕ) (past : List Step) (i : ℕ) (x : Did) (c : Channel) → list_any (says always is_closed) past ≡ true → x.answer ≡ answer.Closed
    → IsChannelAt s t d past c → IsChannelAt s t d (step.Did i x ∷ past) c
did_closed s t d past i x c closed is at = grind arith

pub ran_elsewhere : (s : Script) (t d : ℕ) (past : List Step) (i : ℕ) (m : Tag) (c : Channel) → is_putself d m.what ≡ false
    → IsChannelAt s t d past c → IsChannelAt s t d (step.Ran i m ∷ past) c
ran_elsewhere s t d past i m c other at = grind arith
