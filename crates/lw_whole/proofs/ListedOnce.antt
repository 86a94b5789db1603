-- A client lists each op once.
use Rattle.std.proofs.Common.{◌≡◌, ℕ, ◌+◌, ◌<◌, ◌≤◌, ◌==◌, nat_le, Bool, true, false, cond, ◌&&◌, List, [], ◌∷◌, length, refl, ap, arith}
use Rattle.std.specs.Prelude.{is_none}
use Rattle.std.specs.List.{list_all}
use Rattle.std.proofs.lemmas.Bool.{and_parts, eqb-true}
use Rattle.lw_base.specs.declared.message.Tag.{Tag}
use Rattle.lw_model.specs.declared.script.Script.{Script}
use Rattle.lw_model.specs.declared.record.Did.{Did}
use Rattle.lw_model.specs.declared.record.Called.{Called}
use Rattle.lw_model.specs.declared.step.Step.{Step}
use Rattle.lw_model.specs.declared.step.Step.TheVariants as step
use Rattle.lw_model.specs.Threads.{ops_of, op_at}
use Rattle.lw_model.specs.OwnOrder.{with_past}
use Rattle.lw_model.specs.Answers.{answer_fits, depth_fits}
use Rattle.lw_whole.specs.Lines.{awaits, dids_in, client_line_fits}
use Rattle.lw_whole.proofs.Answers.{one_more, one_ran, one_called}
use Rattle.lw_whole.proofs.TokenRuns.{count_of}

-- a client's line has the number of its op, and an answer that the op allows
pub record LineFits (s : Script) (t : ℕ) (past : List Step) (i : ℕ) (x : Did) : Type 0 where
  pub place : i ≡ dids_in past
  pub op : x.op ≡ i
  pub answer : answer_fits s t past (op_at s t i) x.answer ≡ true

pub line_fits : (s : Script) (t : ℕ) (past : List Step) (i : ℕ) (x : Did) → client_line_fits s t past (step.Did i x) ≡ true → LineFits s t past i x
line_fits s t past i x fits =
    let a = and_parts (i == dids_in past && x.op == i && nat_le i (length (ops_of s t)) && answer_fits s t past (op_at s t i) x.answer && depth_fits s t past x.answer) (is_none (awaits s t past)) fits in
    let b = and_parts (i == dids_in past && x.op == i && nat_le i (length (ops_of s t)) && answer_fits s t past (op_at s t i) x.answer) (depth_fits s t past x.answer) a.0 in
    let c = and_parts (i == dids_in past && x.op == i && nat_le i (length (ops_of s t))) (answer_fits s t past (op_at s t i) x.answer) b.0 in
    let f = and_parts (i == dids_in past && x.op == i) (nat_le i (length (ops_of s t))) c.0 in
    let g = and_parts (i == dids_in past) (x.op == i) f.0 in
    record { place = eqb-true i (dids_in past) g.0; op = eqb-true x.op i g.1; answer = c.1 }

-- steps that pass are lines of op k
module _ (s : Script) (t k : ℕ) (p : Step → Bool) (did : (i : ℕ) (x : Did) → p (step.Did i x) ≡ true → x.op ≡ k) (called : (i : ℕ) (x : Called) → p (step.Called i x) ≡ false)
    (ran : (i : ℕ) (m : Tag) → p (step.Ran i m) ≡ false) where
  abbrev Fit : List Step → List Step → Type 0
  Fit past rest = list_all (λ z. client_line_fits s t z.0 z.1) (with_past past rest) ≡ true

  rest_fits : (past : List Step) (x : Step) (rest : List Step) → Fit past (x ∷ rest) → (client_line_fits s t past x ≡ true) × Fit (x ∷ past) rest
  rest_fits past x rest fits = and_parts (client_line_fits s t past x) (list_all (λ z. client_line_fits s t z.0 z.1) (with_past (x ∷ past) rest)) fits

  none_later : (past rest : List Step) → k < dids_in past → Fit past rest → count_of p rest ≡ 0
  none_later past [] h fits = refl
  none_later past (step.Did i x ∷ rest) h fits =
      let both = rest_fits past (step.Did i x) rest fits in
      at (p (step.Did i x)) refl (line_fits s t past i x both.0) (none_later (step.Did i x ∷ past) rest (omega (arith, h, one_more i x past)) both.1)
    where
      at : (b : Bool) → p (step.Did i x) ≡ b → LineFits s t past i x → count_of p rest ≡ 0 → cond b 1 0 + count_of p rest ≡ 0
      at true e f go = absurd (omega (arith, h, did i x e, f.op, f.place))
      at false e f go = omega (arith, go)
  none_later past (step.Called i x ∷ rest) h fits =
      omega (arith, ap {B = ℕ} (λ b. cond b 1 0) (called i x), none_later (step.Called i x ∷ past) rest (omega (arith, h, one_called i x past)) (rest_fits past (step.Called i x) rest fits).1)
  none_later past (step.Ran i m ∷ rest) h fits =
      omega (arith, ap {B = ℕ} (λ b. cond b 1 0) (ran i m), none_later (step.Ran i m ∷ past) rest (omega (arith, h, one_ran i m past)) (rest_fits past (step.Ran i m) rest fits).1)

  pub listed_once : (past rest : List Step) → Fit past rest → count_of p rest ≤ 1
  listed_once past [] fits = omega arith
  listed_once past (step.Did i x ∷ rest) fits =
      let both = rest_fits past (step.Did i x) rest fits in
      at (p (step.Did i x)) refl (line_fits s t past i x both.0) both.1 (listed_once (step.Did i x ∷ past) rest both.1)
    where
      at : (b : Bool) → p (step.Did i x) ≡ b → LineFits s t past i x → Fit (step.Did i x ∷ past) rest → count_of p rest ≤ 1 → cond b 1 0 + count_of p rest ≤ 1
      at true e f more go = omega (arith, none_later (step.Did i x ∷ past) rest (omega (arith, did i x e, f.op, f.place, one_more i x past)) more)
      at false e f more go = omega (arith, go)
  listed_once past (step.Called i x ∷ rest) fits = omega (arith, ap {B = ℕ} (λ b. cond b 1 0) (called i x), listed_once (step.Called i x ∷ past) rest (rest_fits past (step.Called i x) rest fits).1)
  listed_once past (step.Ran i m ∷ rest) fits = omega (arith, ap {B = ℕ} (λ b. cond b 1 0) (ran i m), listed_once (step.Ran i m ∷ past) rest (rest_fits past (step.Ran i m) rest fits).1)
