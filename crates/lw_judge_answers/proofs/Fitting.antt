-- Whether a line fits, from whether each part of it does.
use Rattle.std.proofs.Common.{◌≡◌, ℕ, ◌<◌, ◌≤◌, nat_lt, Bool, true, ◌&&◌, List, length, Option, Some, None, option_map, IfSome, sym, ap, ap₂, ◌∙◌}
use Rattle.std.proofs.lemmas.Bool.{ltb-true, eq-eqb, le-leb}
use Rattle.lw_model.specs.declared.script.Script.{Script}
use Rattle.lw_model.specs.declared.script.Op.{Op}
use Rattle.lw_model.specs.declared.record.Record.{Record}
use Rattle.lw_model.specs.declared.record.Did.{Did}
use Rattle.lw_model.specs.declared.record.Answer.{Answer}
use Rattle.lw_model.specs.declared.step.Step.{Step}
use Rattle.lw_model.specs.ScriptRules.{names_an_image}
use Rattle.lw_model.specs.Threads.{is_on, op_at, ops_of}
use Rattle.lw_model.specs.Holding.{references}
use Rattle.lw_model.specs.Answers.{answer_fits, request_fits, depth_fits, earlier_completed, client_did_fits}
use Rattle.lw_judge_threads.proofs.Named.{op_named}

-- an op that is a request of image d
pub request_case : (s : Script) (t : ℕ) (past : List Step) (o p : Op) (d refs : ℕ) (a : Answer) → o ≡ p → names_an_image s p ≡ nat_lt d (length s.images) → answer_fits s t past (Some p) a ≡ request_fits (references (is_on s t d) past) a
    → names_an_image s o ≡ true → (d < length s.images → refs ≡ references (is_on s t d) past) → request_fits refs a ≡ answer_fits s t past (Some o) a
request_case s t past o p d refs a is names means named counts =
    ap (λ n. request_fits n a) (counts (ltb-true d (length s.images) (sym (ap (names_an_image s) is ∙ names) ∙ named))) ∙ sym means ∙ sym (ap (λ x. answer_fits s t past (Some x) a) is)

-- an op that is found names an image that is there
pub found_named : {B : Type 0} (now : B → Op) (r : Record) (t k : ℕ) (o : Option B) → option_map now o ≡ op_at r.script t k → IfSome o (λ x. names_an_image r.script (now x) ≡ true)
found_named now r t k None is = tt
found_named now r t k (Some x) is = op_named r t k (now x) (sym is)

-- a client's line of the place of its op, whose answer fits the op and the depth
pub client_line : (r : Record) (t : ℕ) (past : List Step) (i : ℕ) (x : Did) (both earlier : Bool) → x.op ≡ i → i ≤ length (ops_of r.script t)
    → both ≡ (answer_fits r.script t past (op_at r.script t x.op) x.answer && depth_fits r.script t past x.answer)
    → earlier ≡ earlier_completed r t past i → (both && earlier) ≡ client_did_fits r t past i x
client_line r t past i x both earlier here few fit early =
    ap₂ (λ b e. b && e) (fit ∙ ap (λ k. answer_fits r.script t past (op_at r.script t k) x.answer && depth_fits r.script t past x.answer) here) early
    ∙ ap₂ (λ a b. a && b && answer_fits r.script t past (op_at r.script t i) x.answer && depth_fits r.script t past x.answer && earlier_completed r t past i)
    (sym (eq-eqb x.op i here)) (sym (le-leb i (length (ops_of r.script t)) few))
