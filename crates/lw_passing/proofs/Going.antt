-- A token that is passed on goes on, as the log of a thread has it.
use Rattle.std.proofs.Common.{◌≡◌, ℕ, ◌+◌, ◌-◌, ◌<◌, not, IsTrue, List, [], ◌∷◌, ◌++◌, refl, sym, ap, ap₂, subst, ◌∙◌, arith, inl, inr}
use Rattle.std.specs.List.{list_all, range_with_len}
use Rattle.lw_base.specs.declared.message.Mark.{Mark}
use Rattle.lw_base.specs.declared.message.What.{What}
use Rattle.lw_base.specs.declared.message.What.TheVariants as what
use Rattle.lw_model.specs.declared.script.Script.{Script}
use Rattle.lw_model.specs.Threads.{thread_count}
use Rattle.lw_model.specs.Sent.{must_run}
use Rattle.lw_whole.specs.Letters.{Letter, marked, reached}
use Rattle.lw_whole.specs.Tokens.{GoesOn, may_pass}
use Rattle.lw_visit.specs.Tokens.{Visit, Cast}
use Rattle.lw_mail.specs.Saying.{what_of, load_of}
use Rattle.lw_mail.specs.declared.mail.Content.{Content}
use Rattle.lw_mail.specs.declared.mail.Content.TheVariants as content
use Rattle.lw_passing.specs.Passing.{IsNextVisit, IsNextCast}

-- the letter of a content under this sender and number
abbrev pub letter_as : ℕ → ℕ → Content → Letter
letter_as sender number c = record { tag = record { sender = sender; number = number; what = what_of c }; load = load_of c }

-- where nothing is between, nothing is passed
none_passed : (s : Script) (w : What) (from to : ℕ) → to ≡ from → may_pass s w from to
none_passed s w from to e = subst (λ n. may_pass s w from n) (sym e) (subst (λ n. IsTrue (list_all (λ v. not (must_run s w v)) (range_with_len from n))) (sym zero_left) refl)
  where
    zero_left : from - from ≡ 0
    zero_left = omega arith

-- the visit from thread `past` on, with what it carries then
pub visit_goes_on : (s : Script) (past : ℕ) (marks : List Mark) (token : Visit) (to sender number : ℕ) (c : Content) → token.threads ≡ thread_count s → IsNextVisit past marks token to c
    → GoesOn s (what.Visit token.origin token.op token.device) (past + 1) (marked (token.marks ++ marks)) ((to, letter_as sender number c) ∷ [])
visit_goes_on s past marks token to sender number (content.Visit v) threads next = inl (record {
  above = omega (arith, next.0);
  thread = subst (λ m. to < m) threads next.1;
  token = ap (λ (x : Visit). what.Visit x.origin x.op x.device) next.2;
  carried = ap (λ (x : Visit). marked x.marks) next.2;
  passed = none_passed s (what.Visit token.origin token.op token.device) (past + 1) to next.0;
})
visit_goes_on s past marks token to sender number (content.Visited v) threads next = inr (record {
  completes = ap₂ (λ o k. (o, what.Visited k) ∷ []) next.0 (ap (λ (x : Visit). x.op) next.2);
  carried = ap (λ (x : Visit). marked x.marks) next.2;
  passed = none_passed s (what.Visit token.origin token.op token.device) (past + 1) (thread_count s) (sym threads ∙ next.1);
})
visit_goes_on s past marks token to sender number (content.Request c k) threads next = absurd next
visit_goes_on s past marks token to sender number (content.Read c k b) threads next = absurd next
visit_goes_on s past marks token to sender number (content.Written k) threads next = absurd next
visit_goes_on s past marks token to sender number (content.Filled k b) threads next = absurd next
visit_goes_on s past marks token to sender number (content.Flushed k w) threads next = absurd next
visit_goes_on s past marks token to sender number (content.PutSelf d) threads next = absurd next
visit_goes_on s past marks token to sender number (content.Cast b) threads next = absurd next
visit_goes_on s past marks token to sender number (content.Casted b) threads next = absurd next
visit_goes_on s past marks token to sender number (content.Done b) threads next = absurd next
visit_goes_on s past marks token to sender number content.Stop threads next = absurd next

-- and the cast
pub cast_goes_on : (s : Script) (past : ℕ) (ran : List ℕ) (token : Cast) (to sender number : ℕ) (c : Content) → token.threads ≡ thread_count s → IsNextCast past ran token to c
    → GoesOn s (what.Cast token.origin token.op) (past + 1) (reached (token.ran ++ ran)) ((to, letter_as sender number c) ∷ [])
cast_goes_on s past ran token to sender number (content.Cast v) threads next = inl (record {
  above = omega (arith, next.0);
  thread = subst (λ m. to < m) threads next.1;
  token = ap (λ (x : Cast). what.Cast x.origin x.op) next.2;
  carried = ap (λ (x : Cast). reached x.ran) next.2;
  passed = none_passed s (what.Cast token.origin token.op) (past + 1) to next.0;
})
cast_goes_on s past ran token to sender number (content.Casted v) threads next = inr (record {
  completes = ap₂ (λ o k. (o, what.Casted k) ∷ []) next.0 (ap (λ (x : Cast). x.op) next.2);
  carried = ap (λ (x : Cast). reached x.ran) next.2;
  passed = none_passed s (what.Cast token.origin token.op) (past + 1) (thread_count s) (sym threads ∙ next.1);
})
cast_goes_on s past ran token to sender number (content.Request c k) threads next = absurd next
cast_goes_on s past ran token to sender number (content.Read c k b) threads next = absurd next
cast_goes_on s past ran token to sender number (content.Written k) threads next = absurd next
cast_goes_on s past ran token to sender number (content.Filled k b) threads next = absurd next
cast_goes_on s past ran token to sender number (content.Flushed k w) threads next = absurd next
cast_goes_on s past ran token to sender number (content.PutSelf d) threads next = absurd next
cast_goes_on s past ran token to sender number (content.Visit b) threads next = absurd next
cast_goes_on s past ran token to sender number (content.Visited b) threads next = absurd next
cast_goes_on s past ran token to sender number (content.Done b) threads next = absurd next
cast_goes_on s past ran token to sender number content.Stop threads next = absurd next
