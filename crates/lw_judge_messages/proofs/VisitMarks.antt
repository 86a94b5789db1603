-- What a visit found, with one step more.
use Rattle.std.proofs.Common.{◌≡◌, ◌≢◌, ℕ, ◌≤◌, ◌<◌, ◌++◌, Bool, true, false, not, ◌==◌, cond, List, ◌∷◌, length, Option, Some, None, option_and_then, option_to_list, filter_map, is_some, IfSome, nat_eq, refl, sym, ap, ap₂, subst, ◌∙◌, inl, inr, arith}
use Rattle.std.specs.Option.{option_eq}
use Rattle.std.specs.List.{range_with_len}
use Rattle.std.proofs.lemmas.Bool.{eq-eqb, true≢false, false≢true}
use Rattle.std.proofs.lemmas.List.{append-nil}
use Rattle.lw_base.specs.declared.message.Mark.{Mark}
use Rattle.lw_base.specs.declared.message.Tag.{Tag}
use Rattle.lw_base.specs.declared.message.What.{What}
use Rattle.lw_base.proofs.Lists.{some_same}
use Rattle.lw_model.specs.declared.record.Record.{Record}
use Rattle.lw_model.specs.declared.script.Script.{Script}
use Rattle.lw_model.specs.declared.step.Step.{Step}
use Rattle.lw_model.specs.declared.step.Step.TheVariants as step
use Rattle.lw_model.specs.Threads.{image_at}
use Rattle.lw_model.specs.Holding.{runs}
use Rattle.lw_model.specs.Sent.{is_same_token}
use Rattle.lw_model.specs.Lawful.{mark_of}
use Rattle.lw_judge_messages.specs.declared.tokens.Token.{Token}
use Rattle.lw_judge_messages.specs.declared.tokens.Token.TheVariants as token
use Rattle.lw_judge_messages.specs.declared.visits.Marks.{Marks}
use Rattle.lw_judge_messages.specs.Tokens.{token_in, what_of}
use Rattle.lw_judge_messages.specs.MarksAt.{AreMarksAt, IsVisitAt, HasRun, first_mark, last_under, mark_at, marks_under, ran_by}
use Rattle.lw_judge_messages.proofs.VisitResults.{image_there}
use Rattle.lw_judge_messages.proofs.RunnerLists.{same_itself, same_none, token_cases, what_of-token_in}

-- a step that doesn't run the token changes nothing
other_step : (s : Script) (t : ℕ) (w : What) (d : ℕ) (past : List Step) (x : Step) → runs (is_same_token w) x ≡ false → first_mark s t w d (x ∷ past) ≡ first_mark s t w d past
other_step s t w d past x is = at (first_mark s t w d past) (runs (is_same_token w) x) is
  where
    at : (o : Option (Option Mark)) (b : Bool) → b ≡ false → elim o [ Some m ↦ Some m | None ↦ cond b (Some (mark_at s t d past)) None ] ≡ o
    at (Some m) b e = refl
    at None true e = absurd (true≢false e)
    at None false e = refl

pub visit_other_step : (r : Record) (t : ℕ) (past : List Step) (w : Token) (d : ℕ) (m : Marks) (x : Step) → runs (is_same_token (what_of w)) x ≡ false → IsVisitAt r t past w d m → IsVisitAt r t (x ∷ past) w d m
visit_other_step r t past w d m x is h = record {
  marks = subst (λ o. marks_under m w ≡ filter_map (mark_of r (what_of w) d) (range_with_len 0 t) ++ option_to_list (option_and_then (λ o. o) o)) (sym (other_step r.script t (what_of w) d past x is)) h.marks;
  last = subst (λ o. is_some o ≡ ran_by m w t) (sym (other_step r.script t (what_of w) d past x is)) h.last;
  none_later = h.none_later;
}

-- nothing changes where no visit's token is run
pub marks_other_step : (r : Record) (t : ℕ) (past : List Step) (m : Marks) (x : Step) → ((o k d : ℕ) → image_at r.script o k ≡ Some d → runs (is_same_token (what_of (token.Visit o k d))) x ≡ false) → AreMarksAt r t past m → AreMarksAt r t (x ∷ past) m
marks_other_step r t past m x none h = record { each = λ o k d on. visit_other_step r t past (token.Visit o k d) d m x (none o k d on) (h.each o k d on) }

-- what is kept under another token
kept_visit : (r : Record) (t : ℕ) (past : List Step) (v w : Token) (d : ℕ) (m n : Marks) → v ≢ w → (last_under n v ≡ last_under m v) × (marks_under n v ≡ marks_under m v) → IsVisitAt r t past v d m → IsVisitAt r t past v d n
kept_visit r t past v w d m n apart keeps h = record {
  marks = keeps.1 ∙ h.marks;
  last = h.last ∙ ap (λ o. option_eq nat_eq o (Some t)) (sym (keeps.0));
  none_later = subst (λ o. IfSome o (λ u. u ≤ t)) (sym (keeps.0)) h.none_later;
}

-- the token is run
run_visit : (r : Record) (t place : ℕ) (past : List Step) (w : Token) (d : ℕ) (m n : Marks) (x : Tag) (mark : Option Mark)
    → x.what ≡ what_of w → mark ≡ mark_at r.script t d past → last_under n w ≡ Some t
    → marks_under n w ≡ cond (ran_by m w t) (marks_under m w) (marks_under m w ++ option_to_list mark)
    → IsVisitAt r t past w d m → IsVisitAt r t (step.Ran place x ∷ past) w d n
run_visit r t place past w d m n x mark is marked last kept h = record {
  marks = kept ∙ at (first_mark r.script t (what_of w) d past) (runs_it) (ran_by m w t) h.last h.marks;
  last = some (first_mark r.script t (what_of w) d past) runs_it ∙ sym (ap (λ o. option_eq nat_eq o (Some t)) last ∙ eq-eqb t t refl);
  none_later = subst (λ o. IfSome o (λ u. u ≤ t)) (sym last) (omega arith);
}
  where
    runs_it : runs (is_same_token (what_of w)) (step.Ran place x) ≡ true
    runs_it = ap (is_same_token (what_of w)) is ∙ same_itself w

    some : (o : Option (Option Mark)) → runs (is_same_token (what_of w)) (step.Ran place x) ≡ true
        → is_some (elim o [ Some q ↦ Some q | None ↦ cond (runs (is_same_token (what_of w)) (step.Ran place x)) (Some (mark_at r.script t d past)) None ]) ≡ true
    some (Some q) e = refl
    some None e = ap (λ b. is_some (cond b (Some (mark_at r.script t d past)) None)) e

    below : List Mark
    below = filter_map (mark_of r (what_of w) d) (range_with_len 0 t)

    at : (o : Option (Option Mark)) → runs (is_same_token (what_of w)) (step.Ran place x) ≡ true → (b : Bool) → is_some o ≡ b → marks_under m w ≡ below ++ option_to_list (option_and_then (λ q. q) o)
        → cond b (marks_under m w) (marks_under m w ++ option_to_list mark)
        ≡ below ++ option_to_list (option_and_then (λ q. q) (elim o [ Some q ↦ Some q | None ↦ cond (runs (is_same_token (what_of w)) (step.Ran place x)) (Some (mark_at r.script t d past)) None ]))
    at (Some q) e true f g = g
    at (Some q) e false f g = absurd (true≢false f)
    at None e true f g = absurd (false≢true f)
    at None e false f g =
        ap₂ (λ l o. l ++ option_to_list o) (g ∙ append-nil below) marked
        ∙ ap (λ b. below ++ option_to_list (option_and_then (λ q. q) (cond b (Some (mark_at r.script t d past)) None))) (sym e)

-- a visit's token is run
pub marks_run : (r : Record) (t place : ℕ) (past : List Step) (origin k d : ℕ) (m n : Marks) (x : Tag) (mark : Option Mark)
    → token_in x.what ≡ Some (token.Visit origin k d) → (d < length r.script.images → mark ≡ mark_at r.script t d past)
    → HasRun (token.Visit origin k d) t mark m n → AreMarksAt r t past m → AreMarksAt r t (step.Ran place x ∷ past) n
marks_run r t place past origin k d m n x mark is marked run h = record { each = one }
  where
    what : x.what ≡ what_of (token.Visit origin k d)
    what = what_of-token_in (token.Visit origin k d) x.what is

    one : (o l e : ℕ) → image_at r.script o l ≡ Some e → IsVisitAt r t (step.Ran place x ∷ past) (token.Visit o l e) e n
    one o l e on = elim (token_cases (token.Visit o l e) (token.Visit origin k d)) [
      | inl same ↦ subst (λ v. IsVisitAt r t (step.Ran place x ∷ past) v e n) (sym same)
          (run_visit r t place past (token.Visit origin k d) e m n x mark what (own (device same)) run.last run.marks (subst (λ v. IsVisitAt r t past v e m) same (h.each o l e on)))
      | inr apart ↦ visit_other_step r t past (token.Visit o l e) e n (step.Ran place x) (ap (is_same_token (what_of (token.Visit o l e))) what ∙ apart)
          (kept_visit r t past (token.Visit o l e) (token.Visit origin k d) e m n (distinct apart) (run.other_last (token.Visit o l e) (distinct apart), run.other_marks (token.Visit o l e) (distinct apart)) (h.each o l e on))
    ]
      where
        distinct : is_same_token (what_of (token.Visit o l e)) (what_of (token.Visit origin k d)) ≡ false → token.Visit o l e ≢ token.Visit origin k d
        distinct apart same = true≢false (sym (same_itself (token.Visit o l e)) ∙ ap (λ v. is_same_token (what_of (token.Visit o l e)) (what_of v)) same ∙ apart)

        device : token.Visit o l e ≡ token.Visit origin k d → e ≡ d
        device same = cc

        own : e ≡ d → mark ≡ mark_at r.script t e past
        own same = marked (subst (λ q. q < length r.script.images) same (image_there r o l e on)) ∙ ap (λ q. mark_at r.script t q past) (sym same)

-- a message that is no visit's token is run
pub marks_unrun : (r : Record) (t place : ℕ) (past : List Step) (m : Marks) (x : Tag) → ((o k d : ℕ) → image_at r.script o k ≡ Some d → token_in x.what ≡ Some (token.Visit o k d) → ⊥) → AreMarksAt r t past m → AreMarksAt r t (step.Ran place x ∷ past) m
marks_unrun r t place past m x none h = marks_other_step r t past m (step.Ran place x) apart h
  where
    apart : (o k d : ℕ) → image_at r.script o k ≡ Some d → is_same_token (what_of (token.Visit o k d)) x.what ≡ false
    apart o k d on = at (token_in x.what) refl
      where
        at : (q : Option Token) → token_in x.what ≡ q → is_same_token (what_of (token.Visit o k d)) x.what ≡ false
        at None e = same_none (token.Visit o k d) x.what e
        at (Some v) e = elim (token_cases (token.Visit o k d) v) [
          | inl same ↦ absurd (none o k d on (e ∙ ap Some (sym same)))
          | inr other ↦ ap (is_same_token (what_of (token.Visit o k d))) (what_of-token_in v x.what e) ∙ other
        ]

-- a visit's token is run that is no op of the script
pub marks_unknown : (r : Record) (t place : ℕ) (past : List Step) (origin k d : ℕ) (m : Marks) (x : Tag) (image : Option ℕ) → token_in x.what ≡ Some (token.Visit origin k d)
    → image ≡ image_at r.script origin k → true ≡ not (option_eq nat_eq image (Some d)) → AreMarksAt r t past m → AreMarksAt r t (step.Ran place x ∷ past) m
marks_unknown r t place past origin k d m x image is asked other h = marks_unrun r t place past m x never h
  where
    never : (o l e : ℕ) → image_at r.script o l ≡ Some e → token_in x.what ≡ Some (token.Visit o l e) → ⊥
    never o l e on found = clash (d == d) (eq-eqb d d refl) (other ∙ ap (λ i. not (option_eq nat_eq i (Some d))) (asked ∙ here))
      where
        same : token.Visit o l e ≡ token.Visit origin k d
        same = some_same (sym found ∙ is)

        first : o ≡ origin
        first = let both = same in cc

        second : l ≡ k
        second = let both = same in cc

        third : e ≡ d
        third = let both = same in cc

        here : image_at r.script origin k ≡ Some d
        here = ap₂ (λ a b. image_at r.script a b) (sym first) (sym second) ∙ on ∙ ap Some third

        clash : (b : Bool) → b ≡ true → true ≡ not b → ⊥
        clash true e f = true≢false f
        clash false e f = false≢true e
