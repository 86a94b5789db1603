-- The results of a visit are the marks that are kept under its token.
use Rattle.std.proofs.Common.{◌≡◌, ℕ, zero, suc, ◌+◌, ◌<◌, ◌++◌, ◌&&◌, nat_lt, Bool, true, false, cond, List, [], ◌∷◌, length, map, filter, Option, Some, None, option_map, option_and_then, unwrap_or, filter_map, find, slice_get, refl, sym, ap, ap₂, subst, ◌∙◌}
use Rattle.std.specs.List.{list_any, enumerate_from, cons_option, AllByRecursion}
use lib.Pointwise.{pointwise}
use Rattle.std.proofs.lemmas.List.{append-nil}
use Rattle.std.proofs.lemmas.Bool.{ltb-true, eq-eqb, or_parts}
use Rattle.lw_base.specs.declared.message.Mark.{Mark}
use Rattle.lw_base.specs.declared.message.Tag.{Tag}
use Rattle.lw_base.specs.declared.message.What.{What}
use Rattle.lw_base.specs.declared.message.What.TheVariants as what
use Rattle.lw_base.proofs.Lists.{some_same}
use Rattle.lw_model.specs.declared.record.Record.{Record}
use Rattle.lw_model.specs.declared.record.Seen.{Seen}
use Rattle.lw_model.specs.declared.record.SeenBy.TheVariants as by
use Rattle.lw_model.specs.declared.record.ThreadRecord.{ThreadRecord}
use Rattle.lw_model.specs.declared.script.Op.{Op}
use Rattle.lw_model.specs.declared.step.Step.{Step}
use Rattle.lw_model.specs.declared.step.Step.TheVariants as step
use Rattle.lw_model.specs.ScriptRules.{image_of, names_an_image}
use Rattle.lw_model.specs.Threads.{image_at, op_at, threads, thread_count}
use Rattle.lw_model.specs.OwnOrder.{own_order, own_order_of, steps_of, with_past}
use Rattle.lw_model.specs.Holding.{runs}
use Rattle.lw_model.specs.Sent.{is_same_token, runners}
use Rattle.lw_model.specs.Lawful.{has_run, mark_of, visit_results, seen_by}
use Rattle.lw_model.specs.Same.{both, is_same_mark, is_same_results, is_same_seen}
use Rattle.lw_model.proofs.Growth.{all-append, all-in_order}
use Rattle.lw_judge_messages.specs.declared.tokens.Token.TheVariants as token
use Rattle.lw_judge_messages.specs.declared.visits.Marks.{Marks}
use Rattle.lw_judge_messages.specs.MarksAt.{AreMarksAt, mark_at, marks_under}
use Rattle.lw_judge_threads.proofs.Named.{op_named}

-- ---- The image of an op is there

of_app : (n k d : ℕ) (b : Bool) → nat_lt k n ≡ b → elim b [ true ↦ Some k | false ↦ None ] ≡ Some d → d < n
of_app n k d true less is = subst (λ e. e < n) (some_same is) (ltb-true k n less)
of_app n k d false less is = cc

named : (r : Record) (o : Op) (d : ℕ) → image_of o ≡ Some d → names_an_image r.script o ≡ true → d < length r.script.images
named r o d is names = ltb-true d (length r.script.images) (sym (ap (λ i. unwrap_or (option_map (λ e. nat_lt e (length r.script.images)) i) true) is) ∙ names)

of_client : (r : Record) (t k d : ℕ) (o : Option Op) → op_at r.script t k ≡ o → option_and_then image_of o ≡ Some d → d < length r.script.images
of_client r t k d None at is = cc
of_client r t k d (Some o) at is = named r o d is (op_named r t k o at)

pub image_there : (r : Record) (t k d : ℕ) → image_at r.script t k ≡ Some d → d < length r.script.images
image_there r zero k d is = of_app (length r.script.images) k d (nat_lt k (length r.script.images)) refl is
image_there r (suc c) k d is = of_client r (suc c) k d (op_at r.script (suc c) k) refl is

-- ---- A thread that didn't run a token has no mark

-- a step doesn't run the token, and no step of a list does
abbrev IsSilent : What → Step → Type 0
IsSilent w s = runs (is_same_token w) s ≡ false

abbrev NoneRuns : What → List Step → Type 0
NoneRuns w ss = AllByRecursion (IsSilent w) ss

silent : {X : Type 0} (w : What) (f : ℕ × X → Step) → ((p : ℕ × X) → IsSilent w (f p)) → (n : ℕ) (xs : List X) → NoneRuns w (map f (enumerate_from n xs))
silent w f none n [] = tt
silent w f none n (x ∷ xs) = (none (n, x), silent w f none (n + 1) xs)

none_run : (w : What) (n : ℕ) (ms : List Tag) → list_any (λ m. is_same_token w m.what) ms ≡ false → NoneRuns w (map (λ p. step.Ran p.0 p.1) (enumerate_from n ms))
none_run w n [] none = tt
none_run w n (m ∷ ms) none =
    let parts = or_parts (is_same_token w m.what) (list_any (λ x. is_same_token w x.what) ms) none in
    (parts.0, none_run w (n + 1) ms parts.1)

abbrev dids : ThreadRecord → List Step
dids x = map (λ p. step.Did p.0 p.1) (enumerate_from 0 x.did)

abbrev calleds : ThreadRecord → List Step
calleds x = map (λ p. step.Called p.0 p.1) (enumerate_from 0 x.called)

none_of : (w : What) (x : ThreadRecord) → list_any (λ m. is_same_token w m.what) x.ran ≡ false → NoneRuns w (own_order x)
none_of w x none = all-in_order (IsSilent w) (steps_of x)
    (all-append (IsSilent w) (dids x ++ calleds x) (map (λ p. step.Ran p.0 p.1) (enumerate_from 0 x.ran))
    (all-append (IsSilent w) (dids x) (calleds x) (silent w (λ p. step.Did p.0 p.1) (λ p. refl) 0 x.did) (silent w (λ p. step.Called p.0 p.1) (λ p. refl) 0 x.called))
    (none_run w 0 x.ran none))

none_found : (w : What) (past ss : List Step) → NoneRuns w ss → find (λ p. runs (is_same_token w) p.1) (with_past past ss) ≡ None
none_found w past [] none = refl
none_found w past (s ∷ ss) none =
    ap (λ b. cond b (Some (past, s)) (find (λ p. runs (is_same_token w) p.1) (with_past (s ∷ past) ss))) (none.0) ∙ none_found w (s ∷ past) ss none.1

unrun_mark : (r : Record) (w : What) (d t : ℕ) → has_run r w t ≡ false → mark_of r w d t ≡ None
unrun_mark r w d t none = ap (option_and_then (λ p. mark_at r.script t d p.0)) (none_found w [] (own_order_of r t) (at (slice_get r.threads t) none))
  where
    at : (o : Option ThreadRecord) → list_any (λ m. is_same_token w m.what) (unwrap_or (option_map (λ x. x.ran) o) []) ≡ false → NoneRuns w (unwrap_or (option_map own_order o) [])
    at None none = tt
    at (Some x) none = none_of w x none

-- those that pass give all that is given, where the others give nothing
filter_map-filter : {X Y : Type 0} (f : X → Option Y) (p : X → Bool) → ((x : X) → p x ≡ false → f x ≡ None) → (xs : List X) → filter_map f (filter p xs) ≡ filter_map f xs
filter_map-filter f p none [] = refl
filter_map-filter f p none (x ∷ xs) = at (p x) refl (filter_map-filter f p none xs)
  where
    at : (b : Bool) → p x ≡ b → filter_map f (filter p xs) ≡ filter_map f xs → filter_map f (cond b (x ∷ filter p xs) (filter p xs)) ≡ cons_option (f x) (filter_map f xs)
    at true e rest = ap (cons_option (f x)) rest
    at false e rest = rest ∙ sym (ap (λ o. cons_option o (filter_map f xs)) (none x e))

marks_of_runners : (r : Record) (w : What) (d : ℕ) → filter_map (mark_of r w d) (threads r.script) ≡ filter_map (mark_of r w d) (runners r w)
marks_of_runners r w d = sym (filter_map-filter (mark_of r w d) (has_run r w) (unrun_mark r w d) (threads r.script))

-- ---- What a visit found

pub visit_found : (r : Record) (m : Marks) (t k d : ℕ) → AreMarksAt r (thread_count r.script) [] m → image_at r.script t k ≡ Some d → by.Visit (marks_under m (token.Visit t k d)) ≡ visit_results r t k
visit_found r m t k d are is =
    ap by.Visit ((are.each t k d is).marks ∙ append-nil (filter_map (mark_of r (what.Visit t k d) d) (threads r.script)) ∙ marks_of_runners r (what.Visit t k d) d)
    ∙ sym (ap (λ o. elim o [ None ↦ by.Visit [] | Some e ↦ by.Visit (filter_map (mark_of r (what.Visit t k e) e) (runners r (what.Visit t k e))) ]) is)

-- ---- A `seen` line

pub visited_like : (r : Record) (t k : ℕ) (m : Tag) (x : Seen) (found marks : List Mark) → m.what ≡ what.Visited k → x.results ≡ by.Visit found → k ≡ x.op → by.Visit marks ≡ visit_results r t k
    → pointwise is_same_mark marks found ≡ both is_same_seen (seen_by r t m) (Some x)
visited_like r t k m x found marks is results op here =
    ap₂ is_same_results here (sym results)
    ∙ ap (λ b. b && is_same_results (visit_results r t k) x.results) (sym (eq-eqb k x.op op))
    ∙ ap (λ w. both is_same_seen (seen_by r t (record { sender = m.sender; number = m.number; what = w })) (Some x)) (sym is)
