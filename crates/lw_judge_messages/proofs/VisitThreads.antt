-- What a visit found, thread by thread.
use Rattle.std.proofs.Common.{◌≡◌, ℕ, ◌+◌, ◌≤◌, ◌==◌, ◌++◌, Bool, true, false, cond, List, [], ◌∷◌, reverse, append_assoc, Option, Some, None, option_and_then, option_map, option_to_list, filter_map, find, IfSome, nat_eq, refl, sym, ap, ◌∙◌, arith}
use Rattle.std.specs.Option.{option_eq}
use Rattle.std.specs.List.{range_with_len, cons_option}
use Rattle.std.proofs.lemmas.List.{append-nil, reverse-append}
use Rattle.std.proofs.lemmas.List.Elements.{filter_map-append}
use Rattle.std.proofs.lemmas.Bool.Decides.{nat_tests}
use Rattle.lw_base.specs.declared.message.Mark.{Mark}
use Rattle.lw_base.specs.declared.message.What.{What}
use Rattle.lw_base.proofs.Lists.{range_push}
use Rattle.lw_model.specs.declared.record.Record.{Record}
use Rattle.lw_model.specs.declared.script.Script.{Script}
use Rattle.lw_model.specs.declared.step.Step.{Step}
use Rattle.lw_model.specs.OwnOrder.{with_past}
use Rattle.lw_model.specs.Threads.{is_on}
use Rattle.lw_model.specs.OwnOrder.{own_order_of, history}
use Rattle.lw_model.specs.Holding.{runs, held, submitted}
use Rattle.lw_model.specs.Sent.{is_same_token}
use Rattle.lw_model.specs.Lawful.{mark_of}
use Rattle.lw_judge_messages.specs.declared.tokens.Token.{Token}
use Rattle.lw_judge_messages.specs.declared.tokens.Token.TheVariants as token
use Rattle.lw_judge_messages.specs.declared.visits.Marks.{Marks}
use Rattle.lw_judge_messages.specs.Tokens.{what_of}
use Rattle.lw_judge_messages.specs.MarksAt.{AreMarksAt, IsVisitAt, first_mark, last_under, mark_at}

-- the first of two, where it is there
abbrev or_else : Option (Option Mark) → Option (Option Mark) → Option (Option Mark)
or_else o other = elim o [ Some m ↦ Some m | None ↦ other ]

-- the first mark of steps behind others
abbrev mark_behind : Script → ℕ → What → ℕ → List Step → List Step → Option (Option Mark)
mark_behind s t w d past xs = or_else (first_mark s t w d past) (option_map (λ p. mark_at s t d p.0) (find (λ p. runs (is_same_token w) p.1) (with_past past xs)))

first_mark_from : (s : Script) (t : ℕ) (w : What) (d : ℕ) (past xs : List Step) → first_mark s t w d (reverse xs ++ past) ≡ mark_behind s t w d past xs
first_mark_from s t w d past [] = none_more (first_mark s t w d past)
  where
    none_more : (o : Option (Option Mark)) → o ≡ or_else o None
    none_more None = refl
    none_more (Some m) = refl
first_mark_from s t w d past (x ∷ xs) =
    ap (first_mark s t w d) past_is ∙ first_mark_from s t w d (x ∷ past) xs
    ∙ at (first_mark s t w d past) (runs (is_same_token w) x)
  where
    past_is : reverse (x ∷ xs) ++ past ≡ reverse xs ++ (x ∷ past)
    past_is = ap (λ w. w ++ past) (reverse-append (x ∷ []) xs) ∙ append_assoc (reverse xs) (x ∷ []) past

    rest : Option (List Step × Step)
    rest = find (λ p. runs (is_same_token w) p.1) (with_past (x ∷ past) xs)

    at : (o : Option (Option Mark)) (b : Bool) → or_else (or_else o (cond b (Some (mark_at s t d past)) None)) (option_map (λ p. mark_at s t d p.0) rest)
        ≡ or_else o (option_map (λ p. mark_at s t d p.0) (cond b (Some (past, x)) rest))
    at (Some m) b = refl
    at None true = refl
    at None false = refl

-- a thread's mark is that of the first of its steps that runs the token
whole_mark : (r : Record) (t : ℕ) (w : What) (d : ℕ) → option_and_then (λ o. o) (first_mark r.script t w d (reverse (own_order_of r t))) ≡ mark_of r w d t
whole_mark r t w d =
    ap (λ l. option_and_then (λ o. o) (first_mark r.script t w d l)) (sym (append-nil (reverse (own_order_of r t))))
    ∙ ap (option_and_then (λ o. o)) (first_mark_from r.script t w d [] (own_order_of r t))
    ∙ flat (find (λ p. runs (is_same_token w) p.1) (history r t))
  where
    flat : (o : Option (List Step × Step)) → option_and_then (λ q. q) (option_map (λ p. mark_at r.script t d p.0) o)
        ≡ option_and_then (λ p. option_map (λ n. record { thread = t; submitted = submitted (is_on r.script t d) p.0 }) (held (is_on r.script t d) d p.0)) o
    flat None = refl
    flat (Some p) = refl

filter_map_one : {X Y : Type 0} (f : X → Option Y) (x : X) → filter_map f (x ∷ []) ≡ option_to_list (f x)
filter_map_one {X} {Y} f x = at (f x)
  where
    at : (o : Option Y) → cons_option o [] ≡ option_to_list o
    at None = refl
    at (Some y) = refl

next_visit : (r : Record) (t : ℕ) (w : Token) (d : ℕ) (m : Marks) → IsVisitAt r t (reverse (own_order_of r t)) w d m → IsVisitAt r (t + 1) [] w d m
next_visit r t w d m h = record {
  marks = h.marks ∙ ap (λ o. filter_map (mark_of r (what_of w) d) (range_with_len 0 t) ++ option_to_list o) (whole_mark r t (what_of w) d)
      ∙ sym (ap (filter_map (mark_of r (what_of w) d)) (range_push 0 t) ∙ filter_map-append (mark_of r (what_of w) d) (range_with_len 0 t) ((0 + t) ∷ [])
      ∙ ap (λ l. filter_map (mark_of r (what_of w) d) (range_with_len 0 t) ++ l) (ap (λ k. filter_map (mark_of r (what_of w) d) (k ∷ [])) here ∙ filter_map_one (mark_of r (what_of w) d) t))
      ∙ sym (append-nil (filter_map (mark_of r (what_of w) d) (range_with_len 0 (t + 1))));
  last = later (last_under m w) h.none_later;
  none_later = above (last_under m w) h.none_later;
}
  where
    here : 0 + t ≡ t
    here = omega arith

    later : (o : Option ℕ) → IfSome o (λ u. u ≤ t) → false ≡ option_eq nat_eq o (Some (t + 1))
    later None low = refl
    later (Some u) low = sym (apart u low)
      where
        apart : (u : ℕ) → u ≤ t → (u == t + 1) ≡ false
        apart u low = grind (arith, nat_tests)

    above : (o : Option ℕ) → IfSome o (λ u. u ≤ t) → IfSome o (λ u. u ≤ t + 1)
    above None low = tt
    above (Some u) low = omega (arith, low)

-- on to the next thread
pub next_thread : (r : Record) (t : ℕ) (m : Marks) → AreMarksAt r t (reverse (own_order_of r t)) m → AreMarksAt r (t + 1) [] m
next_thread r t m h = record { each = λ o k d on. next_visit r t (token.Visit o k d) d m (h.each o k d on) }
