-- An owner that has ended is a thread that ended.
use Rattle.std.proofs.Common.{◌≡◌, ℕ, ◌+◌, ◌==◌, nat_lt, nat_le, Bool, true, false, cond, List, [], ◌∷◌, ◌++◌, reverse, map, length, filter_map, Option, None, refl, sym, ap, subst, ◌∙◌, arith}
use Rattle.std.specs.List.{cons_option, list_all, list_any, AllByRecursion, enumerate_from}
use Rattle.std.proofs.lemmas.Bool.{false≢true, eqb-true, lt-ltb, lt-leb, and_right, false_from_ne_true}
use Rattle.lw_base.proofs.Lists.{reverse_cons}
use Rattle.lw_base.specs.declared.message.What.TheVariants as what
use Rattle.lw_base.specs.declared.moves.Hop.{Hop}
use Rattle.lw_model.specs.declared.script.Script.{Script}
use Rattle.lw_model.specs.declared.step.Step.{Step}
use Rattle.lw_model.specs.declared.step.Step.TheVariants as step
use Rattle.lw_model.specs.Threads.{owner_of, is_owner, is_client, is_on, images}
use Rattle.lw_model.specs.OwnOrder.{with_past}
use Rattle.lw_model.specs.Holding.{says, ordinal_given}
use Rattle.lw_model.specs.Devices.{is_refusal}
use Rattle.lw_whole.specs.Letters.{Letter, Note}
use Rattle.lw_whole.specs.Logs.{Log, steps, steps_with_past}
use Rattle.lw_whole.specs.Notes.{idle, count_begun, NoteFits}
use Rattle.lw_whole.specs.Lines.{stays_shut}
use Rattle.lw_whole.specs.Owners.{steps_run, Served, owner_log}
use Rattle.lw_whole.specs.Threads.{Ended, AppEnded, ClientEnded, OwnerEnded}
use Rattle.lw_whole.proofs.OwnerLogs.{steps_are, sent_along}

-- a message that was run
abbrev IsRan : Step → Type 0
IsRan (step.Ran i m) = Unit {0}
IsRan _ = ⊥

all_ran : (xs : List Letter) → AllByRecursion IsRan (reverse (steps_run xs))
all_ran [] = tt
all_ran (x ∷ xs) = subst (AllByRecursion IsRan) (sym (reverse_cons (step.Ran (length xs) x.tag) (steps_run xs))) (push (reverse (steps_run xs)) (all_ran xs))
  where
    push : (ys : List Step) → AllByRecursion IsRan ys → AllByRecursion IsRan (ys ++ step.Ran (length xs) x.tag ∷ [])
    push [] h = (tt, tt)
    push (y ∷ ys) h = (h.0, push ys h.1)

-- such a step lists nothing
none_made : {X : Type 0} (f : Step → Option X) (xs : List Step) → ((y : Step) → IsRan y → f y ≡ None) → AllByRecursion IsRan xs → filter_map f xs ≡ []
none_made f [] none h = refl
none_made f (x ∷ xs) none h = ap (λ o. cons_option o (filter_map f xs)) (none x h.0) ∙ none_made f xs none h.1

no_ordinal : (on : ℕ → Bool) (x : Step) → IsRan x → ordinal_given on x ≡ None
no_ordinal on (step.Ran i m) h = refl
no_ordinal on (step.Did i x) h = absurd h
no_ordinal on (step.Called i x) h = absurd h

none_begun : (on : ℕ → Bool) (x : Step) → IsRan x → count_begun on x ≡ None
none_begun on (step.Ran i m) h = refl
none_begun on (step.Did i x) h = absurd h
none_begun on (step.Called i x) h = absurd h

none_refused : (on : ℕ → Bool) (xs : List Step) → AllByRecursion IsRan xs → list_any (says on is_refusal) xs ≡ false
none_refused on [] h = refl
none_refused on (step.Ran i m ∷ xs) h = none_refused on xs h.1
none_refused on (step.Did i x ∷ xs) h = absurd h.0
none_refused on (step.Called i x ∷ xs) h = absurd h.0

none_needs : (s : Script) (t d : ℕ) (past xs : List Step) → AllByRecursion IsRan xs → list_all (λ p. stays_shut s t d p.0 p.1) (with_past past xs) ≡ true
none_needs s t d past [] h = refl
none_needs s t d past (step.Ran i m ∷ xs) h = none_needs s t d (step.Ran i m ∷ past) xs h.1
none_needs s t d past (step.Did i x ∷ xs) h = absurd h.0
none_needs s t d past (step.Called i x ∷ xs) h = absurd h.0

module _ (s : Script) (t d home : ℕ) (hops : List Hop) (runs : List Letter) (sends : List (List (ℕ × Letter))) (notes : List Note) (is : t ≡ owner_of s d) where
  abbrev pub log : Log
  log = owner_log home hops runs sends notes

  owner : is_owner s t ≡ true
  owner = lt-ltb (length s.clients) t (omega (arith, is))

  not_app : (t == 0) ≡ false
  not_app = false_from_ne_true (t == 0) (λ e. omega (arith, is, eqb-true t 0 e))

  not_client : is_client s t ≡ false
  not_client = and_right (nat_lt 0 t) (nat_le t (length s.clients)) (lt-leb t (length s.clients) (omega (arith, is)))

  ran : AllByRecursion IsRan (steps log)
  ran = subst (AllByRecursion IsRan) (sym (steps_are home hops runs sends notes)) (all_ran runs)

  unused : (k : ℕ) (n : Note) → n ≡ idle → NoteFits s t k log n
  unused k n e = subst (NoteFits s t k log) (sym e) (record {
    ordinals = sym (none_made (ordinal_given (is_on s t k)) (steps log) (no_ordinal (is_on s t k)) ran);
    found = λ f. absurd (false≢true (sym (none_refused (is_on s t k) (steps log) ran) ∙ f));
    begun = none_made (count_begun (is_on s t k)) (steps log) (none_begun (is_on s t k)) ran;
    began_by = λ l. absurd (omega (arith, l));
    fired = refl;
  })

  all_unused : (k : ℕ) (ns : List Note) → AllByRecursion (λ n. n ≡ idle) ns → AllByRecursion (λ p. NoteFits s t p.0 log p.1) (enumerate_from k ns)
  all_unused k [] h = tt
  all_unused k (n ∷ ns) h = (unused k n h.0, all_unused (k + 1) ns h.1)

  stays : (ds : List ℕ) → AllByRecursion (λ e. list_all (λ p. stays_shut s t e p.0 p.1) (steps_with_past log) ≡ true) ds
  stays [] = tt
  stays (e ∷ es) = (none_needs s t e [] (steps log) ran, stays es)

  abbrev RoleAs : Bool → Bool → Type 0
  RoleAs a b = elim a [ true ↦ AppEnded s log | false ↦ elim b [ true ↦ ClientEnded s t log | false ↦ OwnerEnded log ] ]

  pub owner_ended : Served s t runs sends → AllByRecursion (λ n. n ≡ idle) notes → length notes ≡ length s.images → Ended s t log
  owner_ended served none count = record {
    tags = refl;
    sends = record {
      at_steps = sent_along s t home hops runs sends notes owner served;
      at_end = sym (ap (λ b. cond b ((0, what.Done) ∷ []) (cond (t == 0) (map (λ e. (owner_of s e, what.Stop)) (images s)) [])) not_client ∙ ap (λ b. cond b (map (λ e. (owner_of s e, what.Stop)) (images s)) []) not_app);
      with_row = λ client. absurd (false≢true (sym not_client ∙ client));
    };
    did_ats = refl;
    called_ats = refl;
    stood = refl;
    callbacks = refl;
    stays_shut = stays (images s);
    own_row = record { devices = count; notes = all_unused 0 notes none };
    role = role_of (t == 0) (is_client s t) not_app not_client;
  }
    where
      role_of : (a b : Bool) → a ≡ false → b ≡ false → RoleAs a b
      role_of true b e f = absurd (false≢true (sym e))
      role_of false true e f = absurd (false≢true (sym f))
      role_of false false e f = record { did = refl; row = refl }
