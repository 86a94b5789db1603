-- The options as clap's rules, and how they are found by their names.
use Rattle.std.proofs.Common.{◌≡◌, ◌∙◌, ◌||◌, Bool, cond, true, false, true≢false, refl, sym, ap, List, [], ◌∷◌, ◌++◌, map, Some, None, codes}
use Rattle.std.specs.List.{fold, list_any}
use Rattle.std.specs.Str.{bytes_eq}
use Rattle.std.proofs.lemmas.Slice.Eq.{bytes_eq-Decides}
use Rattle.clap.specs.Walk.{Held, Row, Rule, Text, arg_by_id, arg_by_long, used, with_default, has_row}
use Rattle.clap.specs.Simple.{Shape, built, new_rule, new_shape}
use Rattle.clap.specs.Faults.{is_simple_and_free, defaults_fault, default_fault, given_default_fault}
use Rattle.clap.specs.Kinds.{or_else}
use Rattle.clap.specs.declared.builder.action.ArgAction.TheVariants.{Append}
use Rattle.clap.specs.declared.builder.value_parser.ValueParser.TheVariants as vp
use Rattle.lw_program.specs.Parsed.{run_app}
use Rattle.lw_program.specs.Words.{Given, option_names, is_option}

-- an option as building fills it in
abbrev pub filled : Text → Rule
filled name = record (new_rule name) {
  long = Some name;
  action = Some Append;
  parser = Some vp.String;
  range = Some (record { start_inclusive = 1; end_inclusive = 1 });
}

abbrev pub rules : List Rule
rules = map filled option_names

abbrev pub top : Shape
top = record (new_shape (codes "run")) {
  rules = rules;
  disable_help_flag = true;
  disable_version_flag = true;
  disable_help_subcommand = true;
  is_built = true;
}

pub built_is : built run_app ≡ record { top = top; subs = [] }
built_is = refl

pub run_is_simple : is_simple_and_free run_app ≡ true
run_is_simple = refl

-- ---- by their names

by_long_in : (names : List Text) (name : Text) → list_any (λ n. bytes_eq n name) names ≡ true → arg_by_long (map filled names) name ≡ Some (filled name)
by_long_in [] name e = absurd (true≢false (sym e))
by_long_in (n ∷ ns) name e = go (bytes_eq n name) refl e (by_long_in ns name)
  where
    go : (b : Bool) → bytes_eq n name ≡ b → (b || list_any (λ m. bytes_eq m name) ns) ≡ true
        → (list_any (λ m. bytes_eq m name) ns ≡ true → arg_by_long (map filled ns) name ≡ Some (filled name))
        → cond (b || false) (Some (filled n)) (arg_by_long (map filled ns) name) ≡ Some (filled name)
    go true h e next = ap (λ m. Some (filled m)) ((bytes_eq-Decides n name).0 h)
    go false h e next = next e

none_by_long_in : (names : List Text) (name : Text) → list_any (λ n. bytes_eq n name) names ≡ false → arg_by_long (map filled names) name ≡ None
none_by_long_in [] name e = refl
none_by_long_in (n ∷ ns) name e = go (bytes_eq n name) e (none_by_long_in ns name)
  where
    go : (b : Bool) → (b || list_any (λ m. bytes_eq m name) ns) ≡ false
        → (list_any (λ m. bytes_eq m name) ns ≡ false → arg_by_long (map filled ns) name ≡ None)
        → cond (b || false) (Some (filled n)) (arg_by_long (map filled ns) name) ≡ None
    go true e next = absurd (true≢false e)
    go false e next = next e

by_id_in : (names : List Text) (name : Text) → list_any (λ n. bytes_eq n name) names ≡ true → arg_by_id (map filled names) name ≡ Some (filled name)
by_id_in [] name e = absurd (true≢false (sym e))
by_id_in (n ∷ ns) name e = go (bytes_eq n name) refl e (by_id_in ns name)
  where
    go : (b : Bool) → bytes_eq n name ≡ b → (b || list_any (λ m. bytes_eq m name) ns) ≡ true
        → (list_any (λ m. bytes_eq m name) ns ≡ true → arg_by_id (map filled ns) name ≡ Some (filled name))
        → cond b (Some (filled n)) (arg_by_id (map filled ns) name) ≡ Some (filled name)
    go true h e next = ap (λ m. Some (filled m)) ((bytes_eq-Decides n name).0 h)
    go false h e next = next e

pub by_long : (name : Text) → is_option name ≡ true → arg_by_long rules name ≡ Some (filled name)
by_long name = by_long_in option_names name

pub none_by_long : (name : Text) → is_option name ≡ false → arg_by_long rules name ≡ None
none_by_long name = none_by_long_in option_names name

pub by_id : (name : Text) → is_option name ≡ true → arg_by_id rules name ≡ Some (filled name)
by_id name = by_id_in option_names name

-- ---- no option has a default

no_default : (rows : List Row) (name : Text) → default_fault rows (filled name) ≡ []
no_default rows name = go (has_row name rows)
  where
    go : (b : Bool) → cond (b || true) [] (given_default_fault (filled name) []) ≡ []
    go true = refl
    go false = refl

same_rows : (rows : List Row) (name : Text) → with_default rows (filled name) ≡ rows
same_rows rows name = go (has_row name rows)
  where
    go : (b : Bool) → cond b rows rows ≡ rows
    go true = refl
    go false = refl

pub defaults_pass : (names : List Text) (rows : List Row) → defaults_fault rows (map filled names) ≡ []
unfolding defaults_fault
defaults_pass [] rows = refl
defaults_pass (n ∷ ns) rows = ap (λ k. or_else k (defaults_fault (with_default rows (filled n)) (map filled ns))) (no_default rows n) ∙ ap (λ r. defaults_fault r (map filled ns)) (same_rows rows n) ∙ defaults_pass ns rows

pub defaults_keep : (names : List Text) (rows : List Row) → fold with_default rows (map filled names) ≡ rows
defaults_keep [] rows = refl
defaults_keep (n ∷ ns) rows = ap (λ r. fold with_default r (map filled ns)) (same_rows rows n) ∙ defaults_keep ns rows

-- ---- the rows of options that were given

abbrev pub add : List Row → Given → List Row
add rows g = used (filled g.0) (g.1 ∷ []) rows

abbrev pub rows_from : List Row → List Given → List Row
rows_from rows given = fold add rows given

pub rows_more : (given : List Given) (rows : List Row) (g : Given) → rows_from rows (given ++ g ∷ []) ≡ add (rows_from rows given) g
rows_more [] rows g = refl
rows_more (x ∷ xs) rows g = rows_more xs (add rows x) g

abbrev pub held_of : List Given → Held
held_of given = record { rows = rows_from [] given; pending = None; skip = 0 }
