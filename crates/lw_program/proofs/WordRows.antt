-- The rows that clap has of options, as the values given for each.
use Rattle.std.proofs.Common.{◌≡◌, ◌∙◌, ℕ, Bool, cond, true, false, true≢false, refl, sym, ap, subst, List, [], ◌∷◌, ◌++◌, map, filter, Some, None, option_map, append-nil, append_assoc}
use Rattle.std.specs.List.{find}
use Rattle.std.specs.Option.{option_map_or}
use Rattle.std.specs.Str.{bytes_eq}
use Rattle.std.proofs.lemmas.Slice.Eq.{bytes_eq-Decides}
use Rattle.clap.specs.Walk.{Row, Text, all_of, at_row, more_values, rows_of, stronger, reading_by}
use Rattle.clap.specs.Matches.{found_of}
use Rattle.clap.specs.declared.parser.matches.ValueSource.TheVariants.{CommandLine}
use Rattle.clap.specs.declared.parser.matches.ArgMatches.{ArgMatches}
use Rattle.clap.proofs.WalkLemmas.{raw_values-rows}
use Rattle.lw_program.specs.Parsed.{values_in}
use Rattle.lw_program.specs.Words.{Given, values_of}
use Rattle.lw_program.proofs.WordRules.{add, filled, rows_from}

-- the values of a name, none where it has no row
abbrev listed : Text → List Row → List Text
listed name rows = option_map_or (λ values. values) (all_of name rows) []

abbrev new_row : Text → Text → Row
new_row id value = record {
  id = id;
  values = value ∷ [];
  count = None;
  source = Some CommandLine;
  reading = reading_by (filled id);
}

abbrev grown : Text → Text → List Row → List Row
grown id value rows = at_row id (more_values CommandLine (value ∷ [])) (new_row id value ∷ []) rows

-- one value more of one name
listed_add : (name id value : Text) (rows : List Row) → listed name (grown id value rows) ≡ listed name rows ++ cond (bytes_eq id name) (value ∷ []) []
listed_add name id value [] = go (bytes_eq id name)
  where
    go : (b : Bool) → option_map_or (λ values. values) (option_map (λ (r : Row). r.values) (cond b (Some (new_row id value)) None)) [] ≡ cond b (value ∷ []) []
    go true = refl
    go false = refl
listed_add name id value (r ∷ rows) = by (bytes_eq r.id id) refl (listed_add name id value rows)
  where
    more : Row
    more = record r { values = r.values ++ value ∷ []; source = Some (stronger r.source CommandLine) }

    here : (b : Bool) → option_map_or (λ values. values) (option_map (λ (x : Row). x.values) (cond b (Some more) (find (λ x. bytes_eq x.id name) rows))) []
        ≡ option_map_or (λ values. values) (option_map (λ (x : Row). x.values) (cond b (Some r) (find (λ x. bytes_eq x.id name) rows))) [] ++ cond b (value ∷ []) []
    here true = refl
    here false = sym (append-nil _)

    past : (b : Bool) → bytes_eq r.id name ≡ b → (bytes_eq r.id id ≡ false) → listed name (grown id value rows) ≡ listed name rows ++ cond (bytes_eq id name) (value ∷ []) []
        → option_map_or (λ values. values) (option_map (λ (x : Row). x.values) (cond b (Some r) (find (λ x. bytes_eq x.id name) (grown id value rows)))) []
        ≡ option_map_or (λ values. values) (option_map (λ (x : Row). x.values) (cond b (Some r) (find (λ x. bytes_eq x.id name) rows))) [] ++ cond (bytes_eq id name) (value ∷ []) []
    past false e other next = next
    past true e other next =
        let is_name : r.id ≡ name = (bytes_eq-Decides r.id name).0 e in
        let differs : bytes_eq id name ≡ false = not_same (bytes_eq id name) refl is_name other in
        rw differs (sym (append-nil r.values))
      where
        not_same : (b : Bool) → bytes_eq id name ≡ b → r.id ≡ name → bytes_eq r.id id ≡ false → b ≡ false
        not_same false h is_name other = refl
        not_same true h is_name other =
            let same : r.id ≡ id = is_name ∙ sym ((bytes_eq-Decides id name).0 h) in
            absurd (true≢false (sym ((bytes_eq-Decides r.id id).1 same) ∙ other))

    by : (b : Bool) → bytes_eq r.id id ≡ b → listed name (grown id value rows) ≡ listed name rows ++ cond (bytes_eq id name) (value ∷ []) []
        → listed name (cond b (more_values CommandLine (value ∷ []) r ++ rows) (r ∷ grown id value rows)) ≡ listed name (r ∷ rows) ++ cond (bytes_eq id name) (value ∷ []) []
    by false e next = past (bytes_eq r.id name) refl e next
    by true e next =
        let same : r.id ≡ id = (bytes_eq-Decides r.id id).0 e in
        subst (λ n. listed name (more ∷ rows) ≡ listed name (r ∷ rows) ++ cond (bytes_eq n name) (value ∷ []) []) same (here (bytes_eq r.id name))

listed_from : (name : Text) (given : List Given) (rows : List Row) → listed name (rows_from rows given) ≡ listed name rows ++ values_of given name
listed_from name [] rows = sym (append-nil (listed name rows))
listed_from name (g ∷ given) rows =
    listed_from name given (add rows g) ∙ ap (λ l. l ++ values_of given name) (listed_add name g.0 g.1 rows)
    ∙ append_assoc (listed name rows) (cond (bytes_eq g.0 name) (g.1 ∷ []) []) (values_of given name)
    ∙ ap (λ l. listed name rows ++ l) (go (bytes_eq g.0 name))
  where
    go : (b : Bool) → cond b (g.1 ∷ []) [] ++ values_of given name ≡ map (λ x. x.1) (cond b (g ∷ filter (λ x. bytes_eq x.0 name) given) (filter (λ x. bytes_eq x.0 name) given))
    go true = refl
    go false = refl

pub values_found : (m : ArgMatches) (given : List Given) → rows_of (found_of m) ≡ rows_from [] given → (name : List ℕ) → values_in m name ≡ values_of given name
values_found m given rows name =
    ap (λ o. option_map_or (λ values. values) o []) (raw_values-rows (found_of m) name) ∙ ap (listed name) rows ∙ listed_from name given []
