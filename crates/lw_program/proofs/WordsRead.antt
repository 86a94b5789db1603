-- What a parse by clap says of the words.
use Rattle.std.proofs.Common.{◌≡◌, ◌≢◌, ◌∙◌, ◌<◌, ◌-◌, take, ◌&&◌, not, inl, inr, Bool, true, false, true≢false, refl, sym, ap, subst, arith, List, [], ◌∷◌, map, drop, length, Option, Some, None, Result, Ok, Err, IfOk, String, string_bytes, cond}
use Rattle.std.specs.Prelude.{ℕ, codes, option_and_then}
use Rattle.std.specs.declared.alloc.AllocError.{AllocError}
use Rattle.std.specs.Str.{bytes_eq}
use Rattle.std.proofs.lemmas.List.{length-drop}
use Rattle.std.proofs.Math.Seq.{take-length}
use Rattle.std.proofs.lemmas.Slice.Eq.{bytes_eq-Decides}
use Rattle.std.proofs.lemmas.Str.{IsUtf8-string_bytes}
use Rattle.clap.specs.Words.{App, HasKind, HasMatchesOf, Kinds, Text, fault_of, found_of, is_simple_and_free, kind_of, matches_of, rows_of}
use Rattle.clap.proofs.WalkLemmas.{both}
use Rattle.clap.specs.Lexer.{long_of}
use Rattle.clap.specs.Walk.{Row}
use Rattle.clap.specs.declared.error.Error.{Error}
use Rattle.clap.specs.declared.error.kind.ErrorKind.TheVariants.{OutOfMemory}
use Rattle.clap.specs.declared.parser.matches.ArgMatches.{ArgMatches}
use Rattle.lw_program.specs.declared.words.CommandLine.{CommandLine}
use Rattle.lw_program.specs.Parsed.{IsRefusalOf, Parses, are_unmarked, run_app, values_in}
use Rattle.lw_program.specs.Words.{Given, given_from, followed_by, is_flag, option_met, is_option, options_of, values_of, run_under, run_by}
use Rattle.lw_program.proofs.WordRules.{run_is_simple}
use Rattle.lw_program.proofs.WordWalk.{AreWords, Reads, reads}
use Rattle.lw_program.proofs.WordRows.{values_found}

not_true : (b : Bool) → not b ≡ true → b ≡ false
not_true false e = refl
not_true true e = sym e

pub words_are : {Z : Type 0} (words : List (String Z)) → are_unmarked (map string_bytes words) ≡ true → AreWords (map string_bytes words)
words_are [] e = tt
words_are (word ∷ rest) e =
    let parts = both (not (bytes_eq (string_bytes word) (45 ∷ 45 ∷ []))) (are_unmarked (map string_bytes rest)) e in
    ((not_true _ parts.0, IsUtf8-string_bytes word), words_are rest parts.1)

of_none : (kinds : Kinds) (rows : List Row) (words : List Text) (m : ArgMatches) → Reads kinds rows (given_from None (drop 1 words)) → kinds ≡ [] → rows_of (found_of m) ≡ rows → Parses words (Some m)
of_none kinds rows words m read none is =
    let found = subst (λ k. Reads k rows (given_from None (drop 1 words))) none read in
    (found.0, found.1, values_found m found.0 (is ∙ found.2))

of_some : (kinds : Kinds) (rows : List Row) (words : List Text) (e : Error) → Reads kinds rows (given_from None (drop 1 words)) → HasKind kinds e → kind_of e ≢ OutOfMemory → Parses words None
of_some kinds rows words e read (inl lack) enough = absurd (enough lack)
of_some [] rows words e read (inr among) enough = absurd among
of_some (k ∷ ks) rows words e read (inr among) enough = read

module _ {Z : Type 0} (words : List (String Z)) (some : 0 < length words) (unmarked : are_unmarked (drop 1 (map string_bytes words)) ≡ true) (app : App) (is : app ≡ run_app) where
  read : Reads (fault_of run_app (map string_bytes words)) (matches_of run_app (map string_bytes words)) (given_from None (drop 1 (map string_bytes words)))
  read = go words some unmarked
    where
      go : (ws : List (String Z)) → 0 < length ws → are_unmarked (drop 1 (map string_bytes ws)) ≡ true → Reads (fault_of run_app (map string_bytes ws)) (matches_of run_app (map string_bytes ws)) (given_from None (drop 1 (map string_bytes ws)))
      go [] lt e = absurd (omega (arith, lt))
      go (word ∷ rest) lt e = reads (string_bytes word) (map string_bytes rest) (words_are rest e)

  pub parsed : (m : ArgMatches) → HasMatchesOf app (map string_bytes words) m → (is_simple_and_free app ≡ true → fault_of app (map string_bytes words) ≡ []) → Parses (map string_bytes words) (Some m)
  parsed m matches none =
      let rows = (subst (λ a. HasMatchesOf a (map string_bytes words) m) is matches) refl in
      of_none _ _ (map string_bytes words) m read (subst (λ a. is_simple_and_free a ≡ true → fault_of a (map string_bytes words) ≡ []) is none run_is_simple) rows.0

  pub refused : (e : Error) → (is_simple_and_free app ≡ true → HasKind (fault_of app (map string_bytes words)) e) → kind_of e ≢ OutOfMemory → Parses (map string_bytes words) None
  refused e kinds enough =
      of_some _ _ (map string_bytes words) e read (subst (λ a. is_simple_and_free a ≡ true → HasKind (fault_of a (map string_bytes words)) e) is kinds run_is_simple) enough

abbrev no_options : Option (List Given)
no_options = None

-- a word `--` is neither an option nor a value
pub marked : (words : List Text) (mode : Option Text) → are_unmarked words ≡ false → given_from mode words ≡ None
marked [] mode e = absurd (true≢false e)
marked (word ∷ rest) None e = by (bytes_eq word (45 ∷ 45 ∷ [])) refl e (λ mode. marked rest mode)
  where
    past : (lo : Option (Text × Option Text)) → ((mode : Option Text) → given_from mode rest ≡ None) → option_met lo (given_from None rest) (λ name. given_from (Some name) rest) ≡ None
    past None next = refl
    past (Some (name, Some value)) next = rw (next None) (go (is_option name))
      where
        go : (b : Bool) → cond b (followed_by (name, value) None) None ≡ None
        go true = refl
        go false = refl
    past (Some (name, None)) next = rw (next (Some name)) (go (is_option name))
      where
        go : (b : Bool) → cond b no_options None ≡ None
        go true = refl
        go false = refl

    by : (b : Bool) → bytes_eq word (45 ∷ 45 ∷ []) ≡ b → (not b && are_unmarked rest) ≡ false → ((mode : Option Text) → are_unmarked rest ≡ false → given_from mode rest ≡ None)
        → option_met (long_of word) (given_from None rest) (λ name. given_from (Some name) rest) ≡ None
    by true h e next = rw ((bytes_eq-Decides word (45 ∷ 45 ∷ [])).0 h) refl
    by false h e next = past (long_of word) (λ mode. next mode e)
marked (word ∷ rest) (Some name) e = by (bytes_eq word (45 ∷ 45 ∷ [])) refl e (λ mode. marked rest mode)
  where
    go : (b : Bool) → cond b None (followed_by (name, word) None) ≡ None
    go true = refl
    go false = refl

    by : (b : Bool) → bytes_eq word (45 ∷ 45 ∷ []) ≡ b → (not b && are_unmarked rest) ≡ false → ((mode : Option Text) → are_unmarked rest ≡ false → given_from mode rest ≡ None)
        → cond (is_flag word) None (followed_by (name, word) (given_from None rest)) ≡ None
    by true h e next = rw ((bytes_eq-Decides word (45 ∷ 45 ∷ [])).0 h) refl
    by false h e next = rw (next None e) (go (is_flag word))

-- a refusal by clap is none of the table
pub none_found : (words : List Text) (e : Error) (r : Result (Option ArgMatches) AllocError) → IsRefusalOf e r → (kind_of e ≢ OutOfMemory → Parses words None) → IfOk r (Parses words)
none_found words e (Err lack) is refused = tt
none_found words e (Ok None) is refused = refused is
none_found words e (Ok (Some m)) is refused = absurd is

map_rest : {Z : Type 0} (words : List (String Z)) → map string_bytes (drop 1 words) ≡ drop 1 (map string_bytes words)
map_rest [] = refl
map_rest (word ∷ rest) = refl

-- the words behind the first, as a slice of them
pub rest_is : {Z : Type 0} (words : List (String Z)) → map string_bytes (take (length words - 1) (drop 1 words)) ≡ drop 1 (map string_bytes words)
rest_is words = ap (map string_bytes) (ap (λ n. take n (drop 1 words)) (sym (length-drop 1 words)) ∙ take-length (drop 1 words)) ∙ map_rest words

-- the options are told by the values of the four options
pub same_options : (f g : List ℕ → List (List ℕ)) → ((name : List ℕ) → f name ≡ g name) → options_of f ≡ options_of g
same_options f g e = rw (e (codes "scheduler"), e (codes "reactors"), e (codes "beside"), e (codes "period")) refl

-- what clap found tells what `run` is asked to do
pub run_found : (words : List Text) (m : ArgMatches) (command : Option CommandLine) → Parses words (Some m) → command ≡ option_and_then run_under (options_of (values_in m)) → command ≡ run_by (drop 1 words)
run_found words m command (given, is, has) e =
    e ∙ ap (option_and_then run_under) (same_options (values_in m) (values_of given) has)
    ∙ sym (ap (λ o. option_and_then run_under (option_and_then (λ (gs : List Given). options_of (values_of gs)) o)) is)
