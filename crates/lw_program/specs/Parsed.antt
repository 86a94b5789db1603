-- What clap has found in the words behind a command's name.
use Rattle.std.specs.Prelude.{◌≡◌, ◌≢◌, ℕ, Bool, true, not, List, [], ◌∷◌, drop, codes, bytes_eq, Option, Some, None, option_map, Result, Ok, Err}
use Rattle.std.specs.List.{list_all}
use Rattle.std.specs.Option.{option_map_or}
use Rattle.std.specs.declared.alloc.AllocError.{AllocError}
use Rattle.clap.specs.declared.error.Error.{Error}
use Rattle.clap.specs.declared.error.kind.ErrorKind.TheVariants.{OutOfMemory}
use Rattle.clap.specs.Words.{App, Rule, Text, found_of, kind_of, matched_of, new_app, new_rule, raw_values, with_rule}
use Rattle.clap.specs.Simple.{on_top}
use Rattle.clap.specs.declared.builder.action.ArgAction.TheVariants.{Append}
use Rattle.clap.specs.declared.parser.matches.ArgMatches.{ArgMatches}
use Rattle.lw_program.specs.Words.{Given, given_from, values_of}

-- an option as clap is asked for it: `--name` with a value, as often as it comes
abbrev pub asked : Text → Rule
asked name = record (new_rule name) { long = Some name; action = Some Append }

-- a command of no help and no version
abbrev pub named : App
named = on_top (λ s. record s { disable_version_flag = true }) (on_top (λ s. record s { disable_help_flag = true }) (new_app (codes "run")))

-- the command that clap is asked for
abbrev pub run_app : App
run_app = with_rule (with_rule (with_rule (with_rule named (asked (codes "scheduler"))) (asked (codes "reactors"))) (asked (codes "beside"))) (asked (codes "period"))

-- the word isn't `--`
abbrev pub is_unmarked : Text → Bool
is_unmarked word = not (bytes_eq word (45 ∷ 45 ∷ []))

abbrev pub are_unmarked : List Text → Bool
are_unmarked words = list_all is_unmarked words

-- the values that were found for an option
abbrev pub values_in : ArgMatches → List ℕ → List (List ℕ)
values_in m name = option_map_or (λ values. values) (option_map raw_values (matched_of (found_of m) name)) []

-- for each option the values are those given
abbrev pub HasValues : List Given → ArgMatches → Type 0
HasValues given m = (name : List ℕ) → values_in m name ≡ values_of given name

-- what was found in these words, a program's name first
abbrev pub Parses : List Text → Option ArgMatches → Type 0
Parses words None = given_from None (drop 1 words) ≡ None
Parses words (Some m) = (given : List Given) × (given_from None (drop 1 words) ≡ Some given) × HasValues given m

-- what is made of clap's refusal: want of memory exactly where that was it, and else that nothing was found
abbrev pub IsRefusalOf : Error → Result (Option ArgMatches) AllocError → Type 0
IsRefusalOf e (Err lack) = kind_of e ≡ OutOfMemory
IsRefusalOf e (Ok None) = kind_of e ≢ OutOfMemory
IsRefusalOf e (Ok (Some m)) = ⊥
