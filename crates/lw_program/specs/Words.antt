-- What the words of the command line ask for.
use Rattle.std.specs.Prelude.{◌-◌, ◌==◌, ◌&&◌, ℕ, Bool, false, true, List, [], ◌∷◌, map, filter, length, codes, string_bytes, String, bytes_eq, if◌then◌else◌, Option, Some, None, option_map, option_and_then}
use Rattle.std.specs.List.{list_all, list_any}
use Rattle.std.specs.Option.{option_map_or}
use Rattle.std.specs.Str.Parse.{digits_value}
use Rattle.clap.specs.Lexer.{is_digit, long_of, strip_byte}
use Rattle.lw_base.specs.declared.moves.Scheduler.{Scheduler}
use Rattle.lw_base.specs.declared.moves.Scheduler.TheVariants.{Static, Dynamic}
use Rattle.lw_model.specs.ScriptRules.{is_within}
use Rattle.lw_target.specs.declared.options.Options.{Options}
use Rattle.lw_program.specs.declared.words.CommandLine.{CommandLine}
use Rattle.lw_program.specs.declared.words.CommandLine.TheVariants.{Run, Walk, Check}

-- ---- options and their values

-- an option's name, and a value that was given for it
abbrev pub Given : Type 0
Given = List ℕ × List ℕ

abbrev pub option_names : List (List ℕ)
option_names = codes "scheduler" ∷ codes "reactors" ∷ codes "beside" ∷ codes "period" ∷ []

abbrev pub is_option : List ℕ → Bool
is_option name = list_any (λ n. bytes_eq n name) option_names

abbrev pub has_bytes : List ℕ → Bool
has_bytes [] = false
has_bytes (byte ∷ rest) = true

-- a word that has more behind a first hyphen (45) is no value
abbrev pub is_flag : List ℕ → Bool
is_flag word = option_map_or has_bytes (strip_byte 45 word) false

abbrev pub followed_by : Given → Option (List Given) → Option (List Given)
followed_by first = option_map (λ rest. first ∷ rest)

-- `--name=VALUE`, or `--name`, whose value is the next word
abbrev pub option_met : Option (List ℕ × Option (List ℕ)) → Option (List Given) → (List ℕ → Option (List Given)) → Option (List Given)
option_met None behind next = None
option_met (Some (name, Some value)) behind next = if is_option name then followed_by (name, value) behind else None
option_met (Some (name, None)) behind next = if is_option name then next name else None

-- the words as options with their values, where the first word is the value of a name that waits for one
abbrev pub given_from : Option (List ℕ) → List (List ℕ) → Option (List Given)
given_from None [] = Some []
given_from (Some name) [] = None
given_from (Some name) (word ∷ rest) = if is_flag word then None else followed_by (name, word) (given_from None rest)
given_from None (word ∷ rest) = option_met (long_of word) (given_from None rest) (λ name. given_from (Some name) rest)

-- the values that were given for an option, in order
abbrev pub values_of : List Given → List ℕ → List (List ℕ)
values_of given name = map (λ g. g.1) (filter (λ g. bytes_eq g.0 name) given)

-- ---- what the values say

abbrev pub scheduler_in : List ℕ → Option Scheduler
scheduler_in text = if bytes_eq text (codes "static") then Some Static else if bytes_eq text (codes "dynamic") then Some Dynamic else None

-- 1 to 20 digits, zeros in front allowed
abbrev pub is_numeral : List ℕ → Bool
is_numeral text = is_within 1 20 (length text) && list_all is_digit text

-- the number of a range that the digits write
abbrev pub number_in : ℕ → ℕ → List ℕ → Option ℕ
number_in least most text = if is_numeral text && is_within least most (digits_value 10 text) then Some (digits_value 10 text) else None

-- what an option says: its one value, or the default where it isn't given; given twice it says nothing
abbrev pub setting : {T : Type 0} → (List ℕ → Option T) → T → List (List ℕ) → Option T
setting read default [] = Some default
setting read default (value ∷ []) = read value
setting read default (value ∷ again ∷ rest) = None

-- the options, by the values of each
abbrev pub options_of : (List ℕ → List (List ℕ)) → Option Options
options_of values =
    option_and_then (λ scheduler. option_and_then (λ reactors. option_and_then (λ beside. option_map (λ period. record {
      scheduler = scheduler;
      reactors = reactors;
      beside = beside;
      period = period;
    }) (setting (number_in 1 1000000000000) 1000000 (values (codes "period"))))
    (setting (number_in 0 (reactors - 1)) 0 (values (codes "beside"))))
    (setting (number_in 1 16) 1 (values (codes "reactors"))))
    (setting scheduler_in Static (values (codes "scheduler")))

-- ---- commands

abbrev pub is_static : Scheduler → Bool
is_static Static = true
is_static Dynamic = false

-- the options that are words of the table so far
abbrev pub is_served_now : Options → Bool
is_served_now o = is_static o.scheduler && (o.reactors == 1 && o.beside == 0)

abbrev pub run_under : Options → Option CommandLine
run_under options = if is_served_now options then Some (Run options) else None

-- `run`, by the words behind it
abbrev pub run_by : List (List ℕ) → Option CommandLine
run_by words = option_and_then run_under (option_and_then (λ given. options_of (values_of given)) (given_from None words))

-- a command that takes no words
abbrev pub alone : CommandLine → List (List ℕ) → Option CommandLine
alone command [] = Some command
alone command (word ∷ rest) = None

-- the command that the words are, if any: the first word names it
abbrev pub command_of : List (List ℕ) → Option CommandLine
command_of [] = None
command_of (word ∷ rest) = if bytes_eq word (codes "run") then run_by rest else if bytes_eq word (codes "walk") then alone Walk rest else if bytes_eq word (codes "check") then alone Check rest else None

-- the command that the words of a call are
abbrev pub asked : {Z : Type 0} → List (String Z) → Option CommandLine
asked words = command_of (map string_bytes words)
