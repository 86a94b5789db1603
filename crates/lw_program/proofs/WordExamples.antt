-- What some lists of words ask for, worked out by hand.
use Rattle.std.proofs.Common.{◌≡◌, ℕ, List, [], ◌∷◌, codes, Option, Some, None, refl}
use Rattle.lw_base.specs.declared.moves.Scheduler.TheVariants.{Static, Dynamic}
use Rattle.lw_target.specs.declared.options.Options.{Options}
use Rattle.lw_program.specs.declared.words.CommandLine.{CommandLine}
use Rattle.lw_program.specs.declared.words.CommandLine.TheVariants.{Run, Check}
use Rattle.lw_program.specs.Words.{command_of, given_from, options_of, values_of}

-- `run` with a period and the defaults of the others
abbrev run_at : ℕ → Option CommandLine
run_at period = Some (Run (record { scheduler = Static; reactors = 1; beside = 0; period = period }))

no_words : command_of [] ≡ None
no_words = refl

one_word : command_of (codes "run" ∷ []) ≡ run_at 1000000
one_word = refl

two_forms : command_of (codes "run" ∷ codes "--period" ∷ codes "5" ∷ codes "--scheduler=static" ∷ []) ≡ run_at 5
two_forms = refl

all_options : command_of (codes "run" ∷ codes "--beside=000" ∷ codes "--reactors" ∷ codes "01" ∷ codes "--period" ∷ codes "00000000001000000000" ∷ []) ≡ run_at 1000000000
all_options = refl

too_many_digits : command_of (codes "run" ∷ codes "--period" ∷ codes "000000000000000000005" ∷ []) ≡ None
too_many_digits = refl

given_twice : command_of (codes "run" ∷ codes "--period" ∷ codes "5" ∷ codes "--period=5" ∷ []) ≡ None
given_twice = refl

no_value : command_of (codes "run" ∷ codes "--period" ∷ []) ≡ None
no_value = refl

empty_value : command_of (codes "run" ∷ codes "--period=" ∷ []) ≡ None
empty_value = refl

option_for_value : command_of (codes "run" ∷ codes "--period" ∷ codes "--reactors=1" ∷ []) ≡ None
option_for_value = refl

past_the_range : command_of (codes "run" ∷ codes "--period" ∷ codes "1000000000001" ∷ []) ≡ None
past_the_range = refl

a_mark : command_of (codes "run" ∷ codes "--" ∷ []) ≡ None
a_mark = refl

another_option : command_of (codes "run" ∷ codes "--help" ∷ []) ≡ None
another_option = refl

front_of_a_name : command_of (codes "run" ∷ codes "--peri" ∷ codes "5" ∷ []) ≡ None
front_of_a_name = refl

word_behind : command_of (codes "run" ∷ codes "5" ∷ []) ≡ None
word_behind = refl

option_first : command_of (codes "--period" ∷ codes "5" ∷ codes "run" ∷ []) ≡ None
option_first = refl

check_alone : command_of (codes "check" ∷ []) ≡ Some Check
check_alone = refl

check_an_option : command_of (codes "check" ∷ codes "--period=5" ∷ []) ≡ None
check_an_option = refl

-- what words say beyond what is served so far
abbrev options_by : List (List ℕ) → Option Options
options_by words = elim (given_from None words) [ Some given ↦ options_of (values_of given) | None ↦ None ]

several_reactors : options_by (codes "--reactors=16" ∷ codes "--beside" ∷ codes "15" ∷ codes "--scheduler" ∷ codes "dynamic" ∷ [])
    ≡ Some (record { scheduler = Dynamic; reactors = 16; beside = 15; period = 1000000 })
several_reactors = refl

all_beside : options_by (codes "--reactors=16" ∷ codes "--beside" ∷ codes "16" ∷ []) ≡ None
all_beside = refl
