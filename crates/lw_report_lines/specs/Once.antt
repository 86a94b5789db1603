-- The lines that stand once in a report, by what they are.
use Rattle.std.specs.Prelude.{ℕ, List, codes, if◌then◌else◌, is_some, Option, Some, None}
use Rattle.lw_base.specs.declared.ends.Home.{Home}
use Rattle.lw_base.specs.Words.{greatest_u64}
use Rattle.lw_report_lines.specs.declared.single.FixedLine.{FixedLine}
use Rattle.lw_report_lines.specs.declared.single.FixedLine.TheVariants.{Title, End}
use Rattle.lw_report_lines.specs.declared.single.NumberLine.{NumberLine}
use Rattle.lw_report_lines.specs.declared.single.NumberLine.TheVariants.{Period, Images, Clients}
use Rattle.lw_report_lines.specs.declared.single.PairLine.{PairLine}
use Rattle.lw_report_lines.specs.declared.single.PairLine.TheVariants.{Pool, Left}
use Rattle.lw_report_lines.specs.LineKinds.{text_in, number_in, pair_in}

abbrev pub fixed_text : FixedLine → List ℕ
fixed_text Title = codes "lightrun report 1"
fixed_text End = codes "end"

-- a line that is always the same
abbrev pub fixed_in : FixedLine → List ℕ → Option FixedLine
fixed_in k l = if is_some (text_in (fixed_text k) l) then Some k else None

abbrev pub number_word : NumberLine → List ℕ
number_word Period = codes "period"
number_word Images = codes "images"
number_word Clients = codes "clients"

abbrev pub number_least : NumberLine → ℕ
number_least Period = 1
number_least Images = 0
number_least Clients = 0

abbrev pub number_most : NumberLine → ℕ
number_most Period = 1000000000000
number_most Images = greatest_u64
number_most Clients = greatest_u64

-- a word and a number within its limits
abbrev pub number_of_in : NumberLine → List ℕ → Option ℕ
number_of_in k l = number_in (number_word k) (number_least k) (number_most k) l

abbrev pub pair_word : PairLine → List ℕ
pair_word Pool = codes "pool"
pair_word Left = codes "home"

-- a word and the pool's two counts
abbrev pub pair_of_in : PairLine → List ℕ → Option Home
pair_of_in k l = pair_in (pair_word k) l

-- how many reactors there are
abbrev pub reactors_in : List ℕ → Option ℕ
reactors_in l = number_in (codes "reactors") 1 16 l
