-- What one client has to have seen.
use Rattle.std.specs.Prelude.{ℕ, Bool, List, Option, Some, map, filter_map}
use Rattle.lw_base.specs.declared.message.Tag.{Tag}
use Rattle.lw_model.specs.declared.record.Record.{Record}
use Rattle.lw_model.specs.declared.record.Seen.{Seen}
use Rattle.lw_model.specs.Threads.{ran_of}
use Rattle.lw_model.specs.Lines.{thread_line, seen_line}
use Rattle.lw_model.specs.Lawful.{seen_by, seen_of}
use Rattle.lw_model.specs.Same.{is_same_seen}
use Rattle.lw_model.specs.Verdict.{Test, against}
use Rattle.lw_judge_threads.specs.AgainstAt.{wanted_tests}

-- the `seen` lines that are owed to client t for the completions among these messages
abbrev pub wanted_seen : Record → ℕ → List Tag → List (Option Seen)
wanted_seen r t ran = map (λ x. Some x) (filter_map (seen_by r t) ran)

-- the tests of a client's `seen` lines
abbrev pub client_tests : Record → ℕ → List Test
client_tests r t = against is_same_seen (thread_line r t) (seen_line r t 0) (wanted_seen r t (ran_of r t)) (seen_of r t)

-- the same of the messages so far, as whether each wanted line is there
abbrev pub tests_behind : Record → ℕ → List Tag → List Seen → List Bool
tests_behind r t ran seen = wanted_tests is_same_seen (wanted_seen r t ran) seen
