-- The verdict of a record: the least rule that fails, and the first line at which it does.
-- Each rule here is a list of tests, each with the line at which it fails.
use Rattle.std.specs.Prelude.{ℕ, ◌+◌, ◌≤◌, ◌≡◌, ◌==◌, nat_lt, nat_le, min, Bool, false, cond, ◌&&◌, ◌||◌, not, List, [], ◌∷◌, ◌++◌, length, map, filter, Option, Some, None, slice_get, filter_map, count_by, reverse, ◌⊎◌, IsTrue}
use Rattle.std.specs.List.{list_all, list_any, flat_map, enumerate_from, range_with_len, AllByRecursion}
use lib.Pointwise.{pointwise}
use Rattle.lw_base.specs.declared.message.Tag.{Tag}
use Rattle.lw_model.specs.declared.record.Record.{Record}
use Rattle.lw_model.specs.declared.record.Span.{Span}
use Rattle.lw_base.specs.declared.moves.Round.{Round}
use Rattle.lw_model.specs.Threads.{threads, clients, images, is_on, ran_of, did_of}
use Rattle.lw_model.specs.declared.step.Step.{Step}
use Rattle.lw_model.specs.declared.step.Step.TheVariants as step
use Rattle.lw_model.specs.OwnOrder.{own_order_of, with_past, history}
use Rattle.lw_model.specs.Holding.{says}
use Rattle.lw_model.specs.Sent.{sent, run_of, tokens, must_run}
use Rattle.lw_base.specs.Plan.{free_plan}
use Rattle.lw_base.specs.Limits.{standard}
use Rattle.lw_model.specs.Lines.{thread_line, hop_line, ran_line, did_line, called_line, reply_line, seen_line, device_line, clock_line, round_line, round_size, home_line}
use Rattle.lw_model.specs.Same.{both, is_same_what, is_same_reply, is_same_seen, is_same_order, is_same_pair, is_same_numbers}
use Rattle.lw_model.specs.Moves.{home_of, first_reactor, hops_of, hop_fits, number_fits}
use Rattle.lw_model.specs.Answers.{did_fits, wanted, at_fits, did_ats, called_ats}
use Rattle.lw_model.specs.Lawful.{has_run, is_first_run, replied_ops, replies_of, owed, seen_by, seen_of}
use Rattle.lw_model.specs.Devices.{device_at, over_steps, ordinal_on, began_on, called_on, callback_fits, refusal_fits, is_refusal}
use Rattle.lw_model.specs.Rounds.{round_fits, row_fits, time_before}

-- a line, and whether the rule holds there
abbrev pub Test : Type 0
Test = ℕ × Bool

-- a test of each item of a list with its past, at the line of its place
abbrev pub each_line : {X : Type 0} → (ℕ → ℕ) → (List X → X → Bool) → List X → List Test
each_line line fits xs = map (λ p. (line p.0, fits p.1.0 p.1.1)) (enumerate_from 0 (with_past [] xs))

-- a test of the items of one list against those of another, from `line` on; where one lacks, the line `last` fails
abbrev pub against : {X : Type 0} → (X → X → Bool) → ℕ → ℕ → List (Option X) → List X → List Test
against same last line [] [] = []
against same last line (w ∷ wanted) [] = (last, false) ∷ []
against same last line [] (x ∷ found) = (line, false) ∷ against same last (line + 1) [] found
against same last line (w ∷ wanted) (x ∷ found) = (line, both same w (Some x)) ∷ against same last (line + 1) wanted found

-- the tests of all threads
abbrev pub each_thread : Record → (ℕ → List Test) → List Test
each_thread r tests = flat_map tests (threads r.script)

-- the tests of all clients
abbrev pub each_client : Record → (ℕ → List Test) → List Test
each_client r tests = flat_map tests (clients r.script)

-- Homes and hops, by `thread` and `hop` lines
abbrev pub homes_and_hops : Record → List Test
homes_and_hops r = each_thread r (λ t. (thread_line r t, home_of r t == first_reactor r t) ∷ each_line (hop_line r t) (hop_fits r t) (hops_of r t))

-- Numbers, by `ran` lines
abbrev pub numbers : Record → List Test
numbers r = each_thread r (λ t. each_line (ran_line r t) number_fits (ran_of r t))

-- a `did` line of thread t is tested where it stands in own order
abbrev pub step_test : Record → ℕ → List Step → Step → List Test
step_test r t past (step.Did i x) = (did_line r t i, did_fits r t past i x) ∷ []
step_test r t past _ = []

-- Answers, by `did` and `called` lines; a lack fails at the `thread` line
abbrev pub answers : Record → List Test
answers r = each_thread r (λ t. (thread_line r t, nat_le (wanted r t) (length (did_of r t)))
    ∷ (each_line (did_line r t) (at_fits (length (ran_of r t))) (did_ats r t)
    ++ each_line (called_line r t) (at_fits (length (ran_of r t))) (called_ats r t)
    ++ flat_map (λ p. step_test r t p.0 p.1) (history r t)))

-- what thread t ran is the element of the sent list at its number
abbrev pub is_sent_to : Record → ℕ → Tag → Bool
is_sent_to r t m = both is_same_what (slice_get (sent r m.sender t) m.number) (Some m.what)

-- thread t ran all that was sent to it, and each token that it must run
abbrev pub lacks_none : Record → ℕ → Bool
lacks_none r t = list_all (λ s. nat_le (length (sent r s t)) (length (run_of r s t))) (threads r.script)
    && list_all (λ w. not (must_run r.script w t) || has_run r w t) (tokens r)

-- Ran is sent, by `ran` lines; a lack fails at the `thread` line
abbrev pub ran_is_sent : Record → List Test
ran_is_sent r = each_thread r (λ t. (thread_line r t, lacks_none r t) ∷ each_line (ran_line r t) (λ past m. is_sent_to r t m && is_first_run past m) (ran_of r t))

-- Replies, by `reply` lines; a lack fails at the `thread` line
abbrev pub replies : Record → List Test
replies r = each_client r (λ t. against is_same_reply (thread_line r t) (reply_line r t 0) (map (owed r t) (replied_ops r t)) (replies_of r t))

-- each number below the length stands in the list once
abbrev pub is_numbering : List ℕ → Bool
is_numbering ns = list_all (λ n. count_by (λ m. m == n) ns == 1) (range_with_len 0 (length ns))

-- where the app unregistered device d, client t has no line that tells of a shut device
abbrev pub app_refuses_none : Record → ℕ → ℕ → Bool
app_refuses_none r d t = not ((device_at r d).thread == 0) || not (list_any (says (is_on r.script t d) is_refusal) (own_order_of r t))

-- the tests of device d, all at its line
abbrev pub device_tests : Record → ℕ → ℕ → List Test
device_tests r d line =
    (line, length (over_steps r (ordinal_on r d)) == (device_at r d).given)
    ∷ (line, is_numbering (over_steps r (ordinal_on r d)))
    ∷ (line, pointwise is_same_pair (over_steps r (began_on r d)) (((device_at r d).thread, (device_at r d).given) ∷ []))
    ∷ (line, is_same_numbers (over_steps r (called_on r d)) ((device_at r d).thread ∷ []))
    ∷ (line, (device_at r d).callbacks == 1)
    ∷ (each_thread r (λ t. (line, list_all (λ p. callback_fits r d t p.0 p.1) (history r t)) ∷ [])
    ++ each_thread r (λ t. (line, list_all (λ p. refusal_fits r d t p.0 p.1) (history r t)) ∷ [])
    ++ each_client r (λ t. (line, app_refuses_none r d t) ∷ []))

-- Devices, by `device` lines
abbrev pub devices : Record → List Test
devices r = flat_map (λ d. device_tests r d (device_line r d)) (images r.script)

-- Visits seen, by `seen` lines; a lack fails at the `thread` line
abbrev pub visits_seen : Record → List Test
visits_seen r = each_client r (λ t. against is_same_seen (thread_line r t) (seen_line r t 0) (map (λ x. Some x) (filter_map (seen_by r t) (ran_of r t))) (seen_of r t))

-- the tests of a round whose line is `line`; a missing order fails at the line after the round
abbrev pub round_tests : Record → Span → ℕ → List Round → Round → List Test
round_tests r span line past x = (line, round_fits r.period span past x)
    ∷ (each_line (λ i. line + 1 + i) (row_fits r) x.rows
    ++ against is_same_order (line + round_size x) (line + 1 + length x.rows) (map (λ o. Some o) (free_plan standard r.reactors x.rows)) x.orders)

-- the tests of a dynamic run; a round that is overdue fails at the `home` line
abbrev pub clock_tests : Record → Span → List Test
clock_tests r span = (clock_line r, nat_le span.first span.last)
    ∷ (home_line r, not (nat_lt (length r.rounds) 10000) || nat_lt span.last (time_before span.first (reverse r.rounds) + r.period))
    ∷ flat_map (λ p. round_tests r span (round_line r p.0) p.1.0 p.1.1) (enumerate_from 0 (with_past [] r.rounds))

-- Rounds and orders; a static run has none
abbrev pub rounds_and_orders : Record → List Test
rounds_and_orders r = elim r.span [ None ↦ [] | Some span ↦ clock_tests r span ]

-- Buffers home, by the `home` line
abbrev pub buffers_home : Record → List Test
buffers_home r = (home_line r, r.home.small == r.script.small && r.home.large == r.script.large) ∷ []

-- the nine rules, in order
abbrev pub rules : List (Record → List Test)
rules = homes_and_hops ∷ numbers ∷ answers ∷ ran_is_sent ∷ replies ∷ devices ∷ visits_seen ∷ rounds_and_orders ∷ buffers_home ∷ []

-- the least line among those that fail
abbrev pub least_failing : List Test → Option ℕ
least_failing [] = None
least_failing (e ∷ rest) = cond e.1 (least_failing rest) (elim (least_failing rest) [ None ↦ Some e.0 | Some l ↦ Some (min e.0 l) ])

-- the first rule that fails, numbered from n, with its line
abbrev pub first_failing : ℕ → List (Record → List Test) → Record → Option (ℕ × ℕ)
first_failing n [] r = None
first_failing n (rule ∷ rest) r = elim (least_failing (rule r)) [ Some l ↦ Some (n, l) | None ↦ first_failing (n + 1) rest r ]

-- the first rule that fails and its first line, or none
abbrev pub verdict : Record → Option (ℕ × ℕ)
verdict r = first_failing 1 rules r

-- The same as a relation.

-- the lines at which tests fail
abbrev pub failing : List Test → List ℕ
failing ts = map (λ e. e.0) (filter (λ e. not e.1) ts)

-- `line` is the least of these lines
pub record IsLeast (lines : List ℕ) (line : ℕ) : Type 0 where
  pub stands : IsTrue (list_any (λ l. l == line) lines)
  pub least : AllByRecursion (λ l. line ≤ l) lines

-- of the rules of a list, numbered from n, `clause` is the first that fails, and `line` the first line at which it does
abbrev pub FailsFirst : ℕ → List (Record → List Test) → Record → ℕ → ℕ → Type 0
FailsFirst n [] r clause line = ⊥
FailsFirst n (rule ∷ rest) r clause line = ((clause ≡ n) × IsLeast (failing (rule r)) line) ⊎ ((failing (rule r) ≡ []) × FailsFirst (n + 1) rest r clause line)

-- the same of the nine rules
abbrev pub IsVerdict : Record → ℕ → ℕ → Type 0
IsVerdict r clause line = FailsFirst 1 rules r clause line
