-- The first of several rules that fails.
use Rattle.std.proofs.Common.{◌≡◌, ◌↔◌, ℕ, ◌+◌, ◌<◌, ◌^◌, arith, drop, List, [], ◌∷◌, Option, Some, None, length, refl, sym, ap, ◌∙◌}
use Rattle.lw_model.specs.declared.record.Record.{Record}
use Rattle.lw_model.specs.Lawful.{Lawful}
use Rattle.lw_model.specs.Lines.{clock_line, device_line}
use Rattle.lw_model.specs.Verdict.{Test, first_failing, least_failing, rules, homes_and_hops, numbers, devices, visits_seen, rounds_and_orders, buffers_home, verdict}
use Rattle.lw_model.proofs.Judged.{verdict-exact}
use Rattle.lw_model.proofs.Printed.{parts}
use Rattle.lw_judge.specs.declared.answer.Verdict.{Verdict}
use Rattle.lw_judge.specs.declared.answer.Verdict.TheVariants as named
use Rattle.lw_judge.specs.Verdicts.{verdict_as}

-- what the least line of a rule makes of the rules behind it
abbrev chosen : ℕ → Option ℕ → Option (ℕ × ℕ) → Option (ℕ × ℕ)
chosen n o rest = elim o [ Some l ↦ Some (n, l) | None ↦ rest ]

-- the first rule fails
pub fails : (n : ℕ) (rule : Record → List Test) (rest : List (Record → List Test)) (r : Record) (o : Option ℕ) (line : ℕ) → o ≡ least_failing (rule r) → o ≡ Some line → first_failing n (rule ∷ rest) r ≡ Some (n, line)
fails n rule rest r o line is found = ap (λ q. chosen n q (first_failing (n + 1) rest r)) (sym is ∙ found)

-- the first rule holds
pub holds : (n : ℕ) (rule : Record → List Test) (rest : List (Record → List Test)) (r : Record) (o : Option ℕ) → o ≡ least_failing (rule r) → o ≡ None → first_failing n (rule ∷ rest) r ≡ first_failing (n + 1) rest r
holds n rule rest r o is none = ap (λ q. chosen n q (first_failing (n + 1) rest r)) (sym is ∙ none)

-- ---- A lawful record

pub lawful_is : (r : Record) (v : Verdict) → v ≡ verdict_as (verdict r) → (v ≡ named.Lawful) ↔ Lawful r
lawful_is r v is = at (verdict r) (verdict-exact r) is
  where
    at : (o : Option (ℕ × ℕ)) → (o ≡ None) ↔ Lawful r → v ≡ verdict_as o → (v ≡ named.Lawful) ↔ Lawful r
    at None exact is = (λ e. exact.0 refl, λ h. is)
    at (Some p) exact is = (λ e. absurd (apart (sym is ∙ e)), λ h. absurd (none (exact.1 h)))
      where
        apart : named.Unlawful p.0 p.1 ≡ named.Lawful → ⊥
        apart e = cc

        none : Some p ≡ None → ⊥
        none e = cc

-- what isn't there
pub none_of : {X : Type 0} (o : Option X) → ((x : X) → o ≡ Some x → ⊥) → o ≡ None
none_of None never = refl
none_of (Some x) never = absurd (never x refl)

-- ---- The first two rules

pub first_fails : (r : Record) (o : Option ℕ) (line : ℕ) → o ≡ least_failing (homes_and_hops r) → o ≡ Some line → verdict r ≡ Some (1, line)
first_fails r o line is found = fails 1 homes_and_hops (drop 1 rules) r o line is found

pub second_fails : (r : Record) (o p : Option ℕ) (line : ℕ) → o ≡ least_failing (homes_and_hops r) → o ≡ None → p ≡ least_failing (numbers r) → p ≡ Some line → verdict r ≡ Some (2, line)
second_fails r o p line first none second found =
    holds 1 homes_and_hops (drop 1 rules) r o first none ∙ fails 2 numbers (drop 2 rules) r p line second found

pub to_the_third : (r : Record) (o p : Option ℕ) → o ≡ least_failing (homes_and_hops r) → o ≡ None → p ≡ least_failing (numbers r) → p ≡ None → verdict r ≡ first_failing 3 (drop 2 rules) r
to_the_third r o p first none second nothing =
    holds 1 homes_and_hops (drop 1 rules) r o first none ∙ holds 2 numbers (drop 2 rules) r p second nothing

-- ---- The rules from the sixth on

-- the sixth fails
pub sixth_fails : (r : Record) (o : Option ℕ) (line : ℕ) → o ≡ least_failing (devices r) → o ≡ Some line → first_failing 6 (drop 5 rules) r ≡ Some (6, line)
sixth_fails r o line is found = fails 6 devices (drop 6 rules) r o line is found

-- the sixth holds, and the seventh
pub to_the_eighth : (r : Record) (o p : Option ℕ) → o ≡ least_failing (devices r) → o ≡ None → p ≡ least_failing (visits_seen r) → p ≡ None → first_failing 6 (drop 5 rules) r ≡ first_failing 8 (drop 7 rules) r
to_the_eighth r o p sixth none seventh nothing =
    holds 6 devices (drop 6 rules) r o sixth none ∙ holds 7 visits_seen (drop 7 rules) r p seventh nothing

pub eighth_fails : (r : Record) (o : Option ℕ) (line : ℕ) → o ≡ least_failing (rounds_and_orders r) → o ≡ Some line → first_failing 8 (drop 7 rules) r ≡ Some (8, line)
eighth_fails r o line is found = fails 8 rounds_and_orders (drop 8 rules) r o line is found

pub eighth_holds : (r : Record) (o : Option ℕ) → o ≡ least_failing (rounds_and_orders r) → o ≡ None → first_failing 8 (drop 7 rules) r ≡ first_failing 9 (drop 8 rules) r
eighth_holds r o is none = holds 8 rounds_and_orders (drop 8 rules) r o is none

pub ninth_fails : (r : Record) (o : Option ℕ) (line : ℕ) → o ≡ least_failing (buffers_home r) → o ≡ Some line → first_failing 9 (drop 8 rules) r ≡ Some (9, line)
ninth_fails r o line is found = fails 9 buffers_home [] r o line is found

pub ninth_holds : (r : Record) (o : Option ℕ) → o ≡ least_failing (buffers_home r) → o ≡ None → first_failing 9 (drop 8 rules) r ≡ None
ninth_holds r o is none = holds 9 buffers_home [] r o is none

-- the devices' lines are lines
pub devices_fit : (r : Record) (first : ℕ) → first ≡ device_line r 0 → clock_line r < 2 ^ 64 → first + length r.script.images < 2 ^ 64
devices_fit r first is few = omega (arith, is, few, (parts r).devices)
