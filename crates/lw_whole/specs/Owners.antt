-- What an owner keeps of its log while it runs: the letters that it ran, the latest first, and what each of them sent.
use Rattle.std.specs.Prelude.{ℕ, ◌+◌, ◌≡◌, List, [], ◌∷◌, ◌++◌, map, reverse, length}
use Rattle.lw_base.specs.declared.message.What.TheVariants as what
use Rattle.lw_base.specs.declared.moves.Hop.{Hop}
use Rattle.lw_model.specs.declared.script.Script.{Script}
use Rattle.lw_model.specs.declared.record.RoleKind.TheVariants as role
use Rattle.lw_model.specs.declared.step.Step.{Step}
use Rattle.lw_model.specs.declared.step.Step.TheVariants as step
use Rattle.lw_whole.specs.Letters.{Letter, Note}
use Rattle.lw_whole.specs.Logs.{Log}
use Rattle.lw_whole.specs.Sends.{Replies}
use Rattle.lw_whole.specs.Tokens.{GoesOn, load_behind}

-- the steps of a thread that does nothing but run messages, the latest first
abbrev pub steps_run : List Letter → List Step
steps_run [] = []
steps_run (x ∷ before) = step.Ran (length before) x.tag ∷ steps_run before

-- what owner t, which ran the letters of `before`, sends when it runs this one
abbrev pub Serves : Script → ℕ → List Letter → Letter → List (ℕ × Letter) → Type 0
Serves s t before x now = elim x.tag.what [
  | what.Request k ↦ Replies s t (steps_run before) x.tag k now
  | what.Visit o k d ↦ GoesOn s (what.Visit o k d) (t + 1) (load_behind s t (steps_run before) (what.Visit o k d) x.load) now
  | what.Cast o k ↦ GoesOn s (what.Cast o k) (t + 1) (load_behind s t (steps_run before) (what.Cast o k) x.load) now
  | _ ↦ now ≡ []
]

-- each of these letters, the latest first, sent what stands at its place
abbrev pub Served : Script → ℕ → List Letter → List (List (ℕ × Letter)) → Type 0
Served s t [] [] = Unit {0}
Served s t (x ∷ before) (now ∷ sends) = Serves s t before x now × Served s t before sends
Served s t _ _ = ⊥

-- all that was sent by these, the first first
abbrev pub all_served : List (List (ℕ × Letter)) → List (ℕ × Letter)
all_served [] = []
all_served (now ∷ sends) = all_served sends ++ now

-- the log of an owner that began on this reactor, made these hops, ran these letters, the latest first, and sent these; its row
-- is as its own calls left it
abbrev pub owner_log : ℕ → List Hop → List Letter → List (List (ℕ × Letter)) → List Note → Log
owner_log home hops runs sends notes = record {
  lines = record { role = role.Owner; home = home; hops = hops; ran = map (λ x. x.tag) (reverse runs); did = []; called = []; replies = []; seen = [] };
  ran = reverse runs;
  sends = reverse sends;
  last = [];
  stood = [];
  own = notes;
  row = notes;
}
