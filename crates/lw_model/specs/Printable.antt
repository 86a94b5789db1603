-- A record that has a text, over its fields.
use Rattle.std.specs.Prelude.{ℕ, ◌+◌, Bool, true, false, ◌&&◌, ◌==◌, not, nat_lt, List, [], ◌∷◌, length, is_none, is_some, Option}
use Rattle.std.specs.List.{list_all, enumerate_from}
use Rattle.lw_model.specs.declared.script.Script.{Script}
use Rattle.lw_base.specs.declared.message.What.{What}
use Rattle.lw_base.specs.declared.message.What.TheVariants as what
use Rattle.lw_base.specs.declared.moves.Scheduler.{Scheduler}
use Rattle.lw_base.specs.declared.moves.Scheduler.TheVariants.{Static, Dynamic}
use Rattle.lw_model.specs.declared.record.ThreadRecord.{ThreadRecord}
use Rattle.lw_model.specs.declared.record.RoleKind.{RoleKind}
use Rattle.lw_model.specs.declared.record.RoleKind.TheVariants.{App, Client, Owner}
use Rattle.lw_model.specs.declared.record.Replied.{Replied}
use Rattle.lw_model.specs.declared.record.Replied.TheVariants as replied
use Rattle.lw_model.specs.declared.record.SeenBy.{SeenBy}
use Rattle.lw_model.specs.declared.record.SeenBy.TheVariants as seen
use Rattle.lw_base.specs.declared.ends.DeviceEnd.{DeviceEnd}
use Rattle.lw_model.specs.declared.record.Span.{Span}
use Rattle.lw_base.specs.declared.moves.Round.{Round}
use Rattle.lw_model.specs.ScriptRules.{rule_broken, is_within}

abbrev pub is_empty : {A : Type 0} → List A → Bool
is_empty [] = true
is_empty (x ∷ xs) = false

-- the app is thread 0, the clients follow, and then the owners
abbrev pub has_role : ℕ → ℕ → RoleKind → Bool
has_role clients n App = n == 0
has_role clients n Client = is_within 1 clients n
has_role clients n Owner = nat_lt clients n

abbrev pub has_a_line : What → Bool
has_a_line (what.Arrive round thread) = false
has_a_line (what.Order round thread to) = false
has_a_line _ = true

abbrev pub has_bytes : Replied → Bool
has_bytes (replied.Bytes bytes) = not (is_empty bytes)
has_bytes _ = true

abbrev pub has_results : SeenBy → Bool
has_results (seen.Cast threads) = not (is_empty threads)
has_results (seen.Visit marks) = true

abbrev pub is_clients_alone : ThreadRecord → Bool
is_clients_alone t = is_empty t.replies && is_empty t.seen

abbrev pub may_reply : RoleKind → ThreadRecord → Bool
may_reply Client t = list_all (λ r. has_bytes r.answer) t.replies && list_all (λ s. has_results s.results) t.seen
may_reply _ t = is_clients_alone t

abbrev pub is_printable_thread : Script → ℕ → ThreadRecord → Bool
is_printable_thread s n t =
    has_role (length s.clients) n t.role
    && may_reply t.role t
    && list_all (λ m. has_a_line m.what) t.ran
    && list_all (λ c. nat_lt c.device (length s.images)) t.called

abbrev pub has_rounds : Scheduler → Option Span → List Round → Bool
has_rounds Static span rounds = is_none span && is_empty rounds
has_rounds Dynamic span rounds = is_some span

abbrev pub is_printable : Script → Scheduler → ℕ → ℕ → List ThreadRecord → List DeviceEnd → Option Span → List Round → Bool
is_printable s scheduler reactors period threads devices span rounds =
    is_none (rule_broken s)
    && is_within 1 16 reactors
    && is_within 1 1000000000000 period
    && length threads == 1 + length s.clients + length s.images
    && list_all (λ p. is_printable_thread s p.0 p.1) (enumerate_from 0 threads)
    && length devices == length s.images
    && has_rounds scheduler span rounds
