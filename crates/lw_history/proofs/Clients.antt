-- A client that has done all its ops and closed leaves the log of a thread that ended.
use Rattle.std.proofs.Common.{◌≡◌, ℕ, ◌==◌, nat_lt, nat_le, Bool, true, false, List, [], ◌∷◌, length, refl, sym, ap, ◌∙◌, arith}
use Rattle.std.specs.List.{list_all}
use Rattle.std.proofs.lemmas.Bool.{and_parts, ltb-true, leb-true, le-ltb, eqb-true, false≢true, false_from_ne_true}
use Rattle.lw_base.specs.declared.moves.Hop.{Hop}
use Rattle.lw_model.specs.declared.script.Script.{Script}
use Rattle.lw_model.specs.declared.record.RoleKind.TheVariants as role
use Rattle.lw_model.specs.Threads.{is_client, is_owner}
use Rattle.lw_model.specs.OwnOrder.{with_past}
use Rattle.lw_whole.specs.Letters.{Note}
use Rattle.lw_whole.specs.Logs.{Log}
use Rattle.lw_whole.specs.Lines.{client_line_fits}
use Rattle.lw_whole.specs.Threads.{AppEnded, ClientEnded, OwnerEnded}
use Rattle.lw_history.specs.Histories.{Event, ran, did, called, ended, past_of, log_of}
use Rattle.lw_history.specs.Fitting.{ClientFits, EachFits}
use Rattle.lw_history.specs.Leaving.{ClientDone, IsLeft}
use Rattle.lw_history.proofs.InOrder.{BothFits, client_fits_both, Along, all_along}
use Rattle.lw_history.proofs.Ending.{in_order, ended_as}

module _ (s : Script) (t : ℕ) where
  lines_along : (h : List Event) → EachFits (ClientFits s t) h → Along (client_line_fits s t) (past_of h)
  lines_along [] fits = tt
  lines_along (ran x now ∷ before) fits = (refl, lines_along before fits.1)
  lines_along (did x now ∷ before) fits = (fits.0.fits, lines_along before fits.1)
  lines_along (called x ∷ before) fits = lines_along before fits.1
  lines_along (ended now ∷ before) fits = lines_along before fits.1

  within : is_client s t ≡ true → (nat_lt 0 t ≡ true) × (nat_le t (length s.clients) ≡ true)
  within is = and_parts (nat_lt 0 t) (nat_le t (length s.clients)) is

  not_app : is_client s t ≡ true → (t == 0) ≡ false
  not_app is = false_from_ne_true (t == 0) (λ e. omega (arith, eqb-true t 0 e, ltb-true 0 t (within is).0))

  not_owner : is_client s t ≡ true → is_owner s t ≡ false
  not_owner is = le-ltb (length s.clients) t (leb-true t (length s.clients) (within is).1)

  module _ (home : ℕ) (hops : List Hop) (h : List Event) (own : List Note) (is : ClientDone s t h own) where
    abbrev log : Log
    log = log_of t role.Client home hops h own []

    both : EachFits (BothFits s t) h
    both = client_fits_both s t is.client h is.fits

    client_ended : ClientEnded s t log
    client_ended = record {
      count = is.count;
      fit = ap (λ xs. list_all (λ p. client_line_fits s t p.0 p.1) (with_past [] xs)) (in_order s t role.Client home hops h own [] both) ∙ all_along (client_line_fits s t) (past_of h) (lines_along h is.fits);
      replies = refl;
      seen = refl;
      row = refl;
    }

    abbrev RoleAs : Bool → Bool → Type 0
    RoleAs a b = elim a [ true ↦ AppEnded s log | false ↦ elim b [ true ↦ ClientEnded s t log | false ↦ OwnerEnded log ] ]

    role_is : (a b : Bool) → a ≡ false → b ≡ true → RoleAs a b
    role_is true b e f = absurd (false≢true (sym e))
    role_is false true e f = client_ended
    role_is false false e f = absurd (false≢true f)

    leaves_log : IsLeft s t log
    leaves_log = record {
      ended = ended_as s t role.Client home hops h own [] both (not_owner is.client) is.ends (λ client. is.with_row) is.keeps (role_is (t == 0) (is_client s t) (not_app is.client) is.client);
      role = record { role = is.client; replies = λ e. absurd (false≢true (sym e ∙ is.client)); seen = λ e. absurd (false≢true (sym e ∙ is.client)) };
    }

pub clients_leave_logs : (s : Script) (t home : ℕ) (hops : List Hop) (h : List Event) (own : List Note) → ClientDone s t h own → IsLeft s t (log_of t role.Client home hops h own [])
clients_leave_logs s t home hops h own is = leaves_log s t home hops h own is
