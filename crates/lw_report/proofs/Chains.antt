-- Lists of lines that are read one behind the other.
use Rattle.std.proofs.Common.{◌≡◌, ℕ, List, Result, Ok, Err, Some, is_none, if◌then◌else◌, ap, ◌∙◌}
use Rattle.lw_model.specs.declared.script.ImageOf.{ImageOf}
use Rattle.lw_model.specs.declared.script.ClientOf.{ClientOf}
use Rattle.lw_base.specs.declared.ends.Home.{Home}
use Rattle.lw_model.specs.declared.refusal.ScriptRefusal.{ScriptRefusal}
use Rattle.lw_model.specs.ScriptRules.{rule_broken}
use Rattle.lw_report_lines.specs.declared.single.NumberLine.TheVariants.{Images, Clients}
use Rattle.lw_report_lines.specs.declared.single.PairLine.TheVariants.{Pool}
use Rattle.lw_report_lines.specs.Once.{pair_of_in}
use Rattle.lw_base.specs.declared.message.Tag.{Tag}
use Rattle.lw_model.specs.declared.record.ThreadRecord.{ThreadRecord}
use Rattle.lw_model.specs.declared.record.RoleKind.{RoleKind}
use Rattle.lw_model.specs.declared.record.RoleKind.TheVariants.{Client}
use Rattle.lw_base.specs.declared.moves.Hop.{Hop}
use Rattle.lw_model.specs.declared.record.Did.{Did}
use Rattle.lw_model.specs.declared.record.Called.{Called}
use Rattle.lw_model.specs.declared.record.Reply.{Reply}
use Rattle.lw_model.specs.declared.record.Seen.{Seen}
use Rattle.lw_report_lines.specs.LineKinds.{image_in, hop_in, ran_in, did_in, called_in, reply_in, seen_in}
use Rattle.lw_report.specs.Machine.{State, ◌>>=◌, one, many}
use Rattle.lw_report.specs.Report.{accepted, client_at, client_lines, list_at, script_at, thread_lines}

pub own_lines : (s t u : State) (replies : List Reply) (seen : List Seen) → (replies, t) ≡ many reply_in s → (seen, u) ≡ many seen_in t → ((replies, seen), u) ≡ client_lines Client s
own_lines s t u replies seen e f =
    ap (λ (q : List Seen × State). ((replies, q.0), q.1)) f
    ∙ ap (λ (p : List Reply × State). ((p.0, (many seen_in p.1).0), (many seen_in p.1).1)) e

module _ (role : RoleKind) (home images : ℕ) where
  -- a thread of these lists
  abbrev pub thread : List Hop → List Tag → List Did → List Called → (List Reply × List Seen) × State → ThreadRecord × State
  thread hops ran did called own = (record { role = role; home = home; hops = hops; ran = ran; did = did; called = called; replies = own.0.0; seen = own.0.1 }, own.1)

  pub thread_of_lines : (s a b c d : State) (hops : List Hop) (ran : List Tag) (did : List Did) (called : List Called) (own : (List Reply × List Seen) × State)
      → (hops, a) ≡ many hop_in s → (ran, b) ≡ many ran_in a → (did, c) ≡ many did_in b → (called, d) ≡ many (called_in images) c → own ≡ client_lines role d
      → thread hops ran did called own ≡ thread_lines role home images s
  thread_of_lines s a b c d hops ran did called own e1 e2 e3 e4 e5 =
      ap (thread hops ran did called) e5
      ∙ ap (λ (p : List Called × State). thread hops ran did p.0 (client_lines role p.1)) e4
      ∙ ap (λ (p : List Did × State). let q = many (called_in images) p.1 in thread hops ran p.0 q.0 (client_lines role q.1)) e3
      ∙ ap (λ (p : List Tag × State). let r = many did_in p.1 in let q = many (called_in images) r.1 in thread hops p.0 r.0 q.0 (client_lines role q.1)) e2
      ∙ ap (λ (p : List Hop × State). let t = many ran_in p.1 in let r = many did_in t.1 in let q = many (called_in images) r.1 in thread p.0 t.0 r.0 q.0 (client_lines role q.1)) e1

-- a script that breaks a rule makes the line behind it bad
pub script_refused : (s a b c : State) (pool : Home) (images : List ImageOf) (clients : List ClientOf) (r : ScriptRefusal)
    → one (pair_of_in Pool) s ≡ Ok (pool, a) → list_at Images (λ n. one image_in) a ≡ Ok (images, b) → list_at Clients (λ n. client_at) b ≡ Ok (clients, c)
    → rule_broken (record { images = images; clients = clients; small = pool.small; large = pool.large }) ≡ Some r → script_at s ≡ Err c.line
unfolding script_at
script_refused s a b c pool images clients r e1 e2 e3 broken =
    ap (λ (q : Result (Home × State) ℕ). q >>= (λ p. list_at Images (λ n. one image_in) p.1 >>= (λ i. list_at Clients (λ n. client_at) i.1 >>= (λ k. accepted (record { images = i.0; clients = k.0; small = p.0.small; large = p.0.large }) k.1)))) e1
    ∙ ap (λ (q : Result (List ImageOf × State) ℕ). q >>= (λ i. list_at Clients (λ n. client_at) i.1 >>= (λ k. accepted (record { images = i.0; clients = k.0; small = pool.small; large = pool.large }) k.1))) e2
    ∙ ap (λ (q : Result (List ClientOf × State) ℕ). q >>= (λ k. accepted (record { images = images; clients = k.0; small = pool.small; large = pool.large }) k.1)) e3
    ∙ ap (λ o. if is_none o then Ok (record { images = images; clients = clients; small = pool.small; large = pool.large }, c) else Err c.line) broken
