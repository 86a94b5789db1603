-- Lines that are written are read back one after the other.
use Rattle.std.proofs.Common.{◌≡◌, ℕ, ◌+◌, nat_le, Bool, true, if◌then◌else◌, List, [], ◌∷◌, ◌++◌, map, length, flat_map, codes, decimal, append_assoc, Option, Some, None, Result, Ok, Err, refl, sym, ap, ap₂, subst, ◌∙◌, arith}
use Rattle.std.specs.List.{list_all, enumerate_from, AllByRecursion}
use Rattle.std.proofs.lemmas.Bool.{and_parts, ltb-true, leb-true, lt-leb, ne_eqb}
use Rattle.std.proofs.lemmas.List.{map-append}
use Rattle.lw_base.proofs.Lists.{some_same}
use Rattle.lw_model.specs.declared.script.ClientOf.{ClientOf}
use Rattle.lw_model.specs.declared.script.Op.{Op}
use Rattle.lw_model.specs.declared.record.ThreadRecord.{ThreadRecord}
use Rattle.lw_model.specs.declared.record.RoleKind.{RoleKind}
use Rattle.lw_model.specs.declared.record.RoleKind.TheVariants.{App, Client, Owner}
use Rattle.lw_model.specs.declared.record.Reply.{Reply}
use Rattle.lw_model.specs.declared.record.Seen.{Seen}
use Rattle.lw_model.specs.ScriptRules.{is_name, is_pattern}
use Rattle.lw_model.specs.Printable.{has_bytes, has_results, has_role, is_empty, may_reply}
use Rattle.lw_model.specs.ReportText.{line, count_of, op_line, client_lines as lines_of_client, reply_line, seen_line}
use Rattle.lw_model.specs.Ranges.{ReplyFits, SeenFits, OpFits, ClientFits}
use Rattle.lw_model.proofs.Printed.{empty_is}
use Rattle.lw_report_lines.specs.LineKinds.{hop_in, ran_in, did_in, called_in, reply_in, seen_in, client_in, op_in}
use Rattle.lw_report.specs.Machine.{State, ◌>>=◌, one, many, many_from, numbered}
use Rattle.lw_report.specs.Report.{client_at, client_lines, role_at}
use Rattle.lw_report.proofs.Reading.{state}
use Rattle.lw_report.proofs.ReportTexts.{fed, one_by_one}
use Rattle.lw_report.proofs.Chains.{own_lines}
use Rattle.lw_report_lines.proofs.ScriptBack.{reply_back, seen_back, client_back, op_back}

pub fed_both : (xs ys R : List (List ℕ)) → fed (xs ++ ys) ++ R ≡ fed xs ++ (fed ys ++ R)
fed_both xs ys R = ap (λ q. q ++ R) (map-append (λ (l : List ℕ). l ++ 10 ∷ []) xs ys) ∙ append_assoc (fed xs) (fed ys) R

-- ---- one line, and all lines of a kind

pub one_back : {X : Type 0} (f : List ℕ → Option X) (s : State) (l : List ℕ) (R : List (List ℕ)) (x : X) → s.lines ≡ l ∷ R → f l ≡ Some x → one f s ≡ Ok (x, state (s.line + 1) R)
one_back {X = X} f s l R x e h = subst (λ ls. one f (state s.line ls) ≡ Ok (x, state (s.line + 1) R)) (sym e) (at (f l) h)
  where
    at : (o : Option X) → o ≡ Some x
        → ◌≡◌ {A = Result (X × State) ℕ} (elim (elim o as (λ _. Option X × State) [ Some y ↦ (Some y, state (s.line + 1) R) | None ↦ (None, state s.line (l ∷ R)) ]).0 [
          | Some y ↦ Ok (y, (elim o as (λ _. Option X × State) [ Some z ↦ (Some z, state (s.line + 1) R) | None ↦ (None, state s.line (l ∷ R)) ]).1)
          | None ↦ Err s.line
        ]) (Ok (x, state (s.line + 1) R))
    at None e = let wrong : None ≡ Some x = e in cc
    at (Some y) e = ap (λ z. Ok (z, state (s.line + 1) R)) (some_same e)

-- the first of these lines is none of a kind
abbrev pub Stops : {X : Type 0} → (List ℕ → Option X) → List (List ℕ) → Type 0
Stops f [] = Unit {0}
Stops f (l ∷ ls) = f l ≡ None

pub stops_over : {X Y : Type 0} (f : List ℕ → Option X) (text : Y → List ℕ) → ((y : Y) → f (text y ++ 10 ∷ []) ≡ None) → (ys : List Y) (R : List (List ℕ)) → Stops f R → Stops f (fed (map text ys) ++ R)
stops_over f text none [] R stops = stops
stops_over f text none (y ∷ ys) R stops = none y

many_back_from : {X : Type 0} (f : List ℕ → Option X) (text : X → List ℕ) (Fits : X → Type 0) → ((x : X) → Fits x → f (text x ++ 10 ∷ []) ≡ Some x)
    → (xs : List X) → AllByRecursion Fits xs → (n : ℕ) (R : List (List ℕ)) → Stops f R → (xs, state (n + length xs) R) ≡ many_from f n (fed (map text xs) ++ R)
many_back_from f text Fits each [] fit n [] stops = ap (λ k. ([], state k [])) (omega arith)
many_back_from {X = X} f text Fits each [] fit n (l ∷ ls) stops =
    ap (λ k. ([], state k (l ∷ ls))) (omega arith)
    ∙ ap (λ (o : Option X). elim o as (λ _. List X × State) [ Some x ↦ (x ∷ (many_from f (n + 1) ls).0, (many_from f (n + 1) ls).1) | None ↦ ([], state n (l ∷ ls)) ]) (sym stops)
many_back_from {X = X} f text Fits each (x ∷ xs) fit n R stops =
    let rest = fed (map text xs) ++ R in
    ap (λ k. (x ∷ xs, state k R)) (omega arith)
    ∙ ap (λ (p : List X × State). (x ∷ p.0, p.1)) (many_back_from f text Fits each xs fit.1 (n + 1) R stops)
    ∙ ap (λ (o : Option X). elim o as (λ _. List X × State) [ Some y ↦ (y ∷ (many_from f (n + 1) rest).0, (many_from f (n + 1) rest).1) | None ↦ ([], state n ((text x ++ 10 ∷ []) ∷ rest)) ]) (sym (each x fit.0))

pub many_back : {X : Type 0} (f : List ℕ → Option X) (text : X → List ℕ) (Fits : X → Type 0) → ((x : X) → Fits x → f (text x ++ 10 ∷ []) ≡ Some x)
    → (xs : List X) → AllByRecursion Fits xs → (s : State) (R : List (List ℕ)) → Stops f R → s.lines ≡ fed (map text xs) ++ R → (xs, state (s.line + length xs) R) ≡ many f s
many_back f text Fits each xs fit s R stops e = many_back_from f text Fits each xs fit s.line R stops ∙ ap (many_from f s.line) (sym e)

-- ---- numbered parts

-- what holds of each item with its number
abbrev pub AllNumbered : {X : Type 0} → (ℕ → X → Type 0) → ℕ → List X → Type 0
AllNumbered Fits n [] = Unit {0}
AllNumbered Fits n (x ∷ xs) = Fits n x × AllNumbered Fits (n + 1) xs

-- a reading that came back, with what is left
abbrev pub Back : {X : Type 0} → Result (X × State) ℕ → X → List (List ℕ) → Type 0
Back r x R = (t : State) × (t.lines ≡ R) × (r ≡ Ok (x, t))

pub numbered_back : {X : Type 0} (f : ℕ → State → Result (X × State) ℕ) (lines : ℕ → X → List (List ℕ)) (Fits : ℕ → X → Type 0) (Q : List (List ℕ) → Type 0)
    → ((n : ℕ) (x : X) (s : State) (R : List (List ℕ)) → Fits n x → Q R → s.lines ≡ fed (lines n x) ++ R → Back (f n s) x R)
    → ((n : ℕ) (x : X) (R : List (List ℕ)) → Q (fed (lines n x) ++ R))
    → (xs : List X) (n : ℕ) (s : State) (R : List (List ℕ)) → AllNumbered Fits n xs → Q R → s.lines ≡ fed (flat_map (λ q. lines q.0 q.1) (enumerate_from n xs)) ++ R → Back (numbered (length xs) n f s) xs R
numbered_back f lines Fits Q each begins [] n s R fit q e = (s, e, refl)
numbered_back {X = X} f lines Fits Q each begins (x ∷ xs) n s R fit q e =
    let rest = fed (flat_map (λ (p : ℕ × X). lines p.0 p.1) (enumerate_from (n + 1) xs)) ++ R in
    let a = each n x s rest fit.0 (next xs) (e ∙ fed_both (lines n x) (flat_map (λ (p : ℕ × X). lines p.0 p.1) (enumerate_from (n + 1) xs)) R) in
    let b = numbered_back f lines Fits Q each begins xs (n + 1) a.0 R fit.1 q a.1 in (
      b.0,
      b.1,
      ap (λ (r : Result (X × State) ℕ). r >>= (λ y. numbered (length xs) (n + 1) f y.1 >>= (λ ys. Ok (y.0 ∷ ys.0, ys.1)))) a.2
          ∙ ap (λ (r : Result (List X × State) ℕ). r >>= (λ ys. Ok (x ∷ ys.0, ys.1))) b.2,
    )
  where
    next : (ys : List X) → Q (fed (flat_map (λ (p : ℕ × X). lines p.0 p.1) (enumerate_from (n + 1) ys)) ++ R)
    next [] = q
    next (y ∷ ys) =
        subst Q (sym (fed_both (lines (n + 1) y) (flat_map (λ (p : ℕ × X). lines p.0 p.1) (enumerate_from (n + 1 + 1) ys)) R))
        (begins (n + 1) y (fed (flat_map (λ (p : ℕ × X). lines p.0 p.1) (enumerate_from (n + 1 + 1) ys)) ++ R))

abbrev pub Any : List (List ℕ) → Type 0
Any R = Unit {0}

-- ---- clients

abbrev OpBack : ℕ → Op → Type 0
OpBack n o = OpFits o × (is_pattern o ≡ true)

ops_fit : (n : ℕ) (os : List Op) → AllByRecursion OpFits os → list_all is_pattern os ≡ true → AllNumbered OpBack n os
ops_fit n [] fit long = tt
ops_fit n (o ∷ os) fit long = let k = and_parts (is_pattern o) (list_all is_pattern os) long in ((fit.0, k.0), ops_fit (n + 1) os fit.1 k.1)

pub client_read : (s : State) (c : ClientOf) (R : List (List ℕ)) → ClientFits c → is_name c.name ≡ true → list_all is_pattern c.ops ≡ true → s.lines ≡ fed (lines_of_client c) ++ R → Back (client_at s) c R
client_read s c R fit named long e =
    let head = line (codes "client" ∷ c.name ∷ decimal c.depth ∷ count_of c.ops ∷ []) ++ 10 ∷ [] in
    let first = one_back client_in s head (fed (map op_line c.ops) ++ R) (record { name = c.name; depth = c.depth; ops = length c.ops }) e (client_back c.name c.depth (length c.ops) fit.0 fit.2 named) in
    let t = state (s.line + 1) (fed (map op_line c.ops) ++ R) in
    let ops = numbered_back (λ n. one op_in) (λ n o. op_line o ∷ []) OpBack Any
    (λ n o s R h q e. (state (s.line + 1) R, refl, one_back op_in s (op_line o ++ 10 ∷ []) R o e (op_back o h.0 h.1)))
    (λ n o R. tt) c.ops 0 t R (ops_fit 0 c.ops fit.1 long) tt (ap (λ ls. fed ls ++ R) (sym (one_by_one op_line 0 c.ops))) in (
      ops.0,
      ops.1,
      ap (λ r. r >>= (λ h. numbered h.0.ops 0 (λ n. one op_in) h.1 >>= (λ os. Ok (record { name = h.0.name; depth = h.0.depth; ops = os.0 }, os.1)))) first
          ∙ ap (λ (r : Result (List Op × State) ℕ). r >>= (λ os. Ok (record { name = c.name; depth = c.depth; ops = os.0 }, os.1))) ops.2,
    )

-- ---- threads

-- none of these lines stands first behind a thread's lines
pub record NextThread (images : ℕ) (R : List (List ℕ)) : Type 0 where
  pub hop : Stops hop_in R
  pub ran : Stops ran_in R
  pub did : Stops did_in R
  pub called : Stops (called_in images) R
  pub reply : Stops reply_in R
  pub seen : Stops seen_in R

pub role_is : (clients n : ℕ) (r : RoleKind) → has_role clients n r ≡ true → r ≡ role_at clients n
role_is clients n App h = ap (λ b. if b then App else (if nat_le n clients then Client else Owner)) (sym h)
role_is clients n Client h =
    let k = and_parts (nat_le 1 n) (nat_le n clients) h in
    ap₂ (λ a b. if a then App else (if b then Client else Owner)) (sym (ne_eqb n 0 (λ e. absurd (omega (arith, e, leb-true 1 n k.0))))) (sym k.1)
role_is clients n Owner h =
    let less = ltb-true clients n h in
    ap₂ (λ a b. if a then App else (if b then Client else Owner)) (sym (ne_eqb n 0 (λ e. absurd (omega (arith, e, less))))) (sym (lt-leb n clients less))

pub both_fit : {X : Type 0} (P : X → Type 0) (p : X → Bool) (xs : List X) → AllByRecursion P xs → list_all p xs ≡ true → AllByRecursion (λ x. P x × (p x ≡ true)) xs
both_fit P p [] fit h = tt
both_fit P p (x ∷ xs) fit h = let k = and_parts (p x) (list_all p xs) h in ((fit.0, k.0), both_fit P p xs fit.1 k.1)

-- the lines under clients alone
pub own_read : (role : RoleKind) (x : ThreadRecord) (images : ℕ) (s : State) (R : List (List ℕ)) → may_reply role x ≡ true → AllByRecursion ReplyFits x.replies → AllByRecursion SeenFits x.seen → NextThread images R
    → s.lines ≡ fed (map reply_line x.replies) ++ (fed (map seen_line x.seen) ++ R) → (t : State) × (t.lines ≡ R) × (((x.replies, x.seen), t) ≡ client_lines role s)
own_read Client x images s R may replies seen next e =
    let k = and_parts (list_all (λ (r : Reply). has_bytes r.answer) x.replies) (list_all (λ (q : Seen). has_results q.results) x.seen) may in
    let rest = fed (map seen_line x.seen) ++ R in
    let a = many_back reply_in reply_line (λ r. ReplyFits r × (has_bytes r.answer ≡ true)) (λ r h. reply_back r h.0 h.1) x.replies (both_fit ReplyFits (λ r. has_bytes r.answer) x.replies replies k.0) s rest
    (stops_over reply_in seen_line (λ q. refl) x.seen R next.reply) e in
    let t = state (s.line + length x.replies) rest in
    let b = many_back seen_in seen_line (λ q. SeenFits q × (has_results q.results ≡ true)) (λ q h. seen_back q h.0 h.1) x.seen (both_fit SeenFits (λ q. has_results q.results) x.seen seen k.1) t R next.seen refl in
    (state (t.line + length x.seen) R, refl, own_lines s t (state (t.line + length x.seen) R) x.replies x.seen a b)
own_read App x images s R may replies seen next e =
    let k = and_parts (is_empty x.replies) (is_empty x.seen) may in
    let a = empty_is x.replies k.0 in
    let b = empty_is x.seen k.1 in
    (s, e ∙ ap₂ (λ p q. fed (map reply_line p) ++ (fed (map seen_line q) ++ R)) a b, ap₂ (λ (p : List Reply) (q : List Seen). ((p, q), s)) a b)
own_read Owner x images s R may replies seen next e =
    let k = and_parts (is_empty x.replies) (is_empty x.seen) may in
    let a = empty_is x.replies k.0 in
    let b = empty_is x.seen k.1 in
    (s, e ∙ ap₂ (λ p q. fed (map reply_line p) ++ (fed (map seen_line q) ++ R)) a b, ap₂ (λ (p : List Reply) (q : List Seen). ((p, q), s)) a b)
