-- A report that was read is the text of what it says.
use Rattle.std.proofs.Common.{◌≡◌, ℕ, zero, suc, ◌+◌, Bool, true, ◌&&◌, List, [], ◌∷◌, ◌++◌, map, flat_map, codes, decimal, append_assoc, Option, Some, None, Result, Ok, Err, refl, sym, ap, ap₂, subst, ◌∙◌}
use Rattle.std.specs.List.{list_all, enumerate_from}
use Rattle.std.proofs.lemmas.Bool.{and_parts}
use Rattle.std.proofs.lemmas.List.{map-append}
use Rattle.lw_model.specs.declared.script.ClientOf.{ClientOf}
use Rattle.lw_model.specs.declared.record.ThreadRecord.{ThreadRecord}
use Rattle.lw_model.specs.declared.record.RoleKind.{RoleKind}
use Rattle.lw_model.specs.declared.record.RoleKind.TheVariants.{App, Client, Owner}
use Rattle.lw_model.specs.ScriptRules.{is_name, is_pattern}
use Rattle.lw_model.specs.ReportText.{line, op_line, client_lines as lines_of_client, hop_line, ran_line, did_line, called_line, reply_line, seen_line, thread_lines as lines_of_thread, role_word}
use Rattle.lw_report_lines.specs.LineKinds.{hop_in, ran_in, did_in, called_in, reply_in, seen_in, thread_in, client_in, op_in}
use Rattle.lw_report.specs.Machine.{State, ◌>>=◌, one, many, many_from, numbered}
use Rattle.lw_report.specs.Report.{client_at, client_lines, role_at, thread_lines, thread_at}
use Rattle.lw_report.proofs.Said.{read_parts, numbered_all}
use Rattle.lw_report_lines.proofs.Names.{named_length}
use Rattle.lw_report_lines.proofs.LineTexts.{hop_text, ran_text, did_text, called_text, seen_text, thread_text}
use Rattle.lw_report_lines.proofs.ScriptTexts.{client_text, op_text, reply_text}

-- lines, each with its line feed
abbrev pub fed : List (List ℕ) → List (List ℕ)
fed ls = map (λ l. l ++ 10 ∷ []) ls

-- the lines that a reading took
abbrev pub Took : State → List (List ℕ) → State → Type 0
Took s ls t = s.lines ≡ fed ls ++ t.lines

pub took_none : (s : State) → Took s [] s
took_none s = refl

pub took_both : (s t u : State) (xs ys : List (List ℕ)) → Took s xs t → Took t ys u → Took s (xs ++ ys) u
took_both s t u xs ys a b =
    a ∙ ap (λ q. fed xs ++ q) b ∙ sym (append_assoc (fed xs) (fed ys) u.lines) ∙ ap (λ q. q ++ u.lines) (sym (map-append (λ (l : List ℕ). l ++ 10 ∷ []) xs ys))

-- ---- one line, all lines of a kind, and parts

pub one_took : {X : Type 0} (f : List ℕ → Option X) (text : X → List ℕ) (s t : State) (x : X) → ((l : List ℕ) → f l ≡ Some x → l ≡ text x ++ 10 ∷ []) → one f s ≡ Ok (x, t) → Took s (text x ∷ []) t
one_took {X = X} f text s t x each e = at s.lines e
  where
    by : (l : List ℕ) (ls : List (List ℕ)) (o : Option X) → f l ≡ o
        → ◌≡◌ {A = Result (X × State) ℕ} (elim (elim o as (λ _. Option X × State) [ Some y ↦ (Some y, record { line = s.line + 1; lines = ls }) | None ↦ (None, record { line = s.line; lines = l ∷ ls }) ]).0 [
          | Some y ↦ Ok (y, (elim o as (λ _. Option X × State) [ Some z ↦ (Some z, record { line = s.line + 1; lines = ls }) | None ↦ (None, record { line = s.line; lines = l ∷ ls }) ]).1)
          | None ↦ Err s.line
        ]) (Ok (x, t)) → l ∷ ls ≡ (text x ++ 10 ∷ []) ∷ t.lines
    by l ls None is e = let wrong : ◌≡◌ {A = Result (X × State) ℕ} (Err s.line) (Ok (x, t)) = e in cc
    by l ls (Some y) is e = ap₂ (λ a b. a ∷ b) (each l (is ∙ ap Some (first_same e))) (ap (λ (q : State). q.lines) (rest_same e))
      where
        first_same : ◌≡◌ {A = Result (X × State) ℕ} (Ok (y, record { line = s.line + 1; lines = ls })) (Ok (x, t)) → y ≡ x
        first_same e = ap (λ (r : Result (X × State) ℕ). elim r [ Ok p ↦ p.0 | Err n ↦ x ]) e

        rest_same : ◌≡◌ {A = Result (X × State) ℕ} (Ok (y, record { line = s.line + 1; lines = ls })) (Ok (x, t)) → record { line = s.line + 1; lines = ls } ≡ t
        rest_same e = ap (λ (r : Result (X × State) ℕ). elim r [ Ok p ↦ p.1 | Err n ↦ t ]) e

    at : (ls : List (List ℕ)) → one f (record { line = s.line; lines = ls }) ≡ Ok (x, t) → ls ≡ (text x ++ 10 ∷ []) ∷ t.lines
    at [] e = let wrong : ◌≡◌ {A = Result (X × State) ℕ} (Err s.line) (Ok (x, t)) = e in cc
    at (l ∷ ls) e = by l ls (f l) refl e

many_took_from : {X : Type 0} (f : List ℕ → Option X) (text : X → List ℕ) → ((l : List ℕ) (x : X) → f l ≡ Some x → l ≡ text x ++ 10 ∷ []) → (n : ℕ) (ls : List (List ℕ)) → ls ≡ fed (map text (many_from f n ls).0) ++ (many_from f n ls).1.lines
many_took_from f text each n [] = refl
many_took_from {X = X} f text each n (l ∷ ls) = at (f l) refl (many_took_from f text each (n + 1) ls)
  where
    at : (o : Option X) → f l ≡ o → ls ≡ fed (map text (many_from f (n + 1) ls).0) ++ (many_from f (n + 1) ls).1.lines
        → l ∷ ls ≡ fed (map text (elim o as (λ _. List X × State) [ Some x ↦ (x ∷ (many_from f (n + 1) ls).0, (many_from f (n + 1) ls).1) | None ↦ ([], record { line = n; lines = l ∷ ls }) ]).0)
        ++ (elim o as (λ _. List X × State) [ Some x ↦ (x ∷ (many_from f (n + 1) ls).0, (many_from f (n + 1) ls).1) | None ↦ ([], record { line = n; lines = l ∷ ls }) ]).1.lines
    at None e rest = refl
    at (Some x) e rest = ap₂ (λ a b. a ∷ b) (each l x e) rest

pub many_took : {X : Type 0} (f : List ℕ → Option X) (text : X → List ℕ) → ((l : List ℕ) (x : X) → f l ≡ Some x → l ≡ text x ++ 10 ∷ []) → (s : State) → Took s (map text (many f s).0) (many f s).1
many_took f text each s = many_took_from f text each s.line s.lines

pub numbered_took : {X : Type 0} (f : ℕ → State → Result (X × State) ℕ) (p : X → Bool) (lines : ℕ → X → List (List ℕ))
    → ((n : ℕ) (s t : State) (x : X) → p x ≡ true → f n s ≡ Ok (x, t) → Took s (lines n x) t)
    → (k n : ℕ) (s t : State) (xs : List X) → list_all p xs ≡ true → numbered k n f s ≡ Ok (xs, t) → Took s (flat_map (λ q. lines q.0 q.1) (enumerate_from n xs)) t
numbered_took {X = X} f p lines each zero n s t xs fit e =
    let none : [] ≡ xs = ap (λ (r : Result (List X × State) ℕ). elim r [ Ok q ↦ q.0 | Err b ↦ xs ]) e in
    let same : s ≡ t = ap (λ (r : Result (List X × State) ℕ). elim r [ Ok q ↦ q.1 | Err b ↦ t ]) e in
    ap (λ (q : State). q.lines) same ∙ ap (λ ys. fed (flat_map (λ (q : ℕ × X). lines q.0 q.1) (enumerate_from n ys)) ++ t.lines) none
numbered_took {X = X} f p lines each (suc k) n s t xs fit e =
    let a = read_parts (f n s) (λ x. numbered k (n + 1) f x.1 >>= (λ ys. Ok (x.0 ∷ ys.0, ys.1))) (xs, t) e in
    let b = read_parts (numbered k (n + 1) f a.0.1) (λ ys. Ok (a.0.0 ∷ ys.0, ys.1)) (xs, t) a.2 in
    let all : a.0.0 ∷ b.0.0 ≡ xs = ap (λ (r : Result (List X × State) ℕ). elim r [ Ok q ↦ q.0 | Err m ↦ xs ]) b.2 in
    let last : b.0.1 ≡ t = ap (λ (r : Result (List X × State) ℕ). elim r [ Ok q ↦ q.1 | Err m ↦ t ]) b.2 in
    let fits = and_parts (p a.0.0) (list_all p b.0.0) (ap (list_all p) all ∙ fit) in
    let rest = numbered_took f p lines each k (n + 1) a.0.1 b.0.1 b.0.0 fits.1 b.1 in
    subst (λ ys. Took s (flat_map (λ (q : ℕ × X). lines q.0 q.1) (enumerate_from n ys)) t) all
    (subst (Took s (lines n a.0.0 ++ flat_map (λ (q : ℕ × X). lines q.0 q.1) (enumerate_from (n + 1) b.0.0))) last
    (took_both s a.0.1 b.0.1 (lines n a.0.0) (flat_map (λ (q : ℕ × X). lines q.0 q.1) (enumerate_from (n + 1) b.0.0)) (each n s a.0.1 a.0.0 fits.0 a.1) rest))

-- parts of one line each
pub one_by_one : {X : Type 0} (f : X → List ℕ) (n : ℕ) (xs : List X) → flat_map (λ (q : ℕ × X). f q.1 ∷ []) (enumerate_from n xs) ≡ map f xs
one_by_one f n [] = refl
one_by_one f n (x ∷ xs) = ap (λ q. f x ∷ q) (one_by_one f (n + 1) xs)

pub one_by_number : {X : Type 0} (f : ℕ → X → List ℕ) (n : ℕ) (xs : List X) → flat_map (λ (q : ℕ × X). f q.0 q.1 ∷ []) (enumerate_from n xs) ≡ map (λ q. f q.0 q.1) (enumerate_from n xs)
one_by_number f n [] = refl
one_by_number f n (x ∷ xs) = ap (λ q. f n x ∷ q) (one_by_number f (n + 1) xs)

pub by_item : {X : Type 0} (f : X → List (List ℕ)) (n : ℕ) (xs : List X) → flat_map (λ (q : ℕ × X). f q.1) (enumerate_from n xs) ≡ flat_map f xs
by_item f n [] = refl
by_item f n (x ∷ xs) = ap (λ q. f x ++ q) (by_item f (n + 1) xs)

-- ---- clients

abbrev pub fits_client : ClientOf → Bool
fits_client c = is_name c.name && list_all is_pattern c.ops

pub client_took : (s t : State) (c : ClientOf) → fits_client c ≡ true → client_at s ≡ Ok (c, t) → Took s (lines_of_client c) t
client_took s t c fits e =
    let a = read_parts (one client_in s) (λ h. numbered h.0.ops 0 (λ n. one op_in) h.1 >>= (λ os. Ok (record { name = h.0.name; depth = h.0.depth; ops = os.0 }, os.1))) (c, t) e in
    let b = read_parts (numbered a.0.0.ops 0 (λ n. one op_in) a.0.1) (λ os. Ok (record { name = a.0.0.name; depth = a.0.0.depth; ops = os.0 }, os.1)) (c, t) a.2 in
    let whole : ClientOf = record { name = a.0.0.name; depth = a.0.0.depth; ops = b.0.0 } in
    let same : whole ≡ c = ap (λ (r : Result (ClientOf × State) ℕ). elim r [ Ok q ↦ q.0 | Err m ↦ c ]) b.2 in
    let last : b.0.1 ≡ t = ap (λ (r : Result (ClientOf × State) ℕ). elim r [ Ok q ↦ q.1 | Err m ↦ t ]) b.2 in
    let fit = and_parts (is_name a.0.0.name) (list_all is_pattern b.0.0) (ap fits_client same ∙ fits) in
    let count = (numbered_all (λ n. one op_in) (λ n o. true) (λ n s t o h. refl) a.0.0.ops 0 a.0.1 b.0.1 b.0.0 b.1).0 in
    let head = one_took client_in (λ h. line (codes "client" ∷ h.name ∷ decimal h.depth ∷ decimal h.ops ∷ [])) s a.0.1 a.0.0 (λ l h. client_text l a.0.0 h (named_length a.0.0.name fit.0)) a.1 in
    let ops = numbered_took (λ n. one op_in) is_pattern (λ n o. op_line o ∷ []) (λ n s t o p h. one_took op_in op_line s t o (λ l k. op_text l o k p) h) a.0.0.ops 0 a.0.1 b.0.1 b.0.0 fit.1 b.1 in
    subst (λ q. Took s (lines_of_client q) t) same
    (subst (Took s (lines_of_client whole)) last
    (subst (λ k. Took s (line (codes "client" ∷ a.0.0.name ∷ decimal a.0.0.depth ∷ decimal k ∷ []) ∷ map op_line b.0.0) b.0.1) (sym count)
    (took_both s a.0.1 b.0.1 (line (codes "client" ∷ a.0.0.name ∷ decimal a.0.0.depth ∷ decimal a.0.0.ops ∷ []) ∷ []) (map op_line b.0.0) head
    (subst (λ ls. Took a.0.1 ls b.0.1) (one_by_one op_line 0 b.0.0) ops))))

-- ---- threads

own_took : (role : RoleKind) (s : State) → Took s (map reply_line (client_lines role s).0.0 ++ map seen_line (client_lines role s).0.1) (client_lines role s).1
own_took App s = refl
own_took Owner s = refl
own_took Client s =
    let replies = many reply_in s in
    let seen = many seen_in replies.1 in
    took_both s replies.1 seen.1 (map reply_line replies.0) (map seen_line seen.0) (many_took reply_in reply_line reply_text s) (many_took seen_in seen_line seen_text replies.1)

pub thread_took : (clients images n : ℕ) (s t : State) (x : ThreadRecord) → thread_at clients images n s ≡ Ok (x, t) → Took s (lines_of_thread n x) t
thread_took clients images n s t x e =
    let role = role_at clients n in
    let a = read_parts (one (thread_in role n) s) (λ h. Ok (thread_lines role h.0 images h.1)) (x, t) e in
    let hops = many hop_in a.0.1 in
    let ran = many ran_in hops.1 in
    let did = many did_in ran.1 in
    let called = many (called_in images) did.1 in
    let own = client_lines role called.1 in
    let first = line (codes "thread" ∷ decimal n ∷ role_word role ∷ decimal a.0.0 ∷ []) in
    let h1 = took_both s a.0.1 hops.1 (first ∷ []) (map hop_line hops.0) (one_took (thread_in role n) (λ k. line (codes "thread" ∷ decimal n ∷ role_word role ∷ decimal k ∷ [])) s a.0.1 a.0.0 (λ l k. thread_text role n l a.0.0 k) a.1) (many_took hop_in hop_line hop_text a.0.1) in
    let h2 = took_both s hops.1 ran.1 (first ∷ map hop_line hops.0) (map ran_line ran.0) h1 (many_took ran_in ran_line ran_text hops.1) in
    let h3 = took_both s ran.1 did.1 (first ∷ map hop_line hops.0 ++ map ran_line ran.0) (map did_line did.0) h2 (many_took did_in did_line did_text ran.1) in
    let h4 = took_both s did.1 called.1 (first ∷ map hop_line hops.0 ++ map ran_line ran.0 ++ map did_line did.0) (map called_line called.0) h3 (many_took (called_in images) called_line (called_text images) did.1) in
    let before = first ∷ map hop_line hops.0 ++ map ran_line ran.0 ++ map did_line did.0 ++ map called_line called.0 in
    let h5 = took_both s called.1 own.1 before (map reply_line own.0.0 ++ map seen_line own.0.1) h4 (own_took role called.1) in
    let all = subst (λ ls. Took s ls own.1) (sym (append_assoc before (map reply_line own.0.0) (map seen_line own.0.1))) h5 in
    let same : (thread_lines role a.0.0 images a.0.1).0 ≡ x = ap (λ (r : Result (ThreadRecord × State) ℕ). elim r [ Ok q ↦ q.0 | Err m ↦ x ]) a.2 in
    let last : own.1 ≡ t = ap (λ (r : Result (ThreadRecord × State) ℕ). elim r [ Ok q ↦ q.1 | Err m ↦ t ]) a.2 in
    subst (λ y. Took s (lines_of_thread n y) t) same (subst (Took s (lines_of_thread n (thread_lines role a.0.0 images a.0.1).0)) last all)
