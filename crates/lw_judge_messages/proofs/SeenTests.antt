-- What a client has to have seen, message by message.
use Rattle.std.proofs.Common.{◌≡◌, ℕ, ◌+◌, ◌≤◌, ◌<◌, ◌^◌, true, false, List, [], ◌∷◌, ◌++◌, length, take, get_or, map, filter_map, Option, Some, None, is_some, slice_get, refl, sym, ap, ap₂, flat_map, ◌∙◌, arith}
use Rattle.std.specs.List.{cons_option, range_with_len}
use Rattle.std.proofs.lemmas.Bool.{true≢false, false≢true}
use Rattle.std.proofs.lemmas.List.{take_all, take_more, append-nil, map-append, length-map, length-take}
use Rattle.std.proofs.lemmas.Option.{slice_get-get_or}
use Rattle.std.proofs.lemmas.List.Elements.{filter_map-append}
use Rattle.lw_base.specs.declared.message.Tag.{Tag}
use Rattle.lw_model.specs.declared.record.Record.{Record}
use Rattle.lw_model.specs.declared.record.Seen.{Seen}
use Rattle.lw_model.specs.Lines.{thread_line, seen_line}
use Rattle.lw_model.specs.Threads.{ran_of}
use Rattle.lw_model.specs.Lawful.{seen_by, seen_of}
use Rattle.lw_model.specs.Same.{both, is_same_seen}
use Rattle.lw_model.specs.Verdict.{least_failing}
use Rattle.lw_judge_threads.specs.declared.lines.ThreadLines.{ThreadLines}
use Rattle.lw_judge_threads.specs.Firsts.{lesser}
use Rattle.lw_judge_threads.specs.LinesOf.{AreThreadLines, StandsAt}
use Rattle.lw_judge_threads.specs.AgainstAt.{wanted_tests, unlike_line}
use Rattle.lw_judge_messages.specs.SeenLines.{wanted_seen, client_tests, tests_behind}
use Rattle.lw_model.proofs.Printed.{parts}
use Rattle.lw_judge_threads.proofs.Leasts.{least_push}
use Rattle.lw_judge_threads.proofs.Wanted.{wanted_tests-push, length-wanted_tests, least_unlike}

-- a list of at most one item
abbrev listed : {X : Type 0} → Option X → List (Option X)
listed o = map (λ x. Some x) (cons_option o [])

wanted_seen-push : (r : Record) (t : ℕ) (ran : List Tag) (i : ℕ) (d : Tag) → i < length ran → wanted_seen r t (take (i + 1) ran) ≡ wanted_seen r t (take i ran) ++ listed (seen_by r t (get_or ran i d))
wanted_seen-push r t ran i d less =
    ap (wanted_seen r t) (take_more ran i d less)
    ∙ ap (map (λ x. Some x)) (filter_map-append (seen_by r t) (take i ran) (get_or ran i d ∷ []))
    ∙ map-append (λ x. Some x) (filter_map (seen_by r t) (take i ran)) (cons_option (seen_by r t (get_or ran i d)) [])

-- a message that is no completion
pub tests_behind-other : (r : Record) (t : ℕ) (ran : List Tag) (i : ℕ) (d : Tag) (seen : List Seen) → i < length ran → is_some (seen_by r t (get_or ran i d)) ≡ false
    → tests_behind r t (take (i + 1) ran) seen ≡ tests_behind r t (take i ran) seen
tests_behind-other r t ran i d seen less none = ap (λ l. wanted_tests is_same_seen l seen) (wanted_seen-push r t ran i d less ∙ at (seen_by r t (get_or ran i d)) none)
  where
    at : (o : Option Seen) → is_some o ≡ false → wanted_seen r t (take i ran) ++ listed o ≡ wanted_seen r t (take i ran)
    at None e = append-nil (wanted_seen r t (take i ran))
    at (Some x) e = absurd (true≢false e)

-- a completion
pub tests_behind-push : (r : Record) (t : ℕ) (ran : List Tag) (i : ℕ) (d : Tag) (seen : List Seen) → i < length ran → is_some (seen_by r t (get_or ran i d)) ≡ true
    → tests_behind r t (take (i + 1) ran) seen
    ≡ tests_behind r t (take i ran) seen ++ both is_same_seen (seen_by r t (get_or ran i d)) (slice_get seen (length (tests_behind r t (take i ran) seen))) ∷ []
tests_behind-push r t ran i d seen less some =
    ap (λ l. wanted_tests is_same_seen l seen) (wanted_seen-push r t ran i d less ∙ at (seen_by r t (get_or ran i d)) some)
    ∙ wanted_tests-push is_same_seen wanted (seen_by r t (get_or ran i d)) seen
    ∙ ap (λ n. tests_behind r t (take i ran) seen ++ both is_same_seen (seen_by r t (get_or ran i d)) (slice_get seen n) ∷ []) (sym (length-wanted_tests is_same_seen wanted seen))
  where
    wanted : List (Option Seen)
    wanted = wanted_seen r t (take i ran)

    at : (o : Option Seen) → is_some o ≡ true → wanted ++ listed o ≡ wanted ++ o ∷ []
    at None e = absurd (false≢true e)
    at (Some x) e = refl

length-filter_map : {X Y : Type 0} (f : X → Option Y) (xs : List X) → length (filter_map f xs) ≤ length xs
length-filter_map f [] = omega arith
length-filter_map {X} {Y} f (x ∷ xs) = at (f x) (length-filter_map f xs)
  where
    at : (o : Option Y) → length (filter_map f xs) ≤ length xs → length (cons_option o (filter_map f xs)) ≤ length (x ∷ xs)
    at None h = omega (arith, h)
    at (Some y) h = omega (arith, h)

-- no more is wanted than messages were run
pub tests_behind-few : (r : Record) (t : ℕ) (ran : List Tag) (i : ℕ) (seen : List Seen) → length (tests_behind r t (take i ran) seen) ≤ i
tests_behind-few r t ran i seen = omega (
  arith,
  length-wanted_tests is_same_seen (wanted_seen r t (take i ran)) seen,
  length-map (filter_map (seen_by r t) (take i ran)) (λ x. Some x),
  length-filter_map (seen_by r t) (take i ran),
  length-take i ran,
)

-- ---- All messages of a client

-- its lines end before 2^64
pub seen_below : (r : Record) (t : ℕ) (l : ThreadLines) (seen : List Seen) → StandsAt r t l → seen ≡ seen_of r t → l.seen + length seen < 2 ^ 64
seen_below r t l seen stands is = omega (arith, stands.seen, stands.follow, stands.few, ap length is)

pub client_least : (r : Record) (t : ℕ) (l : ThreadLines) (ran : List Tag) (i : ℕ) (seen : List Seen) (o : Option ℕ) → StandsAt r t l → ran ≡ ran_of r t → length ran ≤ i → seen ≡ seen_of r t
    → o ≡ unlike_line l.thread l.seen (length seen) (tests_behind r t (take i ran) seen) → o ≡ least_failing (client_tests r t)
client_least r t l ran i seen o stands all gone listed is =
    is ∙ ap₂ (λ lack first. unlike_line lack first (length seen) (tests_behind r t (take i ran) seen)) stands.thread stands.seen
    ∙ ap₂ (λ ms xs. unlike_line (thread_line r t) (seen_line r t 0) (length xs) (tests_behind r t ms xs)) (take_all i ran gone ∙ all) listed
    ∙ least_unlike is_same_seen (thread_line r t) (seen_line r t 0) (wanted_seen r t (ran_of r t)) (seen_of r t) (omega arith)

-- ---- All clients

-- a client has lines
pub client_below : (r : Record) (ls : List ThreadLines) (c : ℕ) → AreThreadLines r ls → c ≤ length r.script.clients → c < length ls
client_below r ls c are low = omega (arith, low, are.count, (parts r).threads)

pub client_stands : (r : Record) (ls : List ThreadLines) (c : ℕ) (d : ThreadLines) → AreThreadLines r ls → c ≤ length r.script.clients → StandsAt r c (get_or ls c d)
client_stands r ls c d are low = are.each c (get_or ls c d) (slice_get-get_or ls c d (client_below r ls c are low))

-- one client more
pub clients_more : (r : Record) (n : ℕ) (least next found : Option ℕ) → least ≡ least_failing (flat_map (client_tests r) (range_with_len 1 n))
    → found ≡ least_failing (client_tests r (n + 1)) → next ≡ lesser least found → next ≡ least_failing (flat_map (client_tests r) (range_with_len 1 (n + 1)))
clients_more r n least next found so_far is more =
    more ∙ ap₂ lesser so_far (is ∙ ap (λ c. least_failing (client_tests r c)) here) ∙ sym (least_push (client_tests r) 1 n)
  where
    here : n + 1 ≡ 1 + n
    here = omega arith
