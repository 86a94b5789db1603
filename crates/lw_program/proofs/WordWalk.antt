-- What clap's walk over the words makes of them, as the options with their values.
use Rattle.std.proofs.Common.{◌≡◌, ◌∙◌, Bool, cond, true, false, refl, sym, ap, subst, List, [], ◌∷◌, ◌++◌, Option, Some, None, append-nil, append_assoc, IsUtf8, suc, nat_lt, is_some}
use Rattle.std.specs.List.{fold}
use Rattle.std.specs.Option.{option_map_or}
use Rattle.std.specs.Str.{bytes_eq}
use Rattle.std.proofs.lemmas.Slice.Eq.{bytes_eq-Decides}
use Rattle.clap.specs.Lexer.{long_of, short_of}
use Rattle.clap.specs.Walk.{Held, Row, Rule, Text, Waiting, Walk, after_flag, after_step, idle, finished, long_met, next, option_word, short_or_plain, used_by_id, walk, option, long_or_other, reacted, settled, subcommand_met, walked, nothing_held}
use Rattle.clap.specs.Simple.{built, entered, matches_of}
use Rattle.clap.specs.Faults.{fault_of, check_fault, defaults_fault, entered_fault, bundle_fault, bundle_step_fault, flag_word_fault, flags_fault, long_fault, settle_fault, step_fault, turn_fault, use_fault, walk_fault}
use Rattle.clap.specs.Kinds.{Kinds, or_else}
use Rattle.clap.specs.declared.error.kind.ErrorKind.TheVariants.{UnknownArgument, InvalidValue}
use Rattle.lw_program.proofs.WordShapes.{first_char, long_is_flag, plain_is_value, short_is_flag}
use Rattle.lw_program.specs.Parsed.{run_app}
use Rattle.lw_program.specs.Words.{Given, option_names, is_option, is_flag, given_from, option_met, followed_by}
use Rattle.lw_program.proofs.WordRules.{rules, top, filled, defaults_pass, defaults_keep, by_long, none_by_long, by_id, held_of, rows_from, rows_more, add}

abbrev mark : Text
mark = 45 ∷ 45 ∷ []

abbrev at : Held → Waiting → Walk
at h waiting = record { held = h; waiting = waiting; position = 1; is_trailing = false; stopped = None }

abbrev end : Held → Waiting → List Text → Held
end h waiting words = (fold (walked rules []) (at h waiting) words).held

-- the fault of the words, and of what waits behind them
abbrev fault : Held → Waiting → List Text → Kinds
fault h waiting words = or_else (walk_fault top [] (at h waiting) words) (settle_fault rules false (end h waiting words))

-- there is no fault where the words are options, which the rows then have; else there is one
abbrev Agrees : Kinds → Held → List Given → Option (List Given) → Type 0
Agrees [] h given cut = (more : List Given) × (cut ≡ Some more) × (settled rules h ≡ held_of (given ++ more))
Agrees (k ∷ ks) h given cut = cut ≡ None

-- ---- one word

turn_is : (h : Held) (waiting : Waiting) (word : Text) → bytes_eq word mark ≡ false → subcommand_met [] waiting word ≡ None
    → turn_fault top [] (at h waiting) word
    ≡ or_else (flag_word_fault rules false (long_of word) word h)
    (step_fault top 1 (long_or_other rules waiting word (long_of word) h).0 (long_or_other rules waiting word (long_of word) h).1)
turn_is h waiting word plain none = rw (none, plain) refl

walk_is : (h : Held) (waiting : Waiting) (word : Text) → bytes_eq word mark ≡ false → subcommand_met [] waiting word ≡ None
    → walked rules [] (at h waiting) word
    ≡ after_step rules word (at h waiting) (long_or_other rules waiting word (long_of word) h).0 (long_or_other rules waiting word (long_of word) h).1
unfolding walked
walk_is h waiting word plain none = rw (none, plain) refl

passes : (h next_h : Held) (waiting next_waiting : Waiting) (word : Text) (rest : List Text) (given : List Given) (cut : Option (List Given))
    → turn_fault top [] (at h waiting) word ≡ [] → walked rules [] (at h waiting) word ≡ at next_h next_waiting
    → Agrees (fault next_h next_waiting rest) (end next_h next_waiting rest) given cut
    → Agrees (fault h waiting (word ∷ rest)) (end h waiting (word ∷ rest)) given cut
unfolding walk_fault
passes h next_h waiting next_waiting word rest given cut none goes agrees =
    let P : Kinds → Walk → Type 0 = λ k w. Agrees (or_else (or_else k (walk_fault top [] w rest)) (settle_fault rules false (fold (walked rules []) w rest).held)) (fold (walked rules []) w rest).held given cut in
    subst (λ k. P k (walked rules [] (at h waiting) word)) (sym none) (subst (P []) (sym goes) agrees)

fails : (h : Held) (waiting : Waiting) (word : Text) (rest : List Text) (given : List Given) (cut : Option (List Given)) (k : _) (ks : Kinds)
    → turn_fault top [] (at h waiting) word ≡ k ∷ ks → cut ≡ None
    → Agrees (fault h waiting (word ∷ rest)) (end h waiting (word ∷ rest)) given cut
unfolding walk_fault
fails h waiting word rest given cut k ks some none =
    let w = walked rules [] (at h waiting) word in
    subst (λ x. Agrees (or_else (or_else x (walk_fault top [] w rest)) (settle_fault rules false (fold (walked rules []) w rest).held)) (fold (walked rules []) w rest).held given cut) (sym some) none

-- ---- the words

-- what waits is settled without fault, and the rows are then those of the options given
abbrev Idle : Held → List Given → Type 0
Idle h given = (settle_fault rules false h ≡ []) × (settled rules h ≡ held_of given)

abbrev IsWord : Text → Type 0
IsWord word = (bytes_eq word mark ≡ false) × IsUtf8 word

abbrev waits_for : List Given → Text → Held
waits_for given name = record (held_of given) { pending = Some (name, []) }

-- one option more
idle_more : (h : Held) (given : List Given) (g : Given) → Idle h given → Idle (reacted rules (filled g.0) (g.1 ∷ []) h) (given ++ g ∷ [])
idle_more h given g is = (refl, ap (λ (k : Held). record k { rows = add k.rows g }) is.1 ∙ ap (λ rows. record (held_of given) { rows = rows }) (sym (rows_more given [] g)))

-- the value of a name that waits for one
value_taken : (given : List Given) (name value : Text) → is_option name ≡ true
    → Idle (record (held_of given) { pending = Some (name, value ∷ []) }) (given ++ (name, value) ∷ [])
value_taken given name value is = (
  ap (λ o. option_map_or (λ a. use_fault false a (value ∷ []) (rows_from [] given)) o []) (by_id name is),
  ap (λ o. record (held_of given) { rows = used_by_id o (value ∷ []) (rows_from [] given) }) (by_id name is) ∙ ap (λ rows. record (held_of given) { rows = rows }) (sym (rows_more given [] (name, value))),
)

abbrev waiting_of : Option Text → Waiting
waiting_of None = idle
waiting_of (Some name) = option name

-- between two words nothing waits for a value, or a name does
abbrev Stands : Option Text → Held → List Given → Type 0
Stands None h given = Idle h given
Stands (Some name) h given = (is_option name ≡ true) × (h ≡ waits_for given name)

-- what is claimed of the words that are left
abbrev Follows : List Text → Type 0
Follows rest = (mode : Option Text) (h : Held) (given : List Given) → Stands mode h given → Agrees (fault h (waiting_of mode) rest) (end h (waiting_of mode) rest) given (given_from mode rest)

shift : (k : Kinds) (h : Held) (given : List Given) (g : Given) (cut : Option (List Given)) → Agrees k h (given ++ g ∷ []) cut → Agrees k h given (followed_by g cut)
shift [] h given g cut a = (g ∷ a.0, ap (followed_by g) a.1, a.2 ∙ ap held_of (append_assoc given (g ∷ []) a.0))
shift (k ∷ ks) h given g cut a = ap (followed_by g) a

-- ---- what a long flag comes to

abbrev long_turn : Option Rule → Option Text → Waiting → Text → Held → Kinds
long_turn o v waiting word h = or_else (long_fault rules false o v h) (step_fault top 1 (after_flag rules waiting word (long_met rules o v h).0 (long_met rules o v h).1).0 (after_flag rules waiting word (long_met rules o v h).0 (long_met rules o v h).1).1)

abbrev long_goes : Option Rule → Option Text → Waiting → Text → Held → Walk
long_goes o v waiting word h = after_step rules word (at h waiting) (after_flag rules waiting word (long_met rules o v h).0 (long_met rules o v h).1).0 (after_flag rules waiting word (long_met rules o v h).0 (long_met rules o v h).1).1

abbrev turn_of : Option (Text × Option Text) → Waiting → Text → Held → Kinds
turn_of lo waiting word h = or_else (flag_word_fault rules false lo word h) (step_fault top 1 (long_or_other rules waiting word lo h).0 (long_or_other rules waiting word lo h).1)

abbrev goes_of : Option (Text × Option Text) → Waiting → Text → Held → Walk
goes_of lo waiting word h = after_step rules word (at h waiting) (long_or_other rules waiting word lo h).0 (long_or_other rules waiting word lo h).1

module _ (h : Held) (waiting : Waiting) (word : Text) (plain : bytes_eq word mark ≡ false) (none : subcommand_met [] waiting word ≡ None) (name : Text) (v : Option Text) (long : long_of word ≡ Some (name, v)) where
  known_turn : is_option name ≡ true → turn_fault top [] (at h waiting) word ≡ long_turn (Some (filled name)) v waiting word h
  known_turn is = turn_is h waiting word plain none ∙ ap (λ lo. turn_of lo waiting word h) long ∙ ap (λ o. long_turn o v waiting word h) (by_long name is)

  known_goes : is_option name ≡ true → walked rules [] (at h waiting) word ≡ long_goes (Some (filled name)) v waiting word h
  known_goes is = walk_is h waiting word plain none ∙ ap (λ lo. goes_of lo waiting word h) long ∙ ap (λ o. long_goes o v waiting word h) (by_long name is)

  unknown_turn : is_option name ≡ false → turn_fault top [] (at h waiting) word ≡ UnknownArgument ∷ []
  unknown_turn is = turn_is h waiting word plain none ∙ ap (λ lo. turn_of lo waiting word h) long ∙ ap (λ o. long_turn o v waiting word h) (none_by_long name is)

-- a short flag is refused
short_turn : (h : Held) (waiting : Waiting) (word flags : Text) → IsWord word → h.skip ≡ 0 → subcommand_met [] waiting word ≡ None → long_of word ≡ None → short_of word ≡ Some flags
    → turn_fault top [] (at h waiting) word ≡ UnknownArgument ∷ []
unfolding flags_fault
short_turn h waiting word flags is skip none long short =
    let first = first_char word flags is.1 short in
    let rest : Kinds = step_fault top 1 (long_or_other rules waiting word None h).0 (long_or_other rules waiting word None h).1 in
    turn_is h waiting word is.0 none ∙ ap (λ lo. turn_of lo waiting word h) long
    ∙ ap (λ o. or_else (option_map_or (λ fs. bundle_fault rules false fs h) o []) rest) short
    ∙ ap (λ n. or_else (flags_fault rules false n flags h.skip (record h { skip = 0 })) rest) first.3
    ∙ ap (λ n. or_else (flags_fault rules false (suc first.1) flags n (record h { skip = 0 })) rest) skip
    ∙ ap (λ o. or_else (bundle_step_fault rules false o flags 0 (record h { skip = 0 }) (flags_fault rules false first.1)) rest) first.2

-- ---- a word where nothing waits

step_idle : (word : Text) (rest : List Text) (h : Held) (given : List Given) → IsWord word → Idle h given → Follows rest
    → Agrees (fault h idle (word ∷ rest)) (end h idle (word ∷ rest)) given (option_met (long_of word) (given_from None rest) (λ name. given_from (Some name) rest))
step_idle word rest h given is stands follows = by_long_form (long_of word) refl
  where
    after_value : (name value : Text) → long_of word ≡ Some (name, Some value) → (b : Bool) → is_option name ≡ b
        → Agrees (fault h idle (word ∷ rest)) (end h idle (word ∷ rest)) given (cond b (followed_by (name, value) (given_from None rest)) None)
    after_value name value long false unknown = fails h idle word rest given None UnknownArgument [] (unknown_turn h idle word is.0 refl name (Some value) long unknown) refl
    after_value name value long true known =
        let held = reacted rules (filled name) (value ∷ []) h in
        passes h held idle idle word rest given _
        (known_turn h idle word is.0 refl name (Some value) long known ∙ ap (λ k. or_else (or_else k []) []) stands.0)
        (known_goes h idle word is.0 refl name (Some value) long known)
        (shift _ (end held idle rest) given (name, value) _ (follows None held (given ++ (name, value) ∷ []) (idle_more h given (name, value) stands)))

    after_name : (name : Text) → long_of word ≡ Some (name, None) → (b : Bool) → is_option name ≡ b
        → Agrees (fault h idle (word ∷ rest)) (end h idle (word ∷ rest)) given (cond b (given_from (Some name) rest) None)
    after_name name long false unknown = fails h idle word rest given None UnknownArgument [] (unknown_turn h idle word is.0 refl name None long unknown) refl
    after_name name long true known =
        let held : Held = record (settled rules h) { pending = Some (name, []) } in
        passes h held idle (option name) word rest given _
        (known_turn h idle word is.0 refl name None long known ∙ ap (λ k. or_else k []) stands.0)
        (known_goes h idle word is.0 refl name None long known)
        (follows (Some name) held given (known, ap (λ (k : Held). record k { pending = Some (name, []) }) stands.1))

    by_short_form : long_of word ≡ None → (o : Option Text) → short_of word ≡ o → Agrees (fault h idle (word ∷ rest)) (end h idle (word ∷ rest)) given None
    by_short_form long (Some flags) short = fails h idle word rest given None UnknownArgument [] (short_turn h idle word flags is (ap (λ (k : Held). k.skip) stands.1) refl long short) refl
    by_short_form long None short = fails h idle word rest given None UnknownArgument []
        (turn_is h idle word is.0 refl ∙ ap (λ lo. turn_of lo idle word h) long ∙ ap (λ o. or_else (option_map_or (λ fs. bundle_fault rules false fs h) o []) (step_fault top 1 (short_or_plain rules idle word o h).0 (short_or_plain rules idle word o h).1)) short) refl

    by_long_form : (lo : Option (Text × Option Text)) → long_of word ≡ lo
        → Agrees (fault h idle (word ∷ rest)) (end h idle (word ∷ rest)) given (option_met lo (given_from None rest) (λ name. given_from (Some name) rest))
    by_long_form None long = by_short_form long (short_of word) refl
    by_long_form (Some (name, Some value)) long = after_value name value long (is_option name) refl
    by_long_form (Some (name, None)) long = after_name name long (is_option name) refl

-- ---- a word where a name waits for its value

step_wait : (word : Text) (rest : List Text) (given : List Given) (name : Text) → IsWord word → is_option name ≡ true → Follows rest
    → Agrees (fault (waits_for given name) (option name) (word ∷ rest)) (end (waits_for given name) (option name) (word ∷ rest)) given
    (cond (is_flag word) None (followed_by (name, word) (given_from None rest)))
step_wait word rest given name is known follows = by_long_form (long_of word) refl
  where
    h : Held
    h = waits_for given name

    cut : Option (List Given)
    cut = followed_by (name, word) (given_from None rest)

    no_cut : is_flag word ≡ true → cond (is_flag word) None cut ≡ None
    no_cut flag = ap (λ b. cond b None cut) flag

    -- the name that waits has no value
    lacks : settle_fault rules false h ≡ InvalidValue ∷ []
    lacks = ap (λ o. option_map_or (λ a. use_fault false a [] (rows_from [] given)) o []) (by_id name known)

    with_value : (other : Text) (v : Option Text) → long_of word ≡ Some (other, v) → is_option other ≡ true → turn_fault top [] (at h (option name)) word ≡ InvalidValue ∷ []
    with_value other (Some value) long is_known = known_turn h (option name) word is.0 refl other (Some value) long is_known
        ∙ ap (λ k. or_else (or_else k (use_fault false (filled other) (value ∷ []) (settled rules h).rows)) []) lacks
    with_value other None long is_known = known_turn h (option name) word is.0 refl other None long is_known ∙ ap (λ k. or_else k []) lacks

    by_name : (other : Text) (v : Option Text) → long_of word ≡ Some (other, v) → (b : Bool) → is_option other ≡ b
        → Agrees (fault h (option name) (word ∷ rest)) (end h (option name) (word ∷ rest)) given (cond (is_flag word) None cut)
    by_name other v long false unknown = fails h (option name) word rest given _ UnknownArgument [] (unknown_turn h (option name) word is.0 refl other v long unknown) (no_cut (long_is_flag word (other, v) long))
    by_name other v long true is_known = fails h (option name) word rest given _ InvalidValue [] (with_value other v long is_known) (no_cut (long_is_flag word (other, v) long))

    held : Held
    held = record (held_of given) { pending = Some (name, word ∷ []) }

    taken_turn : long_of word ≡ None → short_of word ≡ None → turn_fault top [] (at h (option name)) word ≡ []
    taken_turn long short = turn_is h (option name) word is.0 refl ∙ ap (λ lo. turn_of lo (option name) word h) long
        ∙ ap (λ o. or_else (option_map_or (λ fs. bundle_fault rules false fs h) o []) (step_fault top 1 (short_or_plain rules (option name) word o h).0 (short_or_plain rules (option name) word o h).1)) short

    self : bytes_eq name name ≡ true
    self = (bytes_eq-Decides name name).1 refl

    taken_goes : long_of word ≡ None → short_of word ≡ None → walked rules [] (at h (option name)) word ≡ at held idle
    taken_goes long short = walk_is h (option name) word is.0 refl ∙ ap (λ lo. goes_of lo (option name) word h) long
        ∙ ap (λ o. after_step rules word (at h (option name)) (short_or_plain rules (option name) word o h).0 (short_or_plain rules (option name) word o h).1) short
        ∙ ap (λ o. after_step rules word (at h (option name)) (option_word o name word h).0 (next (option_word o name word h).1)) (by_id name known)
        ∙ ap (λ (b : Bool). at held (cond (nat_lt (cond b 1 0) 1) (option name) idle)) self

    by_short_form : long_of word ≡ None → (o : Option Text) → short_of word ≡ o
        → Agrees (fault h (option name) (word ∷ rest)) (end h (option name) (word ∷ rest)) given (cond (is_flag word) None cut)
    by_short_form long (Some flags) short = fails h (option name) word rest given _ UnknownArgument [] (short_turn h (option name) word flags is refl refl long short) (no_cut (short_is_flag word flags short))
    by_short_form long None short =
        let value : is_flag word ≡ false = plain_is_value word long short is.0 in
        subst (λ b. Agrees (fault h (option name) (word ∷ rest)) (end h (option name) (word ∷ rest)) given (cond b None cut)) (sym value)
        (passes h held (option name) idle word rest given cut (taken_turn long short) (taken_goes long short)
        (shift _ (end held idle rest) given (name, word) _ (follows None held (given ++ (name, word) ∷ []) (value_taken given name word known))))

    by_long_form : (lo : Option (Text × Option Text)) → long_of word ≡ lo
        → Agrees (fault h (option name) (word ∷ rest)) (end h (option name) (word ∷ rest)) given (cond (is_flag word) None cut)
    by_long_form None long = by_short_form long (short_of word) refl
    by_long_form (Some (other, v)) long = by_name other v long (is_option other) refl

-- ---- all the words

abbrev pub AreWords : List Text → Type 0
AreWords [] = Unit {0}
AreWords (word ∷ rest) = IsWord word × AreWords rest

follows_all : (words : List Text) → AreWords words → Follows words
unfolding walk_fault
follows_all [] are None h given stands = subst (λ k. Agrees k h given (Some [])) (sym stands.0) ([], refl, stands.1 ∙ ap held_of (sym (append-nil given)))
follows_all [] are (Some name) h given stands =
    let lacks : settle_fault rules false (waits_for given name) ≡ InvalidValue ∷ [] = ap (λ o. option_map_or (λ a. use_fault false a [] (rows_from [] given)) o []) (by_id name stands.0) in
    subst (λ k. Agrees k h given None) (sym (ap (settle_fault rules false) stands.1 ∙ lacks)) refl
follows_all (word ∷ rest) are None h given stands = step_idle word rest h given are.0 stands (follows_all rest are.1)
follows_all (word ∷ rest) are (Some name) h given stands =
    subst (λ k. Agrees (fault k (option name) (word ∷ rest)) (end k (option name) (word ∷ rest)) given (given_from (Some name) (word ∷ rest))) (sym stands.1)
    (step_wait word rest given name are.0 stands.0 (follows_all rest are.1))

-- what a parse finds at fault, and its rows where that is nothing, are what the words give
abbrev pub Reads : Kinds → List Row → Option (List Given) → Type 0
Reads [] rows cut = (given : List Given) × (cut ≡ Some given) × (rows ≡ rows_from [] given)
Reads (k ∷ ks) rows cut = cut ≡ None

last : (k : Kinds) (h : Held) (cut : Option (List Given)) → Agrees k h [] cut → Reads k (settled rules h).rows cut
last [] h cut a = (a.0, a.1, ap (λ (x : Held). x.rows) a.2)
last (k ∷ ks) h cut a = a

or_none : (k : Kinds) → or_else k [] ≡ k
or_none [] = refl
or_none (k ∷ ks) = refl

none_entered : (stop : Option (Text × List Text)) → entered (built run_app) stop ≡ None
none_entered None = refl
none_entered (Some p) = refl

none_below : (stop : Option (Text × List Text)) → entered_fault (built run_app) stop ≡ []
none_below None = refl
none_below (Some p) = refl

pub reads : (first : Text) (words : List Text) → AreWords words → Reads (fault_of run_app (first ∷ words)) (matches_of run_app (first ∷ words)) (given_from None words)
reads first words are =
    let stop = (walk rules [] nothing_held words).stopped in
    let ends = end nothing_held idle words in
    let w = walk_fault top [] (at nothing_held idle) words in
    let s = settle_fault rules false ends in
    let fault_is : fault_of run_app (first ∷ words) ≡ or_else w s =
    ap (λ below. or_else w (or_else below (or_else s (or_else (defaults_fault (settled rules ends).rows rules) (check_fault top (finished rules ends) (is_some (entered (built run_app) stop))))))) (none_below stop)
    ∙ ap (λ o. or_else w (or_else s (or_else (defaults_fault (settled rules ends).rows rules) (check_fault top (finished rules ends) (is_some o))))) (none_entered stop)
    ∙ ap (λ k. or_else w (or_else s (or_else k []))) (defaults_pass option_names (settled rules ends).rows)
    ∙ ap (or_else w) (or_none s) in
    let rows_are : matches_of run_app (first ∷ words) ≡ (settled rules ends).rows = defaults_keep option_names (settled rules ends).rows in
    subst (λ k. Reads k (matches_of run_app (first ∷ words)) (given_from None words)) (sym fault_is)
    (subst (λ rows. Reads (or_else w s) rows (given_from None words)) (sym rows_are)
    (last (or_else w s) ends (given_from None words) (follows_all words are None nothing_held [] (refl, refl))))
