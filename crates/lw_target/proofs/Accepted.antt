-- What an accepted script of one client on one image says of its image and of the client's ops.
use Rattle.std.proofs.Common.{ℕ, zero, suc, ◌≡◌, ◌+◌, ◌*◌, ◌≤◌, ◌<◌, Bool, true, false, List, [], ◌∷◌, ◌++◌, None, length, get_or, arith, refl, sym, ◌∙◌, ap, subst, nat_lt, nat_le}
use Rattle.std.specs.Prelude.{map, sum_by, ◌&&◌, ◌==◌}
use Rattle.std.specs.List.{AllByRecursion, list_all, enumerate_from}
use Rattle.std.proofs.lemmas.List.Elements.{All-from_recursion}
use Rattle.std.proofs.lemmas.Bool.{ltb-true, leb-true, eqb-true}
use Rattle.lw_base.proofs.Bools.{and_first, and_second}
use Rattle.lw_base.proofs.Lists.{none_mapped}
use Rattle.lw_model.specs.declared.script.Script.{Script}
use Rattle.lw_model.specs.declared.script.ClientOf.{ClientOf}
use Rattle.lw_model.specs.declared.script.ImageOf.{ImageOf}
use Rattle.lw_model.specs.declared.script.Op.{Op}
use Rattle.lw_model.specs.declared.script.Op.TheVariants as op
use Rattle.lw_model.specs.declared.refusal.ScriptRefusal.TheVariants.{Name, Range, Pattern, Limit}
use Rattle.lw_model.specs.ScriptRules.{is_within, has_depths, Placed, placed_ops, first_failing, first_out_of_range, first_bad_pattern, is_in_range, is_in_range_after, is_pattern, read_bytes, rule_broken, rule_answers, has_names, names_an_image, all_ops}
use Rattle.lw_script_rules.specs.Served.{is_served, is_basic}
use Rattle.lw_model.proofs.Rules.{each-none, kept, each_passes}
use Rattle.lw_target.specs.Messages.{stated_extent, IsWithin, operands}
use Rattle.lw_target.specs.Ops.{asks_bytes, is_servable}
use Rattle.lw_target.specs.Turns.{OpsFit}

-- the script of one client on one image
abbrev pub one : ImageOf → ClientOf → ℕ → ℕ → Script
one image client small large = record { images = image ∷ []; clients = client ∷ []; small = small; large = large }

-- where no op fails a test, each op passes it behind some others
-- the ops of one client, each with its place
ops_of_placed : (Q : Op → Type 0) (n : ℕ) (ops : List Op)
    → AllByRecursion (λ (p : Placed). Q p.op) (map (λ o. record { client = 0; place = o.0; op = o.1 }) (enumerate_from n ops) ++ [])
    → AllByRecursion Q ops
ops_of_placed Q n [] all = tt
ops_of_placed Q n (o ∷ ops) all = (all.0, ops_of_placed Q (n + 1) ops all.1)

each_op : (image : ImageOf) (client : ClientOf) (small large : ℕ) (test : List Op → Op → Bool) (Q : Op → Type 0)
    → ((before : List Op) (o : Op) → test before o ≡ true → Q o) → first_failing test (one image client small large) ≡ None → AllByRecursion Q client.ops
each_op image client small large test Q means e =
    ops_of_placed Q 0 client.ops
    (each_passes test Q means [] (placed_ops (one image client small large)) (none_mapped (λ p. p.1) _ e))

all_of_test : (p : Op → Bool) (ops : List Op) → list_all p (ops ++ []) ≡ true → AllByRecursion (λ (o : Op). p o ≡ true) ops
all_of_test p [] e = tt
all_of_test p (o ∷ ops) e = (and_first (p o) (list_all p (ops ++ [])) e, all_of_test p ops (and_second (p o) (list_all p (ops ++ [])) e))

test_of_all : (p : Op → Bool) (ops : List Op) → AllByRecursion (λ (o : Op). p o ≡ true) ops → list_all p ops ≡ true
test_of_all p [] all = refl
test_of_all p (o ∷ ops) all = rw (all.0) (test_of_all p ops all.1)

zip_all : (P Q R : Op → Type 0) → ((o : Op) → P o → Q o → R o) → (ops : List Op) → AllByRecursion P ops → AllByRecursion Q ops → AllByRecursion R ops
zip_all P Q R f [] ps qs = tt
zip_all P Q R f (o ∷ ops) ps qs = (f o ps.0 qs.0, zip_all P Q R f ops ps.1 qs.1)

-- an op of the form that names the one image is one that the client can do
servable_op : (image : ImageOf) (client : ClientOf) (small large : ℕ) (o : Op) → is_basic o ≡ true → names_an_image (one image client small large) o ≡ true → is_servable 1 o ≡ true
servable_op image client small large (op.Get d) b n = n
servable_op image client small large (op.Put d) b n = n
servable_op image client small large (op.Write d start count pattern) b n = n
servable_op image client small large (op.Read d start count) b n = n
servable_op image client small large (op.Flush d) b n = let wrong : false ≡ true = b in cc
servable_op image client small large (op.Wait d) b n = let wrong : false ≡ true = b in cc
servable_op image client small large (op.Visit d) b n = let wrong : false ≡ true = b in cc
servable_op image client small large op.Each b n = let wrong : false ≡ true = b in cc
servable_op image client small large (op.Unregister d) b n = let wrong : false ≡ true = b in cc

-- an op is in the range behind the reads of others
abbrev IsInRange : Script → Op → Type 0
IsInRange s o = (bytes : ℕ) × (is_in_range_after s bytes o ≡ true)

in_image : (d start count blocks rest : ℕ) → (nat_lt 0 count && nat_le (start + count) blocks && nat_le rest 131072) ≡ true
    → (0 < count) × (start + count ≤ blocks) × (rest ≤ 131072)
in_image d start count blocks rest e =
    let both = and_first (nat_lt 0 count && nat_le (start + count) blocks) (nat_le rest 131072) e in (
      ltb-true 0 count (and_first (nat_lt 0 count) (nat_le (start + count) blocks) both),
      leb-true (start + count) blocks (and_second (nat_lt 0 count) (nat_le (start + count) blocks) both),
      leb-true rest 131072 (and_second (nat_lt 0 count && nat_le (start + count) blocks) (nat_le rest 131072) e),
    )

in_image_read : (start count blocks rest bytes : ℕ) → ((nat_lt 0 count && nat_le (start + count) blocks && nat_le rest 131072) && nat_le bytes 16777216) ≡ true
    → (0 < count) × (start + count ≤ blocks) × (rest ≤ 131072)
in_image_read start count blocks rest bytes e =
    in_image 0 start count blocks rest (and_first (nat_lt 0 count && nat_le (start + count) blocks && nat_le rest 131072) (nat_le bytes 16777216) e)

within_op : (image : ImageOf) (client : ClientOf) (small large : ℕ) (o : Op) → is_servable 1 o ≡ true
    → IsInRange (one image client small large) o × (is_pattern o ≡ true) → asks_bytes o ≡ true → IsWithin (stated_extent image) (operands o)
within_op image client small large (op.Write zero start count pattern) n (r, p) a =
    let fits = in_image zero start count image.blocks (count * image.block) r.1 in
    (fits.0, fits.1, leb-true 1 (length pattern) (and_first (nat_le 1 (length pattern)) (nat_le (length pattern) 64) p))
within_op image client small large (op.Write (suc d) start count pattern) n r a = absurd (omega (arith, ltb-true (suc d) 1 n))
within_op image client small large (op.Read zero start count) n (r, p) a = in_image_read start count image.blocks (count * image.block) (r.0 + count * image.block) r.1
within_op image client small large (op.Read (suc d) start count) n r a = absurd (omega (arith, ltb-true (suc d) 1 n))
within_op image client small large (op.Get d) n r a = let wrong : false ≡ true = a in cc
within_op image client small large (op.Put d) n r a = let wrong : false ≡ true = a in cc
within_op image client small large (op.Flush d) n r a = let wrong : false ≡ true = a in cc
within_op image client small large (op.Wait d) n r a = let wrong : false ≡ true = a in cc
within_op image client small large (op.Visit d) n r a = let wrong : false ≡ true = a in cc
within_op image client small large op.Each n r a = let wrong : false ≡ true = a in cc
within_op image client small large (op.Unregister d) n r a = let wrong : false ≡ true = a in cc

serves_one : (image : ImageOf) (client : ClientOf) (small large : ℕ) → rule_broken (one image client small large) ≡ None
    → is_served (one image client small large) ≡ true → AllByRecursion (λ (o : Op). is_servable 1 o ≡ true) client.ops
serves_one image client small large e served =
    let s = one image client small large in
    let names = kept (rule_answers s) 9 (has_names s) Name e refl in
    zip_all (λ o. is_basic o ≡ true) (λ o. names_an_image s o ≡ true) (λ o. is_servable 1 o ≡ true)
    (λ o b n. servable_op image client small large o b n) client.ops
    (all_of_test is_basic client.ops (and_second true (list_all is_basic (client.ops ++ [])) served))
    (all_of_test (names_an_image s) client.ops (and_second _ (list_all (names_an_image s) (client.ops ++ [])) names))

fits_one : (image : ImageOf) (client : ClientOf) (small large : ℕ) → rule_broken (one image client small large) ≡ None
    → is_served (one image client small large) ≡ true → OpsFit (stated_extent image) client.ops
fits_one image client small large e served =
    let s = one image client small large in
    let range = each_op image client small large (is_in_range s) (IsInRange s) (λ before o t. (sum_by (read_bytes s) before, t))
    (none_mapped (λ p. Range p.client p.place) (first_out_of_range s) (each-none (rule_answers s) 10 _ e refl)) in
    let pattern = each_op image client small large (λ _. is_pattern) (λ o. is_pattern o ≡ true) (λ before o t. t)
    (none_mapped (λ p. Pattern p.client p.place) (first_bad_pattern s) (each-none (rule_answers s) 11 _ e refl)) in
    All-from_recursion (λ o. asks_bytes o ≡ true → IsWithin (stated_extent image) (operands o)) client.ops
    (zip_all (λ o. is_servable 1 o ≡ true) (λ o. IsInRange s o × (is_pattern o ≡ true)) (λ o. asks_bytes o ≡ true → IsWithin (stated_extent image) (operands o))
    (λ o n r. within_op image client small large o n r) client.ops (serves_one image client small large e served)
    (zip_all (IsInRange s) (λ o. is_pattern o ≡ true) (λ o. IsInRange s o × (is_pattern o ≡ true)) (λ o r q. (r, q)) client.ops range pattern))

-- ---- a script of one client on one image

pub single : {X : Type 0} (xs : List X) (x : X) → length xs ≡ 1 → x ≡ get_or xs 0 x → xs ≡ x ∷ []
single [] x e f = absurd (omega (arith, e))
single (y ∷ []) x e f = ap (λ z. z ∷ []) (sym f)
single (y ∷ z ∷ xs) x e f = absurd (omega (arith, e))

pub single_last : {X : Type 0} (xs rest : List X) (x : X) → xs ≡ rest ++ x ∷ [] → length xs ≡ 1 → xs ≡ x ∷ []
single_last xs [] x e f = e
single_last xs (y ∷ []) x e f = absurd (omega (arith, ap length e, f))
single_last xs (y ∷ z ∷ rest) x e f = absurd (omega (arith, ap length e, f))

pub script_is : (s : Script) (image : ImageOf) (client : ClientOf) → s.images ≡ image ∷ [] → s.clients ≡ client ∷ [] → s ≡ one image client s.small s.large
script_is s image client e f =
    ap (λ (is : List ImageOf). let r : Script = record { images = is; clients = s.clients; small = s.small; large = s.large } in r) e
    ∙ ap (λ (cs : List ClientOf). let r : Script = record { images = image ∷ []; clients = cs; small = s.small; large = s.large } in r) f

pub images_one : (s : Script) → is_served s ≡ true → length s.images ≡ 1
images_one s e = eqb-true (length s.images) 1
    (and_first (length s.images == 1) (length s.clients == 1) (and_first (length s.images == 1 && length s.clients == 1) (list_all is_basic (all_ops s)) e))

pub clients_one : (s : Script) → is_served s ≡ true → length s.clients ≡ 1
clients_one s e = eqb-true (length s.clients) 1
    (and_second (length s.images == 1) (length s.clients == 1) (and_first (length s.images == 1 && length s.clients == 1) (list_all is_basic (all_ops s)) e))

pub serves : (s : Script) (image : ImageOf) (client : ClientOf) → rule_broken s ≡ None → is_served s ≡ true
    → s.images ≡ image ∷ [] → s.clients ≡ client ∷ [] → list_all (is_servable 1) client.ops ≡ true
serves s image client e served f g =
    let is = script_is s image client f g in
    test_of_all (is_servable 1) client.ops
    (serves_one image client s.small s.large (subst (λ r. rule_broken r ≡ None) is e) (subst (λ r. is_served r ≡ true) is served))

pub ops_fit : (s : Script) (image : ImageOf) (client : ClientOf) → rule_broken s ≡ None → is_served s ≡ true
    → s.images ≡ image ∷ [] → s.clients ≡ client ∷ [] → OpsFit (stated_extent image) client.ops
ops_fit s image client e served f g =
    let is = script_is s image client f g in
    fits_one image client s.small s.large (subst (λ r. rule_broken r ≡ None) is e) (subst (λ r. is_served r ≡ true) is served)

-- the one client's depth is at least 1
pub depth_one : (s : Script) (client : ClientOf) → rule_broken s ≡ None → s.clients ≡ client ∷ [] → 1 ≤ client.depth
depth_one s client e is =
    let all = kept (rule_answers s) 4 (has_depths s) (Limit 5) e refl in
    let one = sym (ap (list_all (λ (c : ClientOf). is_within 1 32 c.depth)) is) ∙ all in
    leb-true 1 client.depth (and_first (nat_le 1 client.depth) (nat_le client.depth 32) (and_first (is_within 1 32 client.depth) true one))
