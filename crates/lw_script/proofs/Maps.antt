-- Lists that are made of the values of other lists.
use Rattle.std.proofs.Common.{◌≡◌, ℕ, ◌+◌, ◌<◌, List, [], ◌∷◌, ◌++◌, Option, Some, None, map, take, length, get_or, ap, sym, ◌∙◌, refl}
use Rattle.std.specs.List.{filter_map, cons_option}
use Rattle.std.proofs.lemmas.List.{take_more}
use Rattle.serde_json.specs.Data.{Data}
use Rattle.lw_model.specs.declared.script.Script.{Script}
use Rattle.lw_model.specs.declared.script.ImageOf.{ImageOf}
use Rattle.lw_model.specs.declared.script.ClientOf.{ClientOf}
use Rattle.lw_model.specs.ScriptShape.{image_in, name_in}
use Rattle.lw_script.specs.Fitted.{fitted_image}

-- what is made in two steps of the values of a list
pub map-made : {V X Y Z : Type 0} (h : Y → Z) (g : X → Y) (f : V → X) (vs : List V) (ds : List X) → map f vs ≡ ds →
    map (λ v. h (g (f v))) vs ≡ map h (map g ds)
map-made h g f [] ds e = ap (λ l. map h (map g l)) e
map-made h g f (v ∷ vs) ds e = ap (λ t. h (g (f v)) ∷ t) (map-made h g f vs (map f vs) refl) ∙ ap (λ l. map h (map g l)) e

filter_map-map : {X Y Z : Type 0} (h : Y → Option Z) (f : X → Y) (xs : List X) → filter_map (λ x. h (f x)) xs ≡ filter_map h (map f xs)
filter_map-map h f [] = refl
filter_map-map h f (x ∷ xs) = ap (cons_option (h (f x))) (filter_map-map h f xs)

-- what is made of those values of a list that make something
pub filter_map-made : {X Y Z : Type 0} (h : Y → Option Z) (f : X → Y) (vs : List X) (ds : List Y) → map f vs ≡ ds → filter_map (λ v. h (f v)) vs ≡ filter_map h ds
filter_map-made h f vs ds e = filter_map-map h f vs ∙ ap (filter_map h) e

cons_option-append : {X : Type 0} (o : Option X) (xs ys : List X) → cons_option o (xs ++ ys) ≡ cons_option o xs ++ ys
cons_option-append None xs ys = refl
cons_option-append (Some x) xs ys = refl

filter_map-last : {X Y : Type 0} (h : X → Option Y) (xs : List X) (x : X) → filter_map h (xs ++ x ∷ []) ≡ filter_map h xs ++ cons_option (h x) []
filter_map-last h [] x = refl
filter_map-last h (y ∷ ys) x = ap (cons_option (h y)) (filter_map-last h ys x) ∙ cons_option-append (h y) (filter_map h ys) (cons_option (h x) [])

pub filter_map-more : {X Y : Type 0} (h : X → Option Y) (xs : List X) (i : ℕ) (x : X) → i < length xs → x ≡ get_or xs i x →
    filter_map h (take (i + 1) xs) ≡ filter_map h (take i xs) ++ cons_option (h x) []
filter_map-more h xs i x below is =
    ap (filter_map h) (take_more xs i x below ∙ ap (λ y. take i xs ++ y ∷ []) (sym is)) ∙ filter_map-last h (take i xs) x

-- the names of the images that are read
pub names-read : (ds : List Data) → map (λ i. i.name) (map fitted_image (map image_in ds)) ≡ map name_in ds
names-read [] = refl
names-read (d ∷ ds) = ap (λ t. name_in d ∷ t) (names-read ds)

abbrev pub made : List ImageOf → List ClientOf → ℕ → ℕ → Script
made images clients small large = record { images = images; clients = clients; small = small; large = large }

-- scripts of the same parts are the same
pub same-script : (i j : List ImageOf) (c d : List ClientOf) (s t l m : ℕ) → i ≡ j → c ≡ d → s ≡ t → l ≡ m → made i c s l ≡ made j d t m
same-script i j c d s t l m ei ec es el =
    ap (λ x. made x c s l) ei ∙ ap (λ x. made j x s l) ec ∙ ap (λ x. made j d x l) es ∙ ap (λ x. made j d t x) el
