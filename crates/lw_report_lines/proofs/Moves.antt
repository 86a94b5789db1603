-- The lines on threads that move: the text of each that was read, that its numbers fit, and that each is read back.
use Rattle.std.proofs.Common.{◌≡◌, ℕ, Bool, true, false, List, [], ◌∷◌, ◌++◌, codes, decimal, Option, Some, None, is_some, if◌then◌else◌, refl, ap, subst, ◌∙◌}
use Rattle.lw_base.specs.declared.moves.Scheduler.{Scheduler}
use Rattle.lw_base.specs.declared.moves.Scheduler.TheVariants.{Static, Dynamic}
use Rattle.lw_base.specs.declared.moves.Row.{Row}
use Rattle.lw_base.specs.declared.moves.Order.{Order}
use Rattle.lw_base.proofs.Lists.{some_same}
use Rattle.lw_base.specs.Words.{greatest_u32, greatest_u64}
use Rattle.lw_model.specs.declared.record.Span.{Span}
use Rattle.lw_model.specs.ReportText.{line, scheduler_word, row_line, order_line}
use Rattle.lw_model.specs.Ranges.{Fits32, Fits64, RowFits, OrderFits}
use Rattle.lw_report_lines.specs.declared.move_lines.RoundHead.{RoundHead}
use Rattle.lw_report_lines.specs.LineParts.{after, spaced}
use Rattle.lw_report_lines.specs.LineKinds.{last32, last64, text_in}
use Rattle.lw_report_lines.specs.MoveLines.{scheduler_in, clock_in, round_in, row_in, order_in}
use Rattle.lw_report_lines.proofs.Said.{some_parts}
use Rattle.lw_report_lines.proofs.PartTexts.{after_text, whole_line}
use Rattle.lw_report_lines.proofs.LineTexts.{tail32, tail64, last32_text, last64_text, fixed_text}
use Rattle.lw_report_lines.proofs.LineRanges.{spaced_most, last32_fits, last64_fits}
use Rattle.lw_report_lines.proofs.PartsBack.{back32, back64, last32_back, last64_back}
use Rattle.lw_report_lines.proofs.LinesBack.{line_tail}

abbrev pub scheduler_line : Scheduler → List ℕ
scheduler_line x = line (codes "scheduler" ∷ scheduler_word x ∷ [])

abbrev pub clock_line : Span → List ℕ
clock_line x = line (codes "clock" ∷ decimal x.first ∷ decimal x.last ∷ [])

abbrev pub head_line : RoundHead → List ℕ
head_line x = line (codes "round" ∷ decimal x.number ∷ decimal x.time ∷ [])

-- ---- texts

pub scheduler_text : (l : List ℕ) (x : Scheduler) → scheduler_in l ≡ Some x → l ≡ scheduler_line x ++ 10 ∷ []
scheduler_text l x e = at (is_some (text_in (codes "scheduler static") l)) (is_some (text_in (codes "scheduler dynamic") l)) refl refl e
  where
    at : (a b : Bool) → is_some (text_in (codes "scheduler static") l) ≡ a → is_some (text_in (codes "scheduler dynamic") l) ≡ b
        → ◌≡◌ {A = Option Scheduler} (if a then Some Static else (if b then Some Dynamic else None)) (Some x) → l ≡ scheduler_line x ++ 10 ∷ []
    at true b is other e = subst (λ y. l ≡ scheduler_line y ++ 10 ∷ []) (some_same {x = Static} {y = x} e) (fixed_text (codes "scheduler static") l is)
    at false true other is e = subst (λ y. l ≡ scheduler_line y ++ 10 ∷ []) (some_same {x = Dynamic} {y = x} e) (fixed_text (codes "scheduler dynamic") l is)
    at false false a b e = let wrong : None ≡ Some x = e in cc

pub clock_text : (l : List ℕ) (x : Span) → clock_in l ≡ Some x → l ≡ clock_line x ++ 10 ∷ []
clock_text l x e =
    let a = some_parts (after (codes "clock") l) _ x e in
    let b = some_parts (spaced greatest_u64 a.0) _ x a.2 in
    let c = some_parts (last64 b.0.1) _ x b.2 in
    subst (λ (y : Span). l ≡ clock_line y ++ 10 ∷ []) (some_same c.2)
    (whole_line (codes "clock") l a.0 (decimal b.0.0 ∷ decimal c.0 ∷ []) (after_text (codes "clock") l a.0 a.1) (tail64 a.0 b.0 (decimal c.0 ∷ []) b.1 (last64_text b.0.1 c.0 c.1)))

pub head_text : (l : List ℕ) (x : RoundHead) → round_in l ≡ Some x → l ≡ head_line x ++ 10 ∷ []
head_text l x e =
    let a = some_parts (after (codes "round") l) _ x e in
    let b = some_parts (spaced greatest_u32 a.0) _ x a.2 in
    let c = some_parts (last64 b.0.1) _ x b.2 in
    subst (λ (y : RoundHead). l ≡ head_line y ++ 10 ∷ []) (some_same c.2)
    (whole_line (codes "round") l a.0 (decimal b.0.0 ∷ decimal c.0 ∷ []) (after_text (codes "round") l a.0 a.1) (tail32 a.0 b.0 (decimal c.0 ∷ []) b.1 (last64_text b.0.1 c.0 c.1)))

pub row_text : (l : List ℕ) (x : Row) → row_in l ≡ Some x → l ≡ row_line x ++ 10 ∷ []
row_text l x e =
    let a = some_parts (after (codes "row") l) _ x e in
    let b = some_parts (spaced greatest_u32 a.0) _ x a.2 in
    let c = some_parts (spaced greatest_u32 b.0.1) _ x b.2 in
    let d = some_parts (spaced greatest_u64 c.0.1) _ x c.2 in
    let f = some_parts (last64 d.0.1) _ x d.2 in
    subst (λ (y : Row). l ≡ row_line y ++ 10 ∷ []) (some_same f.2)
    (whole_line (codes "row") l a.0 (decimal b.0.0 ∷ decimal c.0.0 ∷ decimal d.0.0 ∷ decimal f.0 ∷ []) (after_text (codes "row") l a.0 a.1)
    (tail32 a.0 b.0 (decimal c.0.0 ∷ decimal d.0.0 ∷ decimal f.0 ∷ []) b.1
    (tail32 b.0.1 c.0 (decimal d.0.0 ∷ decimal f.0 ∷ []) c.1 (tail64 c.0.1 d.0 (decimal f.0 ∷ []) d.1 (last64_text d.0.1 f.0 f.1)))))

pub order_text : (l : List ℕ) (x : Order) → order_in l ≡ Some x → l ≡ order_line x ++ 10 ∷ []
order_text l x e =
    let a = some_parts (after (codes "order") l) _ x e in
    let b = some_parts (spaced greatest_u32 a.0) _ x a.2 in
    let c = some_parts (last32 b.0.1) _ x b.2 in
    subst (λ (y : Order). l ≡ order_line y ++ 10 ∷ []) (some_same c.2)
    (whole_line (codes "order") l a.0 (decimal b.0.0 ∷ decimal c.0 ∷ []) (after_text (codes "order") l a.0 a.1) (tail32 a.0 b.0 (decimal c.0 ∷ []) b.1 (last32_text b.0.1 c.0 c.1)))

-- ---- ranges

abbrev pub ClockFits : Span → Type 0
ClockFits x = Fits64 x.first × Fits64 x.last

abbrev pub HeadFits : RoundHead → Type 0
HeadFits x = Fits32 x.number × Fits64 x.time

pub clock_fits : (l : List ℕ) (x : Span) → clock_in l ≡ Some x → ClockFits x
clock_fits l x e =
    let a = some_parts (after (codes "clock") l) _ x e in
    let b = some_parts (spaced greatest_u64 a.0) _ x a.2 in
    let c = some_parts (last64 b.0.1) _ x b.2 in
    subst ClockFits (some_same c.2) (spaced_most greatest_u64 a.0 b.0 b.1, last64_fits b.0.1 c.0 c.1)

pub head_fits : (l : List ℕ) (x : RoundHead) → round_in l ≡ Some x → HeadFits x
head_fits l x e =
    let a = some_parts (after (codes "round") l) _ x e in
    let b = some_parts (spaced greatest_u32 a.0) _ x a.2 in
    let c = some_parts (last64 b.0.1) _ x b.2 in
    subst HeadFits (some_same c.2) (spaced_most greatest_u32 a.0 b.0 b.1, last64_fits b.0.1 c.0 c.1)

pub row_fits : (l : List ℕ) (x : Row) → row_in l ≡ Some x → RowFits x
row_fits l x e =
    let a = some_parts (after (codes "row") l) _ x e in
    let b = some_parts (spaced greatest_u32 a.0) _ x a.2 in
    let c = some_parts (spaced greatest_u32 b.0.1) _ x b.2 in
    let d = some_parts (spaced greatest_u64 c.0.1) _ x c.2 in
    let f = some_parts (last64 d.0.1) _ x d.2 in
    subst RowFits (some_same f.2) (spaced_most greatest_u32 a.0 b.0 b.1, spaced_most greatest_u32 b.0.1 c.0 c.1, spaced_most greatest_u64 c.0.1 d.0 d.1, last64_fits d.0.1 f.0 f.1)

pub order_fits : (l : List ℕ) (x : Order) → order_in l ≡ Some x → OrderFits x
order_fits l x e =
    let a = some_parts (after (codes "order") l) _ x e in
    let b = some_parts (spaced greatest_u32 a.0) _ x a.2 in
    let c = some_parts (last32 b.0.1) _ x b.2 in
    subst OrderFits (some_same c.2) (spaced_most greatest_u32 a.0 b.0 b.1, last32_fits b.0.1 c.0 c.1)

-- ---- back

pub scheduler_back : (x : Scheduler) → scheduler_in (scheduler_line x ++ 10 ∷ []) ≡ Some x
scheduler_back Static = refl
scheduler_back Dynamic = refl

pub clock_back : (x : Span) → ClockFits x → clock_in (clock_line x ++ 10 ∷ []) ≡ Some x
clock_back x fit =
    ap clock_in (line_tail (codes "clock") (decimal x.first ∷ decimal x.last ∷ []))
    ∙ rw (back64 x.first (decimal x.last ∷ []) fit.0, last64_back x.last fit.1) refl

pub head_back : (x : RoundHead) → HeadFits x → round_in (head_line x ++ 10 ∷ []) ≡ Some x
head_back x fit =
    ap round_in (line_tail (codes "round") (decimal x.number ∷ decimal x.time ∷ []))
    ∙ rw (back32 x.number (decimal x.time ∷ []) fit.0, last64_back x.time fit.1) refl

pub row_back : (x : Row) → RowFits x → row_in (row_line x ++ 10 ∷ []) ≡ Some x
row_back x fit =
    ap row_in (line_tail (codes "row") (decimal x.thread ∷ decimal x.reactor ∷ decimal x.busy ∷ decimal x.idle ∷ []))
    ∙ rw (back32 x.thread (decimal x.reactor ∷ decimal x.busy ∷ decimal x.idle ∷ []) fit.0, back32 x.reactor (decimal x.busy ∷ decimal x.idle ∷ []) fit.1, back64 x.busy (decimal x.idle ∷ []) fit.2, last64_back x.idle fit.3) refl

pub order_back : (x : Order) → OrderFits x → order_in (order_line x ++ 10 ∷ []) ≡ Some x
order_back x fit =
    ap order_in (line_tail (codes "order") (decimal x.thread ∷ decimal x.to ∷ []))
    ∙ rw (back32 x.thread (decimal x.to ∷ []) fit.0, last32_back x.to fit.1) refl
