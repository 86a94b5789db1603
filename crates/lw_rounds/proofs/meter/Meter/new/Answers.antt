use Rattle.std.proofs.Common.{ap, ◌∙◌, replicate, None, Option}
use Rattle.lw_load.specs.declared.figures.Figures.{Figures}
use Rattle.lw_rounds.proofs.Measuring.{alike, only_none}
use Rattle.lw_rounds.proofs.meter.Meter.new.Goals as goal

pub returns : goal.returns
returns c =
    let zero : Figures = record { busy = 0; idle = 0 } in
    let none : Option Figures = None in
    let measured = c.in_ok-measured.ensures.items_if_clones_equal (λ y is. is) ∙ ap (λ n. replicate n zero) c.requires.count ∙ alike zero c.args.reader in
    let told = c.in_ok-told.ensures.items_if_clones_equal (only_none _ (λ x wrong. wrong)) ∙ ap (λ n. replicate n none) c.requires.count ∙ alike none c.args.reader in
    λ i. record { cells = c.args.reader; measured = measured i; told = told i }
