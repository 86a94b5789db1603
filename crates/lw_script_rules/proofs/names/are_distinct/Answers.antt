use Rattle.std.proofs.Common.{◌≡◌, ◌∙◌, sym, ap, not, ◌&&◌, ◌||◌, bytes_eq, map, take}
use Rattle.std.specs.List.{list_any}
use Rattle.lw_script_rules.proofs.DistinctNames.{is_distinct-more, list_any-more}
use Rattle.lw_script_rules.proofs.names.are_distinct.Goals as goal
use Rattle.lw_script_rules.proofs.names.are_distinct.Goals.{then-distinct, else-distinct}

pub loop-item-preserved : goal.loop-item-preserved
loop-item-preserved g c =
    let name_of = g.T.Named.name_of in
    let items = c.args.items.now in
    let i = c.loop-item.item-index in
    let x = c.item-item.result in
    let so_far = map name_of (take i items) in
    let fresh : c.in_ok-new.new ≡ not (list_any (bytes_eq (name_of x)) so_far) =
    c.in_ok-new.ensures.new ∙ ap not (c.loop-item.invariant.seen c.name.result.now) ∙ ap (λ t. not (list_any (bytes_eq t) so_far)) c.name.ensures in
    let more = is_distinct-more name_of items i x c.loop-item-test.true c.item-item.is in
    record {
      distinct = elim c.if-distinct.branch [
        | then-distinct w ↦ w.distinct-is ∙ fresh ∙ sym (ap (λ b. b && not (list_any (bytes_eq (name_of x)) so_far)) (sym c.loop-item.invariant.distinct ∙ w.if-distinct.true)) ∙ sym more
        | else-distinct w ↦ w.distinct-is ∙ w.if-distinct.false ∙ sym (ap (λ b. b && not (list_any (bytes_eq (name_of x)) so_far)) (sym c.loop-item.invariant.distinct ∙ w.if-distinct.false)) ∙ sym more
      ];
      seen = λ q.
          c.in_ok-new.ensures.seen q
          ∙ ap (λ b. b || bytes_eq q c.name.result.now) (c.loop-item.invariant.seen q)
          ∙ ap (λ t. list_any (bytes_eq q) so_far || bytes_eq q t) c.name.ensures
          ∙ sym (list_any-more q name_of items i x c.loop-item-test.true c.item-item.is);
    }
