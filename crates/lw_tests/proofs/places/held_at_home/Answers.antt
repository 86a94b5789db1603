use Rattle.std.proofs.Common.{rules, ◌≡◌, ◌<◌, length, ap, sym, subst, ◌∙◌, arith, inl, List, All}
use Rattle.lw_place.specs.declared.place.Place.TheVariants as place
use Rattle.lw_place.specs.PlaceSeats.{ThreadEnd, DeskEnd}
use Rattle.lw_tests.proofs.places.held_at_home.Goals as goal

pub gather-requires : goal.gather-requires
gather-requires c =
    let n = c.in_ok-threads.ensures in
    let long = n.thread_count in
    let desks = ap length n.desks in
    record {
      places = n.places;
      its_threads = λ k d l. ap (λ (t : ThreadEnd). t.places) (n.each_thread k d place.Ended (subst (λ m. k < m) long l));
      its_desks = subst (λ (ds : List DeskEnd). All (λ (d : DeskEnd). d.places ≡ n.places) ds) (sym n.desks) (search rules);
      all_desks = desks ∙ sym n.for_reactors;
      some_desk = omega arith;
      all_threads = inl (long ∙ sym n.for_threads);
    }
