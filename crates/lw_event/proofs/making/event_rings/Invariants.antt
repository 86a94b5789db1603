use Rattle.lw_event.proofs.making.event_rings.Given as goal

abbrev pub ghost-rings : goal.ghost-rings
ghost-rings g a = g.run
