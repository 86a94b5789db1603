-- How a command ends, from what its answer says.
use Rattle.std.proofs.Common.{ℕ, List, Option, Some, None, refl}
use Rattle.lw_program.specs.declared.fault.Fault.{Fault}
use Rattle.lw_program.specs.declared.fault.Fault.TheVariants.{Usage, Script, Walk, Unlawful, ReadFault, WriteFault, NoMemory}
use Rattle.lw_program.specs.Outside.{Outside}
use Rattle.lw_program.specs.Commands.{CommandOf, EndsCommand, EndsText, Explains, Gets, IsReadWell}

module _ {T : Type 0} (c : CommandOf T) (o : Outside) (bytes : List ℕ) (got : Gets c.limit o.left bytes o.left_after o.unread) (well : IsReadWell o) where
  -- bytes that are refused
  pub refusal_ends : (fault : Fault) → Explains c bytes fault → o.untouched → EndsCommand c o (Some fault) None
  refusal_ends Usage e same = absurd e
  refusal_ends ReadFault e same = absurd e
  refusal_ends WriteFault e same = absurd e
  refusal_ends NoMemory e same = (refl, same, well)
  refusal_ends (Script r) e same = (refl, same, record { bytes = bytes; got = got; well = well; refused = e })
  refusal_ends (Walk line) e same = (refl, same, record { bytes = bytes; got = got; well = well; refused = e })
  refusal_ends (Unlawful clause line) e same = (refl, same, record { bytes = bytes; got = got; well = well; refused = e })

  -- bytes that are answered, whose text was written or cut short
  pub text_ends : (value : T) (text : List ℕ) (fault : Option Fault) (told : Option T) → c.answers bytes value text
      → EndsText value text o.held o.held_after o.write_faults o.write_faults_after fault told → EndsCommand c o fault told
  text_ends value text None told a e = (text, record { bytes = bytes; got = got; well = well; the = value; told_is = e.0; answered = a }, e.1, e.2)
  text_ends value text (Some WriteFault) told a e = (text, record { bytes = bytes; got = got; well = well; the = value; told_is = e.0; answered = a }, e.1, e.2)
  text_ends value text (Some Usage) told a e = absurd e
  text_ends value text (Some ReadFault) told a e = absurd e
  text_ends value text (Some NoMemory) told a e = absurd e
  text_ends value text (Some (Script r)) told a e = absurd e
  text_ends value text (Some (Walk line)) told a e = absurd e
  text_ends value text (Some (Unlawful clause line)) told a e = absurd e
