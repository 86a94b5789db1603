-- What the outside of a call tells of itself.
use Rattle.std.specs.Prelude.{◌≡◌, ℕ, List, Option}

-- before and after the call: the bytes that the source has left and that the sink holds, where they tell them, and their
-- counts of faults; and that the source and the sink are as they were
pub record Outside : Type 1 where
  pub left : Option (List ℕ)
  pub left_after : Option (List ℕ)
  pub read_faults : ℕ
  pub read_faults_after : ℕ
  pub held : Option (List ℕ)
  pub held_after : Option (List ℕ)
  pub write_faults : ℕ
  pub write_faults_after : ℕ
  pub unread : Type 0
  pub untouched : Type 0

-- what a source and a sink tell, by what their traits say of them
abbrev pub seen : {I O : Type 0} → (I → Option (List ℕ)) → (I → ℕ) → (O → Option (List ℕ)) → (O → ℕ) → I → I → O → O → Outside
seen left read_faults holds write_faults input input_after out out_after = record {
  left = left input;
  left_after = left input_after;
  read_faults = read_faults input;
  read_faults_after = read_faults input_after;
  held = holds out;
  held_after = holds out_after;
  write_faults = write_faults out;
  write_faults_after = write_faults out_after;
  unread = input_after ≡ input;
  untouched = out_after ≡ out;
}
