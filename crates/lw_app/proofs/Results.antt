-- What holds of calls that succeed.
use Rattle.std.specs.Prelude.{OnOk, IfOk}
use Rattle.std.specs.declared.result.Result.{Result}
use Rattle.std.specs.declared.result.Result.TheVariants.{Ok, Err}

pub on_ok : {T E A B : Type 0} (r : Result T E) → (A → B) → OnOk r A → OnOk r B
on_ok (Ok x) f h = f h
on_ok (Err e) f h = tt

pub if_ok : {T E : Type 0} {A B : T → Type 0} (r : Result T E) → ((x : T) → A x → B x) → IfOk r A → IfOk r B
if_ok (Ok x) f h = f x h
if_ok (Err e) f h = tt

pub if_to_on : {T E B : Type 0} {A : T → Type 0} (r : Result T E) → ((x : T) → A x → B) → IfOk r A → OnOk r B
if_to_on (Ok x) f h = f x h
if_to_on (Err e) f h = tt
