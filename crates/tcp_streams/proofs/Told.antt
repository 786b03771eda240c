-- What a listener was told, in addition to what is known of the live streams.
use Rattle.std.specs.Prelude.{Result, Ok, Err, OnOk, IfOk}
use Rattle.tcp_flow.specs.declared.flow.ListenerError.{ListenerError}

pub told : {X : Type 0} (r : Result X ListenerError) (P Q : Type 0) → OnOk r P → Q → OnOk r (P × Q)
told (Ok x) P Q p q = (p, q)
told (Err e) P Q p q = tt

pub told_if : {X : Type 0} (r : Result X ListenerError) (P S : X → Type 0) (Q : Type 0) →
    IfOk r (λ x. P x × S x) → Q → IfOk r (λ x. (P x × Q) × S x)
told_if (Ok x) P S Q p q = ((p.0, q), p.1)
told_if (Err e) P S Q p q = tt
