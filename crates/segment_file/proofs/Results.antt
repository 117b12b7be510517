-- Facts that hold where a call succeeded.
use Rattle.std.proofs.Common.{Result, Ok, Err, OnOk, IfOk}

-- a fact that follows from two others
pub OnOk-map_both : {T E P Q R : Type 0} (result : Result T E) → (P → Q → R) → OnOk result P → OnOk result Q → OnOk result R
OnOk-map_both (Ok value) both first second = both first second
OnOk-map_both (Err error) both first second = tt

-- a fact of every answer
pub IfOk-each : {T E : Type 0} (P : T → Type 0) (result : Result T E) → ((value : T) → P value) → IfOk result P
IfOk-each P (Ok value) each = each value
IfOk-each P (Err error) each = tt
