-- Lemmas on results and options.
use Rattle.std.proofs.Common.{◌≡◌, true, false, Some, None}
use Rattle.std.specs.Prelude.{Result, Ok, Err, OnOk, IfOk, IsOk}

pub clash : {A : Type 0} (a : A) → None ≡ Some a → Prim.⊥
clash a e = cc

pub on_ok : {T E P : Type 0} (r : Result T E) → OnOk r P → IsOk r → P
on_ok (Ok x) h ok = h
on_ok (Err e) h ok = let x : false ≡ true = ok in cc

pub if_ok_map : {T E : Type 0} {P Q : T → Type 0} (r : Result T E) → IfOk r P → ((x : T) → P x → Q x) → IfOk r Q
if_ok_map (Ok x) h f = f x h
if_ok_map (Err e) h f = tt

pub if_ok_all : {T E : Type 0} {Q : T → Type 0} (r : Result T E) → ((x : T) → Q x) → IfOk r Q
if_ok_all (Ok x) f = f x
if_ok_all (Err e) f = tt
