-- What values are read as.
use Rattle.serde_json.specs.Data.{Num}
use Rattle.serde_json.specs.Find.{as_u64}
use Rattle.serde_json.specs.View.{members_view}
use Rattle.serde_json.specs.declared.value.Value.{Value}
use Rattle.std.proofs.Common.{◌≡◌, List, [], ◌∷◌, String, Global, Option, Some, None, Result, Ok, Err, string_bytes, if◌then◌else◌, refl, ap}
use Rattle.std.specs.Map.{keys_of}
use Rattle.std.specs.Prelude.{⊤}
use Rattle.std.specs.Option.{option_and_then}
use Rattle.tcl_serve.specs.Fields.{followed, in_range, is_field, members_among, no_number, of_type}
use Rattle.tcl_serve.specs.declared.refusals.Refusal.{Refusal}
use Rattle.tcl_serve.specs.declared.refusals.Refusal.TheVariants.{UnknownField}
use Rattle.tcl_serve.specs.declared.fields.Field.{Field}

-- a value that is no number that fits
pub none_number : (f : Field) (o : Option Num) → option_and_then as_u64 o ≡ None → followed (of_type f o) (λ n. in_range f (as_u64 n)) ≡ Err (no_number f o)
none_number f None h = refl
none_number f (Some n) h = ap (in_range f) h

-- the names are those of fields; the first that isn't
abbrev pub names_in : List Field → List (String Global) → Result ⊤ Refusal
names_in fs [] = Ok tt
names_in fs (k ∷ ks) = if is_field fs (string_bytes k) then names_in fs ks else Err (UnknownField (string_bytes k))

pub members_names : (fs : List Field) (es : List (String Global × Value)) → members_among fs (members_view es) ≡ names_in fs (keys_of es)
members_names fs [] = refl
members_names fs (e ∷ es) = ap (λ r. if is_field fs (string_bytes e.0) then r else Err (UnknownField (string_bytes e.0))) (members_names fs es)
