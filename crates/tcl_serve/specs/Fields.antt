-- What stands in the fields of a message, as JSON has it.
use Rattle.serde_json.specs.Data.{Num, Data, Items, no_items, item, Members, no_members, member}
use Rattle.serde_json.specs.Find.{as_array, as_bool, as_i64, as_null, as_number, as_object, as_str}
use Rattle.serde_json.specs.Find.{as_u64, get}
use Rattle.std.specs.Prelude.{ℕ, ℤ, Bool, List, [], ◌∷◌, Option, Some, None, Result, Ok, Err, ⊤}
use Rattle.std.specs.Prelude.{◌||◌, if◌then◌else◌}
use Rattle.std.specs.List.{list_any}
use Rattle.std.specs.Str.{bytes_eq}
use Rattle.tcl_core.specs.Paths.{Text}
use Rattle.tcl_serve.specs.Names.{name_of}
use Rattle.tcl_serve.specs.declared.fields.Field.{Field}
use Rattle.tcl_serve.specs.declared.fields.Field.TheVariants as field
use Rattle.tcl_serve.specs.declared.refusals.Refusal.{Refusal}
use Rattle.tcl_serve.specs.declared.refusals.Refusal.TheVariants.{Missing, NotObject, OutOfRange}
use Rattle.tcl_serve.specs.declared.refusals.Refusal.TheVariants.{UnknownField, WrongType}

-- what is read of one thing, and then of what follows from it
abbrev pub followed : {A B : Type 0} → Result A Refusal → (A → Result B Refusal) → Result B Refusal
followed (Ok a) k = k a
followed (Err e) k = Err e

abbrev pub mapped : {A B : Type 0} → (A → B) → Result A Refusal → Result B Refusal
mapped f (Ok a) = Ok (f a)
mapped f (Err e) = Err e

-- ## A value

-- a thing of the field's type, or else the value is of another type
abbrev pub of_type : {A : Type 0} → Field → Option A → Result A Refusal
of_type f (Some a) = Ok a
of_type f None = Err (WrongType f)

-- a number that fits, or else it is out of range
abbrev pub in_range : {A : Type 0} → Field → Option A → Result A Refusal
in_range f (Some a) = Ok a
in_range f None = Err (OutOfRange f)

-- why a value is no number that the field can have
abbrev pub no_number : Field → Option Num → Refusal
no_number f (Some n) = OutOfRange f
no_number f None = WrongType f

abbrev pub number_of : Field → Data → Result ℕ Refusal
number_of f d = followed (of_type f (as_number d)) (λ n. in_range f (as_u64 n))

abbrev pub integer_of : Field → Data → Result ℤ Refusal
integer_of f d = followed (of_type f (as_number d)) (λ n. in_range f (as_i64 n))

-- null, or a number
abbrev pub unless_null : Field → Data → Option ⊤ → Result (Option ℕ) Refusal
unless_null f d (Some u) = Ok None
unless_null f d None = mapped Some (number_of f d)

abbrev pub number_or_null_of : Field → Data → Result (Option ℕ) Refusal
number_or_null_of f d = unless_null f d (as_null d)

abbrev pub flag_of : Field → Data → Result Bool Refusal
flag_of f d = of_type f (as_bool d)

abbrev pub text_of : Field → Data → Result Text Refusal
text_of f d = of_type f (as_str d)

-- each item is a text
abbrev pub items_of : Field → Items → Result (List Text) Refusal
items_of f no_items = Ok []
items_of f (item d ds) = followed (text_of f d) (λ text.
    mapped (λ texts. text ∷ texts) (items_of f ds))

abbrev pub texts_of : Field → Data → Result (List Text) Refusal
texts_of f d = followed (of_type f (as_array d)) (items_of f)

-- ## A field

-- what stands in it, which isn't missing
abbrev pub present : Field → Option Data → Result Data Refusal
present f (Some d) = Ok d
present f None = Err (Missing f)

abbrev pub in_field : {A : Type 0} → (Field → Data → Result A Refusal) → Field → Data →
    Result A Refusal
in_field read f line = followed (present f (get (name_of f) line)) (read f)

-- what stands in it, if it isn't missing
abbrev pub if_present : {A : Type 0} → (Field → Data → Result A Refusal) → Field → Option Data →
    Result (Option A) Refusal
if_present read f (Some d) = mapped Some (read f d)
if_present read f None = Ok None

abbrev pub optional_in : {A : Type 0} → (Field → Data → Result A Refusal) → Field → Data →
    Result (Option A) Refusal
optional_in read f line = if_present read f (get (name_of f) line)

-- ## All fields

abbrev pub is_among : List Field → Text → Bool
is_among fs name = list_any (λ f. bytes_eq (name_of f) name) fs

-- a message may have these fields, its id, and what it does
abbrev pub is_field : List Field → Text → Bool
is_field fs name = bytes_eq name (name_of field.Id) || bytes_eq name (name_of field.Do) ||
    is_among fs name

-- the members are these fields alone; the first one that isn't, in their order
abbrev pub members_among : List Field → Members → Result ⊤ Refusal
members_among fs no_members = Ok tt
members_among fs (member name d ms) =
    if is_field fs name then members_among fs ms else Err (UnknownField name)

abbrev pub object_of : Option Members → Result Members Refusal
object_of (Some ms) = Ok ms
object_of None = Err NotObject

abbrev pub only : List Field → Data → Result ⊤ Refusal
only fs line = followed (object_of (as_object line)) (members_among fs)
