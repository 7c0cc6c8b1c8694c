-- Elements that are found by an array's name and a key.
use Rattle.std.proofs.Common.{◌≡◌, ◌≢◌, ℕ, ◌<◌, Bool, true, false, List, length, get_or, Option, Some, None, Ok, ◌∙◌}
use Rattle.std.specs.Prelude.{IfSome}
use Rattle.std.specs.Borrow.{Bor}
use Rattle.tcl_frames.specs.Names.{Text, is_simple}
use Rattle.tcl_frames.specs.Variables.{Part, merge}
use Rattle.tcl_frames.specs.Variables.Part.{element}
use Rattle.tcl_frames.specs.VariableArrays.{element_name}
use Rattle.tcl_frames.specs.Places.{Levels, current, level_of, end_of}
use Rattle.tcl_frames.specs.Access.{value_of}
use Rattle.tcl_frames.specs.Chain.{read}
use Rattle.tcl_frames.specs.Reached.{start, bound_where}
use Rattle.tcl_frames.specs.declared.variable.Variable.{Variable}
use Rattle.tcl_frames.proofs.NameLemmas.{element_named}
use Rattle.tcl_frames.proofs.StepLemmas.{read_stands, stands}

-- what is found of a variable at the key is what the element's name holds
pub element_read : (fs : Levels) (a k : Text) (n : ℕ) (o : Option Variable) (part : Part) (r : Option (Bor Text)) → is_simple a ≡ true → ((i : ℕ) → i < length a → get_or a i 0 ≢ 40) → n ≡ level_of false (current fs) →
    o ≡ bound_where fs (end_of fs (start n a)) → part ≡ (end_of fs (start n a)).part → IfSome r (λ v. (name : List ℕ) → value_of (merge part (element k)) o name ≡ Ok v.now) → IfSome r (λ v. read fs (element_name a k) ≡ Ok v.now)
element_read fs a k n o part r simple unopened at var is h = by r h
  where
    by : (r : Option (Bor Text)) → IfSome r (λ v. (name : List ℕ) → value_of (merge part (element k)) o name ≡ Ok v.now) → IfSome r (λ v. read fs (element_name a k) ≡ Ok v.now)
    by None h = tt
    by (Some v) h = read_stands fs (element_name a k) o (merge part (element k)) (stands fs (element_name a k) (record { is_global = false; base = a; key = Some k }) n o part (element_named a k simple unopened) at var is) ∙ h (element_name a k)
